use Rattle.std.proofs.Common.{Bor, List, ℕ, Option, Some, refl, subst, sym}
use Rattle.std.specs.Option.{option_map}
use Rattle.mc_server.specs.NetworkWords.{IsNoAddress, IsOnlyAddress}
use Rattle.mc_server.proofs.TenantForms.{no_address, only_address}
use Rattle.mc_server.proofs.network_words.read_address.Goals as goal

pub returns-in-Ok : goal.returns-in-Ok
returns-in-Ok c =
    let P : Option (Bor (List ℕ)) → Type 0 = λ word. IsOnlyAddress (option_map (λ word. word.now) word) (Some c.in-Ok.address) in
    subst P (sym c.in-Some.is) (only_address c.in-Some.word.now c.in-Ok.address c.in-Ok.ensures.value)

pub returns-in-Err : goal.returns-in-Err
returns-in-Err c =
    let P : Option (Bor (List ℕ)) → Type 0 = λ word. IsNoAddress (option_map (λ word. word.now) word) in
    (refl, subst P (sym c.in-Some.is) (no_address c.in-Some.word.now c.in-Err.ensures.value))
