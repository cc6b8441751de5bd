use Rattle.std.proofs.Common.{◌∙◌, ℕ, List, Option, Some, Bor, ap, subst, sym}
use Rattle.std.specs.Option.{option_map}
use Rattle.std.specs.declared.net.socket_addr.SocketAddrV4.{SocketAddrV4}
use Rattle.mc_server.specs.NetworkWords.{IsNoAddress, SpellsAddress}
use Rattle.mc_server.proofs.TenantForms.{no_address}
use Rattle.mc_server.proofs.complaint.check_address.Goals as goal

pub returns-in-Ok : goal.returns-in-Ok
returns-in-Ok c =
    let P : Option (Bor (List ℕ)) → Type 0 = λ word. (address : Option SocketAddrV4) × SpellsAddress (option_map (λ word. word.now) word) address in
    subst P (sym c.in-Some.is) (Some _, c.in-Ok.ensures.value)

pub returns-in-Err : goal.returns-in-Err
returns-in-Err c given e =
    let text = e ∙ ap (option_map (λ (word : Bor (List ℕ)). word.now)) c.in-Some.is in
    (text, subst IsNoAddress (sym text) (no_address c.in-Some.word.now c.in-Err.ensures.value))
