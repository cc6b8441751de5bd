-- A tenant's own commands of a log with one more place.
use Rattle.std.specs.List.{cons_option}
use Rattle.std.specs.Option.{option_to_list}
use Rattle.std.specs.Prelude.{◌≡◌, ℕ, ◌≤◌, List, [], ◌∷◌, ◌++◌, length, Option, Some, None, refl}
use Rattle.std.proofs.Common.{ap, ◌∙◌, arith}
use Rattle.std.proofs.lemmas.Bool.Decides.{nat_tests}
use Rattle.std.proofs.lemmas.List.Elements.{filter_map-append}
use Rattle.mc_model.specs.declared.command.Command.{Command}
use Rattle.mc_model.specs.declared.request.Entry.{Entry}
use Rattle.mc_model.specs.Log.{own, own_command}

-- one more place is one more command of its own tenant
one_kept : {X : Type 0} (found : Option X) → cons_option found [] ≡ option_to_list found
one_kept None = refl
one_kept (Some x) = refl

pub own-push : (tenant : ℕ) (log : List (Option Entry)) (entry : Option Entry) → own tenant (log ++ entry ∷ []) ≡ own tenant log ++ option_to_list (own_command tenant entry)
own-push tenant log entry =
    filter_map-append (own_command tenant) log (entry ∷ []) ∙ ap (λ (more : List Command). own tenant log ++ more) (one_kept (own_command tenant entry))

-- a tenant has no more commands than the log has places
pub own-few : (tenant : ℕ) (log : List (Option Entry)) → length (own tenant log) ≤ length log
own-few tenant [] = omega arith
own-few tenant (None ∷ log) = omega (arith, own-few tenant log)
own-few tenant (Some entry ∷ log) = grind (arith, nat_tests, own-few tenant log)
