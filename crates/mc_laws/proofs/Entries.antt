-- What one more entry, put anywhere into a log, does to a tenant's own commands, and whose it is.
use Rattle.std.proofs.Common.{◌≡◌, ◌≢◌, ℕ, ◌==◌, true, false, List, ◌∷◌, ◌++◌, Option, Some, None, IfSome, slice_get, refl, sym, ap, ◌∙◌, arith}
use Rattle.std.proofs.lemmas.Bool.{cond-false, cond-true}
use Rattle.std.proofs.lemmas.Bool.Decides.{Decides-eqb, nat_tests}
use Rattle.std.proofs.lemmas.List.Elements.{filter_map-append}
use Rattle.std.proofs.lemmas.Option.{same_Some}
use Rattle.std.specs.Prelude.{◌↔◌}
use Rattle.mc_items.specs.Asker.{answer_for, is_own, reply_for}
use Rattle.std.specs.Option.{option_map}
use Rattle.mc_model.specs.Replay.{reply_to}
use Rattle.mc_model.specs.State.{TableState, next_reply}
use Rattle.mc_model.specs.declared.command.Command.{Command}
use Rattle.mc_model.specs.declared.request.Entry.{Entry}
use Rattle.mc_model.specs.Log.{own, own_command}

own_first : (tenant : ℕ) (entry : Entry) (rest : List (Option Entry)) → entry.tenant ≡ tenant → own tenant (Some entry ∷ rest) ≡ entry.command ∷ own tenant rest
own_first tenant entry rest same = let yes : (entry.tenant == tenant) ≡ true = grind (arith, nat_tests) in rw yes refl

others_first : (tenant : ℕ) (entry : Option Entry) (rest : List (Option Entry)) → IfSome entry (λ found. found.tenant ≢ tenant) → own tenant (entry ∷ rest) ≡ own tenant rest
others_first tenant None rest apart = refl
others_first tenant (Some entry) rest apart = let no : (entry.tenant == tenant) ≡ false = grind (arith, nat_tests) in rw no refl

module _ (tenant : ℕ) (front back : List (Option Entry)) where
  -- an own entry puts exactly its command there
  pub own_put_in : (entry : Entry) → entry.tenant ≡ tenant → own tenant (front ++ Some entry ∷ back) ≡ own tenant front ++ entry.command ∷ own tenant back
  own_put_in entry same =
      filter_map-append (own_command tenant) front (Some entry ∷ back) ∙ ap (λ (rest : List Command). own tenant front ++ rest) (own_first tenant entry back same)

  -- another's, or none, puts nothing
  pub others_put_in : (entry : Option Entry) → IfSome entry (λ found. found.tenant ≢ tenant) → own tenant (front ++ entry ∷ back) ≡ own tenant (front ++ back)
  others_put_in entry apart =
      filter_map-append (own_command tenant) front (entry ∷ back) ∙ ap (λ (rest : List Command). own tenant front ++ rest) (others_first tenant entry back apart)
      ∙ sym (filter_map-append (own_command tenant) front back)

-- an entry is the asker's own exactly if its ticket is
pub own_is_the_askers : (asker : Option ℕ) (entry : Entry) → (is_own asker entry ≡ true) ↔ (asker ≡ Some entry.ticket.worker)
own_is_the_askers None entry = (λ own. absurd (cc), λ same. absurd (cc))
own_is_the_askers (Some worker) entry = (
  λ own. ap (λ (number : ℕ). Some number) (sym ((Decides-eqb entry.ticket.worker worker).0 own)),
  λ same. (Decides-eqb entry.ticket.worker worker).1 (sym (same_Some _ _ same)),
)

-- and it alone is answered
module _ (tables : List TableState) (entry : Entry) where
  pub own_is_replied : (asker : Option ℕ) → is_own asker entry ≡ true → reply_for asker tables (Some entry) ≡ option_map (λ table. next_reply table entry.command) (slice_get tables entry.tenant)
  own_is_replied None own = absurd (cc)
  own_is_replied (Some worker) own = cond-true _ _ _ own

  pub others_are_not_replied : (asker : Option ℕ) → is_own asker entry ≡ false → reply_for asker tables (Some entry) ≡ None
  others_are_not_replied None others = refl
  others_are_not_replied (Some worker) others = cond-false _ _ _ others

  module _ (log : List (Option Entry)) where
    pub own_is_answered : (asker : Option ℕ) → is_own asker entry ≡ true → answer_for asker tables log (Some entry) ≡ reply_to tables log (Some entry)
    own_is_answered None own = absurd (cc)
    own_is_answered (Some worker) own = cond-true _ _ _ own

    pub others_are_not_answered : (asker : Option ℕ) → is_own asker entry ≡ false → answer_for asker tables log (Some entry) ≡ None
    others_are_not_answered None others = refl
    others_are_not_answered (Some worker) others = cond-false _ _ _ others
