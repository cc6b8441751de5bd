-- A worker's own commands stand in its history as it has put them.
use Rattle.std.proofs.Common.{◌≡◌, ◌⊎◌, ◌<◌, ℕ, List, [], ◌∷◌, ◌++◌, length, slice_get, Some, Result, Ok, Err, OnOk, OnErr, MatchResult, sym, ap, ◌∙◌, subst, ⊎_elim, inr}
use Rattle.std.proofs.lemmas.Option.{none-some, same_Some}
use Rattle.std.proofs.lemmas.List.{nil_from_length}
use Rattle.mc_model.specs.declared.command.Command.{Command}
use Rattle.mc_model.specs.declared.fault.Fault.{Fault}
use Rattle.mc_model.specs.declared.request.Entry.{Entry}
use Rattle.mc_model.specs.declared.shown.Phase.TheVariants.{Idle}
use Rattle.mc_model.specs.Legal.{count}
use Rattle.uc_cells.specs.Sighting.{Sighting}
use Rattle.uc_log.specs.declared.log.Log.{Log}
use Rattle.uc_log.specs.declared.pass.Pass.{Pass}
use Rattle.uc_log.specs.Passes.{learned, next_entry, next_sighting, own_sightings, state, worker}
use Rattle.uc_worker.specs.Histories.{HoldsCommand, KnowsItsOwn}
use Rattle.uc_worker.specs.Waiting.{Decides, LeavesUndecided}
use Rattle.lists.proofs.Public.{at_longer, at_pushed}

-- a pass that has announced nothing, and an empty history
pub owns_nothing : (tenants number : ℕ) (put history : List Sighting) → put ≡ [] → history ≡ [] → KnowsItsOwn tenants number put history
owns_nothing tenants number put history none empty = record {
  command = λ at seen here. absurd (none-some seen (ap (λ (list : List Sighting). slice_get list at) (sym none) ∙ here));
  as_put = λ place seen here mine. absurd (none-some seen (ap (λ (list : List Sighting). slice_get list place) (sym empty) ∙ here));
}

pub puts_nothing : (pass : Pass) → (state pass).phase ≡ Idle → learned pass ≡ [] → own_sightings pass ≡ []
puts_nothing pass idle new =
    let all = pass.desk.law.idle idle in
    let none : count (worker pass) (learned pass) ≡ 0 = ap (count (worker pass)) new in
    nil_from_length (own_sightings pass) (pass.count ∙ sym all ∙ none)

-- nothing is put
pub owns_still : (tenants : ℕ) (old new : Pass) (history : List Sighting) → worker new ≡ worker old → own_sightings new ≡ own_sightings old →
    KnowsItsOwn tenants (worker old) (own_sightings old) history → KnowsItsOwn tenants (worker new) (own_sightings new) history
owns_still tenants old new history same put =
    subst (λ (it : ℕ × List Sighting). KnowsItsOwn tenants it.0 it.1 history) (λ i. (sym same i, sym put i))

-- one more is put, of a known tenant
pub owns_pushed : (tenants number : ℕ) (put new : List Sighting) (last : Sighting) (history : List Sighting) → new ≡ put ++ last ∷ [] →
    HoldsCommand tenants last → KnowsItsOwn tenants number put history → KnowsItsOwn tenants number new history
owns_pushed tenants number put new last history pushed known own = record {
  command = λ at seen here. ⊎_elim
      (λ before. own.command at seen before)
      (λ (end : (at ≡ length put) × (last ≡ seen)). subst (HoldsCommand tenants) end.1 known)
      (at_pushed put last seen at (ap (λ (list : List Sighting). slice_get list at) (sym pushed) ∙ here));
  as_put = λ place seen here mine. ap (λ (list : List Sighting). slice_get list seen.ticket.number) pushed
      ∙ at_longer put (last ∷ []) seen.ticket.number seen (own.as_put place seen here mine);
}

-- one more is put, or nothing is
pub owns_either : (tenants : ℕ) (old new : Pass) (last : Sighting) (history : List Sighting) → worker new ≡ worker old →
    (own_sightings new ≡ own_sightings old) ⊎ (own_sightings new ≡ own_sightings old ++ last ∷ []) →
    HoldsCommand tenants last → KnowsItsOwn tenants (worker old) (own_sightings old) history → KnowsItsOwn tenants (worker new) (own_sightings new) history
owns_either tenants old new last history same either known own = ⊎_elim
    (λ none. owns_still tenants old new history same none own)
    (λ more. subst (λ (number : ℕ). KnowsItsOwn tenants number (own_sightings new) history) (sym same)
    (owns_pushed tenants (worker old) (own_sightings old) (own_sightings new) last history more known own))
    either

-- the next command is one of its tenant
pub holds_next : (tenants : ℕ) (log : Log) (pass : Pass) (tenant : ℕ) (command : Command) → tenant < tenants →
    HoldsCommand tenants (next_sighting log pass tenant command)
holds_next tenants log pass tenant command below = record {
  some = λ none. none-some (next_entry pass tenant command) (sym none);
  its = λ entry is.
      let same : next_entry pass tenant command ≡ entry = same_Some (next_entry pass tenant command) entry is in
      (ap (λ (e : Entry). e.ticket) (sym same), subst (λ (e : Entry). e.tenant < tenants) same below);
}

-- a command is decided, or a fault is met
pub either_put : {T : Type 0} (result : Result T Fault) (log : Log) (old new : Pass) (tenant : ℕ) (command : Command) →
    MatchResult result (λ _. Decides log old new tenant command) (LeavesUndecided log old new tenant command) →
    (own_sightings new ≡ own_sightings old) ⊎ (own_sightings new ≡ own_sightings old ++ next_sighting log old tenant command ∷ [])
either_put (Ok done) log old new tenant command outcome = inr outcome.own
either_put (Err fault) log old new tenant command outcome = outcome.kept

-- a place is replayed, or memory ran out and nothing has changed
pub owns_replayed : {T E R : Type 0} (result : Result T E) (tenants number : ℕ) (put history new : List Sighting) (seen : Sighting) →
    OnOk result (new ≡ history ++ seen ∷ []) → OnErr result R → (R → new ≡ history) →
    (seen.ticket.worker ≡ number → slice_get put seen.ticket.number ≡ Some seen) → KnowsItsOwn tenants number put history → KnowsItsOwn tenants number put new
owns_replayed (Ok done) tenants number put history new seen pushed same as_old mine own = record {
  command = own.command;
  as_put = λ place other here its. ⊎_elim
      (λ before. own.as_put place other before its)
      (λ (end : (place ≡ length history) × (seen ≡ other)). subst (λ (s : Sighting). slice_get put s.ticket.number ≡ Some s) end.1
      (mine (ap (λ (s : Sighting). s.ticket.worker) end.1 ∙ its)))
      (at_pushed history seen other place (ap (λ (list : List Sighting). slice_get list place) (sym pushed) ∙ here));
}
owns_replayed (Err fault) tenants number put history new seen pushed same as_old mine own =
    subst (KnowsItsOwn tenants number put) (sym (as_old same)) own
