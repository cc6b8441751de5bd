-- A worker has no more entries than the events of a run have announcements of it: by induction from
-- the run's front, one event after another.
use Rattle.std.proofs.Common.{◌≡◌, ℕ, zero, suc, ◌+◌, ◌≤◌, Bool, if◌then◌else◌, List, [], ◌∷◌, ◌++◌, length, length-append, Option, Some, None, slice_get, slice_set, ⊎_elim, refl, sym, ap, subst, arith, eq-eqb}
use Rattle.std.proofs.lemmas.Bool.{cases_eq}
use Rattle.std.proofs.lemmas.List.Elements.{filter_map-append}
use Rattle.std.proofs.lemmas.Option.{slice_get_past}
use Rattle.std.specs.List.{cons_option}
use Rattle.std.specs.Option.{option_and_then, option_map_or}
use Rattle.lists.proofs.Public.{at_replicated, set_elsewhere}
use Rattle.mc_model.specs.declared.command.Command.{Command}
use Rattle.mc_model.specs.declared.reply.Reply.{Reply}
use Rattle.mc_model.specs.declared.request.Entry.{Entry}
use Rattle.mc_model.specs.Legal.{ticket_of}
use Rattle.mc_model.specs.Settings.{Configuration}
use Rattle.mc_model.specs.State.{TableState}
use Rattle.uc_core.specs.Asked.{announcement_of, announcements}
use Rattle.uc_core.specs.Core.{CoreState, entry_under}
use Rattle.uc_core.specs.Run.{Given, Runs}
use Rattle.uc_core.specs.Step.{CoreStep, announced_entry, with_entry}
use Rattle.uc_core.specs.declared.event.Event.{Event}
use Rattle.uc_core.specs.declared.event.Event.TheVariants.{Announce, Look, Propose, Read, Replay, Stop}
use Rattle.uc_laws.specs.CoreRun.{core_over}
use Rattle.uc_laws.specs.Counts.{UnannouncedHaveNoEntry}
use Rattle.uc_laws.specs.Over.{ByEventsOver}

-- how many entries a worker has
abbrev many_in : Option (List Entry) → ℕ
many_in found = option_map_or (λ (list : List Entry). length list) found 0

abbrev entries_by : ℕ → CoreState → ℕ
entries_by number core = many_in (slice_get core.entries number)

-- an announcement adds at most one entry to its worker's
abbrev one_longer : Entry → Option (List Entry) → List Entry
one_longer entry found = option_map_or (λ (list : List Entry). list ++ entry ∷ []) found (entry ∷ [])

at_most_one : (entries : List (List Entry)) (number : ℕ) (entry : Entry) →
    many_in (slice_get (slice_set entries number (one_longer entry (slice_get entries number))) number) ≤ many_in (slice_get entries number) + 1
at_most_one [] number entry = omega arith
at_most_one (list ∷ entries) zero entry = let long = length-append list (entry ∷ []) in omega (arith, long)
at_most_one (list ∷ entries) (suc number) entry = at_most_one entries number entry

module _ (number : ℕ) where
  one_more : (old : CoreState) (worker tenant : ℕ) (command : Command) (new : CoreState) (reply : Option Reply) → CoreStep old (Announce worker tenant command) new reply →
      entries_by number new ≤ entries_by number old + length (announcements number (Announce worker tenant command ∷ []))
  one_more old worker tenant command new reply step =
      let entry = announced_entry old worker tenant command in
      let becomes = ap (entries_by number) step.2 in ⊎_elim
      (λ (here : number ≡ worker).
      let said : ℕ × Command = (tenant, command) in
      let one = ap (λ (b : Bool). length (cons_option (if b then Some said else None) [])) (eq-eqb worker number (sym here)) in
      let most = subst (λ (n : ℕ). many_in (slice_get (with_entry old.entries entry) n) ≤ many_in (slice_get old.entries n) + 1) (sym here)
      (at_most_one old.entries worker entry) in omega (arith, becomes, one, most))
      (λ apart. let still = ap many_in (set_elsewhere old.entries worker number (one_longer entry (slice_get old.entries worker)) apart) in omega (arith, becomes, still))
      (cases_eq number worker)

  no_more : (old new : CoreState) → new.entries ≡ old.entries → entries_by number new ≤ entries_by number old + 0
  no_more old new same = let still = ap (λ (lists : List (List Entry)). many_in (slice_get lists number)) same in omega (arith, still)

  few_more : (old : CoreState) (event : Event) (new : CoreState) (reply : Option Reply) → CoreStep old event new reply →
      entries_by number new ≤ entries_by number old + length (announcements number (event ∷ []))
  few_more old (Announce worker tenant command) new reply step = one_more old worker tenant command new reply step
  few_more old (Read worker) new reply step = no_more old new (ap (λ (it : CoreState). it.entries) step.1)
  few_more old (Look worker) new reply step = no_more old new (ap (λ (it : CoreState). it.entries) step.1)
  few_more old (Propose worker) new reply step = no_more old new (ap (λ (it : CoreState). it.entries) step.1)
  few_more old (Replay worker) new reply step = no_more old new (ap (λ (it : CoreState). it.entries) step.8)
  few_more old (Stop worker) new reply step = no_more old new (ap (λ (it : CoreState). it.entries) step.1)

  few_after : (old new : CoreState) (events : List Event) (given : List Given) → Runs old events new given →
      entries_by number new ≤ entries_by number old + length (announcements number events)
  few_after old new [] given runs = let same = ap (entries_by number) runs.0 in omega (arith, same)
  few_after old new (event ∷ events) given runs =
      let first = few_more old event runs.0 runs.1 runs.3 in
      let rest = few_after runs.0 new events runs.2 runs.4 in
      let all = ap (λ (list : List (ℕ × Command)). length list) (filter_map-append (announcement_of number) (event ∷ []) events) in
      let long = length-append (announcements number (event ∷ [])) (announcements number events) in omega (arith, first, rest, all, long)

  none_before : (settings : Configuration) (tables : List TableState) → entries_by number (core_over settings tables) ≡ 0
  none_before settings tables = by_found (slice_get (core_over settings tables).entries number) refl
    where
      by_found : (found : Option (List Entry)) → slice_get (core_over settings tables).entries number ≡ found → many_in found ≡ 0
      by_found None at = refl
      by_found (Some list) at = ap (λ (it : List Entry). length it) (sym (at_replicated settings.workers number [] list at))

  -- nothing stands behind a worker's last entry
  none_behind : (core : CoreState) (k : ℕ) → entries_by number core ≤ k → entry_under core (ticket_of number k) ≡ None
  none_behind core k few = by_found (slice_get core.entries number) few
    where
      by_found : (found : Option (List Entry)) → many_in found ≤ k → option_and_then (λ (list : List Entry). slice_get list k) found ≡ None
      by_found None behind = refl
      by_found (Some list) behind = slice_get_past list k behind

pub have_no_entry : ByEventsOver (λ settings events core. UnannouncedHaveNoEntry events core)
have_no_entry settings tables events core given run number k behind =
    let few = few_after number (core_over settings tables) core events given run in
    let none = none_before number settings tables in none_behind number core k (omega (arith, few, none, behind))
