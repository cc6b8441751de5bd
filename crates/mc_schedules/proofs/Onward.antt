-- What is done so far, seen from its end: whatever the rest does from here, the whole does from the
-- start, with the replies so far before the rest's.
use Rattle.std.proofs.Common.{◌≡◌, inl, inr, ℕ, suc, List, [], ◌∷◌, ◌++◌, Some, None, Result, Ok, Err, refl, sym, ap, subst, ◌∙◌}
use Rattle.std.proofs.lemmas.List.{append-nil, append_assoc}
use Rattle.mc_model.specs.declared.fault.Fault.{Fault}
use Rattle.uc_core.specs.Core.{CoreState}
use Rattle.uc_core.specs.Run.{Given}
use Rattle.uc_core.specs.declared.event.Event.{Event}
use Rattle.mc_schedules.specs.declared.schedule.Item.{Item}
use Rattle.mc_schedules.specs.Doing.{Acts, Did, DoesAll, Ending, Finishes, TakesEvent}
use Rattle.mc_schedules.specs.Needed.{needed}

-- Some of a worker's events are taken: however it finishes from here, it finishes from the start.
abbrev pub Finishing : ℕ → ℕ → CoreState → CoreState → List Given → List Given → Type 0
Finishing line number start now before after = (given : List Given) × (after ≡ before ++ given)
    × ((events : ℕ) (new : CoreState) (later : List Given) (end : Ending) → Finishes events line number now new later end →
    (all : ℕ) × Finishes all line number start new (given ++ later) end)

-- however it ended, with all replies at the end of a list
abbrev pub Finished : ℕ → ℕ → CoreState → CoreState → List Given → List Given → Result (Unit {0}) Fault → Type 0
Finished line number start new before after told = (events : ℕ) × Did (Finishes events line number) line start new before after told

-- before the first event
pub finishing-none : (line number : ℕ) (core : CoreState) (before : List Given) → Finishing line number core core before before
finishing-none line number core before = ([], sym (append-nil before), λ events new later end rest. (events, rest))

module _ (line number : ℕ) (start now : CoreState) (before after : List Given) (so_far : Finishing line number start now before after) where
  -- the next event is taken
  pub finishing-next : (event : Event) (next : CoreState) (latest : List Given) → needed now number ≡ Some event →
      Did (TakesEvent line event) line now next after latest (Ok tt) → Finishing line number start next before latest
  finishing-next event next latest needs took = (
    so_far.0 ++ took.0,
    took.2 ∙ ap (λ (them : List Given). them ++ took.0) so_far.1 ∙ append_assoc before so_far.0 took.0,
    λ events new later end rest.
        let all = so_far.2 (suc events) new (took.0 ++ later) end (event, needs, inr (next, took.0, later, took.1, rest, refl)) in
        (all.0, subst (λ (them : List Given). Finishes all.0 line number start new them end) (sym (append_assoc so_far.0 took.0 later)) all.1),
  )

  -- the next event meets a fault
  pub finished-fault : (event : Event) (new : CoreState) (latest : List Given) (fault : Fault) → needed now number ≡ Some event →
      Did (TakesEvent line event) line now new after latest (Err fault) → Finished line number start new before latest (Err fault)
  finished-fault event new latest fault needs took =
      let all = so_far.2 1 new took.0 (Some (line, fault)) (event, needs, inl ((line, fault), refl, took.1)) in
      let same = took.2 ∙ ap (λ (them : List Given). them ++ took.0) so_far.1 ∙ append_assoc before so_far.0 took.0 in
      (all.0, (so_far.0 ++ took.0, all.1, same))

  -- nothing more is needed
  pub finished-all : needed now number ≡ None → Finished line number start now before after (Ok tt)
  finished-all none =
      let all = so_far.2 0 now [] None (none, (refl, refl, refl)) in
      (all.0, (so_far.0 ++ [], all.1, so_far.1 ∙ ap (λ (them : List Given). before ++ them) (sym (append-nil so_far.0))))

-- Of the lines: those before the rest are done, so that whatever the rest does from here, they all
-- do from the start.
abbrev pub Doings : List Item → List Item → CoreState → CoreState → List Given → List Given → Type 0
Doings all rest start now before after = (given : List Given) × (after ≡ before ++ given)
    × ((new : CoreState) (later : List Given) (end : Ending) → DoesAll rest now new later end → DoesAll all start new (given ++ later) end)

-- however they ended, with all replies at the end of a list
abbrev pub Done : List Item → CoreState → CoreState → List Given → List Given → Ending → Type 0
Done all start new before after end = (given : List Given) × DoesAll all start new given end × (after ≡ before ++ given)

-- before the first line
pub doings-none : (all : List Item) (core : CoreState) (before : List Given) → Doings all all core core before before
doings-none all core before = ([], sym (append-nil before), λ new later end rest. rest)

module _ (all : List Item) (item : Item) (rest : List Item) (start now : CoreState) (before after : List Given)
    (so_far : Doings all (item ∷ rest) start now before after) where
  -- the next line's action is done
  pub doings-next : (next : CoreState) (latest : List Given) → Did (Acts item.line item.action) item.line now next after latest (Ok tt) →
      Doings all rest start next before latest
  doings-next next latest did = (
    so_far.0 ++ did.0,
    did.2 ∙ ap (λ (them : List Given). them ++ did.0) so_far.1 ∙ append_assoc before so_far.0 did.0,
    λ new later end others.
        subst (λ (them : List Given). DoesAll all start new them end) (sym (append_assoc so_far.0 did.0 later))
        (so_far.2 new (did.0 ++ later) end (inr (next, did.0, later, did.1, others, refl))),
  )

  -- the next line's action meets a fault
  pub done-fault : (new : CoreState) (latest : List Given) (fault : Fault) →
      Did (Acts item.line item.action) item.line now new after latest (Err fault) → Done all start new before latest (Some (item.line, fault))
  done-fault new latest fault did = (
    so_far.0 ++ did.0,
    so_far.2 new did.0 (Some (item.line, fault)) (inl ((item.line, fault), refl, did.1)),
    did.2 ∙ ap (λ (them : List Given). them ++ did.0) so_far.1 ∙ append_assoc before so_far.0 did.0,
  )

-- no line is left
pub done-all : (all : List Item) (start now : CoreState) (before after : List Given) → Doings all [] start now before after →
    Done all start now before after None
done-all all start now before after so_far = (
  so_far.0 ++ [],
  so_far.2 now [] None (refl, refl, refl),
  so_far.1 ∙ ap (λ (them : List Given). before ++ them) (sym (append-nil so_far.0)),
)
