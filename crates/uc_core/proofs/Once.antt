-- A worker replays one place after another, and gives at most one reply at each: so no place is
-- answered twice.
use Rattle.std.proofs.Common.{◌≡◌, ℕ, zero, suc, ◌+◌, ◌<◌, ◌≤◌, List, [], ◌∷◌, ◌++◌, Option, Some, None, slice_get, ⊎_elim, refl, sym, ap, subst, ◌∙◌, arith}
use Rattle.std.proofs.lemmas.Bool.{cases_eq}
use Rattle.std.proofs.lemmas.Option.{none-some, same_Some}
use Rattle.std.specs.Option.{option_map_or}
use Rattle.mc_model.specs.declared.reply.Reply.{Reply}
use Rattle.mc_model.specs.declared.request.Entry.{Entry}
use Rattle.uc_core.specs.Core.{CoreState, ReplayState, new_core}
use Rattle.uc_core.specs.Headline.{AnsweredOnce, OfEveryRun}
use Rattle.uc_core.specs.Run.{Given, Runs, given_by, replayed_by}
use Rattle.uc_core.specs.Step.{CoreStep, actor}
use Rattle.uc_core.specs.declared.event.Event.{Event}
use Rattle.uc_core.specs.declared.event.Event.TheVariants.{Announce, Look, Propose, Read, Replay, Stop}
use Rattle.uc_core.proofs.Answered.{replayed_elsewhere, replayed_here, replays_of}
use Rattle.uc_core.proofs.CoreLaws.{CoreLaw, keeps, opens}
use Rattle.uc_core.proofs.Runs.{answers_of}

-- no worker has replayed fewer places than before
abbrev ReplaysOn : CoreState → CoreState → Type 0
ReplaysOn old new = (number : ℕ) → replayed_by old number ≤ replayed_by new number

-- each reply is to a place that its worker replays between the two states
abbrev AreBetween : CoreState → CoreState → List Given → Type 0
AreBetween old new given = (at worker place : ℕ) (reply : Reply) → slice_get given at ≡ Some (worker, place, reply) →
    (replayed_by old worker ≤ place) × (place < replayed_by new worker)

-- no worker answers a place twice
abbrev EachOnce : List Given → Type 0
EachOnce given = (one other worker place : ℕ) (reply other_reply : Reply) → slice_get given one ≡ Some (worker, place, reply) →
    slice_get given other ≡ Some (worker, place, other_reply) → one ≡ other

-- what one event does: if it gives a reply, its worker has replayed one more place
abbrev Counts : CoreState → CoreState → Event → Option Reply → Type 0
Counts old new event reply =
    ReplaysOn old new × ((it : Reply) → reply ≡ Some it → replayed_by new (actor event) ≡ replayed_by old (actor event) + 1)

no_replay : (old new : CoreState) (event : Event) (reply : Option Reply) → new.replays ≡ old.replays → reply ≡ None → Counts old new event reply
no_replay old new event reply same none = (
  λ number. (let still = ap (λ (replays : List ReplayState). option_map_or (λ (it : ReplayState). it.replayed) (slice_get replays number) 0) same in omega (arith, still)),
  λ it is. absurd (none-some it (sym none ∙ is)),
)

counts_event : (old new : CoreState) (event : Event) (reply : Option Reply) → CoreLaw old → CoreStep old event new reply → Counts old new event reply
counts_event old new (Announce number tenant command) reply law step =
    no_replay old new (Announce number tenant command) reply (ap (λ (core : CoreState). core.replays) step.2) step.3
counts_event old new (Read number) reply law step = no_replay old new (Read number) reply (ap (λ (core : CoreState). core.replays) step.1) step.2
counts_event old new (Look number) reply law step = no_replay old new (Look number) reply (ap (λ (core : CoreState). core.replays) step.1) step.2
counts_event old new (Propose number) reply law step = no_replay old new (Propose number) reply (ap (λ (core : CoreState). core.replays) step.1) step.2
counts_event old new (Stop number) reply law step = no_replay old new (Stop number) reply (ap (λ (core : CoreState). core.replays) step.1) step.2
counts_event old new (Replay number) reply law step =
    let was = replays_of old number step.3 step.4 in let is = replayed_here old new number reply law step in (
      λ other. ⊎_elim
          (λ (here : other ≡ number). omega (arith, was, is, ap (replayed_by old) here, ap (replayed_by new) here))
          (λ apart. omega (arith, replayed_elsewhere old new number reply law step other apart))
          (cases_eq other number),
      λ it answered. omega (arith, was, is),
    )

-- the replies of an event, and those of the events after it
module _ (old between new : CoreState) (event : Event) (later : List Given) (on : ReplaysOn between new)
    (within : AreBetween between new later) (once : EachOnce later) where
  module _ (reply : Reply) (counts : Counts old between event (Some reply)) where
    abbrev its : Given
    its = (actor event, replayed_by old (actor event), reply)

    between_more : AreBetween old new (its ∷ later)
    between_more zero worker place it is =
        let same = same_Some its (worker, place, it) is in
        let whose = ap (λ (g : Given). g.0) same in let which = ap (λ (g : Given). g.1) same in
        let next = counts.1 reply refl in
        (omega (arith, which, ap (replayed_by old) whose), omega (arith, which, next, ap (replayed_by between) whose, on worker))
    between_more (suc at) worker place it is =
        let both = within at worker place it is in (omega (arith, counts.0 worker, both.0), both.1)

    -- the event's own place isn't answered again
    not_again : (at worker place : ℕ) (it other_it : Reply) → its ≡ (worker, place, it) → slice_get later at ≡ Some (worker, place, other_it) → ⊥
    not_again at worker place it other_it same there =
        let whose = ap (λ (g : Given). g.0) same in let which = ap (λ (g : Given). g.1) same in
        let both = within at worker place other_it there in
        omega (arith, which, counts.1 reply refl, ap (replayed_by between) whose, both.0)

    once_more : EachOnce (its ∷ later)
    once_more zero zero worker place it other_it is there = refl
    once_more zero (suc other) worker place it other_it is there = absurd (not_again other worker place it other_it (same_Some its (worker, place, it) is) there)
    once_more (suc one) zero worker place it other_it is there = absurd (not_again one worker place other_it it (same_Some its (worker, place, other_it) there) is)
    once_more (suc one) (suc other) worker place it other_it is there = ap suc (once one other worker place it other_it is there)

  with_event : (reply : Option Reply) → Counts old between event reply →
      AreBetween old new (given_by old event reply ++ later) × EachOnce (given_by old event reply ++ later)
  with_event None counts =
      (λ at worker place it is. (let both = within at worker place it is in (omega (arith, counts.0 worker, both.0), both.1)), once)
  with_event (Some reply) counts = (between_more reply counts, once_more reply counts)

-- a run
abbrev AnswersOnce : CoreState → CoreState → List Given → Type 0
AnswersOnce old new given = ReplaysOn old new × AreBetween old new given × EachOnce given

nothing_given : (old : CoreState) → AnswersOnce old old []
nothing_given old = (
  λ number. omega arith,
  λ at worker place it is. absurd (none-some _ is),
  λ one other worker place it other_it is there. absurd (none-some _ is),
)

run_once : (old new : CoreState) (events : List Event) (given : List Given) → CoreLaw old → Runs old events new given → AnswersOnce old new given
run_once old new [] given law runs =
    subst (λ (it : CoreState × List Given). AnswersOnce old it.0 it.1) (λ i. (sym runs.0 i, sym runs.1 i)) (nothing_given old)
run_once old new (event ∷ events) given law runs =
    let first = counts_event old runs.0 event runs.1 law runs.3 in
    let later = run_once runs.0 new events runs.2 (keeps old runs.0 event runs.1 law runs.3) runs.4 in
    let both = with_event old runs.0 new event runs.2 later.0 later.1 later.2 runs.1 first in
    subst (AnswersOnce old new) (sym runs.5) (λ number. omega (arith, first.0 number, later.0 number), both.0, both.1)

-- who answers a place is the worker whose ticket stands there, so no two do
pub answered_once : OfEveryRun (λ core given. AnsweredOnce given)
answered_once settings events core given run one other worker other_worker place reply other_reply at there =
    let answers = answers_of settings events core given run in
    let first = answers one worker place reply at in let second = answers other other_worker place other_reply there in
    let same : first.entry ≡ second.entry = same_Some first.entry second.entry (same_Some (Some first.entry) (Some second.entry) (sym first.found ∙ second.found)) in
    let whose : other_worker ≡ worker = sym second.mine ∙ (ap (λ (entry : Entry). entry.ticket.worker) (sym same) ∙ first.mine) in
    (run_once (new_core settings) core events given (opens settings) run).2 one other worker place reply other_reply at
    (there ∙ ap (λ (number : ℕ). let it : Given = (number, place, other_reply) in Some it) whose)
