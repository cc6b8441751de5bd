-- A run answers each command of its own that a worker replays: by induction from the run's front,
-- of the places from those that the worker has replayed before the run up to those that it has
-- replayed after it.
use Rattle.std.proofs.Common.{◌≡◌, ◌≢◌, ℕ, ◌+◌, ◌<◌, ◌≤◌, List, [], ◌∷◌, ◌++◌, length, take, Option, Some, None, if◌then◌else◌, slice_get, slice_set, option_map, ⊎_elim, refl, sym, ap, ap₂, subst, ◌∙◌, arith, eq-eqb}
use Rattle.std.proofs.lemmas.Bool.{cases_eq, cases_lt}
use Rattle.std.proofs.lemmas.Option.{slice_get-map, slice_get_within}
use Rattle.std.specs.Option.{option_and_then, option_map_or}
use Rattle.mc_model.specs.declared.id.Ticket.{Ticket}
use Rattle.mc_model.specs.declared.reply.Reply.{Reply}
use Rattle.mc_model.specs.declared.shown.WorkerState.{WorkerState}
use Rattle.lists.specs.Lists.{BeginsWith}
use Rattle.mc_model.specs.History.{state_after, state_from}
use Rattle.mc_model.specs.Log.{own}
use Rattle.mc_model.specs.Replay.{reply_from}
use Rattle.mc_model.specs.Settings.{Configuration}
use Rattle.mc_model.specs.State.{TableState, empty_table, next_reply}
use Rattle.uc_core.specs.Core.{CoreState, ReplayState, entry_under, log_of, new_core, core_size}
use Rattle.uc_core.specs.Headline.{HasReplica, HasReply, OfEveryRun, OwnAreAnswered}
use Rattle.uc_core.specs.Run.{Given, Runs, given_by, replayed_by}
use Rattle.uc_core.specs.Step.{CoreStep, entry_at}
use Rattle.uc_core.specs.declared.event.Event.{Event}
use Rattle.uc_core.specs.declared.event.Event.TheVariants.{Announce, Look, Propose, Read, Replay, Stop}
use Rattle.uc_core.proofs.CoreLaws.{CoreLaw, keeps, opens, stands_with_entry}
use Rattle.lists.proofs.Public.{at_replicated, set_elsewhere, set_here}
use Rattle.uc_core.proofs.Lookups.{at_further, at_longer, there}
use Rattle.uc_core.proofs.Runs.{of_run, stands_on}
use Rattle.model_lemmas.proofs.StateLaws.{learned_few}

-- the worker's own ticket stands at a place of the list that it has replayed later and not before:
-- it was answered
abbrev AreAnswered : CoreState → CoreState → List Ticket → List Given → Type 0
AreAnswered old new tickets given = (number place : ℕ) (ticket : Ticket) → replayed_by old number ≤ place → place < replayed_by new number →
    slice_get tickets place ≡ Some ticket → ticket.worker ≡ number → HasReply given number place

pub replays_of : (core : CoreState) (number : ℕ) (replay : ReplayState) → slice_get core.replays number ≡ Some replay →
    replayed_by core number ≡ replay.replayed
replays_of core number replay at = ap (λ found. option_map_or (λ (it : ReplayState). it.replayed) found 0) at

-- an event that replays nothing
none_replayed : (old new : CoreState) (tickets : List Ticket) (given : List Given) → new.replays ≡ old.replays → AreAnswered old new tickets given
none_replayed old new tickets given same number place ticket from upto at mine =
    let still = ap (λ (replays : List ReplayState). option_map_or (λ (it : ReplayState). it.replayed) (slice_get replays number) 0) same in
    absurd (omega (arith, from, upto, still))

-- a worker answers the entry of its own ticket, since it has a table of the entry's tenant
answers_mine : (core : CoreState) (number place : ℕ) (worker : WorkerState) (replay : ReplayState) (ticket : Ticket) → CoreLaw core →
    HasReplica core number worker replay → slice_get core.shown.decided place ≡ Some ticket → ticket.worker ≡ number →
    (it : Reply) × (reply_from number replay.tables (entry_at core place) ≡ Some it)
answers_mine core number place worker replay ticket law has at mine =
    let entry = stands_with_entry core law place ticket at in
    let opening = there core.openings entry.0.tenant entry.3 in
    let list = own entry.0.tenant (take replay.replayed (log_of core)) in
    let table : TableState = state_after opening.0 list in
    let found : slice_get replay.tables entry.0.tenant ≡ Some table =
    (law.replays number worker replay has).stands entry.0.tenant
    ∙ ap (option_map (λ (it : TableState). state_from it list)) (slice_get-map empty_table core.openings entry.0.tenant ∙ ap (option_map empty_table) opening.1) in
    let here : entry_at core place ≡ Some entry.0 = ap (option_and_then (entry_under core)) at ∙ entry.1 in
    let own_ticket = eq-eqb entry.0.ticket.worker number (ap (λ (it : Ticket). it.worker) entry.2 ∙ mine) in (
      next_reply table entry.0.command,
      ap (reply_from number replay.tables) here
          ∙ ap₂ (λ b known. if b then option_map (λ (it : TableState). next_reply it entry.0.command) known else None) own_ticket found,
    )

-- a replay
module _ (old new : CoreState) (number : ℕ) (reply : Option Reply) (law : CoreLaw old) (step : CoreStep old (Replay number) new reply) where
  abbrev further : ReplayState
  further = record { replayed = step.3.replayed + 1; tables = step.6 }

  pub replayed_here : replayed_by new number ≡ step.3.replayed + 1
  replayed_here = ap (λ core. replayed_by core number) step.8
      ∙ replays_of (record old { replays = slice_set old.replays number further }) number further
      (set_here old.replays number further (slice_get_within old.replays number step.3 step.4))

  pub replayed_elsewhere : (other : ℕ) → other ≢ number → replayed_by new other ≡ replayed_by old other
  replayed_elsewhere other apart = ap (λ core. replayed_by core other) step.8
      ∙ ap (λ found. option_map_or (λ (it : ReplayState). it.replayed) found 0) (set_elsewhere old.replays number other further apart)

  -- the place that it replays, and its answer where the worker's own ticket stands there
  stood_here : (tickets : List Ticket) (ticket : Ticket) → BeginsWith tickets old.shown.decided → slice_get tickets step.3.replayed ≡ Some ticket →
      slice_get old.shown.decided step.3.replayed ≡ Some ticket
  stood_here tickets ticket begins at =
      let inside : step.3.replayed < length old.shown.decided = omega (arith, step.5, learned_few (core_size old) old.shown number step.0 law.sound step.1) in
      let it = there old.shown.decided step.3.replayed inside in
      it.1 ∙ sym (stands_on tickets old.shown.decided begins step.3.replayed it.0 it.1) ∙ at

  given_here : (ticket : Ticket) → slice_get old.shown.decided step.3.replayed ≡ Some ticket → ticket.worker ≡ number →
      HasReply (given_by old (Replay number) reply) number step.3.replayed
  given_here ticket at mine =
      let told = answers_mine old number step.3.replayed step.0 step.3 ticket law (step.1, step.4) at mine in (
        0,
        told.0,
        ap (λ found. slice_get (given_by old (Replay number) found) 0) (step.9 ∙ told.1)
            ∙ ap (λ place. let it : Given = (number, place, told.0) in Some it) (replays_of old number step.3 step.4),
      )

  replay_answered : (tickets : List Ticket) → BeginsWith tickets old.shown.decided → AreAnswered old new tickets (given_by old (Replay number) reply)
  replay_answered tickets begins other place ticket from upto at mine = ⊎_elim
      (λ (here : other ≡ number).
      let before = replays_of old number step.3 step.4 in
      let same : step.3.replayed ≡ place = omega (arith, from, upto, ap (replayed_by old) here, ap (replayed_by new) here, before, replayed_here) in
      let answered = given_here ticket (stood_here tickets ticket begins (ap (slice_get tickets) same ∙ at)) (mine ∙ here) in
      subst (λ (it : ℕ × ℕ). HasReply (given_by old (Replay number) reply) it.0 it.1) (λ i. (sym here i, same i)) answered)
      (λ apart. absurd (omega (arith, from, upto, replayed_elsewhere other apart)))
      (cases_eq other number)

-- one event
event_answered : (old new : CoreState) (event : Event) (reply : Option Reply) (tickets : List Ticket) → CoreLaw old → CoreStep old event new reply →
    BeginsWith tickets old.shown.decided → AreAnswered old new tickets (given_by old event reply)
event_answered old new (Announce number tenant command) reply tickets law step begins =
    none_replayed old new tickets _ (ap (λ (core : CoreState). core.replays) step.2)
event_answered old new (Read number) reply tickets law step begins = none_replayed old new tickets _ (ap (λ (core : CoreState). core.replays) step.1)
event_answered old new (Look number) reply tickets law step begins = none_replayed old new tickets _ (ap (λ (core : CoreState). core.replays) step.1)
event_answered old new (Propose number) reply tickets law step begins = none_replayed old new tickets _ (ap (λ (core : CoreState). core.replays) step.1)
event_answered old new (Stop number) reply tickets law step begins = none_replayed old new tickets _ (ap (λ (core : CoreState). core.replays) step.1)
event_answered old new (Replay number) reply tickets law step begins = replay_answered old new number reply law step tickets begins

-- a place that is replayed by the end of a run is replayed by the first event, or by those after it
both_answered : (old between new : CoreState) (tickets : List Ticket) (first later : List Given) → AreAnswered old between tickets first →
    AreAnswered between new tickets later → AreAnswered old new tickets (first ++ later)
both_answered old between new tickets first later before after number place ticket from upto at mine = ⊎_elim
    (λ soon. let it = before number place ticket from soon at mine in (it.0, it.1, at_longer first later it.0 _ it.2))
    (λ late. let it = after number place ticket late upto at mine in let there = at_further first later it.0 _ it.2 in (there.0, it.1, there.1))
    (cases_lt place (replayed_by between number))

run_answered : (old new : CoreState) (events : List Event) (given : List Given) → CoreLaw old → Runs old events new given →
    AreAnswered old new new.shown.decided given
run_answered old new [] given law runs = none_replayed old new new.shown.decided given (ap (λ (core : CoreState). core.replays) runs.0)
run_answered old new (event ∷ events) given law runs =
    let grown = (of_run old new (event ∷ events) given law runs).1 in
    subst (AreAnswered old new new.shown.decided) (sym runs.5)
    (both_answered old runs.0 new new.shown.decided (given_by old event runs.1) runs.2
    (event_answered old runs.0 event runs.1 new.shown.decided law runs.3 grown.decided)
    (run_answered runs.0 new events runs.2 (keeps old runs.0 event runs.1 law runs.3) runs.4))

-- before any event nothing is replayed
none_yet : (settings : Configuration) (number : ℕ) → replayed_by (new_core settings) number ≡ 0
none_yet settings number = by_found (slice_get (new_core settings).replays number) refl
  where
    by_found : (found : Option ReplayState) → slice_get (new_core settings).replays number ≡ found →
        option_map_or (λ (replay : ReplayState). replay.replayed) found 0 ≡ 0
    by_found None at = refl
    by_found (Some replay) at = ap (λ (it : ReplayState). it.replayed) (sym (at_replicated settings.workers number _ replay at))

pub own_answered : OfEveryRun OwnAreAnswered
own_answered settings events core given run number place worker replay ticket has below at mine =
    let upto = replays_of core number replay has.1 in
    run_answered (new_core settings) core events given (opens settings) run number place ticket
    (omega (arith, none_yet settings number)) (omega (arith, below, upto)) at mine
