-- A run keeps the core's law, the core grows along it, and each reply that it gives is the answer
-- by the log.
use Rattle.std.proofs.Common.{◌≡◌, ℕ, zero, suc, ◌<◌, ◌≤◌, ◌==◌, Bool, true, false, List, [], ◌∷◌, ◌++◌, length, take, Option, Some, None, if◌then◌else◌, slice_get, option_map, refl, sym, ap, subst, ◌∙◌, arith, eqb-true}
use Rattle.std.proofs.lemmas.Option.{none-some, slice_get-map, same_Some, slice_get_within}
use Rattle.std.specs.Option.{option_and_then, option_map_or}
use Rattle.mc_model.specs.declared.reply.Reply.{Reply}
use Rattle.mc_model.specs.declared.request.Entry.{Entry}
use Rattle.mc_model.specs.declared.settings.Limits.{Limits}
use Rattle.mc_model.specs.declared.shown.WorkerState.{WorkerState}
use Rattle.lists.specs.Lists.{BeginsWith}
use Rattle.mc_model.specs.History.{answer, answer_from}
use Rattle.mc_model.specs.Log.{own}
use Rattle.mc_model.specs.Replay.{empty_tables, reply_from, reply_to}
use Rattle.model_lemmas.proofs.Replays.{reply_to-table}
use Rattle.mc_model.specs.Settings.{Configuration}
use Rattle.mc_model.specs.State.{TableState, empty_table, next_reply}
use Rattle.uc_core.specs.Core.{CoreState, ReplayState, entry_under, log_of, new_core, core_size}
use Rattle.uc_core.specs.Headline.{HasReplica, IsAnswer, RepliesAreAnswers}
use Rattle.uc_core.specs.Run.{Given, IsRun, Runs, given_by, replayed_by}
use Rattle.uc_core.specs.Step.{CoreStep, actor, entry_at}
use Rattle.uc_core.specs.declared.event.Event.{Event}
use Rattle.uc_core.specs.declared.event.Event.TheVariants.{Announce, Look, Propose, Read, Replay, Stop}
use Rattle.uc_core.proofs.CoreLaws.{CoreLaw, Grows, Grows-itself, grows, keeps, opens, stands_with_entry}
use Rattle.uc_core.proofs.Entries.{log-at}
use Rattle.lists.proofs.Public.{begins_through}
use Rattle.uc_core.proofs.Lookups.{at_longer, there}
use Rattle.uc_core.proofs.Replays.{take-begins}
use Rattle.model_lemmas.proofs.StateLaws.{learned_few}

pub Grows-through : (old between new : CoreState) → Grows old between → Grows between new → Grows old new
Grows-through old between new first second = record {
  openings = second.openings ∙ first.openings;
  decided = begins_through new.shown.decided between.shown.decided old.shown.decided second.decided first.decided;
  log = begins_through (log_of new) (log_of between) (log_of old) second.log first.log;
}

pub of_run : (old new : CoreState) (events : List Event) (given : List Given) → CoreLaw old → Runs old events new given → CoreLaw new × Grows old new
of_run old new [] given law runs = subst (λ core. CoreLaw core × Grows old core) (sym runs.0) (law, Grows-itself old)
of_run old new (event ∷ events) given law runs =
    let later = of_run runs.0 new events runs.2 (keeps old runs.0 event runs.1 law runs.3) runs.4 in
    (later.0, Grows-through old runs.0 new (grows old runs.0 event runs.1 law runs.3) later.1)

-- what stands in a list stands where the list goes on
pub stands_on : {X : Type 0} (list front : List X) (begins : BeginsWith list front) (k : ℕ) (x : X) → slice_get front k ≡ Some x → slice_get list k ≡ Some x
stands_on {X} list front begins k x at = ap (λ (it : List X). slice_get it k) begins.1 ∙ at_longer front begins.0 k x at

-- an answer stays the answer while the core grows
answer_stays : (old new : CoreState) (worker place : ℕ) (reply : Reply) → Grows old new → IsAnswer old worker place reply → IsAnswer new worker place reply
answer_stays old new worker place reply grown is =
    let inside : place ≤ length (log_of old) = omega (arith, slice_get_within (log_of old) place (Some is.entry) is.found) in record {
      entry = is.entry;
      opening = is.opening;
      stands = stands_on new.shown.decided old.shown.decided grown.decided place is.entry.ticket is.stands;
      found = stands_on (log_of new) (log_of old) grown.log place (Some is.entry) is.found;
      mine = is.mine;
      limits = ap (λ (openings : List Limits). slice_get openings is.entry.tenant) grown.openings ∙ is.limits;
      replied = is.replied
          ∙ ap (λ (log : List (Option Entry)). answer is.opening (own is.entry.tenant log) is.entry.command)
          (sym (take-begins (log_of new) (log_of old) place grown.log inside));
    }

-- what a worker answers from its tables is the reply to its own entry
abbrev Answers : ℕ → List TableState → Option Entry → Reply → Type 0
Answers number tables found reply =
    (entry : Entry) × (found ≡ Some entry) × (entry.ticket.worker ≡ number)
    × (option_map (λ (table : TableState). next_reply table entry.command) (slice_get tables entry.tenant) ≡ Some reply)

answers_own : (number : ℕ) (tables : List TableState) (found : Option Entry) (reply : Reply) → reply_from number tables found ≡ Some reply →
    Answers number tables found reply
answers_own number tables None reply is = absurd (none-some reply is)
answers_own number tables (Some entry) reply is = by_test (entry.ticket.worker == number) refl is
  where
    by_test : (mine : Bool) → (entry.ticket.worker == number) ≡ mine →
        (if mine then option_map (λ (table : TableState). next_reply table entry.command) (slice_get tables entry.tenant) else None) ≡ Some reply →
        Answers number tables (Some entry) reply
    by_test true mine told = (entry, refl, eqb-true entry.ticket.worker number mine, told)
    by_test false mine told = absurd (none-some reply told)

-- a known tenant's reply is its answer
of_opening : (openings : List Limits) (log : List (Option Entry)) (entry : Entry) (reply : Reply) → reply_to (empty_tables openings) log (Some entry) ≡ Some reply →
    (opening : Limits) × (slice_get openings entry.tenant ≡ Some opening) × (reply ≡ answer opening (own entry.tenant log) entry.command)
of_opening openings log entry reply is =
    by_found (slice_get openings entry.tenant) refl (ap (option_map (λ opening. answer_from opening (own entry.tenant log) entry.command)) (sym (slice_get-map empty_table openings entry.tenant)) ∙ is)
  where
    by_found : (found : Option Limits) → slice_get openings entry.tenant ≡ found →
        option_map (λ opening. answer_from opening (own entry.tenant log) entry.command) (option_map empty_table found) ≡ Some reply →
        (opening : Limits) × (slice_get openings entry.tenant ≡ Some opening) × (reply ≡ answer opening (own entry.tenant log) entry.command)
    by_found None at told = absurd (none-some reply told)
    by_found (Some opening) at told = (opening, at, sym (same_Some _ reply told))

-- the reply of one replay
replay_answers : (core : CoreState) (number : ℕ) (worker : WorkerState) (replay : ReplayState) (reply : Reply) →
    CoreLaw core → HasReplica core number worker replay → replay.replayed < length worker.learned →
    reply_from number replay.tables (entry_at core replay.replayed) ≡ Some reply → IsAnswer core number replay.replayed reply
replay_answers core number worker replay reply law has more told =
    let place = replay.replayed in
    let inside : place < length core.shown.decided = omega (arith, more, learned_few (core_size core) core.shown number worker law.sound has.0) in
    let its = law.replays number worker replay has in
    let mine = answers_own number replay.tables (entry_at core place) reply told in
    let ticket = there core.shown.decided place inside in
    let known = stands_with_entry core law place ticket.0 ticket.1 in
    let here : entry_at core place ≡ entry_under core ticket.0 = ap (option_and_then (entry_under core)) ticket.1 in
    let same : known.0 ≡ mine.0 = same_Some known.0 mine.0 (sym known.1 ∙ sym here ∙ mine.1) in
    let log = take place (log_of core) in
    let reached = of_opening core.openings log mine.0 reply (reply_to-table (empty_tables core.openings) log replay.tables mine.0 its.stands ∙ mine.3) in record {
      entry = mine.0;
      opening = reached.0;
      stands = ticket.1 ∙ ap Some (sym known.2 ∙ ap (λ (entry : Entry). entry.ticket) same);
      found = log-at core place inside ∙ ap Some mine.1;
      mine = mine.2;
      limits = reached.1;
      replied = reached.2;
    }

-- what one event gives
given_one : (core : CoreState) (event : Event) (reply : Option Reply) →
    ((it : Reply) → reply ≡ Some it → IsAnswer core (actor event) (replayed_by core (actor event)) it) →
    RepliesAreAnswers core (given_by core event reply)
given_one core event None answers k worker place reply at = absurd (none-some (worker, place, reply) at)
given_one core event (Some it) answers zero worker place reply at =
    subst (λ (given : Given). IsAnswer core given.0 given.1 given.2)
    (same_Some (actor event, replayed_by core (actor event), it) (worker, place, reply) at) (answers it refl)
given_one core event (Some it) answers (suc k) worker place reply at = absurd (none-some (worker, place, reply) at)

nothing_given : (core : CoreState) (event : Event) (reply : Option Reply) → reply ≡ None → RepliesAreAnswers core (given_by core event reply)
nothing_given core event reply none = given_one core event reply (λ it is. absurd (none-some it (sym none ∙ is)))

event_answers : (old new : CoreState) (event : Event) (reply : Option Reply) → CoreLaw old → CoreStep old event new reply →
    RepliesAreAnswers old (given_by old event reply)
event_answers old new (Announce number tenant command) reply law step = nothing_given old (Announce number tenant command) reply step.3
event_answers old new (Read number) reply law step = nothing_given old (Read number) reply step.2
event_answers old new (Look number) reply law step = nothing_given old (Look number) reply step.2
event_answers old new (Propose number) reply law step = nothing_given old (Propose number) reply step.2
event_answers old new (Stop number) reply law step = nothing_given old (Stop number) reply step.2
event_answers old new (Replay number) reply law step = given_one old (Replay number) reply (λ it is.
    subst (λ place. IsAnswer old number place it) (sym (ap (λ found. option_map_or (λ (replay : ReplayState). replay.replayed) found 0) step.4))
    (replay_answers old number step.0 step.3 it law (step.1, step.4) step.5 (sym step.9 ∙ is)))

-- all that a run gives
both_answer : (core : CoreState) (first later : List Given) → RepliesAreAnswers core first → RepliesAreAnswers core later → RepliesAreAnswers core (first ++ later)
both_answer core [] later before after k worker place reply at = after k worker place reply at
both_answer core (given ∷ first) later before after zero worker place reply at = before zero worker place reply at
both_answer core (given ∷ first) later before after (suc k) worker place reply at =
    both_answer core first later (λ n. before (suc n)) after k worker place reply at

pub run_answers : (old new : CoreState) (events : List Event) (given : List Given) → CoreLaw old → Runs old events new given → RepliesAreAnswers new given
run_answers old new [] given law runs = λ k worker place reply at.
    absurd (none-some (worker, place, reply) (ap (λ (list : List Given). slice_get list k) (sym runs.1) ∙ at))
run_answers old new (event ∷ events) given law runs =
    let next = keeps old runs.0 event runs.1 law runs.3 in
    let grown = Grows-through old runs.0 new (grows old runs.0 event runs.1 law runs.3) (of_run runs.0 new events runs.2 next runs.4).1 in
    subst (RepliesAreAnswers new) (sym runs.5)
    (both_answer new (given_by old event runs.1) runs.2
    (λ k worker place reply at. answer_stays old new worker place reply grown (event_answers old runs.0 event runs.1 law runs.3 k worker place reply at))
    (run_answers runs.0 new events runs.2 next runs.4))

-- from the opening
pub law_of : (settings : Configuration) (events : List Event) (core : CoreState) (given : List Given) → IsRun settings events core given → CoreLaw core
law_of settings events core given run = (of_run (new_core settings) core events given (opens settings) run).0

pub answers_of : (settings : Configuration) (events : List Event) (core : CoreState) (given : List Given) → IsRun settings events core given →
    RepliesAreAnswers core given
answers_of settings events core given run = run_answers (new_core settings) core events given (opens settings) run
