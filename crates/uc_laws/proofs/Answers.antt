-- Each reply of a run over tables is the answer by the log: that of one event by what its worker's
-- tables stand for, and it stays the answer while the log goes on.
use Rattle.std.proofs.Common.{◌≡◌, ℕ, zero, suc, ◌<◌, ◌≤◌, ◌==◌, Bool, true, false, if◌then◌else◌, List, [], ◌∷◌, ◌++◌, length, take, Option, Some, None, slice_get, refl, sym, ap, subst, ◌∙◌, arith, eqb-true}
use Rattle.std.proofs.lemmas.Option.{none-some, same_Some, slice_get_within}
use Rattle.std.specs.Option.{option_and_then, option_map, option_map_or}
use Rattle.mc_model.specs.declared.reply.Reply.{Reply}
use Rattle.mc_model.specs.declared.request.Entry.{Entry}
use Rattle.mc_model.specs.History.{answer_from}
use Rattle.mc_model.specs.Log.{own}
use Rattle.mc_model.specs.Replay.{reply_from, reply_to}
use Rattle.mc_model.specs.Settings.{Configuration}
use Rattle.mc_model.specs.State.{TableState, next_reply}
use Rattle.model_lemmas.proofs.Replays.{reply_to-table}
use Rattle.uc_core.specs.Core.{CoreState, ReplayState, entry_under, log_of}
use Rattle.uc_core.specs.Headline.{KeepsRealTime}
use Rattle.uc_core.specs.Run.{Given, Runs, given_by, replayed_by}
use Rattle.uc_core.specs.Step.{CoreStep, actor, entry_at}
use Rattle.uc_core.specs.declared.event.Event.{Event}
use Rattle.uc_core.specs.declared.event.Event.TheVariants.{Announce, Look, Propose, Read, Replay, Stop}
use Rattle.uc_laws.proofs.Echoed.{Laws, is_after}
use Rattle.uc_laws.proofs.Growing.{Grows, grows, grows_through, log_at, stands_on, take-begins, there}
use Rattle.uc_laws.proofs.Standing.{AllStand, IsOpened, all_stand_first, has_entries, learned_inside, opened, opened_on, sound_log, stand_after, stand_at_end}
use Rattle.uc_laws.specs.Over.{IsAnswerOver, RepliesAreAnswersOver}
use Rattle.uc_laws.specs.CoreRun.{core_over}

-- an answer stays the answer
answer_stays : (tables : List TableState) (old new : CoreState) (worker place : ℕ) (reply : Reply) → Grows old new → IsAnswerOver tables old worker place reply →
    IsAnswerOver tables new worker place reply
answer_stays tables old new worker place reply grown is =
    let inside : place ≤ length (log_of old) = omega (arith, slice_get_within (log_of old) place (Some is.entry) is.found) in record {
      entry = is.entry;
      opening = is.opening;
      stands = stands_on new.shown.decided old.shown.decided grown.decided place is.entry.ticket is.stands;
      found = stands_on (log_of new) (log_of old) grown.log place (Some is.entry) is.found;
      mine = is.mine;
      began = is.began;
      replied = is.replied
          ∙ ap (λ (log : List (Option Entry)). answer_from is.opening (own is.entry.tenant log) is.entry.command)
          (sym (take-begins (log_of new) (log_of old) place grown.log inside));
    }

-- what a worker answers from its tables is the reply to its own entry
abbrev RepliesTo : ℕ → List TableState → Option Entry → Reply → Type 0
RepliesTo number tables found reply =
    (entry : Entry) × (found ≡ Some entry) × (entry.ticket.worker ≡ number)
    × (option_map (λ (table : TableState). next_reply table entry.command) (slice_get tables entry.tenant) ≡ Some reply)

replies_to_own : (number : ℕ) (tables : List TableState) (found : Option Entry) (reply : Reply) → reply_from number tables found ≡ Some reply →
    RepliesTo number tables found reply
replies_to_own number tables None reply is = absurd (none-some reply is)
replies_to_own number tables (Some entry) reply is = by_test (entry.ticket.worker == number) refl is
  where
    by_test : (mine : Bool) → (entry.ticket.worker == number) ≡ mine →
        (if mine then option_map (λ (table : TableState). next_reply table entry.command) (slice_get tables entry.tenant) else None) ≡ Some reply →
        RepliesTo number tables (Some entry) reply
    by_test true mine told = (entry, refl, eqb-true entry.ticket.worker number mine, told)
    by_test false mine told = absurd (none-some reply told)

-- the table that a tenant's reply is from
from_opening : (tables : List TableState) (log : List (Option Entry)) (entry : Entry) (reply : Reply) → reply_to tables log (Some entry) ≡ Some reply →
    (opening : TableState) × (slice_get tables entry.tenant ≡ Some opening) × (reply ≡ answer_from opening (own entry.tenant log) entry.command)
from_opening tables log entry reply is = by_found (slice_get tables entry.tenant) refl is
  where
    by_found : (found : Option TableState) → slice_get tables entry.tenant ≡ found →
        option_map (λ (opening : TableState). answer_from opening (own entry.tenant log) entry.command) found ≡ Some reply →
        (opening : TableState) × (slice_get tables entry.tenant ≡ Some opening) × (reply ≡ answer_from opening (own entry.tenant log) entry.command)
    by_found None at told = absurd (none-some reply told)
    by_found (Some opening) at told = (opening, at, sym (same_Some _ reply told))

-- what one event gives
given_one : (tables : List TableState) (core : CoreState) (event : Event) (reply : Option Reply) →
    ((it : Reply) → reply ≡ Some it → IsAnswerOver tables core (actor event) (replayed_by core (actor event)) it) →
    RepliesAreAnswersOver tables core (given_by core event reply)
given_one tables core event None answers k worker place reply at = absurd (none-some (worker, place, reply) at)
given_one tables core event (Some it) answers zero worker place reply at =
    subst (λ (given : Given). IsAnswerOver tables core given.0 given.1 given.2)
    (same_Some (actor event, replayed_by core (actor event), it) (worker, place, reply) at) (answers it refl)
given_one tables core event (Some it) answers (suc k) worker place reply at = absurd (none-some (worker, place, reply) at)

none_given : (tables : List TableState) (core : CoreState) (event : Event) (reply : Option Reply) → reply ≡ None →
    RepliesAreAnswersOver tables core (given_by core event reply)
none_given tables core event reply none = given_one tables core event reply (λ it is. absurd (none-some it (sym none ∙ is)))

both_answer : (tables : List TableState) (core : CoreState) (first later : List Given) → RepliesAreAnswersOver tables core first →
    RepliesAreAnswersOver tables core later → RepliesAreAnswersOver tables core (first ++ later)
both_answer tables core [] later before after k worker place reply at = after k worker place reply at
both_answer tables core (given ∷ first) later before after zero worker place reply at = before zero worker place reply at
both_answer tables core (given ∷ first) later before after (suc k) worker place reply at =
    both_answer tables core first later (λ n. before (suc n)) after k worker place reply at

module _ (laws : Laws) (settings : Configuration) (tables : List TableState) where
  abbrev Leads : CoreState → Type 0
  Leads core = IsOpened laws settings tables core

  replay_answers : (old new : CoreState) (number : ℕ) (reply : Option Reply) → Leads old → AllStand tables old → (step : CoreStep old (Replay number) new reply) →
      (it : Reply) → reply ≡ Some it → IsAnswerOver tables old number step.3.replayed it
  replay_answers old new number reply from stands step it is =
      let place = step.3.replayed in
      let inside : place < length old.shown.decided = omega (arith, step.5, learned_inside laws settings tables old number step.0 from step.1) in
      let mine = replies_to_own number step.3.tables (entry_at old place) it (sym step.9 ∙ is) in
      let ticket = there old.shown.decided place inside in
      let known = (sound_log laws settings tables old from).announced place ticket.0 ticket.1 in
      let here : entry_at old place ≡ entry_under old ticket.0 = ap (option_and_then (entry_under old)) ticket.1 in
      let same : known.0 ≡ mine.0 = same_Some known.0 mine.0 (sym known.1 ∙ sym here ∙ mine.1) in
      let log = take place (log_of old) in
      let reached = from_opening tables log mine.0 it (reply_to-table tables log step.3.tables mine.0 (stands number step.3 step.4).1 ∙ mine.3) in record {
        entry = mine.0;
        opening = reached.0;
        stands = ticket.1 ∙ ap Some (sym known.2 ∙ ap (λ (entry : Entry). entry.ticket) same);
        found = log_at old place inside ∙ ap Some mine.1;
        mine = mine.2;
        began = reached.1;
        replied = reached.2;
      }

  event_answers : (old new : CoreState) (event : Event) (reply : Option Reply) → Leads old → AllStand tables old → CoreStep old event new reply →
      RepliesAreAnswersOver tables old (given_by old event reply)
  event_answers old new (Announce number tenant command) reply from stands step = none_given tables old (Announce number tenant command) reply step.3
  event_answers old new (Read number) reply from stands step = none_given tables old (Read number) reply step.2
  event_answers old new (Look number) reply from stands step = none_given tables old (Look number) reply step.2
  event_answers old new (Propose number) reply from stands step = none_given tables old (Propose number) reply step.2
  event_answers old new (Stop number) reply from stands step = none_given tables old (Stop number) reply step.2
  event_answers old new (Replay number) reply from stands step = given_one tables old (Replay number) reply (λ it is.
      subst (λ (place : ℕ). IsAnswerOver tables old number place it) (sym (ap (λ found. option_map_or (λ (replay : ReplayState). replay.replayed) found 0) step.4))
      (replay_answers old new number reply from stands step it is))

  run_answers : (old new : CoreState) (events : List Event) (given : List Given) → Leads old → AllStand tables old → Runs old events new given →
      RepliesAreAnswersOver tables new given
  run_answers old new [] given from stands runs = λ k worker place reply at.
      absurd (none-some (worker, place, reply) (ap (λ (list : List Given). slice_get list k) (sym runs.1) ∙ at))
  run_answers old new (event ∷ events) given from stands runs =
      let next = opened_on laws settings tables old runs.0 event runs.1 from runs.3 in
      let further = stand_after laws settings tables old runs.0 event runs.1 from stands runs.3 in
      let grown = grows_through old runs.0 new (grows old runs.0 event runs.1 (has_entries laws settings tables old from) runs.3)
      (stand_at_end laws settings tables runs.0 new events runs.2 next further runs.4).1 in
      subst (RepliesAreAnswersOver tables new) (sym runs.5)
      (both_answer tables new (given_by old event runs.1) runs.2
      (λ k worker place reply at. answer_stays tables old new worker place reply grown (event_answers old runs.0 event runs.1 from stands runs.3 k worker place reply at))
      (run_answers runs.0 new events runs.2 next further runs.4))

  pub are_answers : (events : List Event) (core : CoreState) (given : List Given) → Runs (core_over settings tables) events core given →
      RepliesAreAnswersOver tables core given
  are_answers events core given run = run_answers (core_over settings tables) core events given (opened laws settings tables)
      (all_stand_first laws settings tables) run

  -- a reply's place is decided, and what is announced then stands later
  pub keeps_real_time : (events : List Event) (core : CoreState) (given : List Given) → Runs (core_over settings tables) events core given → KeepsRealTime core given
  keeps_real_time events core given run at worker place later reply told it =
      let stands = (are_answers events core given run at worker place reply told).stands in
      omega (arith, slice_get_within core.shown.decided place _ stands, is_after laws settings tables events core given run later it)
