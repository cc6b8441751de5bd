-- A worker replays one place after another, and gives at most one reply at each: so no place is answered
-- twice. Where there is a table for each tenant, it answers each command of its own that it replays.
use Rattle.std.proofs.Common.{◌≡◌, ◌≢◌, ℕ, zero, suc, ◌+◌, ◌<◌, ◌≤◌, List, [], ◌∷◌, ◌++◌, length, take, Option, Some, None, if◌then◌else◌, slice_get, ⊎_elim, refl, sym, ap, ap₂, subst, ◌∙◌, arith, eq-eqb}
use Rattle.std.proofs.lemmas.Bool.{cases_eq, cases_lt}
use Rattle.std.proofs.lemmas.Option.{none-some, same_Some, slice_get_within}
use Rattle.std.specs.Option.{option_and_then, option_map, option_map_or}
use Rattle.lists.proofs.Public.{at_longer, at_replicated, set_elsewhere, set_here}
use Rattle.lists.specs.Lists.{BeginsWith}
use Rattle.mc_model.specs.declared.id.Ticket.{Ticket}
use Rattle.mc_model.specs.declared.reply.Reply.{Reply}
use Rattle.mc_model.specs.declared.request.Entry.{Entry}
use Rattle.mc_model.specs.declared.settings.Limits.{Limits}
use Rattle.mc_model.specs.History.{state_from}
use Rattle.mc_model.specs.Log.{own}
use Rattle.mc_model.specs.Replay.{reply_from}
use Rattle.mc_model.specs.Settings.{Configuration}
use Rattle.mc_model.specs.State.{TableState, next_reply}
use Rattle.uc_core.specs.Core.{CoreState, ReplayState, entry_under, log_of}
use Rattle.uc_core.specs.Headline.{AnsweredOnce, HasReply, OwnAreAnswered}
use Rattle.uc_core.specs.Run.{Given, Runs, given_by, replayed_by}
use Rattle.uc_core.specs.Step.{CoreStep, actor, entry_at}
use Rattle.uc_core.specs.declared.event.Event.{Event}
use Rattle.uc_core.specs.declared.event.Event.TheVariants.{Announce, Look, Propose, Read, Replay, Stop}
use Rattle.uc_laws.proofs.Answers.{are_answers}
use Rattle.uc_laws.proofs.Echoed.{Laws}
use Rattle.uc_laws.proofs.Growing.{grows, stands_on, there}
use Rattle.uc_laws.proofs.Standing.{AllStand, IsOpened, all_stand_first, has_entries, learned_inside, opened, opened_on, sound_log, stand_after, stand_at_end}
use Rattle.uc_laws.specs.CoreRun.{core_over}

-- how many places an event's worker has replayed, and another
abbrev count_in : Option ReplayState → ℕ
count_in found = option_map_or (λ (replay : ReplayState). replay.replayed) found 0

module _ (old new : CoreState) (number : ℕ) (reply : Option Reply) (step : CoreStep old (Replay number) new reply) where
  replayed_here : replayed_by new number ≡ step.3.replayed + 1
  replayed_here = let further : ReplayState = record { replayed = step.3.replayed + 1; tables = step.6 } in
      ap (λ (core : CoreState). replayed_by core number) step.8
      ∙ ap (λ (found : Option ReplayState). count_in found) (set_here old.replays number further (slice_get_within old.replays number step.3 step.4))

  replayed_before : replayed_by old number ≡ step.3.replayed
  replayed_before = ap (λ (found : Option ReplayState). count_in found) step.4

  replayed_elsewhere : (other : ℕ) → other ≢ number → replayed_by new other ≡ replayed_by old other
  replayed_elsewhere other apart = ap (λ (core : CoreState). replayed_by core other) step.8
      ∙ ap (λ (found : Option ReplayState). count_in found) (set_elsewhere old.replays number other _ apart)

-- no worker has replayed fewer places than before, and one that answers has replayed one more
record Counts (old new : CoreState) (event : Event) (reply : Option Reply) : Type 0 where
  on : (number : ℕ) → replayed_by old number ≤ replayed_by new number
  next : (it : Reply) → reply ≡ Some it → replayed_by new (actor event) ≡ replayed_by old (actor event) + 1

none_replayed : (old new : CoreState) (number : ℕ) → new.replays ≡ old.replays → replayed_by new number ≡ replayed_by old number
none_replayed old new number same = ap (λ (replays : List ReplayState). count_in (slice_get replays number)) same

no_replay : (old new : CoreState) (event : Event) (reply : Option Reply) → new.replays ≡ old.replays → reply ≡ None → Counts old new event reply
no_replay old new event reply same none = record {
  on = λ number. (let still = none_replayed old new number same in omega (arith, still));
  next = λ it is. absurd (none-some it (sym none ∙ is));
}

counts : (old new : CoreState) (event : Event) (reply : Option Reply) → CoreStep old event new reply → Counts old new event reply
counts old new (Announce number tenant command) reply step =
    no_replay old new (Announce number tenant command) reply (ap (λ (core : CoreState). core.replays) step.2) step.3
counts old new (Read number) reply step = no_replay old new (Read number) reply (ap (λ (core : CoreState). core.replays) step.1) step.2
counts old new (Look number) reply step = no_replay old new (Look number) reply (ap (λ (core : CoreState). core.replays) step.1) step.2
counts old new (Propose number) reply step = no_replay old new (Propose number) reply (ap (λ (core : CoreState). core.replays) step.1) step.2
counts old new (Stop number) reply step = no_replay old new (Stop number) reply (ap (λ (core : CoreState). core.replays) step.1) step.2
counts old new (Replay number) reply step =
    let was = replayed_before old new number reply step in let is = replayed_here old new number reply step in record {
      on = λ other. ⊎_elim
          (λ (here : other ≡ number). omega (arith, was, is, ap (replayed_by old) here, ap (replayed_by new) here))
          (λ apart. omega (arith, replayed_elsewhere old new number reply step other apart))
          (cases_eq other number);
      next = λ it answered. omega (arith, was, is);
    }

-- each reply is to a place that its worker hadn't replayed before, and no worker answers a place twice
record IsOnward (old : CoreState) (given : List Given) : Type 0 where
  from : (k worker place : ℕ) (reply : Reply) → slice_get given k ≡ Some (worker, place, reply) → replayed_by old worker ≤ place
  once : (one other worker place : ℕ) (reply other_reply : Reply) → slice_get given one ≡ Some (worker, place, reply) →
      slice_get given other ≡ Some (worker, place, other_reply) → one ≡ other

module _ (old between : CoreState) (event : Event) (later : List Given) (onward : IsOnward between later) where
  module _ (reply : Reply) (counted : Counts old between event (Some reply)) where
    abbrev its : Given
    its = (actor event, replayed_by old (actor event), reply)

    from_first : (k worker place : ℕ) (it : Reply) → slice_get (its ∷ later) k ≡ Some (worker, place, it) → replayed_by old worker ≤ place
    from_first zero worker place it is =
        let same = same_Some its (worker, place, it) is in
        omega (arith, ap (λ (g : Given). g.1) same, ap (replayed_by old) (ap (λ (g : Given). g.0) same))
    from_first (suc k) worker place it is = omega (arith, counted.on worker, onward.from k worker place it is)

    -- the event's own place isn't answered again
    not_again : (k worker place : ℕ) (it other_it : Reply) → its ≡ (worker, place, it) → slice_get later k ≡ Some (worker, place, other_it) → ⊥
    not_again k worker place it other_it same at =
        let whose = ap (λ (g : Given). g.0) same in let which = ap (λ (g : Given). g.1) same in
        omega (arith, which, counted.next reply refl, ap (replayed_by between) whose, onward.from k worker place other_it at)

    once_first : (one other worker place : ℕ) (it other_it : Reply) → slice_get (its ∷ later) one ≡ Some (worker, place, it) →
        slice_get (its ∷ later) other ≡ Some (worker, place, other_it) → one ≡ other
    once_first zero zero worker place it other_it is at = refl
    once_first zero (suc other) worker place it other_it is at = absurd (not_again other worker place it other_it (same_Some its (worker, place, it) is) at)
    once_first (suc one) zero worker place it other_it is at = absurd (not_again one worker place other_it it (same_Some its (worker, place, other_it) at) is)
    once_first (suc one) (suc other) worker place it other_it is at = ap suc (onward.once one other worker place it other_it is at)

  with_event : (reply : Option Reply) → Counts old between event reply → IsOnward old (given_by old event reply ++ later)
  with_event None counted = record {
    from = λ k worker place it is. omega (arith, counted.on worker, onward.from k worker place it is);
    once = onward.once;
  }
  with_event (Some reply) counted = record { from = from_first reply counted; once = once_first reply counted }

run_onward : (old new : CoreState) (events : List Event) (given : List Given) → Runs old events new given → IsOnward old given
run_onward old new [] given runs = subst (IsOnward old) (sym runs.1) (record {
  from = λ k worker place reply is. absurd (none-some _ is);
  once = λ one other worker place reply other_reply is at. absurd (none-some _ is);
})
run_onward old new (event ∷ events) given runs = subst (IsOnward old) (sym runs.5)
    (with_event old runs.0 event runs.2 (run_onward runs.0 new events runs.2 runs.4) runs.1 (counts old runs.0 event runs.1 runs.3))

-- what stands in a list stands somewhere in one that ends with it
at_further : {X : Type 0} (xs ys : List X) (k : ℕ) (x : X) → slice_get ys k ≡ Some x → (n : ℕ) × (slice_get (xs ++ ys) n ≡ Some x)
at_further [] ys k x at = (k, at)
at_further (y ∷ xs) ys k x at = let rest = at_further xs ys k x at in (suc rest.0, rest.1)

-- the worker's own ticket stands at a place that it has replayed later and not before: it was answered
abbrev AreAnswered : CoreState → CoreState → List Ticket → List Given → Type 0
AreAnswered old new tickets given = (number place : ℕ) (ticket : Ticket) → replayed_by old number ≤ place → place < replayed_by new number →
    slice_get tickets place ≡ Some ticket → ticket.worker ≡ number → HasReply given number place

none_answered : (old new : CoreState) (tickets : List Ticket) (given : List Given) → new.replays ≡ old.replays → AreAnswered old new tickets given
none_answered old new tickets given same number place ticket from upto at mine =
    let still = none_replayed old new number same in absurd (omega (arith, from, upto, still))

-- a place that is replayed by the end of a run is replayed by the first event, or by those after it
both_answered : (old between new : CoreState) (tickets : List Ticket) (first later : List Given) → AreAnswered old between tickets first →
    AreAnswered between new tickets later → AreAnswered old new tickets (first ++ later)
both_answered old between new tickets first later before after number place ticket from upto at mine = ⊎_elim
    (λ soon. let it = before number place ticket from soon at mine in (it.0, it.1, at_longer first later it.0 _ it.2))
    (λ late. let it = after number place ticket late upto at mine in let found = at_further first later it.0 _ it.2 in (found.0, it.1, found.1))
    (cases_lt place (replayed_by between number))

module _ (laws : Laws) (settings : Configuration) (tables : List TableState) where
  pub are_answered_once : (events : List Event) (core : CoreState) (given : List Given) → Runs (core_over settings tables) events core given → AnsweredOnce given
  are_answered_once events core given run one other worker other_worker place reply other_reply at also =
      let answers = are_answers laws settings tables events core given run in
      let first = answers one worker place reply at in let second = answers other other_worker place other_reply also in
      let same : first.entry ≡ second.entry = same_Some first.entry second.entry (same_Some (Some first.entry) (Some second.entry) (sym first.found ∙ second.found)) in
      let whose : other_worker ≡ worker = sym second.mine ∙ (ap (λ (entry : Entry). entry.ticket.worker) (sym same) ∙ first.mine) in
      (run_onward (core_over settings tables) core events given run).once one other worker place reply other_reply at
      (also ∙ ap (λ (number : ℕ). let it : Given = (number, place, other_reply) in Some it) whose)

  -- there is a table for each tenant of the core
  abbrev HasTables : CoreState → Type 0
  HasTables core = length core.openings ≤ length tables

  module _ (old new : CoreState) (number : ℕ) (reply : Option Reply) (from : IsOpened laws settings tables old) (stands : AllStand tables old)
      (has : HasTables old) (step : CoreStep old (Replay number) new reply) where
    -- a worker answers the entry of its own ticket, since it has a table of the entry's tenant
    answers_mine : (ticket : Ticket) → slice_get old.shown.decided step.3.replayed ≡ Some ticket → ticket.worker ≡ number →
        (it : Reply) × (reply_from number step.3.tables (entry_at old step.3.replayed) ≡ Some it)
    answers_mine ticket at mine =
        let entry = (sound_log laws settings tables old from).announced step.3.replayed ticket at in
        let known = entry.3 in
        let opening = there tables entry.0.tenant (omega (arith, known, has)) in
        let list = own entry.0.tenant (take step.3.replayed (log_of old)) in
        let found : slice_get step.3.tables entry.0.tenant ≡ Some (state_from opening.0 list) =
        (stands number step.3 step.4).1 entry.0.tenant ∙ ap (option_map (λ (it : TableState). state_from it list)) opening.1 in
        let here : entry_at old step.3.replayed ≡ Some entry.0 = ap (option_and_then (entry_under old)) at ∙ entry.1 in
        let own_ticket = eq-eqb entry.0.ticket.worker number (ap (λ (it : Ticket). it.worker) entry.2 ∙ mine) in (
          next_reply (state_from opening.0 list) entry.0.command,
          ap (reply_from number step.3.tables) here
              ∙ ap₂ (λ b known. if b then option_map (λ (it : TableState). next_reply it entry.0.command) known else None) own_ticket found,
        )

    given_here : (ticket : Ticket) → slice_get old.shown.decided step.3.replayed ≡ Some ticket → ticket.worker ≡ number →
        HasReply (given_by old (Replay number) reply) number step.3.replayed
    given_here ticket at mine = let told = answers_mine ticket at mine in (
      0,
      told.0,
      ap (λ found. slice_get (given_by old (Replay number) found) 0) (step.9 ∙ told.1)
          ∙ ap (λ (place : ℕ). let it : Given = (number, place, told.0) in Some it) (replayed_before old new number reply step),
    )

    replay_answered : (tickets : List Ticket) → BeginsWith tickets old.shown.decided → AreAnswered old new tickets (given_by old (Replay number) reply)
    replay_answered tickets begins other place ticket low upto at mine = ⊎_elim
        (λ (here : other ≡ number).
        let same : step.3.replayed ≡ place = omega (
          arith,
          low,
          upto,
          ap (replayed_by old) here,
          ap (replayed_by new) here,
          replayed_before old new number reply step,
          replayed_here old new number reply step,
        ) in
        let inside : step.3.replayed < length old.shown.decided = omega (arith, step.5, learned_inside laws settings tables old number step.0 from step.1) in
        let known = there old.shown.decided step.3.replayed inside in
        let stood : slice_get old.shown.decided step.3.replayed ≡ Some ticket = known.1
        ∙ sym (stands_on tickets old.shown.decided begins step.3.replayed known.0 known.1) ∙ ap (slice_get tickets) same ∙ at in
        subst (λ (it : ℕ × ℕ). HasReply (given_by old (Replay number) reply) it.0 it.1) (λ i. (sym here i, same i)) (given_here ticket stood (mine ∙ here)))
        (λ apart. absurd (omega (arith, low, upto, replayed_elsewhere old new number reply step other apart)))
        (cases_eq other number)

  event_answered : (old new : CoreState) (event : Event) (reply : Option Reply) (tickets : List Ticket) → IsOpened laws settings tables old → AllStand tables old →
      HasTables old → CoreStep old event new reply → BeginsWith tickets old.shown.decided → AreAnswered old new tickets (given_by old event reply)
  event_answered old new (Announce number tenant command) reply tickets from stands has step begins =
      none_answered old new tickets _ (ap (λ (core : CoreState). core.replays) step.2)
  event_answered old new (Read number) reply tickets from stands has step begins = none_answered old new tickets _ (ap (λ (core : CoreState). core.replays) step.1)
  event_answered old new (Look number) reply tickets from stands has step begins = none_answered old new tickets _ (ap (λ (core : CoreState). core.replays) step.1)
  event_answered old new (Propose number) reply tickets from stands has step begins = none_answered old new tickets _ (ap (λ (core : CoreState). core.replays) step.1)
  event_answered old new (Stop number) reply tickets from stands has step begins = none_answered old new tickets _ (ap (λ (core : CoreState). core.replays) step.1)
  event_answered old new (Replay number) reply tickets from stands has step begins = replay_answered old new number reply from stands has step tickets begins

  run_answered : (old new : CoreState) (events : List Event) (given : List Given) → IsOpened laws settings tables old → AllStand tables old → HasTables old →
      Runs old events new given → AreAnswered old new new.shown.decided given
  run_answered old new [] given from stands has runs = none_answered old new new.shown.decided given (ap (λ (core : CoreState). core.replays) runs.0)
  run_answered old new (event ∷ events) given from stands has runs =
      let grown = (stand_at_end laws settings tables old new (event ∷ events) given from stands runs).1 in
      let same = (grows old runs.0 event runs.1 (has_entries laws settings tables old from) runs.3).openings in
      subst (AreAnswered old new new.shown.decided) (sym runs.5)
      (both_answered old runs.0 new new.shown.decided (given_by old event runs.1) runs.2
      (event_answered old runs.0 event runs.1 new.shown.decided from stands has runs.3 grown.decided)
      (run_answered runs.0 new events runs.2 (opened_on laws settings tables old runs.0 event runs.1 from runs.3)
      (stand_after laws settings tables old runs.0 event runs.1 from stands runs.3)
      (subst (λ (limits : List Limits). length limits ≤ length tables) (sym same) has) runs.4))

  -- before any event nothing is replayed
  none_yet : (number : ℕ) → replayed_by (core_over settings tables) number ≡ 0
  none_yet number = by_found (slice_get (core_over settings tables).replays number) refl
    where
      by_found : (found : Option ReplayState) → slice_get (core_over settings tables).replays number ≡ found → count_in found ≡ 0
      by_found None at = refl
      by_found (Some replay) at = ap (λ (it : ReplayState). it.replayed) (sym (at_replicated settings.workers number _ replay at))

  pub own_are_answered : (events : List Event) (core : CoreState) (given : List Given) → Runs (core_over settings tables) events core given →
      length core.openings ≤ length tables → OwnAreAnswered core given
  own_are_answered events core given run has number place worker replay ticket holds below at mine =
      let first = all_stand_first laws settings tables in
      let openings = (stand_at_end laws settings tables (core_over settings tables) core events given (opened laws settings tables) first run).1.openings in
      let upto : replayed_by core number ≡ replay.replayed = ap (λ (found : Option ReplayState). count_in found) holds.1 in
      run_answered (core_over settings tables) core events given (opened laws settings tables) first
      (subst (λ (limits : List Limits). length limits ≤ length tables) openings has) run number place ticket
      (omega (arith, none_yet number)) (omega (arith, below, upto)) at mine
