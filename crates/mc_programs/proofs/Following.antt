-- How a log that is full is followed by the next one.
use Rattle.std.proofs.Common.{◌≡◌, ℕ, ◌+◌, ◌*◌, ◌≤◌, List, [], ◌∷◌, ◌++◌, length, Option, Some, slice_get, sym, refl, ap, ◌∙◌, subst, arith, append_assoc, length-append}
use Rattle.std.specs.Prelude.{option_map}
use Rattle.std.proofs.KnownBytes.{Consumes-trans}
use Rattle.std.proofs.Math.Nat.{add-mul, one-mul}
use Rattle.std.proofs.lemmas.Option.{same_Some}
use Rattle.lists.proofs.Public.{appended_twice}
use Rattle.mc_model.specs.declared.command.Command.{Command}
use Rattle.mc_model.specs.declared.fault.Fault.{Fault}
use Rattle.mc_model.specs.declared.request.Entry.{Entry}
use Rattle.mc_model.specs.declared.request.Request.{Request}
use Rattle.mc_model.specs.declared.request.Request.TheVariants.{Limit, Local, Logged, Quit, TooLong}
use Rattle.mc_model.specs.declared.settings.Limits.{Limits}
use Rattle.mc_model.specs.History.{state_after, state_from}
use Rattle.mc_model.specs.Log.{own}
use Rattle.mc_model.specs.Replay.{EachStands}
use Rattle.mc_model.specs.State.{TableState, empty_table}
use Rattle.model_lemmas.proofs.Histories.{state_from-more}
use Rattle.model_lemmas.proofs.Replays.{EachStands-length}
use Rattle.mc_conn.specs.Alone.{IsAloneOver, commands_of, first_mark, owed_after}
use Rattle.mc_conn.specs.declared.conn.Role.TheVariants.{Tenant}
use Rattle.mc_read.specs.Line.{asked}
use Rattle.mc_read.specs.Reading.{ReadsAs}
use Rattle.mc_conn.specs.Ending.{LogsInTime, PullsLate, Serves, Stops}
use Rattle.mc_conn.specs.Held.{Holding, HoldsOn, IsRead}
use Rattle.mc_conn.specs.Owed.{mark_of}
use Rattle.mc_conn.specs.Turn.{Scene, Takes, holding_of, queue_of}
use Rattle.mc_programs.specs.Generations.{LogsHaveServed}
use Rattle.mc_programs.specs.Serving.{Comes, FillsLast}
use Rattle.mc_programs.proofs.Served.{Begins, all_answered, all_places, alone_now, bytes_so_far, caught_up, over_is, reads_so_far, remembered, same_behind}
use Rattle.mc_stream.specs.Event.{moved, waits}
use Rattle.mc_stream.specs.Pushing.{Pushes}
use Rattle.mc_stream.specs.Stream.{Streams}
use Rattle.uc_cells.specs.Sighting.{entries}
use Rattle.uc_worker.specs.Going.{Continues}
use Rattle.uc_worker.specs.Worker.{HasReplayedAll, history_of, openings_of, tables_of}

pub commands-append : (first second : List Request) → commands_of (first ++ second) ≡ commands_of first ++ commands_of second
commands-append [] second = refl
commands-append (Logged command quiet ∷ first) second = ap (λ (list : List Command). command ∷ list) (commands-append first second)
commands-append (Limit name quotas quiet ∷ first) second = commands-append first second
commands-append (Local reply quiet ∷ first) second = commands-append first second
commands-append (Quit ∷ first) second = commands-append first second
commands-append (TooLong ∷ first) second = commands-append first second

-- the table that stands for a log of one tenant
pub tables_one : (openings tables : List TableState) (log : List (Option Entry)) (opening : TableState) → openings ≡ opening ∷ [] → EachStands openings log tables → tables ≡ state_from opening (own 0 log) ∷ []
tables_one openings tables log opening one stands = by_tables tables (EachStands-length openings log tables stands ∙ ap length one) (stands 0 ∙ ap (λ list. option_map (λ it. state_from it (own 0 log)) (slice_get list 0)) one)
  where
    by_tables : (some : List TableState) → length some ≡ 1 → slice_get some 0 ≡ Some (state_from opening (own 0 log)) → some ≡ state_from opening (own 0 log) ∷ []
    by_tables [] long at = absurd (omega (arith, long))
    by_tables (table ∷ []) long at = ap (λ it. it ∷ []) (same_Some table _ at)
    by_tables (table ∷ other ∷ more) long at = absurd (omega (arith, long))

-- the laws of a log whose commands are left to the next one
abbrev pub InTime : Type 0
InTime = (limits : Limits) (base : List Command) (places : ℕ) (before after : Scene) (takes : Takes before after) → IsAloneOver limits base places after.worker →
    before.conn.role ≡ Tenant 0 → mark_of before.worker ≡ first_mark → LogsInTime takes → (length (commands_of takes.taken.requests) ≤ places)
    × ((total : ℕ) → length base + places ≤ total → takes.taken.owed ≡ owed_after limits [] total base takes.taken.requests)

abbrev pub Full : Type 0
Full = (limits : Limits) (base : List Command) (places : ℕ) (before after : Scene) (takes : Takes before after) → IsAloneOver limits base places after.worker →
    before.conn.role ≡ Tenant 0 → mark_of before.worker ≡ first_mark → LogsInTime takes → HasReplayedAll after.worker →
    (own 0 (entries (history_of after.worker)) ≡ commands_of takes.taken.requests) × (length (commands_of takes.taken.requests) ≡ places)

-- a log whose commands are left to the next one
module _ (limits : Limits) (places logs : ℕ) (first : Streams) (start : Scene) (begins : Begins limits places logs first start) (after : Scene) (takes : Takes start after) where
  pub alone_on : IsAloneOver limits (commands_of begins.served.requests) places after.worker
  alone_on = alone_now limits places logs first start begins after.worker takes.taken.requests takes.taken.owed (mark_of after.worker) takes.taken.onward takes.taken.owes

  -- there was a place for each command
  pub few_taken : LogsInTime takes → InTime → length (commands_of (begins.served.requests ++ takes.taken.requests)) ≤ (logs + 1) * places
  few_taken in_time law =
      let here = (law limits (commands_of begins.served.requests) places start after takes alone_on begins.served.role begins.fresh.mark in_time).0 in
      let commands = ap length (commands-append begins.served.requests takes.taken.requests) in
      omega (arith, here, commands, length-append (commands_of begins.served.requests) (commands_of takes.taken.requests), begins.served.full, all_places limits places logs first start begins)

module _ (limits : Limits) (places logs : ℕ) (first : Streams) (start : Scene) (begins : Begins limits places logs first start) (after : Scene) (takes : Takes start after)
    (in_time : LogsInTime takes) (done : HasReplayedAll after.worker) (in_time_law : InTime) (full_law : Full) (late : PullsLate start after) where
  abbrev earlier : LogsHaveServed limits places logs first start.conn start.streams
  earlier = begins.served

  alone_after : IsAloneOver limits (commands_of earlier.requests) places after.worker
  alone_after = alone_on limits places logs first start begins after takes

  owed_here : (total : ℕ) → length (commands_of earlier.requests) + places ≤ total → takes.taken.owed ≡ owed_after limits [] total (commands_of earlier.requests) takes.taken.requests
  owed_here = (in_time_law limits (commands_of earlier.requests) places start after takes alone_after earlier.role begins.fresh.mark in_time).1

  is_full : (own 0 (entries (history_of after.worker)) ≡ commands_of takes.taken.requests) × (length (commands_of takes.taken.requests) ≡ places)
  is_full = full_law limits (commands_of earlier.requests) places start after takes alone_after earlier.role begins.fresh.mark in_time done

  one_log_more : (logs + 1) * places ≡ logs * places + places
  one_log_more = add-mul logs 1 places ∙ ap (λ n. logs * places + n) (one-mul places)

  pub served_more : LogsHaveServed limits places (logs + 1) first after.conn after.streams
  served_more = record {
    came = earlier.came ++ takes.taken.came;
    requests = earlier.requests ++ takes.taken.requests;
    owes = earlier.owes ++ takes.taken.owed;
    sent = earlier.sent ++ takes.taken.sent;
    role = takes.taken.role ∙ earlier.role;
    going = takes.shut ∙ earlier.going;
    pulled = appended_twice _ _ _ earlier.came takes.taken.came earlier.pulled takes.taken.pulled;
    consumed = Consumes-trans _ _ _ _ _ earlier.consumed takes.taken.consumed;
    pushed = appended_twice _ _ _ earlier.sent takes.taken.sent earlier.pushed takes.taken.pushed;
    waited = omega (arith, earlier.waited, takes.taken.waited);
    unfailed = (takes.unfailed.0 ∙ earlier.unfailed.0, takes.unfailed.1 ∙ earlier.unfailed.1);
    read = reads_so_far limits places logs first start begins takes.taken.came takes.taken.requests (holding_of after.conn) takes.reads;
    end = λ ended. remembered start.conn.has_ended after.conn.has_ended start.streams.input after.streams.input earlier.end ended takes.end;
    over = over_is limits places logs first start begins after.conn.is_over takes.taken.requests takes.over;
    answers = all_answered limits places logs first start begins after.worker takes.taken.requests takes.taken.owed (mark_of after.worker) takes.taken.onward takes.taken.owes;
    full =
        ap length (commands-append earlier.requests takes.taken.requests)
        ∙ omega (arith, length-append (commands_of earlier.requests) (commands_of takes.taken.requests), earlier.full, is_full.1, one_log_more);
    bytes = bytes_so_far limits places logs first start begins takes.taken.sent (queue_of after.conn) takes.taken.owed takes.taken.bytes;
    is_owed = λ total enough.
        let before = earlier.is_owed total (omega (arith, enough, one_log_more)) in
        let here = owed_here total (omega (arith, enough, one_log_more, earlier.full)) in
        (λ i. before i ++ here i) ∙ sym (begins.through limits total [] earlier.requests takes.taken.requests (omega (arith, enough, one_log_more, earlier.full)));
    late = λ never most some enough.
        caught_up limits places logs first start begins after takes.taken.came takes.taken.sent takes.taken.pulled takes.taken.pushed takes.taken.waited never late most some enough;
  }

  pub requests_more : served_more.requests ≡ earlier.requests ++ takes.taken.requests
  unfolding served_more
  requests_more = refl

  -- it is full of the last of the requests that were taken by then, of all that came in the end
  pub filled : (last : Streams) (comes : Comes first last) (later : List ℕ) → moved last.input.events ≡ moved after.streams.input.events ++ later →
      EachStands (openings_of after.worker) (entries (history_of after.worker)) (tables_of after.worker) → FillsLast limits places (logs + 1) comes.requests after.worker
  unfolding served_more
  filled last comes later pulled stands =
      let bytes : comes.bytes ≡ served_more.came ++ later =
      same_behind (moved first.input.events) comes.bytes (served_more.came ++ later)
      (sym comes.came
      ∙ (pulled ∙ (ap (λ known. known ++ later) served_more.pulled ∙ append_assoc (moved first.input.events) served_more.came later)))
      in
      let follows = (served_more.read later comes.requests).0 (subst (λ known. ReadsAs asked known comes.requests) bytes (comes.rest, comes.reads)) in
      record {
        earlier = earlier.requests;
        last = takes.taken.requests;
        others = follows.0;
        split = follows.1;
        alone = alone_after;
        replayed = is_full.0;
        stands = stands;
        long = is_full.1;
        full = served_more.full;
      }

  pub tables_more : (tables : List TableState) → EachStands (openings_of after.worker) (entries (history_of after.worker)) tables →
      tables ≡ state_after limits (commands_of served_more.requests) ∷ []
  unfolding served_more
  tables_more tables stands =
      tables_one (openings_of after.worker) tables (entries (history_of after.worker)) (state_after limits (commands_of earlier.requests)) alone_after.openings stands
      ∙ ap (λ state. state ∷ [])
      (ap (λ list. state_from (state_after limits (commands_of earlier.requests)) list) is_full.0
      ∙ (sym (state_from-more (empty_table limits) (commands_of earlier.requests) (commands_of takes.taken.requests))
      ∙ ap (λ list. state_after limits list) (sym (commands-append earlier.requests takes.taken.requests))))

pub read_refl : (a : Holding) → IsRead a [] [] a
read_refl a more all = (λ reads. (all, refl, reads), λ (others, same, reads). subst (HoldsOn a more) (sym same) reads)

-- the laws of turns, one after another
abbrev pub TakesThrough : Type 0
TakesThrough = (a b c : Scene) → Takes a b → Takes b c → Takes a c

abbrev pub StopsThrough : Type 0
StopsThrough = (fault : Fault) (a b c : Scene) → Takes a b → Stops b c fault → Stops a c fault

abbrev pub LateThrough : Type 0
LateThrough = (a b c : Scene) → Takes a b → PullsLate a b → PullsLate b c → Continues b.worker c.worker → (more : List ℕ) → Pushes b.streams.output c.streams.output more →
    waits b.streams.output.events ≤ waits c.streams.output.events → PullsLate a c

abbrev pub StopsSend : Type 0
StopsSend = (fault : Fault) (a b : Scene) → Stops a b fault → (more : List ℕ) × Pushes a.streams.output b.streams.output more × (waits a.streams.output.events ≤ waits b.streams.output.events)

-- a full log that isn't followed by another serves on
module _ (start middle : Scene) (takes : Takes start middle) (late : PullsLate start middle) (through : TakesThrough) (late_through : LateThrough) where
  pub serves_on : (after : Scene) → Serves middle after → Serves start after
  serves_on after serves = record { takes = through start middle after takes serves.takes; done = serves.done }

  pub serves_on_late : (after : Scene) → Serves middle after → PullsLate middle after → PullsLate start after
  serves_on_late after serves more = late_through start middle after takes late more serves.takes.taken.onward serves.takes.taken.sent serves.takes.taken.pushed serves.takes.taken.waited

  pub stops_on : StopsThrough → (fault : Fault) (after : Scene) → Stops middle after fault → Stops start after fault
  stops_on stops fault after stopped = stops fault start middle after takes stopped

  pub stops_on_late : StopsSend → (fault : Fault) (after : Scene) → Stops middle after fault → PullsLate middle after → PullsLate start after
  stops_on_late sends fault after stopped more = let sent = sends fault middle after stopped in late_through start middle after takes late more stopped.breaks.taken.onward sent.0 sent.1 sent.2
