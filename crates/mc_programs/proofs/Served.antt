-- What a connection does with the one worker of a log, in bytes that came and bytes that went.
use Rattle.std.proofs.Common.{◌≡◌, ◌⊎◌, ℕ, ◌+◌, ◌*◌, ◌≤◌, ◌<◌, ◌||◌, Bool, true, false, List, [], ◌∷◌, ◌++◌, length, Some, slice_get, sym, refl, ap, ◌∙◌, subst, inl, inr, ⊎_elim, arith, append_assoc, append-nil, length-append}
use Rattle.std.specs.Bool.{MatchBool}
use Rattle.std.specs.Io.KnownBytes.{IsAtEnd}
use Rattle.std.proofs.KnownBytes.{Consumes-trans}
use Rattle.std.proofs.Math.Nat.{add-mul, one-mul}
use Rattle.std.proofs.lemmas.List.Folds.{list_any-append}
use Rattle.lists.proofs.Public.{appended_twice, joined}
use Rattle.mc_model.specs.declared.command.Command.{Command}
use Rattle.std.specs.List.{list_any}
use Rattle.mc_model.specs.declared.fault.Fault.{Fault}
use Rattle.mc_model.specs.declared.fault.Fault.TheVariants.{Memory, BadSettings}
use Rattle.mc_model.specs.declared.reply.Reply.TheVariants.{Refused}
use Rattle.mc_model.specs.declared.reply.TheConstants.WireNo.{OUT_OF_MEMORY}
use Rattle.mc_model.specs.declared.request.Request.{Request}
use Rattle.mc_model.specs.declared.settings.Limits.{Limits}
use Rattle.mc_model.specs.Settings.{Configuration, IsLawful}
use Rattle.mc_read.specs.Line.{asked}
use Rattle.mc_read.specs.Reading.{HasReading, ReadsAs, ends_stream}
use Rattle.mc_read.specs.Text.{IsRequestText}
use Rattle.mc_conn.specs.Alone.{IsAloneOver, commands_of, first_mark, owed_after}
use Rattle.mc_conn.specs.ConnFault.{CellTaken, ConnFault, CountsFailures, InputFailed, IsTold, OutOfMemory, OutputFailed}
use Rattle.mc_conn.specs.Ending.{Breaks, PullsAfter, PullsLate, Serves as ServesAll, Stops as StopsSo}
use Rattle.mc_conn.specs.Held.{Holding, HoldsNone, HoldsOn, IsRead, nothing_held}
use Rattle.uc_worker.specs.Going.{Continues}
use Rattle.mc_conn.specs.declared.conn.Role.TheVariants.{Tenant}
use Rattle.mc_conn.specs.Owed.{Mark, Owes, mark_of}
use Rattle.mc_conn.specs.Turn.{NeitherFails, Scene, holding_of, queue_of, scene}
use Rattle.mc_programs.proofs.Owings.{owed-more}
use Rattle.mc_programs.specs.Generations.{LogsHaveServed, IsFreshOver}
use Rattle.mc_programs.specs.Serving.{AnswersRequests, Comes, EndsBy, IsCaughtUp, NeverWaits, ServesClient, ServesInPart, ServesOn, ServesUntilStarved, StopsByLogs, StopsService, owed_by_logs, then_log, settings_alone}
use Rattle.mc_stream.specs.Event.{Event, Moves, Waits, Ends, Fails, ends, failures, has_ended, last_moved, moved, waits}
use Rattle.mc_stream.specs.Pushing.{IsAllOrStopped, Pushes, PushesAtOnce}
use Rattle.stream_lemmas.proofs.Pushed.{same_stop}
use Rattle.mc_stream.specs.Stream.{Inflow, Outflow, Streams, both}
use Rattle.mc_write.specs.Text.{text}
use Rattle.uc_worker.specs.declared.worker.Worker.{Worker}
use Rattle.uc_log.specs.declared.log.Log.{Log}
use Rattle.uc_log.specs.declared.pass.Pass.{Pass}
use Rattle.uc_log.specs.Passes.{IsNew}
use Rattle.mc_programs.specs.Opening.{IsOpened, RefusesToOpen}

-- a list's prefix taken off both sides
pub same_behind : {X : Type 0} (front one two : List X) → front ++ one ≡ front ++ two → one ≡ two
same_behind [] one two same = same
same_behind (x ∷ front) one two same = same_behind front one two (ap rest_of same)
  where
    rest_of : {Y : Type 0} → List Y → List Y
    rest_of [] = []
    rest_of (y ∷ list) = list

pub nothing_in : {X : Type 0} (list : List X) → length list ≡ 0 → list ≡ []
nothing_in [] none = refl
nothing_in (x ∷ list) none = absurd (omega (arith, none))

-- if each of two lists is the other followed by more, nothing more follows
both_ways : {X : Type 0} (one two more rest : List X) → one ≡ two ++ more → two ≡ one ++ rest → two ≡ one
both_ways one two more rest first second =
    second ∙ (ap (λ list. one ++ list) (nothing_in rest (omega (arith, ap length first, ap length second, length-append two more, length-append one rest))) ∙ append-nil one)

-- no text is empty, so nothing reads as nothing
no_text_empty : (text more : List ℕ) (request : Request) → IsRequestText asked text request → [] ≡ text ++ more → ⊥
no_text_empty text more request is empty =
    ⊎_elim
    (λ line. omega (arith, ap length empty, length-append text more, ap length line.in_text, length-append line.line (10 ∷ line.body)))
    (λ long. omega (arith, ap length empty, length-append text more, long.long))
    is

pub reads_nothing : ReadsAs asked [] []
reads_nothing = ([], (refl, no_text_empty))

-- the laws that what becomes of a client's logs follows from
abbrev pub OwesLast : Type 0
OwesLast = (limits : Limits) (base : List Command) (places : ℕ) (worker : Worker) (requests : List Request) (bytes : List ℕ) (to : Mark) →
    IsAloneOver limits base places worker → Owes worker (Tenant 0) first_mark requests bytes to → bytes ≡ owed_after limits [] (length base + places) base requests

abbrev pub OwesThrough : Type 0
OwesThrough = (limits : Limits) (total : ℕ) (applied : List Command) (first second : List Request) → length applied + length (commands_of first) ≤ total →
    owed_after limits [] total applied (first ++ second) ≡ owed_after limits [] total applied first ++ owed_after limits [] total (applied ++ commands_of first) second

abbrev pub ReadsThrough : Type 0
ReadsThrough = (a b c : Holding) (came later : List ℕ) (first second : List Request) → IsRead a came first b → IsRead b later second c → IsRead a (came ++ later) (first ++ second) c

-- what earlier logs did, and the one worker of the next log, with which nothing was done
pub record Begins (limits : Limits) (places logs : ℕ) (first : Streams) (start : Scene) : Type 0 where
  pub served : LogsHaveServed limits places logs first start.conn start.streams
  pub fresh : IsFreshOver limits places served.requests start.worker
  pub reading : (bytes : List ℕ) → HasReading asked bytes
  pub last : OwesLast
  pub through : OwesThrough
  pub reads : ReadsThrough

-- all that came was read
reads_all : (came : List ℕ) (requests : List Request) (after : Holding) → IsRead (nothing_held (Tenant 0)) came requests after → HoldsNone after → ReadsAs asked came requests
reads_all came requests after read none =
    let reads : ReadsAs asked (came ++ []) (requests ++ []) = (read [] (requests ++ [])).1 ([], refl, nothing) in
    subst (λ bytes. ReadsAs asked bytes requests) (append-nil came) (subst (ReadsAs asked (came ++ [])) (append-nil requests) reads)
  where
    nothing : HoldsOn after [] []
    nothing = subst (λ waiting. HoldsOn (record { lines = after.lines; waiting = waiting; held = after.held }) [] []) (sym none.0) ((none.1 []).1 refl)

-- how often the output failed while the client was told
pub told_counts : (unsent : List ℕ) (before now : Outflow) → IsAllOrStopped unsent before now → (failures before.events ≤ failures now.events) × (failures now.events ≤ failures before.events + 1)
told_counts unsent before now stopped =
    ⊎_elim
    (λ all. (omega (arith, all.1), omega (arith, all.1)))
    (λ short. ⊎_elim (λ full. (omega (arith, full.1), omega (arith, full.1))) (λ failed. (omega (arith, failed), omega (arith, failed))) short)
    stopped

-- one fault after states in which nothing failed
counts_later : (cause : ConnFault) (first second third : Streams) → NeitherFails first second → CountsFailures cause second third → CountsFailures cause first third
counts_later OutOfMemory first second third one two = (two.0 ∙ one.0, two.1 ∙ one.1)
counts_later CellTaken first second third one two = (two.0 ∙ one.0, two.1 ∙ one.1)
counts_later InputFailed first second third one two = (two.0 ∙ ap (λ n. n + 1) one.0, two.1 ∙ one.1)
counts_later OutputFailed first second third one two = (two.0 ∙ one.0, two.1 ∙ ap (λ n. n + 1) one.1)

moved_last : (event : Event) (earlier : List Event) → moved (event ∷ earlier) ≡ moved earlier ++ last_moved (event ∷ earlier)
moved_last (Moves bytes) earlier = refl
moved_last Waits earlier = sym (append-nil (moved earlier))
moved_last Ends earlier = sym (append-nil (moved earlier))
moved_last Fails earlier = sym (append-nil (moved earlier))

pub remembered : (start_ended ended : Bool) (before after : Inflow) → (start_ended ≡ true → (has_ended before.events ≡ true) × IsAtEnd before.left) → ended ≡ true →
    MatchBool ended ((start_ended ≡ true) × (after ≡ before) ⊎ (has_ended after.events ≡ true) × IsAtEnd after.left) ((start_ended ≡ false) × (ends after.events ≡ ends before.events)) →
    (has_ended after.events ≡ true) × IsAtEnd after.left
remembered start_ended true before after earlier is end =
    ⊎_elim
    (λ (same : (start_ended ≡ true) × (after ≡ before)). subst (λ (input : Inflow). (has_ended input.events ≡ true) × IsAtEnd input.left) (sym same.1) (earlier same.0))
    (λ now. now) end
remembered start_ended false before after earlier is end = let no : false ≡ true = is in cc

module _ (limits : Limits) (places logs : ℕ) (first : Streams) (start : Scene) (begins : Begins limits places logs first start) where
  abbrev so_far : LogsHaveServed limits places logs first start.conn start.streams
  so_far = begins.served

  pub all_places : (logs + 1) * places ≡ logs * places + places
  all_places = add-mul logs 1 places ∙ ap (λ n. logs * places + n) (one-mul places)

  -- what is owed by all logs for what the earlier ones and this one took
  module _ (worker : Worker) (requests : List Request) (bytes : List ℕ) (mark : Mark) (on : Continues start.worker worker)
      (owes : Owes worker start.conn.role (mark_of start.worker) requests bytes mark) where
    pub alone_now : IsAloneOver limits (commands_of so_far.requests) places worker
    alone_now = record {
      workers = ap (λ size. size.workers) on.same.0 ∙ begins.fresh.alone.workers;
      long = ap (λ size. size.places) on.same.0 ∙ begins.fresh.alone.long;
      openings = on.openings ∙ begins.fresh.alone.openings;
    }

    owes_here : Owes worker (Tenant 0) first_mark requests bytes mark
    owes_here =
        subst (λ from. Owes worker (Tenant 0) from requests bytes mark) begins.fresh.mark (subst (λ role. Owes worker role (mark_of start.worker) requests bytes mark) so_far.role owes)

    pub all_owed : so_far.owes ++ bytes ≡ owed_by_logs limits places (logs + 1) (so_far.requests ++ requests)
    all_owed =
        let total : length (commands_of so_far.requests) + places ≡ (logs + 1) * places = omega (arith, so_far.full, all_places) in
        let earlier = so_far.is_owed ((logs + 1) * places) (omega (arith, all_places)) in
        let here : bytes ≡ owed_after limits [] ((logs + 1) * places) (commands_of so_far.requests) requests =
        begins.last limits (commands_of so_far.requests) places worker requests bytes mark alone_now owes_here
        ∙ ap (λ n. owed_after limits [] n (commands_of so_far.requests) requests) total
        in
        let both = begins.through limits ((logs + 1) * places) [] so_far.requests requests (omega (arith, so_far.full, all_places)) in
        (λ i. earlier i ++ here i) ∙ sym both

    pub all_answered : AnswersRequests limits places (logs + 1) (so_far.requests ++ requests) (so_far.owes ++ bytes)
    all_answered = then_log logs so_far.requests requests so_far.owes bytes worker mark so_far.answers alone_now owes_here

    pub all_answers : AnswersRequests limits places (logs + 1) (so_far.requests ++ requests) (owed_by_logs limits places (logs + 1) (so_far.requests ++ requests))
    all_answers = subst (AnswersRequests limits places (logs + 1) (so_far.requests ++ requests)) all_owed all_answered

  -- what was sent and is queued
  pub bytes_so_far : (sent queue owes : List ℕ) → sent ++ queue ≡ queue_of start.conn ++ owes → (so_far.sent ++ sent) ++ queue ≡ so_far.owes ++ owes
  bytes_so_far sent queue owes bytes = joined so_far.sent sent [] (queue_of start.conn) queue so_far.owes owes so_far.bytes bytes

  -- a request that ends the stream was taken exactly where that is remembered
  pub over_is : (over : Bool) (requests : List Request) → over ≡ (start.conn.is_over || list_any ends_stream requests) → over ≡ list_any ends_stream (so_far.requests ++ requests)
  over_is over requests is = is ∙ (ap (λ begun. begun || list_any ends_stream requests) so_far.over ∙ sym (list_any-append ends_stream so_far.requests requests))

  pub reads_so_far : (came : List ℕ) (requests : List Request) (after : Holding) → IsRead (holding_of start.conn) came requests after →
      IsRead (nothing_held (Tenant 0)) (so_far.came ++ came) (so_far.requests ++ requests) after
  reads_so_far came requests after read = begins.reads (nothing_held (Tenant 0)) (holding_of start.conn) after so_far.came came so_far.requests requests so_far.read read

  pub serves : (after : Scene) → ServesAll start after → ServesClient limits places (logs + 1) first after.streams
  serves after all =
      let takes = all.takes in
      let whole = reads_all (so_far.came ++ takes.taken.came) (so_far.requests ++ takes.taken.requests) (holding_of after.conn)
      (reads_so_far takes.taken.came takes.taken.requests (holding_of after.conn) takes.reads) all.done.1
      in
      let bytes = bytes_so_far takes.taken.sent (queue_of after.conn) takes.taken.owed takes.taken.bytes in
      let sent : so_far.sent ++ takes.taken.sent ≡ owed_by_logs limits places (logs + 1) (so_far.requests ++ takes.taken.requests) =
      sym (append-nil (so_far.sent ++ takes.taken.sent))
      ∙ (ap (λ queue. (so_far.sent ++ takes.taken.sent) ++ queue) (sym all.done.2)
      ∙ (bytes ∙ all_owed after.worker takes.taken.requests takes.taken.owed (mark_of after.worker) takes.taken.onward takes.taken.owes))
      in
      record {
        comes = record {
          bytes = so_far.came ++ takes.taken.came;
          requests = so_far.requests ++ takes.taken.requests;
          rest = whole.0;
          came = appended_twice _ _ _ so_far.came takes.taken.came so_far.pulled takes.taken.pulled;
          consumed = Consumes-trans _ _ _ _ _ so_far.consumed takes.taken.consumed;
          reads = whole.1;
        };
        answers = all_answers after.worker takes.taken.requests takes.taken.owed (mark_of after.worker) takes.taken.onward takes.taken.owes;
        went = subst (Pushes first.output after.streams.output) sent (appended_twice _ _ _ so_far.sent takes.taken.sent so_far.pushed takes.taken.pushed);
        end = ⊎_elim
            (λ (ended : after.conn.has_ended ≡ true). inl (remembered start.conn.has_ended after.conn.has_ended start.streams.input after.streams.input so_far.end ended takes.end))
            (λ (over : after.conn.is_over ≡ true). inr (sym (over_is after.conn.is_over takes.taken.requests takes.over) ∙ over))
            all.done.0;
        unfailed = (takes.unfailed.0 ∙ so_far.unfailed.0, takes.unfailed.1 ∙ so_far.unfailed.1);
      }

  pub serves_with : (after : Scene) (all : ServesAll start after) → (serves : ServesClient limits places (logs + 1) first after.streams) × (serves.comes.requests ≡ so_far.requests ++ all.takes.taken.requests)
  unfolding serves
  serves_with after all = (serves after all, refl)

  -- what came before the last pull
  module _ (after : Scene) (came sent : List ℕ) (pulled : moved after.streams.input.events ≡ moved start.streams.input.events ++ came)
      (pushed : Pushes start.streams.output after.streams.output sent) (waited : waits start.streams.output.events ≤ waits after.streams.output.events)
      (never : NeverWaits first after.streams) where
    -- nothing was pulled
    unpulled : after.streams.input ≡ start.streams.input → came ≡ []
    unpulled same =
        sym (same_behind (moved start.streams.input.events) [] came (append-nil (moved start.streams.input.events) ∙ (sym (ap (λ (input : Inflow). moved input.events) same) ∙ pulled)))

    module _ (between : Scene) (last : PullsAfter start between after) where
      -- as the output never waited, all that is owed for what came before was sent
      first_sent : (queue_of between.conn ≡ []) × (between.conn.is_over ≡ false)
      first_sent =
          ⊎_elim (λ (all : (queue_of between.conn ≡ []) × (between.conn.is_over ≡ false)). all)
          (λ (full : waits start.streams.output.events < waits between.streams.output.events). absurd (omega (arith, full, last.waited, never, so_far.waited))) last.sent

      first_reads : ReadsAs asked (so_far.came ++ last.first.taken.came) (so_far.requests ++ last.first.taken.requests)
      first_reads =
          reads_all (so_far.came ++ last.first.taken.came) (so_far.requests ++ last.first.taken.requests) (holding_of between.conn)
          (reads_so_far last.first.taken.came last.first.taken.requests (holding_of between.conn) last.first.reads) last.taken

      first_owed : so_far.sent ++ last.first.taken.sent ≡ owed_by_logs limits places (logs + 1) (so_far.requests ++ last.first.taken.requests)
      first_owed =
          sym (append-nil (so_far.sent ++ last.first.taken.sent))
          ∙ (ap (λ queue. (so_far.sent ++ last.first.taken.sent) ++ queue) (sym first_sent.0)
          ∙ (bytes_so_far last.first.taken.sent (queue_of between.conn) last.first.taken.owed last.first.taken.bytes
          ∙ all_owed between.worker last.first.taken.requests last.first.taken.owed (mark_of between.worker) last.first.taken.onward last.first.taken.owes))

      came_is : came ≡ last.first.taken.came ++ last_moved after.streams.input.events
      came_is =
          let events : moved after.streams.input.events ≡ moved between.streams.input.events ++ last_moved after.streams.input.events =
          subst (λ events. moved events ≡ moved between.streams.input.events ++ last_moved events) (sym last.pull) (moved_last last.event between.streams.input.events)
          in
          same_behind (moved start.streams.input.events) came (last.first.taken.came ++ last_moved after.streams.input.events)
          (sym pulled
          ∙ (events
          ∙ (ap (λ known. known ++ last_moved after.streams.input.events) last.first.taken.pulled ∙ append_assoc (moved start.streams.input.events) last.first.taken.came (last_moved after.streams.input.events))))

      sent_is : sent ≡ last.first.taken.sent ++ last.later
      sent_is =
          same_behind (moved start.streams.output.events) sent (last.first.taken.sent ++ last.later)
          (sym pushed
          ∙ (last.pushed ∙ (ap (λ known. known ++ last.later) last.first.taken.pushed ∙ append_assoc (moved start.streams.output.events) last.first.taken.sent last.later)))

      pub sent_on : so_far.sent ++ sent ≡ owed_by_logs limits places (logs + 1) (so_far.requests ++ last.first.taken.requests) ++ last.later
      sent_on =
          ap (λ bytes. so_far.sent ++ bytes) sent_is
          ∙ (sym (append_assoc so_far.sent last.first.taken.sent last.later) ∙ ap (λ bytes. bytes ++ last.later) first_owed)

    pub caught_up : PullsLate start after → (most : ℕ) → 1 ≤ most → logs + 1 ≤ most → IsCaughtUp limits places most (so_far.came ++ came) (last_moved after.streams.input.events) (so_far.sent ++ sent)
    caught_up late most some enough =
        ⊎_elim
        (λ (same : after.streams.input ≡ start.streams.input).
        let before = so_far.late (omega (arith, never, so_far.waited, waited)) most some (omega (arith, enough)) in
        let none : so_far.came ++ came ≡ so_far.came = ap (λ bytes. so_far.came ++ bytes) (unpulled same) ∙ append-nil so_far.came in
        record {
          logs = before.logs;
          few = before.few;
          earlier = before.earlier;
          piece = before.piece;
          requests = before.requests;
          later = before.later ++ sent;
          is_bytes = none ∙ before.is_bytes;
          is_last = ⊎_elim (λ nothing. inl (none ∙ nothing)) (λ piece. inr (piece ∙ sym (ap (λ (input : Inflow). last_moved input.events) same))) before.is_last;
          is_short = before.is_short;
          reads = before.reads;
          is_sent = ap (λ bytes. bytes ++ sent) before.is_sent ∙ append_assoc (owed_by_logs limits places before.logs before.requests) before.later sent;
        })
        (λ (pull : (between : Scene) × PullsAfter start between after). record {
          logs = logs + 1;
          few = (omega arith, enough);
          earlier = so_far.came ++ pull.1.first.taken.came;
          piece = last_moved after.streams.input.events;
          requests = so_far.requests ++ pull.1.first.taken.requests;
          later = pull.1.later;
          is_bytes = ap (λ bytes. so_far.came ++ bytes) (came_is pull.0 pull.1) ∙ sym (append_assoc so_far.came pull.1.first.taken.came (last_moved after.streams.input.events));
          is_last = inr refl;
          is_short = pull.1.short;
          reads = first_reads pull.0 pull.1;
          is_sent = sent_on pull.0 pull.1;
        })
        late

  -- the first requests that came were answered
  module _ (fault : Fault) (after : Scene) (breaks : Breaks start after fault) where
    abbrev taken_by_all : List Request
    taken_by_all = so_far.requests ++ breaks.taken.requests

    -- what all that came reads as
    all_read : (requests : List Request) × ReadsAs asked (so_far.came ++ breaks.taken.came) requests
    all_read = let reading = begins.reading (so_far.came ++ breaks.taken.came) in (reading.0, (reading.1, reading.2))

    splits : (requests : List Request) → ReadsAs asked (so_far.came ++ breaks.taken.came) requests → (others : List Request) × (requests ≡ taken_by_all ++ others)
    splits requests reads =
        let later = (so_far.read breaks.taken.came requests).0 reads in
        let holds : HoldsOn (holding_of start.conn) (breaks.taken.came ++ []) later.0 =
        subst (λ bytes. HoldsOn (holding_of start.conn) bytes later.0) (sym (append-nil breaks.taken.came)) later.2
        in
        let follows = breaks.reads [] later.0 holds in (
          breaks.met ++ follows.0,
          later.1 ∙ (ap (λ list. so_far.requests ++ list) follows.1 ∙ sym (append_assoc so_far.requests breaks.taken.requests (breaks.met ++ follows.0))),
        )

    all_comes : (output : Outflow) → Comes first (both after.streams.input output)
    all_comes output = record {
      bytes = so_far.came ++ breaks.taken.came;
      requests = all_read.0;
      rest = all_read.1.0;
      came = appended_twice _ _ _ so_far.came breaks.taken.came so_far.pulled breaks.taken.pulled;
      consumed = Consumes-trans _ _ _ _ _ so_far.consumed breaks.taken.consumed;
      reads = all_read.1.1;
    }

    owed_is : (so_far.sent ++ breaks.taken.sent) ++ queue_of after.conn ≡ owed_by_logs limits places (logs + 1) taken_by_all
    owed_is =
        bytes_so_far breaks.taken.sent (queue_of after.conn) breaks.taken.owed breaks.taken.bytes
        ∙ all_owed after.worker breaks.taken.requests breaks.taken.owed breaks.to breaks.taken.onward breaks.taken.owes

    -- the report that follows was pushed in part
    in_part : (output : Outflow) (told sent unsent : List ℕ) → owed_by_logs limits places (logs + 1) taken_by_all ++ told ≡ (so_far.sent ++ sent) ++ unsent → Pushes start.streams.output output sent →
        waits start.streams.output.events ≤ waits output.events → PullsLate start (scene after.conn after.worker (both after.streams.input output)) →
        (part : ServesInPart limits places (logs + 1) first (both after.streams.input output) told) × (part.unsent ≡ unsent)
    unfolding all_comes
    in_part output told sent unsent owes went waited late = (
      record {
        comes = all_comes output;
        answered = taken_by_all;
        others = (splits all_read.0 all_read.1).0;
        split = (splits all_read.0 all_read.1).1;
        answers = all_answers after.worker breaks.taken.requests breaks.taken.owed breaks.to breaks.taken.onward breaks.taken.owes;
        sent = so_far.sent ++ sent;
        unsent = unsent;
        owes = owes;
        went = appended_twice _ _ _ so_far.sent sent so_far.pushed went;
        caught_up = λ never.
            caught_up (scene after.conn after.worker (both after.streams.input output)) breaks.taken.came sent breaks.taken.pulled went waited never late (logs + 1) (omega arith) (omega arith);
      },
      refl,
    )

    pub untold : PullsLate start after → ServesInPart limits places (logs + 1) first after.streams []
    untold late =
        (in_part after.streams.output [] breaks.taken.sent (queue_of after.conn) (append-nil (owed_by_logs limits places (logs + 1) taken_by_all) ∙ sym owed_is) breaks.taken.pushed
        breaks.taken.waited late).0

  -- memory ran out, and that is reported afterwards
  starved : (fault : Fault) (after : Scene) (output : Outflow) → Breaks start after fault → NeitherFails first after.streams →
      PushesAtOnce (queue_of after.conn ++ text (Refused OUT_OF_MEMORY)) after.streams.output output → waits after.streams.output.events ≤ waits output.events →
      PullsLate start (scene after.conn after.worker (both after.streams.input output)) → ServesUntilStarved limits places (logs + 1) first (both after.streams.input output)
  starved fault after output breaks unfailed told waited late =
      let sent = so_far.sent ++ breaks.taken.sent in
      let owes : owed_by_logs limits places (logs + 1) (taken_by_all fault after breaks) ++ text (Refused OUT_OF_MEMORY) ≡ (so_far.sent ++ (breaks.taken.sent ++ told.1.front)) ++ told.0 =
      ap (λ bytes. bytes ++ text (Refused OUT_OF_MEMORY)) (sym (owed_is fault after breaks))
      ∙ (append_assoc sent (queue_of after.conn) (text (Refused OUT_OF_MEMORY))
      ∙ (ap (λ bytes. sent ++ bytes) told.1.split
      ∙ (sym (append_assoc sent told.1.front told.0) ∙ ap (λ bytes. bytes ++ told.0) (append_assoc so_far.sent breaks.taken.sent told.1.front))))
      in
      let went = told.1.went ∙ (ap (λ known. known ++ told.1.front) breaks.taken.pushed ∙ append_assoc (moved start.streams.output.events) breaks.taken.sent told.1.front) in
      let part = in_part fault after breaks output (text (Refused OUT_OF_MEMORY)) (breaks.taken.sent ++ told.1.front) told.0 owes went (omega (arith, breaks.taken.waited, waited)) late in
      inl (part.0, subst (λ unsent. IsAllOrStopped unsent first.output output) (sym part.1) (same_stop told.0 first.output after.streams.output output unfailed.1 (omega (arith, so_far.waited, breaks.taken.waited)) told.2))

  -- the input failed, and the output never waited
  failed_last : (event : Event) (earlier : List Event) (n : ℕ) → failures (event ∷ earlier) ≡ n + 1 → failures earlier ≡ n → last_moved (event ∷ earlier) ≡ []
  failed_last (Moves bytes) earlier n more same = absurd (omega (arith, more, same))
  failed_last Waits earlier n more same = refl
  failed_last Ends earlier n more same = refl
  failed_last Fails earlier n more same = refl

  promptly : (fault : Fault) (after : Scene) (breaks : Breaks start after fault) → failures after.streams.input.events ≡ failures start.streams.input.events + 1 → PullsLate start after → NeverWaits first after.streams → ServesOn limits places (logs + 1) first after.streams
  promptly fault after breaks counts late never =
      ⊎_elim
      (λ (same : after.streams.input ≡ start.streams.input). let still = ap (λ (input : Inflow). failures input.events) same in absurd (omega (arith, still, counts)))
      (λ (pull : (between : Scene) × PullsAfter start between after).
      let last = pull.1 in
      let taken = breaks.taken in
      let all_first = so_far.requests ++ last.first.taken.requests in
      let piece : last_moved after.streams.input.events ≡ [] =
      subst (λ events. last_moved events ≡ []) (sym last.pull)
      (failed_last last.event pull.0.streams.input.events (failures start.streams.input.events)
      (subst (λ events. failures events ≡ failures start.streams.input.events + 1) last.pull counts) last.first.unfailed.0)
      in
      let came : taken.came ≡ last.first.taken.came =
      came_is after taken.came taken.sent taken.pulled taken.pushed taken.waited never pull.0 last ∙ (ap (λ more. last.first.taken.came ++ more) piece ∙ append-nil last.first.taken.came)
      in
      let reads : ReadsAs asked (so_far.came ++ taken.came) all_first =
      subst (λ bytes. ReadsAs asked (so_far.came ++ bytes) all_first) (sym came) (first_reads after taken.came taken.sent taken.pulled taken.pushed taken.waited never pull.0 last)
      in
      let follows = splits fault after breaks all_first reads in
      let more = owed-more limits [] ((logs + 1) * places) [] (taken_by_all fault after breaks) follows.0 in
      let sent = so_far.sent ++ taken.sent in
      let owes : owed_by_logs limits places (logs + 1) all_first ≡ sent ++ (queue_of after.conn ++ more.0) =
      ap (λ requests. owed_by_logs limits places (logs + 1) requests) follows.1
      ∙ (more.1 ∙ (ap (λ bytes. bytes ++ more.0) (sym (owed_is fault after breaks)) ∙ append_assoc sent (queue_of after.conn) more.0))
      in
      let same =
      both_ways (owed_by_logs limits places (logs + 1) all_first) sent (queue_of after.conn ++ more.0) last.later owes
      (sent_on after taken.came taken.sent taken.pulled taken.pushed taken.waited never pull.0 last)
      in
      let going = (first_sent after taken.came taken.sent taken.pulled taken.pushed taken.waited never pull.0 last).1 in
      record {
        comes = record {
          bytes = so_far.came ++ taken.came;
          requests = all_first;
          rest = reads.0;
          came = appended_twice _ _ _ so_far.came taken.came so_far.pulled taken.pulled;
          consumed = Consumes-trans _ _ _ _ _ so_far.consumed taken.consumed;
          reads = reads.1;
        };
        went = subst (Pushes first.output after.streams.output) same (appended_twice _ _ _ so_far.sent taken.sent so_far.pushed taken.pushed);
        goes_on = sym (over_is pull.0.conn.is_over last.first.taken.requests last.first.over) ∙ going;
      })
      late

  -- what a fault leaves if nothing was told about it
  module _ (fault : Fault) (after : Scene) (told_from : Outflow) (breaks : Breaks start (scene after.conn after.worker (both after.streams.input told_from)) fault)
      (late : PullsLate start after) where
    abbrev before_told : Scene
    before_told = scene after.conn after.worker (both after.streams.input told_from)

    at_once : after.streams.output ≡ told_from → PullsLate start before_told
    at_once same = subst (λ output. PullsLate start (scene after.conn after.worker (both after.streams.input output))) same late

    silent : after.streams.output ≡ told_from → ServesInPart limits places (logs + 1) first after.streams []
    silent same =
        subst (λ output. ServesInPart limits places (logs + 1) first (both after.streams.input output) []) (sym same) (untold fault before_told breaks (at_once same))

    counts_silent : (cause : ConnFault) → after.streams.output ≡ told_from → CountsFailures cause start.streams before_told.streams → CountsFailures cause first after.streams
    counts_silent cause same counts =
        subst (λ output. CountsFailures cause first (both after.streams.input output)) (sym same) (counts_later cause first start.streams before_told.streams so_far.unfailed counts)

    ends_by : (cause : ConnFault) → CountsFailures cause start.streams before_told.streams → IsTold cause (queue_of after.conn) told_from after.streams.output →
        EndsBy limits places (logs + 1) cause first after.streams
    ends_by OutOfMemory counts told =
        let unfailed = counts_later OutOfMemory first start.streams before_told.streams so_far.unfailed counts in
        let failed = told_counts told.0.0 told_from after.streams.output told.0.2 in
        (starved fault before_told after.streams.output breaks unfailed told.0 told.1 late, unfailed.0, omega (arith, failed.0, unfailed.1), omega (arith, failed.1, unfailed.1))
    ends_by CellTaken counts told = (silent told, counts_silent CellTaken told counts)
    ends_by InputFailed counts told = (
      (
        silent told,
        λ never.
            let still = subst (λ output. NeverWaits first (both after.streams.input output)) told never in
            subst (λ output. ServesOn limits places (logs + 1) first (both after.streams.input output)) (sym told)
            (promptly fault before_told breaks counts.0 (at_once told) still),
      ),
      counts_silent InputFailed told counts,
    )
    ends_by OutputFailed counts told = (silent told, counts_silent OutputFailed told counts)

  pub stops : (fault : Fault) (after : Scene) → StopsSo start after fault → PullsLate start after → StopsByLogs limits places (logs + 1) first after.streams fault
  stops fault after stopped late = (
    stopped.breaks.cause,
    stopped.breaks.is,
    (logs + 1, (omega arith, omega arith), ends_by fault after stopped.told_from stopped.breaks late stopped.breaks.cause stopped.breaks.failures stopped.told),
  )

-- the pass of a log that was opened with one worker
pub opened_alone : (limits : Limits) (places : ℕ) (log : Log) (passes rest : List Pass) (pass : Pass) (settings : Configuration) (tenants none : List Limits) → passes ≡ rest ++ pass ∷ [] →
    length passes ≡ settings.workers → log.settings ≡ settings → settings ≡ record { workers = 1; places = places; tenants = tenants } → tenants ≡ none ++ limits ∷ [] → none ≡ [] →
    ((number : ℕ) (one : Pass) → slice_get passes number ≡ Some one → IsNew log number one) → IsOpened limits places log pass
opened_alone limits places log passes rest pass settings tenants none popped count same is filled empty new =
    let nothing : rest ≡ [] = nothing_in rest (omega (arith, ap length popped, length-append rest (pass ∷ []), count, ap (λ settings. settings.workers) is)) in
    let first : slice_get passes 0 ≡ Some pass = ap (λ list. slice_get list 0) (popped ∙ ap (λ list. list ++ pass ∷ []) nothing) in
    let one : tenants ≡ limits ∷ [] = filled ∙ ap (λ list. list ++ limits ∷ []) empty in
    (same ∙ (is ∙ ap (λ list. record { workers = 1; places = places; tenants = list }) one), new 0 pass first)

-- no log could be opened: memory ran out, which is reported, or the settings are out of range
pub refused : (limits : Limits) (places most : ℕ) (fault answered : Fault) (input : Inflow) (before after : Outflow) → 1 ≤ most → answered ≡ fault →
    (fault ≡ Memory) ⊎ (fault ≡ BadSettings) × ¬ (IsLawful (settings_alone limits places)) → RefusesToOpen fault before after →
    StopsService limits places most (both input before) (both input after) answered
refused limits places most fault answered input before after some same which refuses =
    ⊎_elim
    (λ (memory : fault ≡ Memory).
    let told = refuses.0 memory in
    let failed = told_counts told.0 before after told.2 in
    inl (OutOfMemory, same ∙ memory, (1, (omega arith, some), (inr (refl, told), refl, failed.0, failed.1))))
    (λ (bad : (fault ≡ BadSettings) × ¬ (IsLawful (settings_alone limits places))).
    let still = refuses.1 (λ memory. let no : BadSettings ≡ Memory = sym bad.0 ∙ memory in cc) in
    inr (same ∙ bad.0, ap (λ (output : Outflow). both input output) still, bad.1))
    which

-- the first log couldn't be opened
pub unopened : (limits : Limits) (places : ℕ) (fault answered : Fault) (input : Inflow) (before after : Outflow) → answered ≡ fault → fault ≡ Memory → RefusesToOpen fault before after →
    StopsByLogs limits places 1 (both input before) (both input after) answered
unopened limits places fault answered input before after same memory refuses =
    let told = refuses.0 memory in
    let failed = told_counts told.0 before after told.2 in
    (OutOfMemory, same ∙ memory, (1, (omega arith, omega arith), (inr (refl, told), refl, failed.0, failed.1)))
