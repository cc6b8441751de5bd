-- Logs one after another, each with one worker: what each owes, and which commands it leaves to the next.
use Rattle.std.proofs.Common.{◌≡◌, ◌⊎◌, ℕ, suc, ◌+◌, ◌<◌, ◌≤◌, Bool, true, false, if◌then◌else◌, List, [], ◌∷◌, ◌++◌, length, take, slice_get, Some, sym, refl, ap, ◌∙◌, subst, inl, inr, ⊎_elim, arith, append_assoc, append-nil, length-append}
use Rattle.std.specs.Bool.{nat_le, nat_lt}
use Rattle.mc_model.specs.declared.shown.LogSize.{LogSize}
use Rattle.std.proofs.lemmas.Bool.{ltb-false, ltb-true}
use Rattle.std.proofs.lemmas.List.{take_all}
use Rattle.mc_model.specs.declared.command.Command.{Command}
use Rattle.mc_model.specs.declared.reply.Reply.TheVariants.{Refused}
use Rattle.mc_model.specs.declared.reply.TheConstants.WireNo.{LINE_TOO_LONG, UNKNOWN_COMMAND}
use Rattle.mc_model.specs.declared.request.Request.{Request}
use Rattle.mc_model.specs.declared.request.Request.TheVariants.{Limit, Local, Logged, Quit, TooLong}
use Rattle.mc_model.specs.declared.settings.Limits.{Limits}
use Rattle.mc_model.specs.Log.{own}
use Rattle.mc_write.specs.Text.{text}
use Rattle.uc_worker.specs.Cited.{Sighting, entries}
use Rattle.uc_worker.specs.declared.worker.Worker.{Worker}
use Rattle.uc_worker.specs.Worker.{HasReplayedAll, IsClosing, history_of, places_kept, seat_of}
use Rattle.mc_conn.specs.declared.conn.Role.TheVariants.{Tenant}
use Rattle.mc_conn.specs.Alone.{IsAloneOver, applied_with, commands_of, first_mark, logged_reply, owed_after}
use Rattle.mc_conn.specs.Ending.{LogsInTime, LogsLast}
use Rattle.mc_conn.specs.Onward.{own_sighting}
use Rattle.mc_conn.specs.Owed.{IsPlaced, IsTurnedAway, Mark, Owes, answered, count_logged, mark_of}
use Rattle.mc_conn.specs.Turn.{Scene, Takes}
use Rattle.mc_conn.proofs.Alone.{announced_all, placed_in_order, turned_away_last}
use Rattle.mc_conn.proofs.AloneOwed.{own_later, owes_in_order, with_room, without_room}
use Rattle.mc_conn.proofs.Takings.{count_logged-append}

below_or_not : (n m : ℕ) (below : Bool) → nat_lt n m ≡ below → (n < m) ⊎ (m ≤ n)
below_or_not n m true is = inl (ltb-true n m is)
below_or_not n m false is = inr (ltb-false n m is)

-- a worker alone keeps one place free: its own
kept_alone : (size : LogSize) → size.workers ≡ 1 → places_kept size ≡ 1
kept_alone size alone = by_room (nat_le size.workers size.places)
  where
    by_room : (room : Bool) → (if room then size.workers else 1) ≡ 1
    by_room true = alone
    by_room false = refl

-- a tenant's logged requests are its commands
count_commands : (requests : List Request) → count_logged (Tenant 0) requests ≡ length (commands_of requests)
count_commands [] = refl
count_commands (Logged command quiet ∷ requests) = let rest = count_commands requests in omega (arith, rest)
count_commands (Limit name quotas quiet ∷ requests) = let rest = count_commands requests in omega (arith, rest)
count_commands (Local reply quiet ∷ requests) = let rest = count_commands requests in omega (arith, rest)
count_commands (Quit ∷ requests) = let rest = count_commands requests in omega (arith, rest)
count_commands (TooLong ∷ requests) = let rest = count_commands requests in omega (arith, rest)

-- all commands so far in one list, whichever log they were applied in
module _ (limits : Limits) (base : List Command) where
  one_more : (applied : List Command) (command : Command) → base ++ (applied ++ command ∷ []) ≡ (base ++ applied) ++ command ∷ []
  one_more applied command = sym (append_assoc base applied (command ∷ []))

  -- as long as places are left, it doesn't matter how many
  pub owed_in_time : (places total : ℕ) (applied : List Command) (requests : List Request) → length applied + length (commands_of requests) ≤ places → length base + places ≤ total →
      owed_after limits base places applied requests ≡ owed_after limits [] total (base ++ applied) requests
  owed_in_time places total applied [] room enough = refl
  owed_in_time places total applied (Logged command quiet ∷ requests) room enough =
      let here = with_room limits base places applied command (omega (arith, room)) in
      let there = with_room limits [] total (base ++ applied) command (omega (arith, room, enough, length-append base applied)) in
      let rest = owed_in_time places total (applied ++ command ∷ []) requests (omega (arith, room, length-append applied (command ∷ []))) enough in
      let next : owed_after limits base places (applied_with places applied command) requests ≡ owed_after limits [] total (applied_with total (base ++ applied) command) requests =
      ap (λ list. owed_after limits base places list requests) here.1
      ∙ (rest ∙ ap (λ list. owed_after limits [] total list requests) (one_more applied command ∙ sym there.1))
      in
      λ i. answered quiet ((here.0 ∙ sym there.0) i) ++ next i
  owed_in_time places total applied (Limit name quotas quiet ∷ requests) room enough =
      ap (λ it. answered quiet (Refused UNKNOWN_COMMAND) ++ it) (owed_in_time places total applied requests room enough)
  owed_in_time places total applied (Local reply quiet ∷ requests) room enough = ap (λ it. answered quiet reply ++ it) (owed_in_time places total applied requests room enough)
  owed_in_time places total applied (Quit ∷ requests) room enough = owed_in_time places total applied requests room enough
  owed_in_time places total applied (TooLong ∷ requests) room enough = ap (λ it. text (Refused LINE_TOO_LONG) ++ it) (owed_in_time places total applied requests room enough)

  -- the last log is full where all of them are
  pub owed_last : (places : ℕ) (applied : List Command) (requests : List Request) →
      owed_after limits base places applied requests ≡ owed_after limits [] (length base + places) (base ++ applied) requests
  owed_last places applied [] = refl
  owed_last places applied (Logged command quiet ∷ requests) = by_room (nat_lt (length applied) places) refl (λ list. owed_last places list requests)
    where
      by_room : (room : Bool) → nat_lt (length applied) places ≡ room →
          ((list : List Command) → owed_after limits base places list requests ≡ owed_after limits [] (length base + places) (base ++ list) requests) →
          owed_after limits base places applied (Logged command quiet ∷ requests) ≡ owed_after limits [] (length base + places) (base ++ applied) (Logged command quiet ∷ requests)
      by_room true is later =
          let below : length applied < places = ltb-true _ _ is in
          let here = with_room limits base places applied command below in
          let there = with_room limits [] (length base + places) (base ++ applied) command (omega (arith, below, length-append base applied)) in
          let next : owed_after limits base places (applied_with places applied command) requests
          ≡ owed_after limits [] (length base + places) (applied_with (length base + places) (base ++ applied) command) requests =
          ap (λ list. owed_after limits base places list requests) here.1
          ∙ (later (applied ++ command ∷ []) ∙ ap (λ list. owed_after limits [] (length base + places) list requests) (one_more applied command ∙ sym there.1))
          in
          λ i. answered quiet ((here.0 ∙ sym there.0) i) ++ next i
      by_room false is later =
          let full : places ≤ length applied = ltb-false _ _ is in
          let here = without_room limits base places applied command full in
          let there = without_room limits [] (length base + places) (base ++ applied) command (omega (arith, full, length-append base applied)) in
          let next : owed_after limits base places (applied_with places applied command) requests
          ≡ owed_after limits [] (length base + places) (applied_with (length base + places) (base ++ applied) command) requests =
          ap (λ list. owed_after limits base places list requests) here.1
          ∙ (later applied ∙ ap (λ list. owed_after limits [] (length base + places) list requests) (sym there.1))
          in
          λ i. answered quiet ((here.0 ∙ sym there.0) i) ++ next i
  owed_last places applied (Limit name quotas quiet ∷ requests) = ap (λ it. answered quiet (Refused UNKNOWN_COMMAND) ++ it) (owed_last places applied requests)
  owed_last places applied (Local reply quiet ∷ requests) = ap (λ it. answered quiet reply ++ it) (owed_last places applied requests)
  owed_last places applied (Quit ∷ requests) = owed_last places applied requests
  owed_last places applied (TooLong ∷ requests) = ap (λ it. text (Refused LINE_TOO_LONG) ++ it) (owed_last places applied requests)

-- what is owed for requests and then for others, if there are places for the first ones' commands
module _ (limits : Limits) (total : ℕ) where
  -- what is owed from these commands on
  abbrev owed_on : List Command → List Request → List ℕ
  owed_on applied requests = owed_after limits [] total applied requests

  said_first : (said some rest more : List ℕ) → rest ≡ some ++ more → said ++ rest ≡ (said ++ some) ++ more
  said_first said some rest more is = ap (λ it. said ++ it) is ∙ sym (append_assoc said some more)

  pub owed_through : (applied : List Command) (first second : List Request) → length applied + length (commands_of first) ≤ total →
      owed_on applied (first ++ second) ≡ owed_on applied first ++ owed_on (applied ++ commands_of first) second
  owed_through applied [] second room = ap (λ list. owed_on list second) (sym (append-nil applied))
  owed_through applied (Logged command quiet ∷ first) second room =
      let here = with_room limits [] total applied command (omega (arith, room)) in
      let longer : length (applied ++ command ∷ []) ≡ suc (length applied) = omega (arith, length-append applied (command ∷ [])) in
      let rest = owed_through (applied ++ command ∷ []) first second (omega (arith, room, longer)) in
      let more : owed_on ((applied ++ command ∷ []) ++ commands_of first) second ≡ owed_on (applied ++ command ∷ commands_of first) second =
      ap (λ list. owed_on list second) (append_assoc applied (command ∷ []) (commands_of first))
      in
      let next : owed_on (applied_with total applied command) (first ++ second) ≡ owed_on (applied_with total applied command) first ++ owed_on (applied ++ command ∷ commands_of first) second =
      ap (λ list. owed_on list (first ++ second)) here.1
      ∙ (rest ∙ (λ i. owed_on (sym here.1 i) first ++ more i))
      in
      said_first (answered quiet (logged_reply limits [] total applied command)) (owed_on (applied_with total applied command) first) (owed_on (applied_with total applied command) (first ++ second))
      (owed_on (applied ++ command ∷ commands_of first) second) next
  owed_through applied (Limit name quotas quiet ∷ first) second room =
      said_first (answered quiet (Refused UNKNOWN_COMMAND)) (owed_on applied first) (owed_on applied (first ++ second)) (owed_on (applied ++ commands_of first) second)
      (owed_through applied first second room)
  owed_through applied (Local reply quiet ∷ first) second room =
      said_first (answered quiet reply) (owed_on applied first) (owed_on applied (first ++ second)) (owed_on (applied ++ commands_of first) second) (owed_through applied first second room)
  owed_through applied (Quit ∷ first) second room = owed_through applied first second room
  owed_through applied (TooLong ∷ first) second room =
      said_first (text (Refused LINE_TOO_LONG)) (owed_on applied first) (owed_on applied (first ++ second)) (owed_on (applied ++ commands_of first) second) (owed_through applied first second room)

-- a worker that has a log to itself, and what it took from the beginning of the log on
module _ (places : ℕ) (worker : Worker) (alone : (seat_of worker).size.workers ≡ 1) (long : (seat_of worker).size.places ≡ places) where
  places_grow : (requests : List Request) (from to : Mark) (bytes : List ℕ) → Owes worker (Tenant 0) from requests bytes to → from.place ≤ to.place
  places_grow [] from to bytes owes = owes.2
  places_grow (Logged command quiet ∷ requests) from to bytes (reply, next, rest, is, all, owes) =
      let later = places_grow requests next to rest owes in
      ⊎_elim
      (λ (placed : IsPlaced worker 0 from command reply next). omega (arith, later, placed.not_before, ap (λ (mark : Mark). mark.place) placed.next))
      (λ (away : IsTurnedAway worker 0 from command reply next). ⊎_elim
      (λ same. omega (arith, later, ap (λ (mark : Mark). mark.place) same))
      (λ more. omega (arith, later, ap (λ (mark : Mark). mark.place) more.1))
      away.next)
      is
  places_grow (Limit name quotas quiet ∷ requests) from to bytes (rest, all, owes) = places_grow requests from to rest owes
  places_grow (Local reply quiet ∷ requests) from to bytes (rest, all, owes) = places_grow requests from to rest owes
  places_grow (Quit ∷ requests) from to bytes (rest, all, owes) = places_grow requests from to rest owes
  places_grow (TooLong ∷ requests) from to bytes (rest, all, owes) = places_grow requests from to rest owes

  -- if it has places left to replay, each command so far has its own
  all_placed : (requests : List Request) (from to : Mark) (bytes : List ℕ) → Owes worker (Tenant 0) from requests bytes to → from.number ≤ from.place → to.place < places →
      (to.number ≡ from.number + length (commands_of requests)) × (to.number ≤ to.place)
  all_placed [] from to bytes owes even left = (omega (arith, owes.1), omega (arith, owes.1, owes.2, even))
  all_placed (Logged command quiet ∷ requests) from to bytes (reply, next, rest, is, all, owes) even left =
      ⊎_elim
      (λ (placed : IsPlaced worker 0 from command reply next).
      let at : placed.place ≡ from.number = placed_in_order worker alone 0 from next command reply placed in
      let number = ap (λ (mark : Mark). mark.number) placed.next in
      let place = ap (λ (mark : Mark). mark.place) placed.next in
      let later = all_placed requests next to rest owes (omega (arith, at, number, place)) left in
      (omega (arith, later.0, number), later.1))
      (λ (away : IsTurnedAway worker 0 from command reply next).
      let last = turned_away_last worker alone 0 from next command reply away in
      let grow = places_grow (Logged command quiet ∷ requests) from to bytes (reply, next, rest, is, all, owes) in
      absurd (omega (arith, last, long, even, grow, left)))
      is
  all_placed (Limit name quotas quiet ∷ requests) from to bytes (rest, all, owes) even left = all_placed requests from to rest owes even left
  all_placed (Local reply quiet ∷ requests) from to bytes (rest, all, owes) even left = all_placed requests from to rest owes even left
  all_placed (Quit ∷ requests) from to bytes (rest, all, owes) even left = all_placed requests from to rest owes even left
  all_placed (TooLong ∷ requests) from to bytes (rest, all, owes) even left = all_placed requests from to rest owes even left

  -- if there is a place for each command so far, each has its own
  all_stand : (requests : List Request) (from to : Mark) (bytes : List ℕ) → Owes worker (Tenant 0) from requests bytes to → from.number ≤ from.place → from.number + length (commands_of requests) ≤ places → to.number ≤ to.place
  all_stand [] from to bytes owes even room = omega (arith, owes.1, owes.2, even)
  all_stand (Logged command quiet ∷ requests) from to bytes (reply, next, rest, is, all, owes) even room =
      ⊎_elim
      (λ (placed : IsPlaced worker 0 from command reply next).
      let at : placed.place ≡ from.number = placed_in_order worker alone 0 from next command reply placed in
      let number = ap (λ (mark : Mark). mark.number) placed.next in
      let place = ap (λ (mark : Mark). mark.place) placed.next in
      all_stand requests next to rest owes (omega (arith, at, number, place)) (omega (arith, number, room)))
      (λ (away : IsTurnedAway worker 0 from command reply next).
      let last = turned_away_last worker alone 0 from next command reply away in
      absurd (omega (arith, last, long, room)))
      is
  all_stand (Limit name quotas quiet ∷ requests) from to bytes (rest, all, owes) even room = all_stand requests from to rest owes even room
  all_stand (Local reply quiet ∷ requests) from to bytes (rest, all, owes) even room = all_stand requests from to rest owes even room
  all_stand (Quit ∷ requests) from to bytes (rest, all, owes) even room = all_stand requests from to rest owes even room
  all_stand (TooLong ∷ requests) from to bytes (rest, all, owes) even room = all_stand requests from to rest owes even room

  -- so it has replayed all places once its log is closing
  all_replayed : (requests : List Request) (bytes : List ℕ) → Owes worker (Tenant 0) first_mark requests bytes (mark_of worker) → length (commands_of requests) ≤ places → IsClosing worker → HasReplayedAll worker
  all_replayed requests bytes owes room closing =
      let kept = kept_alone (seat_of worker).size alone in
      let law = worker.pass.desk.law.few in
      let full : length (seat_of worker).state.learned ≡ (seat_of worker).size.places = omega (arith, closing, kept, law) in
      let announced = announced_all worker alone full in
      let stands = all_stand requests first_mark (mark_of worker) bytes owes (omega arith) (omega (arith, room)) in
      omega (arith, full, announced, stands, worker.short, ap (λ size. size.places) worker.of.1)

  -- so it hasn't taken more commands than places
  few_commands : (requests : List Request) (bytes : List ℕ) → Owes worker (Tenant 0) first_mark requests bytes (mark_of worker) → ¬ (IsClosing worker) → length (commands_of requests) < places
  few_commands requests bytes owes undone =
      let kept = kept_alone (seat_of worker).size alone in
      let short = worker.short in
      let left : length (history_of worker) < places =
      ⊎_elim (λ (below : length (history_of worker) < places). below)
      (λ (rest : places ≤ length (history_of worker)). absurd (undone (omega (arith, rest, long, kept, short))))
      (below_or_not (length (history_of worker)) places (nat_lt (length (history_of worker)) places) refl)
      in
      let placed = all_placed requests first_mark (mark_of worker) bytes owes (omega arith) left in
      omega (arith, placed.0, placed.1, left)

-- what was taken in time was applied, command by command
module _ (limits : Limits) (base : List Command) (places : ℕ) (worker : Worker) (alone : IsAloneOver limits base places worker) where
  applied_in_order : (requests : List Request) (from to : Mark) (applied : List Command) (bytes : List ℕ) → Owes worker (Tenant 0) from requests bytes to → from.number ≡ length applied →
      own 0 (entries (take (length applied) (history_of worker))) ≡ applied → length applied + length (commands_of requests) ≤ places →
      (to.number ≡ length applied + length (commands_of requests))
      × (own 0 (entries (take (length applied + length (commands_of requests)) (history_of worker))) ≡ applied ++ commands_of requests)
  applied_in_order [] from to applied bytes owes number so_far room = (
    omega (arith, owes.1, number),
    (let same : length applied + 0 ≡ length applied = omega arith in ap (λ n. own 0 (entries (take n (history_of worker)))) same ∙ so_far ∙ sym (append-nil applied)),
  )
  applied_in_order (Logged command quiet ∷ requests) from to applied bytes (reply, next, rest, is, all, owes) number so_far room =
      ⊎_elim
      (λ (placed : IsPlaced worker 0 from command reply next).
      let at : placed.place ≡ length applied = placed_in_order worker alone.workers 0 from next command reply placed ∙ number in
      let stands : slice_get (history_of worker) (length applied) ≡ Some (own_sighting worker (length applied) 0 command) =
      (λ i. slice_get (history_of worker) (sym at i)) ∙ (placed.stands ∙ ap (λ n. Some (own_sighting worker n 0 command)) number)
      in
      let longer : length (applied ++ command ∷ []) ≡ suc (length applied) = omega (arith, length-append applied (command ∷ [])) in
      let more : own 0 (entries (take (length (applied ++ command ∷ [])) (history_of worker))) ≡ applied ++ command ∷ [] =
      ap (λ n. own 0 (entries (take n (history_of worker)))) longer
      ∙ (own_later limits base places worker alone (length applied) command stands ∙ ap (λ (list : List Command). list ++ command ∷ []) so_far)
      in
      let later = applied_in_order requests next to (applied ++ command ∷ []) rest owes (omega (arith, ap (λ (mark : Mark). mark.number) placed.next, number, longer)) more (omega (arith, room, longer)) in
      let count : length (applied ++ command ∷ []) + length (commands_of requests) ≡ length applied + suc (length (commands_of requests)) = omega (arith, longer) in (
        later.0 ∙ count,
        ap (λ n. own 0 (entries (take n (history_of worker)))) (sym count) ∙ (later.1 ∙ append_assoc applied (command ∷ []) (commands_of requests)),
      ))
      (λ (away : IsTurnedAway worker 0 from command reply next).
      let last = turned_away_last worker alone.workers 0 from next command reply away in
      absurd (omega (arith, last, alone.long, number, room)))
      is
  applied_in_order (Limit name quotas quiet ∷ requests) from to applied bytes (rest, all, owes) number so_far room = applied_in_order requests from to applied rest owes number so_far room
  applied_in_order (Local reply quiet ∷ requests) from to applied bytes (rest, all, owes) number so_far room = applied_in_order requests from to applied rest owes number so_far room
  applied_in_order (Quit ∷ requests) from to applied bytes (rest, all, owes) number so_far room = applied_in_order requests from to applied rest owes number so_far room
  applied_in_order (TooLong ∷ requests) from to applied bytes (rest, all, owes) number so_far room = applied_in_order requests from to applied rest owes number so_far room

  none_yet : (history : List Sighting) → own 0 (entries (take 0 history)) ≡ []
  none_yet [] = refl
  none_yet (seen ∷ history) = refl

  -- a log that is done has the commands of all the requests
  pub has_all : (requests : List Request) (bytes : List ℕ) → Owes worker (Tenant 0) first_mark requests bytes (mark_of worker) → length (commands_of requests) ≤ places → HasReplayedAll worker →
      (own 0 (entries (history_of worker)) ≡ commands_of requests) × (length (commands_of requests) ≡ places)
  has_all requests bytes owes room done =
      let size : (seat_of worker).size.places ≡ worker.log.now.settings.places = ap (λ size. size.places) worker.of.1 in
      let short = worker.short in
      let law = worker.pass.desk.law.few in
      let full : length (seat_of worker).state.learned ≡ (seat_of worker).size.places = omega (arith, done, short, law, size) in
      let announced = announced_all worker alone.workers full in
      let applied = applied_in_order requests first_mark (mark_of worker) [] bytes owes refl (none_yet (history_of worker)) (omega (arith, room)) in
      let count : length (commands_of requests) ≡ places = omega (arith, applied.0, announced, alone.long, room) in
      let none : 0 + length (commands_of requests) ≡ length (commands_of requests) = omega arith in
      let whole : take (length (commands_of requests)) (history_of worker) ≡ history_of worker =
      take_all (length (commands_of requests)) (history_of worker) (omega (arith, count, done, size, alone.long))
      in
      (ap (λ list. own 0 (entries list)) (sym whole) ∙ (ap (λ n. own 0 (entries (take n (history_of worker)))) (sym none) ∙ applied.1), count)

-- what was taken by turns that leave commands to the next log
module _ (before after : Scene) (takes : Takes before after) (alone : (seat_of after.worker).size.workers ≡ 1) (role : before.conn.role ≡ Tenant 0)
    (mark : mark_of before.worker ≡ first_mark) (in_time : LogsInTime takes) where
  abbrev all_places : ℕ
  all_places = (seat_of after.worker).size.places

  owes_first : Owes after.worker (Tenant 0) first_mark takes.taken.requests takes.taken.owed (mark_of after.worker)
  owes_first =
      subst (λ from. Owes after.worker (Tenant 0) from takes.taken.requests takes.taken.owed (mark_of after.worker)) mark
      (subst (λ role. Owes after.worker role (mark_of before.worker) takes.taken.requests takes.taken.owed (mark_of after.worker)) role takes.taken.owes)

  taken_few : length (commands_of takes.taken.requests) ≤ all_places
  taken_few =
      let all : count_logged before.conn.role takes.taken.requests ≡ length (commands_of takes.taken.requests) =
      ap (λ role. count_logged role takes.taken.requests) role ∙ count_commands takes.taken.requests
      in
      ⊎_elim
      (λ (none : count_logged before.conn.role takes.taken.requests ≡ 0). omega (arith, all, none))
      (λ (last : (between : Scene) × LogsLast before between after takes).
      let between = last.0.worker in
      let first = last.1.first in
      let owes : Owes between (Tenant 0) first_mark first.taken.requests first.taken.owed (mark_of between) =
      subst (λ from. Owes between (Tenant 0) from first.taken.requests first.taken.owed (mark_of between)) mark
      (subst (λ role. Owes between role (mark_of before.worker) first.taken.requests first.taken.owed (mark_of between)) role first.taken.owes)
      in
      let size = first.taken.onward.same.0 ∙ sym takes.taken.onward.same.0 in
      let below =
      few_commands all_places between (ap (λ size. size.workers) size ∙ alone) (ap (λ size. size.places) size) first.taken.requests first.taken.owed owes last.1.room
      in
      let earlier : count_logged before.conn.role first.taken.requests ≡ length (commands_of first.taken.requests) =
      ap (λ role. count_logged role first.taken.requests) role ∙ count_commands first.taken.requests
      in
      let sum = ap (λ requests. count_logged before.conn.role requests) last.1.all ∙ count_logged-append before.conn.role first.taken.requests last.1.rest.taken.requests in
      omega (arith, all, earlier, sum, last.1.one, below))
      in_time

  pub replayed_in_time : IsClosing after.worker → HasReplayedAll after.worker
  replayed_in_time closing = all_replayed all_places after.worker alone refl takes.taken.requests takes.taken.owed owes_first taken_few closing

-- the same of a log over a table
module _ (limits : Limits) (base : List Command) (places : ℕ) (before after : Scene) (takes : Takes before after) (alone : IsAloneOver limits base places after.worker)
    (role : before.conn.role ≡ Tenant 0) (mark : mark_of before.worker ≡ first_mark) (in_time : LogsInTime takes) where
  pub taken_in_time : length (commands_of takes.taken.requests) ≤ places
  taken_in_time = let few = taken_few before after takes alone.workers role mark in_time in omega (arith, few, alone.long)

  owes_alone : Owes after.worker (Tenant 0) first_mark takes.taken.requests takes.taken.owed (mark_of after.worker)
  owes_alone = owes_first before after takes alone.workers role mark in_time

  pub owes_in_time : (total : ℕ) → length base + places ≤ total → takes.taken.owed ≡ owed_after limits [] total base takes.taken.requests
  owes_in_time total enough =
      owes_in_order limits base places after.worker alone takes.taken.requests takes.taken.owed (mark_of after.worker) owes_alone
      ∙ (owed_in_time limits base places total [] takes.taken.requests (let few = taken_in_time in omega (arith, few)) enough
      ∙ ap (λ list. owed_after limits [] total list takes.taken.requests) (append-nil base))

  pub leaves_all : HasReplayedAll after.worker → (own 0 (entries (history_of after.worker)) ≡ commands_of takes.taken.requests) × (length (commands_of takes.taken.requests) ≡ places)
  leaves_all done = has_all limits base places after.worker alone takes.taken.requests takes.taken.owed owes_alone taken_in_time done

-- what is owed by the last log
pub owes_last : (limits : Limits) (base : List Command) (places : ℕ) (worker : Worker) (requests : List Request) (bytes : List ℕ) (to : Mark) → IsAloneOver limits base places worker →
    Owes worker (Tenant 0) first_mark requests bytes to → bytes ≡ owed_after limits [] (length base + places) base requests
owes_last limits base places worker requests bytes to alone owes =
    owes_in_order limits base places worker alone requests bytes to owes
    ∙ (owed_last limits base places [] requests ∙ ap (λ list. owed_after limits [] (length base + places) list requests) (append-nil base))
