-- What the code makes of the fields at each event is the event of the state that they show.
use Rattle.std.proofs.Common.{◌≡◌, ◌≢◌, ◌⊎◌, inl, inr, ℕ, ◌+◌, ◌%◌, ◌<◌, ◌≤◌, List, [], ◌∷◌, ◌++◌, length, map, take, Option, Some, None, refl, sym, ap, ap₂, ◌∙◌, subst, arith, slice_get, slice_set, vec_capacity}
use Rattle.std.specs.Global.{Vec}
use Rattle.std.specs.Option.{option_and_then, option_map, option_map_or}
use Rattle.std.proofs.lemmas.List.{append-nil, length-map, length-take-le, map-set}
use Rattle.std.proofs.lemmas.Option.{slice_get-map}
use Rattle.mc_model.specs.declared.command.Command.{Command}
use Rattle.mc_model.specs.declared.id.Ticket.{Ticket}
use Rattle.mc_model.specs.declared.reply.Reply.{Reply}
use Rattle.mc_model.specs.declared.request.Entry.{Entry}
use Rattle.mc_model.specs.declared.shown.Phase.TheVariants.{Idle, Pending, Looked, Stopped}
use Rattle.mc_model.specs.declared.shown.ShownState.{ShownState}
use Rattle.mc_model.specs.declared.shown.WorkerState.{WorkerState}
use Rattle.mc_model.specs.Lawful.{announced_by, decided_with, with_worker}
use Rattle.mc_model.specs.Legal.{ticket_of}
use Rattle.mc_model.specs.Replay.{TakeEffect, reply_from}
use Rattle.mc_model.specs.Shown.{announce, look, proposal, propose, read, stop}
use Rattle.uc_core.specs.Core.{ReplayState, entry_under}
use Rattle.uc_core.specs.Fields.{IsCore, core_of}
use Rattle.uc_core.specs.Kept.{replay_of, shown_worker}
use Rattle.uc_core.specs.Step.{CoreStep, announced_entry, entry_at, refusal, with_entry}
use Rattle.uc_core.specs.declared.event.Event.{Event}
use Rattle.uc_core.specs.declared.event.Event.TheVariants.{Announce, Look, Propose, Read, Replay, Stop}
use Rattle.uc_core.specs.declared.machine.Core.TheInside.{Inside}
use Rattle.uc_core.specs.declared.worker.Worker.{Worker}
use Rattle.uc_core.proofs.Each.{map-kept}
use Rattle.uc_core.proofs.Enabled.{announce-enabled, look-enabled, propose-enabled, read-enabled, replay-enabled, stop-enabled}
use Rattle.uc_core.proofs.Shows.{InOrder, IsCore-step, changed, replay-at, shown-later, worker-at, workers-shown}

-- an event leads from the state of these fields to that of those, which are in order too
pub record Makes (s : Inside) (event : Event) (reply : Option Reply) (new : Inside) : Type 0 where
  pub step : CoreStep (core_of s) event (core_of new) reply
  pub stays : IsCore new

-- what the entry of an announcement is, and what the lists of entries become
abbrev pub entry_of : ℕ → ℕ → ℕ → Command → Entry
entry_of number count tenant command = record { ticket = ticket_of number count; tenant = tenant; command = command }

abbrev pub lists_of : List (Vec Entry) → List (List Entry)
lists_of entries = map (λ (announced : Vec Entry). announced.items) entries

pub entries-set : (entries : List (Vec Entry)) (number : ℕ) (entry : Entry) (old new : Vec Entry) → entry.ticket.worker ≡ number →
    slice_get entries number ≡ Some old → new.items ≡ old.items ++ entry ∷ [] → lists_of (slice_set entries number new) ≡ with_entry (lists_of entries) entry
entries-set entries number entry old new mine at is =
    let longer = λ (found : Option (List Entry)). option_map_or (λ (announced : List Entry). announced ++ entry ∷ []) found (entry ∷ []) in
    let found : slice_get (lists_of entries) number ≡ Some old.items =
    slice_get-map (λ (announced : Vec Entry). announced.items) entries number ∙ ap (option_map (λ (announced : Vec Entry). announced.items)) at in
    map-set (λ (announced : Vec Entry). announced.items) entries number new
    ∙ ap (slice_set (lists_of entries) number) (is ∙ sym (ap longer found))
    ∙ ap (λ n. slice_set (lists_of entries) n (longer (slice_get (lists_of entries) n))) (sym mine)

-- what a proposal leaves of the decided places: those that there were, and the proposal after them
-- where its place was empty
decided-more : (proposed : Ticket) (decided : List Ticket) (found : Option Ticket) →
    (more : List Ticket) × (decided_with proposed decided found ≡ decided ++ more)
decided-more proposed decided None = (proposed ∷ [], refl)
decided-more proposed decided (Some ticket) = ([], sym (append-nil decided))

-- the entry under a ticket, by the fields
found-under : (found : Option (Vec Entry)) (number : ℕ) →
    option_and_then (λ (announced : List Entry). slice_get announced number) (option_map (λ (announced : Vec Entry). announced.items) found)
    ≡ option_and_then (λ (announced : Vec Entry). slice_get announced.items number) found
found-under None number = refl
found-under (Some announced) number = refl

pub entry-found : (s : Inside) (place : ℕ) (ticket : Ticket) → slice_get s.decided.items place ≡ Some ticket →
    entry_at (core_of s) place ≡ option_and_then (λ (announced : Vec Entry). slice_get announced.items ticket.number) (slice_get s.entries.items ticket.worker)
entry-found s place ticket at =
    ap (option_and_then (entry_under (core_of s))) at
    ∙ ap (option_and_then (λ (announced : List Entry). slice_get announced ticket.number))
    (slice_get-map (λ (announced : Vec Entry). announced.items) s.entries.items ticket.worker)
    ∙ found-under (slice_get s.entries.items ticket.worker) ticket.number

-- how many commands a worker has announced
announced-by : (s : Inside) (number : ℕ) (worker : Worker) → slice_get s.workers.items number ≡ Some worker →
    announced_by (core_of s).shown number ≡ worker.announced
announced-by s number worker at =
    ap (λ found. option_map_or (λ (worker : WorkerState). worker.announced) found 0) (worker-at s.decided.items s.workers.items number worker at)

-- one worker of a core in order becomes another
module _ (s : Inside) (number : ℕ) (old new : Worker) (core : IsCore s) (at : slice_get s.workers.items number ≡ Some old) where
  abbrev shown : WorkerState
  shown = shown_worker s.decided.items old

  stay : s.decided.items ≡ s.decided.items ++ []
  stay = sym (append-nil s.decided.items)

  order_of : InOrder s s.decided.items old
  order_of = core.each number old at

  many : length (take old.learned s.decided.items) ≡ old.learned
  many = length-take-le old.learned s.decided.items order_of.learned

  is_worker : slice_get (core_of s).shown.workers number ≡ Some shown
  is_worker = worker-at s.decided.items s.workers.items number old at

  -- what is shown where the decided places stay
  shown-with : (is : WorkerState) → shown_worker s.decided.items new ≡ is →
      (core_of (changed s s.decided s.entries number new)).shown ≡ with_worker (core_of s).shown number is
  shown-with is shows =
      ap (λ (them : List WorkerState). let state : ShownState = record { decided = s.decided.items; workers = them } in state)
      (workers-shown s.decided.items s.workers.items number new is shows)

  -- and what the rest is where nothing but what is shown changes
  rest-stays : (later : Vec Ticket) → replay_of new ≡ replay_of old →
      core_of (changed s later s.entries number new) ≡ record (core_of s) { shown = (core_of (changed s later s.entries number new)).shown }
  rest-stays later replays =
      ap (λ (kept : List ReplayState). record (core_of (changed s later s.entries number new)) { replays = kept })
      (map-kept replay_of s.workers.items number old new at replays)

  pub stopped : refusal (core_of s) (Stop number) ≡ None → shown_worker s.decided.items new ≡ stop shown →
      (InOrder s s.decided.items old → InOrder s s.decided.items new) →
      replay_of new ≡ replay_of old → Makes s (Stop number) None (changed s s.decided s.entries number new)
  stopped enabled shows order replays = record { step = step; stays = stays }
    where
      step : CoreStep (core_of s) (Stop number) (core_of (changed s s.decided s.entries number new)) None
      step = ((shown, is_worker, stop-enabled s number old at enabled, shown-with (stop shown) shows), rest-stays s.decided replays, refl)

      stays : IsCore (changed s s.decided s.entries number new)
      stays = IsCore-step s s.decided s.entries number new (Stop number) None core [] stay refl refl (order order_of) step

  pub was_read : refusal (core_of s) (Read number) ≡ None → shown_worker s.decided.items new ≡ read number (slice_get s.decided.items old.learned) shown →
      (InOrder s s.decided.items old → old.phase ≢ Looked → InOrder s s.decided.items new) →
      replay_of new ≡ replay_of old → Makes s (Read number) None (changed s s.decided s.entries number new)
  was_read enabled shows order replays = record { step = step; stays = stays }
    where
      known : ((old.phase ≡ Idle) ⊎ (old.phase ≡ Pending)) × (length (take old.learned s.decided.items) < s.places)
      known = read-enabled s number old at enabled

      not_looked : (old.phase ≡ Idle) ⊎ (old.phase ≡ Pending) → old.phase ≢ Looked
      not_looked (inl is) same = cc
      not_looked (inr is) same = cc

      step : CoreStep (core_of s) (Read number) (core_of (changed s s.decided s.entries number new)) None
      step = (
        (shown, is_worker, known.0, known.1, shown-with _ (shows ∙ ap (λ k. read number (slice_get s.decided.items k) shown) (sym many))),
        rest-stays s.decided replays,
        refl,
      )

      stays : IsCore (changed s s.decided s.entries number new)
      stays = IsCore-step s s.decided s.entries number new (Read number) None core [] stay refl refl (order order_of (not_looked known.0)) step

  pub was_looked : (helped : ℕ) (other : Worker) → refusal (core_of s) (Look number) ≡ None →
      helped ≡ old.learned % length s.workers.items → slice_get s.workers.items helped ≡ Some other →
      shown_worker s.decided.items new ≡ look helped other.announced shown →
      (InOrder s s.decided.items old → old.learned < s.places → InOrder s s.decided.items new) →
      replay_of new ≡ replay_of old → Makes s (Look number) None (changed s s.decided s.entries number new)
  was_looked helped other enabled turn there shows order replays = record { step = step; stays = stays }
    where
      known : (old.phase ≡ Pending) × (length (take old.learned s.decided.items) < s.places) × (old.mark ≢ None)
      known = look-enabled s number old at enabled

      same : helped ≡ length (take old.learned s.decided.items) % length (core_of s).shown.workers
      same = turn ∙ ap₂ (λ one two. one % two) (sym many) (sym (length-map s.workers.items (shown_worker s.decided.items)))

      looks : (whose : ℕ) → helped ≡ whose → shown_worker s.decided.items new ≡ look whose (announced_by (core_of s).shown whose) shown
      looks whose is = subst (λ k. shown_worker s.decided.items new ≡ look k (announced_by (core_of s).shown k) shown) is
          (shows ∙ ap (λ count. look helped count shown) (sym (announced-by s helped other there)))

      step : CoreStep (core_of s) (Look number) (core_of (changed s s.decided s.entries number new)) None
      step = ((shown, is_worker, known.0, known.1, known.2, shown-with _ (looks _ same)), rest-stays s.decided replays, refl)

      stays : IsCore (changed s s.decided s.entries number new)
      stays =
          let room : old.learned < s.places = omega (arith, many, known.1) in
          IsCore-step s s.decided s.entries number new (Look number) None core [] stay refl refl (order order_of room) step

  pub proposed : (later : Vec Ticket) → refusal (core_of s) (Propose number) ≡ None → vec_capacity later ≡ vec_capacity s.decided →
      later.items ≡ decided_with (proposal number shown) s.decided.items (slice_get s.decided.items old.learned) →
      shown_worker later.items new ≡ propose number (slice_get s.decided.items old.learned) shown →
      (InOrder s s.decided.items old → InOrder s later.items new) → replay_of new ≡ replay_of old →
      Makes s (Propose number) None (changed s later s.entries number new)
  proposed later enabled room decides shows order replays = record { step = step; stays = stays }
    where
      more : (rest : List Ticket) × (later.items ≡ s.decided.items ++ rest)
      more =
          let grown = decided-more (proposal number shown) s.decided.items (slice_get s.decided.items old.learned) in
          (grown.0, decides ∙ grown.1)

      others-show : map (shown_worker later.items) s.workers.items ≡ map (shown_worker s.decided.items) s.workers.items
      others-show =
          ap (λ (them : List Ticket). map (shown_worker them) s.workers.items) more.1
          ∙ shown-later s.decided.items more.0 s.workers.items (λ k worker is. (core.each k worker is).learned)

      after : (core_of (changed s later s.entries number new)).shown
          ≡ record {
            decided = decided_with (proposal number shown) s.decided.items (slice_get s.decided.items old.learned);
            workers = slice_set (map (shown_worker s.decided.items) s.workers.items) number (propose number (slice_get s.decided.items old.learned) shown);
          }
      after =
          ap₂ (λ (tickets : List Ticket) (them : List WorkerState). let state : ShownState = record { decided = tickets; workers = them } in state) decides
          (workers-shown later.items s.workers.items number new _ shows
          ∙ ap (λ (them : List WorkerState). slice_set them number (propose number (slice_get s.decided.items old.learned) shown)) others-show)

      -- the next place is the one after all that it shows as learned
      behind : (core_of (changed s later s.entries number new)).shown
          ≡ record {
            decided = decided_with (proposal number shown) s.decided.items (slice_get s.decided.items (length shown.learned));
            workers = slice_set (map (shown_worker s.decided.items) s.workers.items) number (propose number (slice_get s.decided.items (length shown.learned)) shown);
          }
      behind = after ∙ ap (λ (k : ℕ). let state : ShownState = record {
        decided = decided_with (proposal number shown) s.decided.items (slice_get s.decided.items k);
        workers = slice_set (map (shown_worker s.decided.items) s.workers.items) number (propose number (slice_get s.decided.items k) shown);
      } in state) (sym many)

      step : CoreStep (core_of s) (Propose number) (core_of (changed s later s.entries number new)) None
      step = ((shown, is_worker, propose-enabled s number old at enabled, behind), rest-stays later replays, refl)

      stays : IsCore (changed s later s.entries number new)
      stays = IsCore-step s later s.entries number new (Propose number) None core more.0 more.1 room refl (order order_of) step

  pub announced : (tenant : ℕ) (command : Command) (entries : Vec (Vec Entry)) → refusal (core_of s) (Announce number tenant command) ≡ None →
      lists_of entries.items ≡ with_entry (lists_of s.entries.items) (entry_of number old.announced tenant command) →
      length entries.items ≡ length s.entries.items →
      shown_worker s.decided.items new ≡ announce shown →
      (InOrder s s.decided.items old → old.announced ≤ old.learned → InOrder s s.decided.items new) →
      replay_of new ≡ replay_of old → Makes s (Announce number tenant command) None (changed s s.decided entries number new)
  announced tenant command entries enabled grows lists shows order replays = record { step = step; stays = stays }
    where
      known : (old.phase ≡ Idle) × (tenant < length s.openings.items) × (length (take old.learned s.decided.items) < s.places)
      known = announce-enabled s number old at tenant command enabled

      made : lists_of entries.items ≡ with_entry (lists_of s.entries.items) (announced_entry (core_of s) number tenant command)
      made = grows ∙ ap (λ k. with_entry (lists_of s.entries.items) (entry_of number k tenant command)) (sym (announced-by s number old at))

      step : CoreStep (core_of s) (Announce number tenant command) (core_of (changed s s.decided entries number new)) None
      step = (
        known.1,
        (shown, is_worker, known.0, known.2, shown-with (announce shown) shows),
        ap₂ (λ (lists : List (List Entry)) (kept : List ReplayState).
            record (core_of (changed s s.decided s.entries number new)) { entries = lists; replays = kept })
            made (map-kept replay_of s.workers.items number old new at replays),
        refl,
      )

      stays : IsCore (changed s s.decided entries number new)
      stays = IsCore-step s s.decided entries number new (Announce number tenant command) None core [] stay refl lists
          (order order_of (order_of.idle known.0)) step

  pub replayed : (found : Option Entry) (reply : Option Reply) → refusal (core_of s) (Replay number) ≡ None → entry_at (core_of s) old.replayed ≡ found →
      shown_worker s.decided.items new ≡ shown → new.replayed ≡ old.replayed + 1 → TakeEffect found old.tables.items new.tables.items →
      reply ≡ reply_from number old.tables.items found →
      (InOrder s s.decided.items old → InOrder s s.decided.items new) →
      Makes s (Replay number) reply (changed s s.decided s.entries number new)
  replayed found reply enabled finds shows counts takes replies order = record { step = step; stays = stays }
    where
      known : (old.phase ≢ Stopped) × (old.replayed < length (take old.learned s.decided.items))
      known = replay-enabled s number old at enabled

      made : map replay_of (slice_set s.workers.items number new)
          ≡ slice_set (map replay_of s.workers.items) number (record { replayed = old.replayed + 1; tables = new.tables.items })
      made = map-set replay_of s.workers.items number new
          ∙ ap (λ (n : ℕ). slice_set (map replay_of s.workers.items) number (record { replayed = n; tables = new.tables.items })) counts

      step : CoreStep (core_of s) (Replay number) (core_of (changed s s.decided s.entries number new)) reply
      step = (
        shown,
        is_worker,
        known.0,
        replay_of old,
        replay-at s.workers.items number old at,
        known.1,
        new.tables.items,
        subst (λ it. TakeEffect it old.tables.items new.tables.items) (sym finds) takes,
        ap₂ (λ (them : List WorkerState) (replays : List ReplayState).
            record (core_of s) { shown = record { decided = s.decided.items; workers = them }; replays = replays })
            (map-kept (shown_worker s.decided.items) s.workers.items number old new at shows) made,
        replies ∙ ap (reply_from number old.tables.items) (sym finds),
      )

      stays : IsCore (changed s s.decided s.entries number new)
      stays = IsCore-step s s.decided s.entries number new (Replay number) reply core [] stay refl refl (order order_of) step
