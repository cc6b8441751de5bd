-- Which command is announced and not replayed, by how many of the worker's own are in its history.
use Rattle.std.proofs.Common.{◌≡◌, ◌≢◌, ◌↔◌, ℕ, suc, ◌+◌, ◌<◌, ◌≤◌, List, length, take, take_all, slice_get, Option, Some, None, Result, Ok, Err, IfOk, IfErr, OnOk, refl, sym, ap, ◌∙◌, subst, inl, inr, ⊎_elim, arith}
use Rattle.std.proofs.lemmas.List.{take-take}
use Rattle.std.proofs.lemmas.Option.{same_Some, none-some, slice_get_within}
use Rattle.std.proofs.Math.Decide.{dec_le}
use Rattle.std.proofs.Math.Logic.{dite}
use Rattle.mc_model.specs.declared.command.Command.{Command}
use Rattle.mc_model.specs.declared.fault.Fault.{Fault}
use Rattle.mc_model.specs.declared.id.Ticket.{Ticket}
use Rattle.mc_model.specs.declared.shown.Phase.TheVariants.{Pending}
use Rattle.mc_model.specs.Legal.{count, ticket_of}
use Rattle.uc_cells.specs.Sighting.{Sighting}
use Rattle.uc_worker.specs.declared.worker.Worker.{Worker}
use Rattle.uc_worker.specs.declared.worker.Answer.{Answer}
use Rattle.uc_worker.specs.Going.{CatchesUp, Continues, Submits}
use Rattle.uc_worker.specs.Steps.{Leaves}
use Rattle.uc_worker.specs.Unsettled.{HasSettled, IsUnsettled, UnsettlesOnlyNext}
use Rattle.uc_worker.specs.Worker.{history_of, next_of, seat_of}
use Rattle.lists.proofs.Public.{at_longer, beyond, take_more}
use Rattle.uc_worker.proofs.Onward.{idle_of}
use Rattle.model_lemmas.proofs.Tickets.{count_front, count_own, stands}

-- how many of its own commands are in a worker's history
abbrev pub replayed : Worker → ℕ
replayed worker = count (seat_of worker).worker (take (length (history_of worker)) (seat_of worker).state.learned)

-- they are those of smaller numbers than what is unsettled
pub replayed_before : (worker : Worker) (ticket : Ticket) → IsUnsettled worker ticket → replayed worker ≤ ticket.number
replayed_before worker ticket left = dite (dec_le (replayed worker) ticket.number) (λ few. few)
    (λ more. let before = stands (seat_of worker).state.learned (seat_of worker).worker ticket.number (length (history_of worker)) worker.pass.desk.law.legal (omega arith) in
    by_found before.0 before.1 before.2 (slice_get (history_of worker) before.0) refl)
  where
    by_found : (place : ℕ) → place < length (history_of worker) →
        slice_get (seat_of worker).state.learned place ≡ Some (ticket_of (seat_of worker).worker ticket.number) →
        (found : Option Sighting) → slice_get (history_of worker) place ≡ found → replayed worker ≤ ticket.number
    by_found place inside there None empty = let out = beyond (history_of worker) place empty in absurd (omega arith)
    by_found place inside there (Some seen) at =
        let same : seen.ticket ≡ ticket_of (seat_of worker).worker ticket.number =
        same_Some seen.ticket (ticket_of (seat_of worker).worker ticket.number) (sym (worker.follows.tickets place seen at) ∙ there) in
        absurd (left.absent place seen at (same ∙ (λ i. ticket_of (sym left.own i) ticket.number)))

-- the next one isn't among them
pub next_is_absent : (worker : Worker) (place : ℕ) (seen : Sighting) → slice_get (history_of worker) place ≡ Some seen →
    seen.ticket ≢ ticket_of (seat_of worker).worker (replayed worker)
next_is_absent worker place seen at is =
    let learned = (seat_of worker).state.learned in
    let number = (seat_of worker).worker in
    let end = length (history_of worker) in
    let next = ticket_of (seat_of worker).worker (replayed worker) in
    let there : slice_get learned place ≡ Some next = worker.follows.tickets place seen at ∙ ap (λ (ticket : Ticket). Some ticket) is in
    let legal : count number (take place learned) ≡ replayed worker = worker.pass.desk.law.legal place next there in
    let inside : suc place ≤ end = let within = slice_get_within (history_of worker) place seen at in omega arith in
    let one_more : count number (take (suc place) learned) ≡ count number (take place learned) + 1 =
    ap (count number) (take_more learned place next there) ∙ count_own number (take place learned) next refl in
    let cut = ap (count number) (take-take (suc place) end learned inside) in
    let least = count_front number (suc place) (take end learned) in
    omega arith

-- all are replayed: nothing is unsettled
pub none_unsettled : (worker : Worker) → (seat_of worker).state.announced ≤ replayed worker → HasSettled worker
none_unsettled worker all ticket left = let more = replayed_before worker ticket left in let below = left.announced in omega arith

pub reports_none : (worker : Worker) → (seat_of worker).state.announced ≤ replayed worker →
    (ticket : Ticket) → (None ≡ Some ticket) ↔ IsUnsettled worker ticket
reports_none worker all ticket = ((λ is. absurd (none-some ticket is)), (λ left. absurd (none_unsettled worker all ticket left)))

-- one isn't: it is unsettled, and nothing else is
pub reports_one : (worker : Worker) (found : Ticket) → found.worker ≡ (seat_of worker).worker → found.number ≡ replayed worker →
    replayed worker < (seat_of worker).state.announced → (ticket : Ticket) → (Some found ≡ Some ticket) ↔ IsUnsettled worker ticket
reports_one worker found own next one ticket = ((λ is. to_left (same_Some found ticket is)), (λ left. to_same left))
  where
    to_left : found ≡ ticket → IsUnsettled worker ticket
    to_left is = subst (IsUnsettled worker) ((λ i. ticket_of (sym own i) (sym next i)) ∙ is)
        (record { own = refl; announced = one; absent = next_is_absent worker })

    to_same : IsUnsettled worker ticket → Some found ≡ Some ticket
    to_same left =
        let more = replayed_before worker ticket left in let below = left.announced in let lacks = worker.lacks in
        let same : found.number ≡ ticket.number = omega arith in
        (λ i. Some (ticket_of ((own ∙ sym left.own) i) (same i)))

-- a pending command is the one
pub pending_next : (worker : Worker) → (seat_of worker).state.phase ≡ Pending → (seat_of worker).state.announced ≡ replayed worker + 1
pending_next worker pending =
    let law = worker.pass.desk.law.pending pending in
    let front = count_front (seat_of worker).worker (length (history_of worker)) (seat_of worker).state.learned in
    let lacks = worker.lacks in omega arith

-- the first own ticket behind the history is the one
pub found_next : (worker : Worker) (place : ℕ) (ticket : Ticket) → slice_get (seat_of worker).state.learned place ≡ Some ticket → ticket.worker ≡ (seat_of worker).worker →
    count (seat_of worker).worker (take place (seat_of worker).state.learned) ≡ replayed worker →
    (ticket.number ≡ replayed worker) × (replayed worker < (seat_of worker).state.announced)
found_next worker place ticket at own before =
    let legal : count ticket.worker (take place (seat_of worker).state.learned) ≡ ticket.number = worker.pass.desk.law.legal place ticket at in
    let same = ap (λ (number : ℕ). count number (take place (seat_of worker).state.learned)) own in
    let announced = worker.pass.desk.law.own place ticket at own in
    (omega arith, omega arith)

-- where none is found, all are replayed
pub all_replayed : (worker : Worker) (place : ℕ) → (seat_of worker).state.phase ≢ Pending → length (seat_of worker).state.learned ≤ place →
    count (seat_of worker).worker (take place (seat_of worker).state.learned) ≡ replayed worker → (seat_of worker).state.announced ≤ replayed worker
all_replayed worker place other far none =
    let law = worker.pass.desk.law.idle (idle_of (seat_of worker).state.phase worker.rests other) in
    let all = ap (count (seat_of worker).worker) (take_all place (seat_of worker).state.learned far) in
    omega arith

-- whoever has announced at most one more
pub unsettles_next : (old new : Worker) → Continues old new → (seat_of new).state.announced ≤ (seat_of old).state.announced + 1 → UnsettlesOnlyNext old new
unsettles_next old new continues few ticket left = dite (dec_le (suc ticket.number) (seat_of old).state.announced)
    (λ below. inr (record {
      own = left.own ∙ continues.same.1;
      announced = omega arith;
      absent = λ place seen at. left.absent place seen
          (ap (λ (list : List Sighting). slice_get list place) continues.history.1 ∙ at_longer (history_of old) continues.history.0 place seen at);
    }))
    (λ last. let below = left.announced in let same : ticket.number ≡ (seat_of old).state.announced = omega arith in
    inl (λ i. ticket_of ((left.own ∙ continues.same.1) i) (same i)))

-- whoever has answered a command: the last place of the history has it
pub settles_last : (worker : Worker) (place number : ℕ) (seen : Sighting) → slice_get (history_of worker) place ≡ Some seen → length (history_of worker) ≡ place + 1 →
    seen.ticket ≡ ticket_of (seat_of worker).worker number → (seat_of worker).state.announced ≡ number + 1 → HasSettled worker
settles_last worker place number seen at last is announced =
    let learned = (seat_of worker).state.learned in
    let own = (seat_of worker).worker in
    let there : slice_get learned place ≡ Some (ticket_of own number) = worker.follows.tickets place seen at ∙ ap (λ (ticket : Ticket). Some ticket) is in
    let legal : count own (take place learned) ≡ number = worker.pass.desk.law.legal place (ticket_of own number) there in
    let one_more : count own (take (suc place) learned) ≡ count own (take place learned) + 1 =
    ap (count own) (take_more learned place (ticket_of own number) there) ∙ count_own own (take place learned) (ticket_of own number) refl in
    let long : length (history_of worker) ≡ suc place = omega arith in
    let all : replayed worker ≡ count own (take (suc place) learned) = ap (λ (end : ℕ). count own (take end learned)) long in
    none_unsettled worker (omega arith)

-- an answered command
pub settles_answer : (result : Result Answer Fault) (old new : Worker) (tenant : ℕ) (command : Command) → Continues old new →
    IfOk result (λ answer. Submits old new tenant command answer) → OnOk result (HasSettled new)
settles_answer (Ok answer) old new tenant command continues submits =
    settles_last new answer.place (seat_of old).state.announced (next_of old tenant command) submits.own submits.last
    (λ i. ticket_of (sym continues.same.1 i) (seat_of old).state.announced) submits.count
settles_answer (Err fault) old new tenant command continues submits = tt

announces_few : (result : Result Answer Fault) (old new : Worker) (tenant : ℕ) (command : Command) →
    IfOk result (λ answer. Submits old new tenant command answer) → IfErr result (λ fault. Leaves fault (seat_of old) (seat_of new)) →
    (seat_of new).state.announced ≤ (seat_of old).state.announced + 1
announces_few (Ok answer) old new tenant command submits leaves = let one = submits.count in omega arith
announces_few (Err fault) old new tenant command submits leaves =
    ⊎_elim (λ (same : (seat_of new).state.announced ≡ (seat_of old).state.announced). omega arith)
    (λ (more : (seat_of new).state.announced ≡ (seat_of old).state.announced + 1). omega arith) leaves.announced

-- whoever catches up announces nothing
announces_none : (old new : Worker) → CatchesUp old new → (seat_of new).state.announced ≡ (seat_of old).state.announced
announces_none old new up = sym new.pass.count ∙ (ap (λ (own : List Sighting). length own) up.announced ∙ old.pass.count)

pub unsettles_nothing : (old new : Worker) → CatchesUp old new → UnsettlesOnlyNext old new
unsettles_nothing old new up = let same = announces_none old new up in unsettles_next old new up.continues (omega arith)

-- first an earlier command, and then a new one
pub unsettles_after : (result : Result Answer Fault) (old ready new : Worker) (tenant : ℕ) (command : Command) → CatchesUp old ready → Continues ready new →
    IfOk result (λ answer. Submits ready new tenant command answer) → IfErr result (λ fault. Leaves fault (seat_of ready) (seat_of new)) →
    UnsettlesOnlyNext old new
unsettles_after result old ready new tenant command up continues submits leaves ticket left =
    ⊎_elim (λ next. inl (next ∙ (λ i. ticket_of (up.continues.same.1 i) (announces_none old ready up i)))) (unsettles_nothing old ready up ticket)
    (unsettles_next ready new continues (announces_few result ready new tenant command submits leaves) ticket left)
