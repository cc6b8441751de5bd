-- By how many of the worker's own commands are in its history.
use Rattle.std.proofs.Common.{◌≡◌, ◌≤◌, List, length, slice_get, Some, refl, sym, ap, ◌∙◌, rules, arith}
use Rattle.std.proofs.lemmas.Option.{slice_get_read}
use Rattle.mc_model.specs.declared.id.Ticket.{Ticket}
use Rattle.uc_worker.specs.Worker.{seat_of}
use Rattle.uc_worker.proofs.Unsettled.{all_replayed, found_next, pending_next, reports_none, reports_one}
use Rattle.uc_worker.proofs.worker.Worker.unsettled.Goals as goal

pub returns-then-is_pending : goal.returns-then-is_pending
returns-then-is_pending c =
    let self = c.args.self.now in
    let next = pending_next self (c.is_pending.ensures.there c.if-is_pending.true) in
    reports_one self _ c.worker-worker.ensures (omega arith) (omega arith)

pub returns-then-eq : goal.returns-then-eq
returns-then-eq c =
    let self = c.args.self.now in
    let place = c.loop-place.place in
    let ticket = c.index-learned-place.result in
    let tickets = c.tickets-learned.result.now in
    let at : slice_get (seat_of self).state.learned place ≡ Some ticket =
    ap (λ (list : List Ticket). slice_get list place) (sym c.tickets-learned.ensures)
    ∙ slice_get_read tickets (length tickets) place ticket refl c.loop-place-test.true c.index-learned-place.is in
    let same : ticket.worker ≡ c.worker-worker.result = search rules in
    let own : ticket.worker ≡ (seat_of self).worker = same ∙ c.worker-worker.ensures in
    let found = found_next self place ticket at own c.loop-place.invariant in
    reports_one self _ c.worker-worker.ensures found.0 found.1

pub returns : goal.returns
returns c =
    let self = c.args.self.now in
    let long = ap length c.tickets-learned.ensures in
    let far : length (seat_of self).state.learned ≤ c.loop-place.place = omega arith in
    reports_none self (all_replayed self c.loop-place.place (c.is_pending.ensures.other c.if-is_pending.false) far c.loop-place.invariant)
