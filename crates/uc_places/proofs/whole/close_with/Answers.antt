-- At the end the words encode a state's log, which the seat shows (`Closing`).
use Rattle.std.proofs.Common.{ℕ, ◌+◌, Vec, Global, ◌≡◌, List, subst, arith}
use Rattle.core.specs.Mem.Slots.{slots_items}
use Rattle.mc_model.specs.declared.id.Ticket.{Ticket}
use Rattle.uc_places.specs.Desk.{AreTickets, Spells}
use Rattle.uc_places.proofs.Closing.{closes, if_ok}
use Rattle.uc_places.proofs.Spelled.{spelled_tickets}
use Rattle.uc_places.proofs.whole.close_with.Goals as goal

pub decided-log-requires-clause-tickets : goal.decided-log-requires-clause-tickets
decided-log-requires-clause-tickets c =
    let seat = c.args.seat in let p = c.args.places in
    let end = closes p.table.shared.key seat.id seat.me.0 _ _ c.requires.seated c.close_with-closed.ensures.values.2 in
    subst (λ (z : ℕ × ℕ). AreTickets (slots_items c.close_with-closed.result.words) (1 + z.0) z.1) (λ i. (p.sized.0 i, p.sized.1 i))
    (spelled_tickets _ _ _ _ end.2)

pub free-requires : goal.free-requires
free-requires c = λ k l. let e = c.close_with-closed.ensures.counts.1 in let none = c.args.places.no_slot in absurd (omega arith)

pub returns-clause-log : goal.returns-clause-log
returns-clause-log c =
    let seat = c.args.seat in let p = c.args.places in
    let end = closes p.table.shared.key seat.id seat.me.0 _ _ c.requires.seated c.close_with-closed.ensures.values.2 in
    let spells : Spells (slots_items c.close_with-closed.result.words) (1 + p.workers) p.places end.0.decided =
    subst (λ (z : ℕ × ℕ). Spells (slots_items c.close_with-closed.result.words) (1 + z.0) z.1 end.0.decided)
    (λ i. (p.sized.0 i, p.sized.1 i)) end.2 in
    if_ok _ (λ (v : Vec Ticket Global). (tickets : List Ticket) →
    Spells (slots_items c.close_with-closed.result.words) (1 + p.workers) p.places tickets → v.items ≡ tickets) _
    (λ v h. (end.0, end.1, h end.0.decided spells, end.3, end.4)) c.decided-log.ensures.spelled
