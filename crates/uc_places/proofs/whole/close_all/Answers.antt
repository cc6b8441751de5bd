-- The list is the log that the run of all seats leads to, and so it is legal.
use Rattle.std.proofs.Common.{Vec, Global, ◌≡◌, [], Option, sym, subst}
use Rattle.atomic_table.specs.declared.shared.Seat.{Seat}
use Rattle.mc_model.specs.declared.id.Ticket.{Ticket}
use Rattle.mc_model.specs.declared.shown.ShownState.{ShownState}
use Rattle.mc_model.specs.Lawful.{IsReached}
use Rattle.mc_model.specs.Legal.{IsLegal}
use Rattle.model_lemmas.proofs.Waiting.{is_lawful}
use Rattle.uc_places.specs.declared.view.View.{View}
use Rattle.uc_places.specs.End.{IsPartOf, parts_in, parts_of}
use Rattle.uc_places.specs.Run.{AreAmong, AreOneRun, all_parts}
use Rattle.uc_places.proofs.Closing.{if_ok}
use Rattle.uc_places.proofs.Runs.{among_run}
use Rattle.uc_places.proofs.whole.close_all.Goals as goal

pub returns-in-None-clause-legal : goal.returns-in-None-clause-legal
returns-in-None-clause-legal c = let size = c.args.places.table.shared.key in
    if_ok _ (λ (v : Vec Ticket Global). (log : ShownState) × IsReached size log × (v.items ≡ log.decided) × AreOneRun size [] log) _
    (λ v h. subst IsLegal (sym h.2) (is_lawful size h.0 h.1).legal) c.close_bare.ensures.log

pub returns-in-Some-clause-legal : goal.returns-in-Some-clause-legal
returns-in-Some-clause-legal c = let size = c.args.places.table.shared.key in let view = c.in-Some.seat.me.0 in
    if_ok _ (λ (v : Vec Ticket Global). (log : ShownState) × IsReached size log × (v.items ≡ log.decided) × IsPartOf size log view
    × AreOneRun size (all_parts view) log) _
    (λ v h. subst IsLegal (sym h.2) (is_lawful size h.0 h.1).legal) c.close_with.ensures.log

pub returns-in-None-clause-run : goal.returns-in-None-clause-run
returns-in-None-clause-run c = let size = c.args.places.table.shared.key in let seats = c.args.seats.items in
    let among : AreAmong (parts_of seats) [] =
    subst (λ (o : Option (Seat Unit View)). AreAmong (parts_of seats) (parts_in o)) c.in-None.is c.joined.ensures.parts in
    if_ok _ (λ (v : Vec Ticket Global). (log : ShownState) × IsReached size log × (v.items ≡ log.decided) × AreOneRun size [] log) _
    (λ v h. (h.0, h.2, among_run size (parts_of seats) [] h.0 among h.3)) c.close_bare.ensures.log

pub returns-in-Some-clause-run : goal.returns-in-Some-clause-run
returns-in-Some-clause-run c = let size = c.args.places.table.shared.key in let seats = c.args.seats.items in let view = c.in-Some.seat.me.0 in
    let among : AreAmong (parts_of seats) (all_parts view) =
    subst (λ (o : Option (Seat Unit View)). AreAmong (parts_of seats) (parts_in o)) c.in-Some.is c.joined.ensures.parts in
    if_ok _ (λ (v : Vec Ticket Global). (log : ShownState) × IsReached size log × (v.items ≡ log.decided) × IsPartOf size log view
    × AreOneRun size (all_parts view) log) _
    (λ v h. (h.0, h.2, among_run size (parts_of seats) (all_parts view) h.0 among h.4)) c.close_with.ensures.log
