-- The list is the log of a reachable state, and so it is legal and begins with what its workers
-- have learned.
use Rattle.std.proofs.Common.{Vec, Global, ◌≡◌, List, [], sym, ap, ◌∙◌, subst}
use Rattle.std.proofs.lemmas.Option.{same_Some}
use Rattle.mc_model.specs.declared.id.Ticket.{Ticket}
use Rattle.mc_model.specs.declared.shown.ShownState.{ShownState}
use Rattle.lists.specs.Lists.{BeginsWith}
use Rattle.mc_model.specs.Lawful.{IsReached}
use Rattle.mc_model.specs.Legal.{IsLegal}
use Rattle.uc_places.specs.declared.desk.Desk.{Desk}
use Rattle.uc_places.specs.Calls.{known, state_of}
use Rattle.uc_places.specs.End.{IsPartOf}
use Rattle.uc_places.specs.Run.{AreOneRun, all_parts}
use Rattle.uc_places.specs.Seats.{desk_of}
use Rattle.model_lemmas.proofs.Waiting.{is_lawful}
use Rattle.uc_places.proofs.Closing.{if_ok}
use Rattle.uc_places.proofs.whole.close.Goals as goal

pub returns-in-None-clause-legal : goal.returns-in-None-clause-legal
returns-in-None-clause-legal c = let size = c.args.places.table.shared.key in
    if_ok _ (λ (v : Vec Ticket Global). (log : ShownState) × IsReached size log × (v.items ≡ log.decided) × AreOneRun size [] log) _
    (λ v h. subst IsLegal (sym h.2) (is_lawful size h.0 h.1).legal) c.close_bare.ensures.log

pub returns-in-Some-clause-legal : goal.returns-in-Some-clause-legal
returns-in-Some-clause-legal c = let size = c.args.places.table.shared.key in
    if_ok _ (λ (v : Vec Ticket Global). (log : ShownState) × IsReached size log × (v.items ≡ log.decided) × IsPartOf size log (known c.into_desk-seat.result)
    × AreOneRun size (all_parts (known c.into_desk-seat.result)) log) _
    (λ v h. subst IsLegal (sym h.2) (is_lawful size h.0 h.1).legal) c.close_with.ensures.log

pub returns-in-Some-clause-begins : goal.returns-in-Some-clause-begins
returns-in-Some-clause-begins c = let size = c.args.places.table.shared.key in let desk = c.into_desk-seat.result in
    if_ok _ (λ (v : Vec Ticket Global). (log : ShownState) × IsReached size log × (v.items ≡ log.decided) × IsPartOf size log (known desk)
    × AreOneRun size (all_parts (known desk)) log) _
    (λ v h seat first. let same : c.in-Some.seat ≡ seat = same_Some _ _ (sym c.in-Some.is ∙ (c.first_of.ensures ∙ first)) in
    let begins : BeginsWith v.items (state_of desk).learned = subst (λ (list : List Ticket). BeginsWith list (state_of desk).learned) (sym h.2)
    ((is_lawful size h.0 h.1).each _ _ h.3.0).begins in
    subst (λ (d : Desk). BeginsWith v.items (state_of d).learned) (c.into_desk-seat.ensures.desk ∙ ap desk_of same) begins) c.close_with.ensures.log
