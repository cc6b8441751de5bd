use Rattle.std.proofs.Common.{IfSome, Option, sym, ap, subst}
use Rattle.mc_model.specs.Replay.{HaveRoom}
use Rattle.mc_model.specs.Settings.{Configuration}
use Rattle.uc_worker.specs.declared.turning_over.Next.{Next}
use Rattle.uc_worker.specs.Worker.{tables_of}
use Rattle.mc_programs.specs.Generations.{IsNextForOne}
use Rattle.mc_programs.proofs.Openings.{can_turn_over, next_for_one}
use Rattle.mc_programs.proofs.turning_over.TurnOverAloneTurnOver.turn_over.Goals as goal

pub turn_over_alone-requires-clause-ready : goal.turn_over_alone-requires-clause-ready
turn_over_alone-requires-clause-ready c =
    let room = subst (HaveRoom (tables_of c.args.worker.now)) (ap (λ (settings : Configuration). settings.places) (sym c.settings.ensures)) c.requires.room in
    can_turn_over c.args.log.now c.settings.result.now c.args.worker.now c.settings.ensures c.requires.log c.requires.done room

pub returns-clause-ready : goal.returns-clause-ready
returns-clause-ready c =
    let ends = c.turn_over_alone.ensures in
    let next = next_for_one c.args.log.now c.settings.result.now c.turn_over_alone.result c.settings.ensures c.requires.alone ends.settings ends.count ends.passes ends.tenants ends.room in
    subst (λ (it : Option Next). IfSome it IsNextForOne) (sym c.ok.ensures.value) next
