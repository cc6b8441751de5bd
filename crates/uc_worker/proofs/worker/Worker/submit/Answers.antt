-- First an earlier command, and then this one.
use Rattle.uc_worker.specs.Worker.{own_desk}
use Rattle.uc_worker.proofs.Counting.{takes_through}
use Rattle.uc_worker.proofs.Unsettled.{settles_answer, unsettles_after, unsettles_nothing}
use Rattle.uc_worker.proofs.worker.Worker.submit.Goals as goal

pub returns-clause-takes : goal.returns-clause-takes
returns-clause-takes g c = takes_through 1 2 (own_desk c.args.self.now) (own_desk c.ready.new.self) (own_desk c.answer_new.new.self)
    c.ready.ensures.takes c.answer_new.ensures.takes

pub returns-in_err-ready-clause-unsettled : goal.returns-in_err-ready-clause-unsettled
returns-in_err-ready-clause-unsettled g c = unsettles_nothing c.args.self.now c.ready.new.self c.ready.ensures.catches

pub returns-clause-settled : goal.returns-clause-settled
returns-clause-settled g c = settles_answer c.answer_new.result c.ready.new.self c.answer_new.new.self c.args.tenant c.args.command
    c.answer_new.ensures.continues c.answer_new.ensures.submits

pub returns-clause-unsettled : goal.returns-clause-unsettled
returns-clause-unsettled g c = unsettles_after c.answer_new.result c.args.self.now c.ready.new.self c.answer_new.new.self c.args.tenant c.args.command
    c.ready.ensures.catches c.answer_new.ensures.continues c.answer_new.ensures.submits c.answer_new.ensures.faults
