use Rattle.std.proofs.Common.{◌≡◌, Some, take, slice_get, subst, arith}
use Rattle.std.proofs.lemmas.Grind.{common_steps}
use Rattle.std.proofs.lemmas.Option.{gets}
use Rattle.uc_core.specs.Run.{IsReachedCore}
use Rattle.uc_core.proofs.Followed.{Ran-push, ran-legal, ran-log, ran-replies}
use Rattle.uc_core.proofs.machine.Core.run.Goals as goal

pub loop-at-preserved : goal.loop-at-preserved
loop-at-preserved c =
    let was = c.loop-at in
    let new = c.run_one.new in
    let at : slice_get c.args.events.now was.at ≡ Some c.index-events-at.result = grind (arith, common_steps, gets) in
    let step = c.in_default.ensures.step in
    Ran-push c.args.self.now was.self new.self c.args.events.now was.at _ step.0 c.args.replies.now.items was.replies.items new.replies.items at was.invariant step.1 step.2

pub returns-in-Err-clause-log : goal.returns-in-Err-clause-log
returns-in-Err-clause-log c =
    let was = c.loop-at in
    let reached = subst IsReachedCore c.self.view_is c.self.invariant.reached in
    rw c.in-Err.ensures.unchanged
    (ran-log c.args.self.now was.self (take was.at c.args.events.now) c.args.replies.now.items was.replies.items reached was.invariant)

pub returns-in-Err-clause-legal : goal.returns-in-Err-clause-legal
returns-in-Err-clause-legal c =
    let was = c.loop-at in
    let reached = subst IsReachedCore c.self.view_is c.self.invariant.reached in
    rw c.in-Err.ensures.unchanged
    (ran-legal c.args.self.now was.self (take was.at c.args.events.now) c.args.replies.now.items was.replies.items reached was.invariant)

pub returns-in-Err-clause-replies : goal.returns-in-Err-clause-replies
returns-in-Err-clause-replies c =
    let was = c.loop-at in
    let reached = subst IsReachedCore c.self.view_is c.self.invariant.reached in
    rw (c.in-Err.ensures.unchanged, c.in-Err.ensures.unanswered)
    (ran-replies c.args.self.now was.self (take was.at c.args.events.now) c.args.replies.now.items was.replies.items reached was.invariant)

pub returns-clause-log : goal.returns-clause-log
returns-clause-log c =
    let was = c.loop-at in
    let reached = subst IsReachedCore c.self.view_is c.self.invariant.reached in
    ran-log c.args.self.now was.self (take was.at c.args.events.now) c.args.replies.now.items was.replies.items reached was.invariant

pub returns-clause-legal : goal.returns-clause-legal
returns-clause-legal c =
    let was = c.loop-at in
    let reached = subst IsReachedCore c.self.view_is c.self.invariant.reached in
    ran-legal c.args.self.now was.self (take was.at c.args.events.now) c.args.replies.now.items was.replies.items reached was.invariant

pub returns-clause-replies : goal.returns-clause-replies
returns-clause-replies c =
    let was = c.loop-at in
    let reached = subst IsReachedCore c.self.view_is c.self.invariant.reached in
    ran-replies c.args.self.now was.self (take was.at c.args.events.now) c.args.replies.now.items was.replies.items reached was.invariant
