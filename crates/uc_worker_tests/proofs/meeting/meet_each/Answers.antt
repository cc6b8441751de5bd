-- The next one is of the log, and stays so once it was met.
use Rattle.std.proofs.Common.{◌≡◌}
use Rattle.std.proofs.lemmas.List.Elements.{All-push, All-rest}
use Rattle.uc_worker_tests.specs.declared.meeting.Ended.{Ended}
use Rattle.uc_worker_tests.proofs.meeting.meet_each.Goals as goal

pub loop-other-preserved : goal.loop-other-preserved
loop-other-preserved c =
    let P = λ (ended : Ended). ended.client.log.now ≡ c.args.log.now in
    let steps = c.in-Some.ensures.steps.0 in
    let before = c.loop-other.invariant in
    let left = All-rest P c.in-Some.other _ _ steps before.2 in
    (c.in_ok-meet.ensures.one, rw c.in_ok-push.ensures.items (All-push P _ _ before.1 c.in_ok-meet.ensures.other), left)
