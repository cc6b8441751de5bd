-- All clients are of the log: those that have met, those that are left, and the one.
use Rattle.std.proofs.Common.{◌≡◌, All}
use Rattle.uc_worker_tests.specs.declared.meeting.Ended.{Ended}
use Rattle.uc_worker_tests.proofs.meeting.meet_each.Given as goal

abbrev pub invariant-loop-other : goal.invariant-loop-other
invariant-loop-other l = (l.one.client.log.now ≡ l.log)
    × All (λ (other : Ended). other.client.log.now ≡ l.log) l.all.items
    × All (λ (other : Ended). other.client.log.now ≡ l.log) l.other-iterator.rest.items
