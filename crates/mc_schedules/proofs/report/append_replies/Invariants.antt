use Rattle.std.proofs.Common.{◌≡◌, ◌++◌, take, flat_map}
use Rattle.mc_schedules.specs.Report.{reply_line}
use Rattle.mc_schedules.proofs.report.append_replies.Given as goal

-- the replies so far are written
abbrev pub invariant-loop-worker : goal.invariant-loop-worker
invariant-loop-worker l = l.out.items ≡ l.initial.out.items ++ flat_map reply_line (take l.worker-index l.replies)
