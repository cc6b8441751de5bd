use Rattle.std.proofs.Common.{◌≡◌, ◌++◌}
use Rattle.mc_schedules.proofs.Workers.{first_text}
use Rattle.mc_schedules.proofs.report.append_workers.Given as goal

-- the lines of the workers so far are written
abbrev pub invariant-loop-number : goal.invariant-loop-number
invariant-loop-number l = l.out.items ≡ l.initial.out.items ++ first_text l.core l.number
