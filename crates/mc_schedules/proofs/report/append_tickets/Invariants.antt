use Rattle.std.proofs.Common.{◌≡◌, ◌++◌, take, flat_map}
use Rattle.mc_schedules.specs.Report.{ticket_text}
use Rattle.mc_schedules.proofs.report.append_tickets.Given as goal

-- the tickets so far are written
abbrev pub invariant-loop-ticket : goal.invariant-loop-ticket
invariant-loop-ticket l = l.out.items ≡ l.initial.out.items ++ flat_map ticket_text (take l.ticket-index l.tickets)
