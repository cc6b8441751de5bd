-- As many as rounds so far, and new.
use Rattle.std.proofs.Common.{◌≡◌, All, vec_len}
use Rattle.mc_net.specs.Running.{ClosesAt, IsNewLoop, KeepsAt}
use Rattle.mc_net.proofs.front.new_event_loops.Given as goal

abbrev pub invariant-loop : goal.invariant-loop
invariant-loop g l = record {
  mailboxes : vec_len l.mailboxes ≡ l.counter;
  many : vec_len l.event_loops ≡ l.counter;
  new : All (IsNewLoop l.fn.settings.tenants) l.event_loops.items;
  reserve : All (KeepsAt l.fn.settings.reserve) l.event_loops.items;
  bytes : All (ClosesAt l.fn.settings.log_bytes) l.event_loops.items;
}
