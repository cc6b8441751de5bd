use Rattle.std.proofs.Common.{rules}
use Rattle.std.proofs.lemmas.List.Elements.{All-push}
use Rattle.mc_net.specs.Running.{ClosesAt, IsNewLoop, KeepsAt}
use Rattle.mc_net.proofs.front.new_event_loops.Goals as goal

pub loop-preserved : goal.loop-preserved
loop-preserved g c = record {
  mailboxes = search rules;
  many = search rules;
  new = rw c.in_ok-push-2.ensures.items (All-push (IsNewLoop c.args.settings.tenants) c.loop.event_loops.items _ c.loop.invariant.new c.in_ok-new.ensures.new);
  reserve = rw c.in_ok-push-2.ensures.items (All-push (KeepsAt c.args.settings.reserve) c.loop.event_loops.items _ c.loop.invariant.reserve c.in_ok-new.ensures.reserve);
  bytes = rw c.in_ok-push-2.ensures.items (All-push (ClosesAt c.args.settings.log_bytes) c.loop.event_loops.items _ c.loop.invariant.bytes c.in_ok-new.ensures.bytes);
}
