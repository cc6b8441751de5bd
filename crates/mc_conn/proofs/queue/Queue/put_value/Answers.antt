use Rattle.std.proofs.Common.{◌+◌, ◌≤◌, length, arith}
use Rattle.mc_write.specs.Text.{value_text}
use Rattle.mc_conn.specs.Queued.{own_before}
use Rattle.mc_conn.proofs.Queues.{queued-put}
use Rattle.mc_conn.proofs.queue.Queue.put_value.Goals as goal

pub returns-clause-queued : goal.returns-clause-queued
returns-clause-queued c =
    let q = c.self.inside in
    let few : q.pushed + own_before q.parts.items ≤ length q.bytes.items = omega (arith, q.bytes.ok.0, c.self.invariant.own, c.self.invariant.within) in
    rw (← c.self.view_is) (queued-put q.parts.items q.pushed q.bytes.items (value_text c.args.value.now) c.write_value.new.out.items c.in_ok-write_value.ensures.text few)
