use Rattle.std.proofs.Common.{◌+◌, ◌≤◌, ◌++◌, codes, length, arith}
use Rattle.mc_write.specs.Text.{value_line}
use Rattle.mc_conn.specs.Queued.{own_before}
use Rattle.mc_conn.proofs.Queues.{queued-put}
use Rattle.mc_conn.proofs.queue.Queue.put_line.Goals as goal

pub returns-clause-queued : goal.returns-clause-queued
returns-clause-queued c =
    let q = c.self.inside in
    let few : q.pushed + own_before q.parts.items ≤ length q.bytes.items = omega (arith, q.bytes.ok.0, c.self.invariant.own, c.self.invariant.within) in
    rw (← c.self.view_is) (queued-put q.parts.items q.pushed q.bytes.items (value_line c.args.value.now ++ codes "\r\n") c.write_line.new.out.items c.in_ok-write_line.ensures.text few)
