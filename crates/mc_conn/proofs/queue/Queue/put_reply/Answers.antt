use Rattle.std.proofs.Common.{◌+◌, ◌≤◌, length, arith}
use Rattle.mc_write.specs.Text.{text}
use Rattle.mc_conn.specs.Queued.{own_before}
use Rattle.mc_conn.proofs.Queues.{queued-put}
use Rattle.mc_conn.proofs.queue.Queue.put_reply.Goals as goal

pub returns : goal.returns
returns c =
    let q = c.self.inside in
    let few : q.pushed + own_before q.parts.items ≤ length q.bytes.items = omega (arith, q.bytes.ok.0, c.self.invariant.own, c.self.invariant.within) in
    rw (← c.self.view_is) (queued-put q.parts.items q.pushed q.bytes.items (text c.args.reply.now) c.write_reply.new.out.items c.in_ok-write_reply.ensures.text few)
