use Rattle.std.proofs.Common.{◌≤◌, drop, length, arith, length-drop}
use Rattle.mc_conn.specs.Queued.{own_before}
use Rattle.mc_conn.proofs.Queues.{length-together}
use Rattle.mc_conn.proofs.queue.Queue.len.Goals as goal

pub returns : goal.returns
returns c =
    let q = c.self.inside in
    let i = c.self.invariant in
    let own = drop q.pushed q.bytes.items in
    let few : own_before q.parts.items ≤ length own = omega (arith, q.bytes.ok.0, i.own, i.within, length-drop q.pushed q.bytes.items) in
    rw (← c.self.view_is) (omega (arith, length-together q.parts.items own few, length-drop q.pushed q.bytes.items, q.bytes.ok.0, i.in_runs, i.own, c.len.ensures))
