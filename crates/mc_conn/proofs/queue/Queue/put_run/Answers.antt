use Rattle.std.proofs.Common.{◌≡◌, ◌+◌, ◌-◌, length, arith}
use Rattle.mc_conn.specs.declared.queue.Part.{Part}
use Rattle.mc_conn.specs.Queued.{own_before}
use Rattle.mc_conn.proofs.Queues.{own-last, queued-run, runs-last, some-last}
use Rattle.mc_conn.proofs.queue.Queue.put_run.Goals as goal

pub invariant_of-self-2 : goal.invariant_of-self-2
invariant_of-self-2 c =
    let q = c.self.inside in
    let i = c.self.invariant in
    let part : Part = record { own = c.len.result - q.pushed - q.within; run = c.new-run.result } in
    let all = c.in_ok-push_back.ensures.items in
    record {
      within = omega (arith, i.within, own-last q.parts.items c.push_back.new.self.items part all);
      own = omega (arith, c.len.ensures, i.own);
      some = some-last q.parts.items c.push_back.new.self.items part all (rw c.new-run.ensures c.requires) i.some;
      in_runs = omega (arith, i.in_runs, c.len-len.ensures, runs-last q.parts.items c.push_back.new.self.items part all);
      few = omega (arith, i.few);
    }

pub returns-clause-queued : goal.returns-clause-queued
returns-clause-queued c =
    let q = c.self.inside in
    let part : Part = record { own = c.len.result - q.pushed - q.within; run = c.new-run.result } in
    let few : q.pushed + own_before q.parts.items + part.own ≡ length q.bytes.items = omega (arith, q.bytes.ok.0, c.len.ensures, c.self.invariant.own, c.self.invariant.within) in
    rw (← c.self.view_is, ← c.new-run.ensures) (queued-run q.parts.items c.push_back.new.self.items part q.pushed q.bytes.items c.in_ok-push_back.ensures.items few)
