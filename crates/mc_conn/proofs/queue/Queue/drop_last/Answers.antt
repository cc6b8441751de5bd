use Rattle.std.proofs.Common.{◌≡◌, ◌+◌, ◌-◌, ◌≤◌, length, take, refl, ap, ◌∙◌, arith, length-take}
use Rattle.mc_conn.specs.Queued.{own_before}
use Rattle.mc_conn.proofs.Queues.{own-last, queued-shorter, queued-trimmed, queued-without, runs-last, some-but_last, some-last}
use Rattle.mc_conn.proofs.queue.Queue.drop_last.Goals as goal

pub returns-then-behind-gt0-clause-rest : goal.returns-then-behind-gt0-clause-rest
returns-then-behind-gt0-clause-rest c =
    let q = c.self.inside in
    let i = c.self.invariant in
    let t = c.min-taken.result in
    let room : t + q.pushed + own_before q.parts.items ≤ length q.bytes.items = omega (arith, q.bytes.ok.0, c.min-taken.ensures, i.within, c.len.ensures) in
    let cut : c.truncate.new.self.items ≡ take (length q.bytes.items - t) q.bytes.items = rw (← q.bytes.ok.0, ← c.len-then-behind-gt0.ensures) c.truncate.ensures.items in
    rw (← c.self.view_is) (queued-shorter q.parts.items q.pushed t c.truncate.new.self.items q.bytes.items cut room)

pub overflow_sub-self : goal.overflow_sub-self
overflow_sub-self c = omega (arith, c.self.invariant.in_runs, c.len-2.ensures, runs-last c.pop_back.new.self.items c.self.inside.parts.items c.in-Some.part c.in-Some.ensures.items)

pub invariant_of-self-then-count-len : goal.invariant_of-self-then-count-len
invariant_of-self-then-count-len c =
    let q = c.self.inside in
    let i = c.self.invariant in
    let part = c.in-Some.part in
    let rest = c.pop_back.new.self.items in
    let back = c.in-Some.ensures.items in
    let all = c.push_back_reserved.new.self.items in
    let now = c.push_back_reserved.ensures.items in
    let left : length c.truncate-then-count-len.new.self + c.args.count ≡ length part.run =
    omega (arith, ap length c.truncate-then-count-len.ensures, length-take (c.len-then-count-len.result - c.args.count) part.run, c.len-2.ensures, c.len-then-count-len.ensures) in
    record {
      within = omega (arith, i.within, own-last rest q.parts.items part back, own-last rest all _ now);
      own = i.own;
      some = some-last rest all _ now (omega (arith, left, c.len-2.ensures)) (some-but_last q.parts.items rest part back i.some);
      in_runs = omega (arith, i.in_runs, left, runs-last rest q.parts.items part back, runs-last rest all _ now);
      few = omega (arith, i.few);
    }

pub returns-then-count-len-clause-rest : goal.returns-then-count-len-clause-rest
returns-then-count-len-clause-rest c =
    let q = c.self.inside in
    let part = c.in-Some.part in
    let own : q.pushed + own_before q.parts.items ≡ length q.bytes.items = omega (arith, q.bytes.ok.0, c.self.invariant.own, c.self.invariant.within, c.len.ensures) in
    rw (← c.self.view_is) (queued-trimmed q.parts.items c.push_back_reserved.new.self.items c.pop_back.new.self.items part _ q.pushed c.args.count q.bytes.items c.in-Some.ensures.items
    c.push_back_reserved.ensures.items refl (c.truncate-then-count-len.ensures ∙ ap (λ n. take (n - c.args.count) part.run) c.len-then-count-len.ensures) (omega (arith, c.len-2.ensures)) own)

pub overflow_sub-self-2 : goal.overflow_sub-self-2
overflow_sub-self-2 c = omega (arith, c.self.invariant.within, own-last c.pop_back.new.self.items c.self.inside.parts.items c.in-Some.part c.in-Some.ensures.items)

pub overflow_sub-self-3 : goal.overflow_sub-self-3
overflow_sub-self-3 c = omega (arith, c.self.invariant.in_runs, c.len-3.ensures, runs-last c.pop_back.new.self.items c.self.inside.parts.items c.in-Some.part c.in-Some.ensures.items)

pub invariant_of-self-2 : goal.invariant_of-self-2
invariant_of-self-2 c =
    let q = c.self.inside in
    let i = c.self.invariant in
    let part = c.in-Some.part in
    let rest = c.pop_back.new.self.items in
    let back = c.in-Some.ensures.items in
    record {
      within = omega (arith, i.within, own-last rest q.parts.items part back);
      own = omega (arith, i.own);
      some = some-but_last q.parts.items rest part back i.some;
      in_runs = omega (arith, i.in_runs, c.len-3.ensures, runs-last rest q.parts.items part back);
      few = omega (arith, i.few);
    }

pub returns-clause-rest : goal.returns-clause-rest
returns-clause-rest c =
    let q = c.self.inside in
    let own : q.pushed + own_before q.parts.items ≡ length q.bytes.items = omega (arith, q.bytes.ok.0, c.self.invariant.own, c.self.invariant.within, c.len.ensures) in
    rw (c.len-4.ensures, ← c.self.view_is) (queued-without q.parts.items c.pop_back.new.self.items c.in-Some.part q.pushed q.bytes.items c.in-Some.ensures.items own)
