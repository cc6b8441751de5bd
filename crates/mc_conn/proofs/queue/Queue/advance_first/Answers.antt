use Rattle.std.proofs.Common.{◌≡◌, ◌+◌, ◌∷◌, drop, length, refl, ap, arith, length-drop}
use Rattle.mc_conn.specs.Queued.{bytes_in_runs, own_before}
use Rattle.mc_conn.proofs.Queues.{queued-cut, queued-past, queued-skip, some-front, some-tail}
use Rattle.mc_conn.proofs.queue.Queue.advance_first.Goals as goal

pub returns-then-part-gt0-clause-rest : goal.returns-then-part-gt0-clause-rest
returns-then-part-gt0-clause-rest c =
    let q = c.self.inside in
    rw (← c.self.view_is) (queued-skip q.parts.items c.push_front_reserved.new.self.items c.pop_front.new.self.items c.in-Some.part _ q.pushed c.min-taken.result q.bytes.items
    c.in-Some.ensures.items c.push_front_reserved.ensures.items refl (grind (arith, c.min-taken.ensures)) (omega (arith, q.bytes.ok.0, c.self.invariant.own, c.self.invariant.within)))

pub invariant_of-self-then-count-len : goal.invariant_of-self-then-count-len
invariant_of-self-then-count-len c =
    let q = c.self.inside in
    let i = c.self.invariant in
    let first = c.in-Some.part in
    let front : q.parts.items ≡ first ∷ c.pop_front.new.self.items = c.in-Some.ensures.items in
    let now = c.push_front_reserved-then-count-len.ensures.items in
    let left : length c.advance.new.self + c.args.count ≡ length first.run = omega (arith, ap length c.advance.ensures, length-drop c.args.count first.run, c.len.ensures) in
    record {
      within = omega (arith, i.within, ap own_before front, ap own_before now);
      own = i.own;
      some = some-front c.pop_front.new.self.items _ _ now (omega (arith, left, c.len.ensures)) (some-tail q.parts.items c.pop_front.new.self.items first front i.some);
      in_runs = omega (arith, i.in_runs, left, ap bytes_in_runs front, ap bytes_in_runs now);
      few = omega (arith, i.few);
    }

pub returns-then-count-len-clause-rest : goal.returns-then-count-len-clause-rest
returns-then-count-len-clause-rest c =
    let q = c.self.inside in
    let first = c.in-Some.part in
    let front : q.parts.items ≡ first ∷ c.pop_front.new.self.items = c.in-Some.ensures.items in
    rw (← c.self.view_is) (queued-cut q.parts.items c.push_front_reserved-then-count-len.new.self.items c.pop_front.new.self.items first _ c.args.count (drop q.pushed q.bytes.items)
    front c.push_front_reserved-then-count-len.ensures.items c.advance.ensures refl (omega arith) (omega (arith, c.len.ensures)))

pub invariant_of-self-2 : goal.invariant_of-self-2
invariant_of-self-2 c =
    let q = c.self.inside in
    let i = c.self.invariant in
    let first = c.in-Some.part in
    let front : q.parts.items ≡ first ∷ c.pop_front.new.self.items = c.in-Some.ensures.items in
    record {
      within = omega (arith, i.within, ap own_before front);
      own = i.own;
      some = some-tail q.parts.items c.pop_front.new.self.items first front i.some;
      in_runs = omega (arith, i.in_runs, ap bytes_in_runs front, c.len-2.ensures);
      few = omega (arith, i.few);
    }

pub returns-clause-rest : goal.returns-clause-rest
returns-clause-rest c =
    let q = c.self.inside in
    let front = c.in-Some.ensures.items in
    rw (c.len-3.ensures, ← c.self.view_is) (queued-past q.parts.items c.pop_front.new.self.items c.in-Some.part (drop q.pushed q.bytes.items) front (omega arith))
