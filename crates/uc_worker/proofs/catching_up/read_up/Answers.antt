-- A read, by which a place is learned, or which is the last.
use Rattle.std.proofs.Common.{ℕ, ◌+◌, ap, arith, ◌∙◌}
use Rattle.uc_log.specs.Passes.{desk}
use Rattle.uc_worker.proofs.Counting.{calls_more, some_of, takes_learned, takes_read}
use Rattle.uc_worker.proofs.Learning.{later_through, learns_later, learns_more, learns_read}
use Rattle.uc_worker.proofs.Told.{rests_read}
use Rattle.uc_worker.proofs.catching_up.read_up.Goals as goal

pub returns-then-is_none-clause-takes : goal.returns-then-is_none-clause-takes
returns-then-is_none-clause-takes g c = takes_read (desk c.args.pass.now) (desk c.loop-place.pass) (desk c.read-found.new.pass) _
    c.loop-place.invariant.takes c.read-found.ensures.read.made

pub returns-then-is_none-clause-looks : goal.returns-then-is_none-clause-looks
returns-then-is_none-clause-looks g c =
    let more = calls_more (desk c.loop-place.pass) (desk c.read-found.new.pass) _ _ c.read-found.ensures.read.made in
    let before = c.loop-place.invariant.calls in omega (arith, more, before)

pub loop-place-preserved : goal.loop-place-preserved
loop-place-preserved g c =
    let i = c.loop-place.invariant in let old = desk c.loop-place.pass in let new = desk c.read-found.new.pass in
    let made = c.read-found.ensures.read.made in let some = some_of _ _ c.is_none.ensures c.if-is_none.false in
    let learns = learns_read old new _ some.0 some.1 made in record {
      of = c.read-found.ensures.kept.of;
      rests = rests_read old new _ made i.rests;
      later = later_through _ _ _ i.later (learns_later _ _ _ learns);
      here = learns_more _ _ _ learns ∙ ap (λ (n : ℕ). n + 1) i.here;
      own = c.read-found.ensures.kept.own ∙ i.own;
      takes = takes_learned (desk c.args.pass.now) old new _ i.takes made (learns_more _ _ _ learns);
      calls = (let more = calls_more old new _ _ made in let before = i.calls in omega (arith, more, before));
    }
