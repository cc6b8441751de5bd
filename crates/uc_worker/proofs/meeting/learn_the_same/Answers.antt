-- The pass that has learned more shares its list, and the other reads it.
use Rattle.std.proofs.Common.{◌<◌, ◌≤◌, length, arith}
use Rattle.uc_log.specs.Passes.{desk}
use Rattle.uc_places.specs.Calls.{state_of}
use Rattle.uc_worker.proofs.Counting.{takes_telling, takes_told}
use Rattle.uc_worker.proofs.Telling.{one_shared, other_shared}
use Rattle.uc_worker.proofs.meeting.learn_the_same.Goals as goal

pub returns-then-learned-clause-takes : goal.returns-then-learned-clause-takes
returns-then-learned-clause-takes c =
    let one = desk c.args.one.now in let other = desk c.args.other.now in let new_one = desk c.tell.new.one in let new_other = desk c.tell.new.other in
    let fewer : length (state_of new_one).learned < length (state_of new_other).learned = omega (arith, c.learned.ensures.value, c.learned-2.ensures.value, c.if-learned.true) in
    let shares = other_shared one other new_one new_other c.tell.ensures.told fewer in (
      takes_told one new_one (desk c.read_told.new.pass) _ shares.second.1 c.read_told.ensures.takes,
      takes_telling other new_other shares.first.1,
    )

pub returns-else-learned-clause-takes : goal.returns-else-learned-clause-takes
returns-else-learned-clause-takes c =
    let one = desk c.args.one.now in let other = desk c.args.other.now in let new_one = desk c.tell.new.one in let new_other = desk c.tell.new.other in
    let more : length (state_of new_other).learned ≤ length (state_of new_one).learned = omega (arith, c.learned.ensures.value, c.learned-2.ensures.value, c.if-learned.false) in
    let shares = one_shared one other new_one new_other c.tell.ensures.told more in (
      takes_telling one new_one shares.first.1,
      takes_told other new_other (desk c.read_told-else-learned.new.pass) _ shares.second.1 c.read_told-else-learned.ensures.takes,
    )
