-- The next place is read, as in the shared list.
use Rattle.std.proofs.Common.{ℕ, ◌<◌, ◌+◌, List, length, sym, ap, ◌∙◌, arith}
use Rattle.mc_model.specs.declared.id.Ticket.{Ticket}
use Rattle.lists.specs.Lists.{BeginsWith}
use Rattle.uc_places.specs.Calls.{known, state_of}
use Rattle.uc_worker.proofs.Counting.{takes_learned}
use Rattle.uc_worker.proofs.Told.{reads_told}
use Rattle.uc_worker.proofs.meeting.read_told.Goals as goal

pub loop-place-preserved : goal.loop-place-preserved
loop-place-preserved c =
    let i = c.loop-place.invariant in let old = c.loop-place.pass.desk in let new = c.read.new.pass.desk in
    let begins : BeginsWith (known old).told (state_of old).learned = (i.begins.0, i.told ∙ i.begins.1) in
    let long = ap (λ (list : List Ticket). length list) i.told in let here = i.here in let end = c.requires.end in let below = c.loop-place-test.true in
    let shorter : length (state_of old).learned < length (known old).told = omega arith in
    let one = reads_told old new c.read.result c.read.ensures.read.made i.rests c.read.ensures.read.told begins shorter in record {
      of = c.read.ensures.kept.of;
      rests = one.rests;
      same = (one.same.0 ∙ i.same.0, one.same.1 ∙ i.same.1);
      told = one.told ∙ i.told;
      own = c.read.ensures.kept.own ∙ i.own;
      begins = (one.begins.0, sym i.told ∙ one.begins.1);
      here = one.more ∙ ap (λ (n : ℕ). n + 1) i.here;
      takes = takes_learned c.args.pass.now.desk old new _ i.takes c.read.ensures.read.made one.more;
    }
