-- One after another (`AllWorkers`).
use Rattle.std.proofs.Common.{◌<◌, length, arith, ap, ◌∙◌}
use Rattle.std.proofs.lemmas.List.Elements.{length_all_zip}
use Rattle.lists.proofs.Public.{begins_self, begins_through}
use Rattle.uc_worker.specs.AllWorkers.{TakesNoStep}
use Rattle.uc_worker.proofs.AllWorkers.{kept_by, none_all, none_taken, same_log, seen_more}
use Rattle.uc_worker.proofs.TurningOver.{zip_same}
use Rattle.uc_worker.proofs.all_workers.witness_each.Goals as goal

pub loop-number-init : goal.loop-number-init
loop-number-init c = record {
  worker = none_taken c.args.worker.now;
  others = zip_same TakesNoStep none_taken c.args.others.now;
  goes_on = begins_self (kept_by c.args.worker.now);
  each = λ k d below. absurd (omega (arith, below));
}

pub witness_with-requires : goal.witness_with-requires
witness_with-requires c =
    let l = c.loop-number in
    let long = length_all_zip TakesNoStep c.args.others.now l.others l.invariant.others in
    let inside : l.number < length c.args.others.now = omega (arith, long, c.loop-number-test.true) in
    same_log c.args.worker.now l.worker c.args.others.now l.others l.number c.index-others-number.result l.invariant.worker l.invariant.others inside
    c.index-others-number.is c.requires ∙ ap (λ w. w.log.now) c.index-others-number.is

pub loop-number-preserved : goal.loop-number-preserved
loop-number-preserved c =
    let l = c.loop-number in
    let long = length_all_zip TakesNoStep c.args.others.now l.others l.invariant.others in
    let inside : l.number < length c.args.others.now = omega (arith, long, c.loop-number-test.true) in
    let on : TakesNoStep c.index-others-number.result c.witness_with.new.other = rw c.index-others-number.is c.witness_with.ensures.still.1 in
    let all = none_all c.args.worker.now l.worker c.args.others.now l.others l.number c.index-others-number.result l.invariant.worker l.invariant.others inside
    c.index-others-number.is c.witness_with.new.self c.witness_with.new.other c.witness_with.ensures.still.0 on in
    let more = seen_more c.args.worker.now l.worker c.args.others.now l.others l.number c.index-others-number.result l.invariant.worker l.invariant.others inside
    c.index-others-number.is c.witness_with.new.self c.witness_with.new.other c.witness_with.ensures.still.0 on
    (rw c.index-others-number.is c.witness_with.ensures.run) l.invariant.goes_on l.invariant.each in
    record {
      worker = all.0;
      others = all.1;
      goes_on = begins_through (kept_by c.witness_with.new.self) (kept_by l.worker) (kept_by c.args.worker.now) c.witness_with.ensures.run.first.goes_on
          l.invariant.goes_on;
      each = more;
    }
