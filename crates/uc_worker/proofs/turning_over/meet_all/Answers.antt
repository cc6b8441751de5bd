-- One after another.
use Rattle.std.proofs.Common.{◌<◌, length, arith, ap, sym, ◌∙◌}
use Rattle.std.proofs.lemmas.List.Elements.{length_all_zip}
use Rattle.uc_worker.specs.TurningOver.{IsAsBefore}
use Rattle.uc_worker.proofs.TurningOver.{meets_at, meets_log, same_more, still_all, still_self, zip_same}
use Rattle.uc_worker.proofs.turning_over.meet_all.Goals as goal

pub loop-number-init : goal.loop-number-init
loop-number-init c = record {
  worker = still_self c.args.worker.now;
  others = zip_same IsAsBefore still_self c.args.others.now;
  same = λ k d below. absurd (omega (arith, below));
}

pub meet_done-requires-clause-log : goal.meet_done-requires-clause-log
meet_done-requires-clause-log c =
    let l = c.loop-number in
    let long = length_all_zip IsAsBefore c.args.others.now l.others l.invariant.others in
    let inside : l.number < length c.args.others.now = omega (arith, long, c.loop-number-test.true) in
    meets_log c.args.worker.now l.worker c.args.others.now l.others l.number c.index-others-number.result l.invariant.worker l.invariant.others inside c.index-others-number.is c.requires.log
    ∙ ap (λ w. w.log.now) c.index-others-number.is

pub meet_done-requires-clause-up_to_date : goal.meet_done-requires-clause-up_to_date
meet_done-requires-clause-up_to_date c =
    let l = c.loop-number in
    let long = length_all_zip IsAsBefore c.args.others.now l.others l.invariant.others in
    let inside : l.number < length c.args.others.now = omega (arith, long, c.loop-number-test.true) in
    let at = meets_at c.args.worker.now l.worker c.args.others.now l.others l.number c.index-others-number.result l.invariant.worker l.invariant.others inside c.index-others-number.is c.requires.replayed c.requires.up_to_date in
    rw (← c.index-others-number.is) (at.0.0, at.1.0)

pub meet_done-requires-clause-equal : goal.meet_done-requires-clause-equal
meet_done-requires-clause-equal c =
    let l = c.loop-number in
    let long = length_all_zip IsAsBefore c.args.others.now l.others l.invariant.others in
    let inside : l.number < length c.args.others.now = omega (arith, long, c.loop-number-test.true) in
    let at = meets_at c.args.worker.now l.worker c.args.others.now l.others l.number c.index-others-number.result l.invariant.worker l.invariant.others inside c.index-others-number.is c.requires.replayed c.requires.up_to_date in
    rw (← c.index-others-number.is) (at.0.1 ∙ sym at.1.1)

pub returns-in_err-meet_done-clause-before : goal.returns-in_err-meet_done-clause-before
returns-in_err-meet_done-clause-before c =
    let l = c.loop-number in
    let long = length_all_zip IsAsBefore c.args.others.now l.others l.invariant.others in
    let inside : l.number < length c.args.others.now = omega (arith, long, c.loop-number-test.true) in
    let on : IsAsBefore c.index-others-number.result c.meet_done.new.other = rw c.index-others-number.is c.meet_done.ensures.before.1 in
    still_all c.args.worker.now l.worker c.args.others.now l.others l.number c.index-others-number.result l.invariant.worker l.invariant.others inside c.index-others-number.is
    c.meet_done.new.one c.meet_done.new.other c.meet_done.ensures.before.0 on

pub loop-number-preserved : goal.loop-number-preserved
loop-number-preserved c =
    let l = c.loop-number in
    let long = length_all_zip IsAsBefore c.args.others.now l.others l.invariant.others in
    let inside : l.number < length c.args.others.now = omega (arith, long, c.loop-number-test.true) in
    let on : IsAsBefore c.index-others-number.result c.meet_done.new.other = rw c.index-others-number.is c.meet_done.ensures.before.1 in
    let all = still_all c.args.worker.now l.worker c.args.others.now l.others l.number c.index-others-number.result l.invariant.worker l.invariant.others inside c.index-others-number.is
    c.meet_done.new.one c.meet_done.new.other c.meet_done.ensures.before.0 on in
    let more = same_more c.args.worker.now l.worker c.args.others.now l.others l.number c.index-others-number.result l.invariant.worker l.invariant.others inside c.index-others-number.is
    c.meet_done.new.one c.meet_done.new.other c.meet_done.ensures.before.0 on l.invariant.same c.in_ok-meet_done.ensures.same in
    record { worker = all.0; others = all.1; same = more }
