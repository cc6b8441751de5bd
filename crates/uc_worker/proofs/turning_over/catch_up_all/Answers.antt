-- One after another.
use Rattle.std.proofs.Common.{◌<◌, length, arith, sym, subst}
use Rattle.std.proofs.lemmas.List.Elements.{length_all_zip}
use Rattle.uc_worker.specs.declared.worker.Worker.{Worker}
use Rattle.uc_worker.specs.Going.{CatchesUp}
use Rattle.uc_worker.specs.Steps.{HasReadOn}
use Rattle.uc_worker.specs.Worker.{IsUpToDate, seat_of}
use Rattle.uc_worker.proofs.TurningOver.{none_catches_up, one_more_catches_up, one_more_is}
use Rattle.uc_worker.proofs.turning_over.catch_up_all.Goals as goal

pub loop-number-init : goal.loop-number-init
loop-number-init c = record {
  catches = none_catches_up c.args.workers.now;
  read = λ k d below. absurd (omega (arith, below));
  all = λ k d below. absurd (omega (arith, below));
}

pub returns-in_err-catch_up-clause-catches : goal.returns-in_err-catch_up-clause-catches
returns-in_err-catch_up-clause-catches c =
    let l = c.loop-number in
    let long = length_all_zip CatchesUp c.args.workers.now l.workers l.invariant.catches in
    let inside : l.number < length c.args.workers.now = omega (arith, long, c.loop-number-test.true) in
    one_more_catches_up c.args.workers.now l.workers l.number c.index-workers-number.result c.catch_up.new.self l.invariant.catches c.index-workers-number.is
    (subst (λ (v : Worker). CatchesUp v c.catch_up.new.self) (sym c.index-workers-number.is) c.catch_up.ensures.catches) inside

pub loop-number-preserved : goal.loop-number-preserved
loop-number-preserved c =
    let l = c.loop-number in
    let long = length_all_zip CatchesUp c.args.workers.now l.workers l.invariant.catches in
    let inside : l.number < length c.args.workers.now = omega (arith, long, c.loop-number-test.true) in record {
      catches = one_more_catches_up c.args.workers.now l.workers l.number c.index-workers-number.result c.catch_up.new.self l.invariant.catches c.index-workers-number.is
          (subst (λ (v : Worker). CatchesUp v c.catch_up.new.self) (sym c.index-workers-number.is) c.catch_up.ensures.catches) inside;
      read = one_more_is (λ worker. HasReadOn (seat_of worker)) l.workers l.number c.catch_up.new.self l.invariant.read c.catch_up.ensures.read (omega (arith, inside, long));
      all = one_more_is IsUpToDate l.workers l.number c.catch_up.new.self l.invariant.all c.in_ok-catch_up.ensures.all (omega (arith, inside, long));
    }
