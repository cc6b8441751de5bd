-- The last round taught the worker nothing, so all have its history.
use Rattle.std.proofs.Common.{◌≡◌, ◌∙◌, length, sym, ap}
use Rattle.std.proofs.lemmas.List.Elements.{All-weaker}
use Rattle.uc_worker.specs.Cited.{Sighting}
use Rattle.uc_worker.specs.declared.worker.Worker.{Worker}
use Rattle.uc_worker.specs.Worker.{history_of}
use Rattle.mc_server.proofs.Meetings.{all_agree, all_later_on, all_later_self, all_of, catches_self, catches_through}
use Rattle.mc_server.proofs.crew.meet_until_all_agree.Goals as goal

pub loop-others-init : goal.loop-others-init
loop-others-init c = record {
  later = catches_self c.args.one.now;
  whole = c.requires.whole;
  of = c.requires.log;
  others = all_later_self c.args.others.items;
}

pub loop-others-preserved : goal.loop-others-preserved
loop-others-preserved c =
    let before = c.loop-others.invariant in
    let met = c.in_ok-others.ensures.outcome.0 in
    let later = c.meet_others.ensures.later in
    let log = c.meet_others.new.one.log.now in
    record {
      later = catches_through _ _ _ before.later later;
      whole = c.in_ok-others.ensures.outcome.1;
      of = all_of log c.loop-others.one c.meet_others.new.one c.loop-others.others.items c.in_ok-others.others.items met
          (All-weaker (λ (worker : Worker). worker.log.now ≡ c.loop-others.one.log.now) (λ (worker : Worker). worker.log.now ≡ log)
          (λ worker of. of ∙ ap (λ lent. lent.now) (sym later.continues.log)) c.loop-others.others.items before.of);
      others = all_later_on c.loop-others.one c.meet_others.new.one _ c.loop-others.others.items c.in_ok-others.others.items before.others met;
    }

pub returns-in_err-others-clause-later : goal.returns-in_err-others-clause-later
returns-in_err-others-clause-later c = catches_through _ _ _ c.loop-others.invariant.later c.meet_others.ensures.later

pub returns-then-history-known : goal.returns-then-history-known
returns-then-history-known c =
    let before = c.loop-others.invariant in
    let old = c.loop-others.one in
    let one = c.meet_others.new.one in
    let same : length c.history.result.now ≡ length c.history-known.result.now = c.if-history-known.true in
    let known : length (history_of old) ≡ length c.history-known.result.now = ap (length {A = Sighting}) (sym c.history-known.ensures.history) in
    let long : length (history_of one) ≡ length c.history-known.result.now = ap (length {A = Sighting}) (sym c.history.ensures.history) ∙ same in
    record {
      outcome = (
        all_agree old one c.args.others.items c.loop-others.others.items c.in_ok-others.others.items (long ∙ sym known) before.others c.in_ok-others.ensures.outcome.0,
        c.in_ok-others.ensures.outcome.1,
      );
      later = catches_through _ _ _ before.later c.meet_others.ensures.later;
    }
