use Rattle.std.proofs.Common.{arith, refl, ◌∙◌}
use Rattle.std.proofs.lemmas.Result.{err_from_is_err_and}
use Rattle.mc_conn.specs.declared.conn.Conn.{Conn}
use Rattle.mc_conn.specs.Parts.{KeepsStreams}
use Rattle.uc_worker.specs.declared.worker.Worker.{Worker}
use Rattle.mc_conn.proofs.Breakings.{fails_later}
use Rattle.uc_worker.specs.contracts.laws.WorkerGoesOn.TheImpl.{continues_self-value, continues_through-value}
use Rattle.mc_conn.proofs.Countings.{tallies_self, tallies_trans}
use Rattle.mc_conn.proofs.Takings.{did_not, did_then, does_nothing}
use Rattle.mc_conn.proofs.conn.Conn.take.Goals as goal

keeps_through : (old between new : Conn) (before during after : Worker) → KeepsStreams old between before during →
    KeepsStreams between new during after → KeepsStreams old new before after
keeps_through old between new before during after first second = record {
  role = second.role ∙ first.role;
  has_ended = second.has_ended ∙ first.has_ended;
  onward = continues_through-value.it before during after first.onward second.onward;
}

pub loop-did-init : goal.loop-did-init
loop-did-init g c = record {
  does = λ streams. does_nothing _ _;
  keeps = record { role = refl; has_ended = refl; onward = continues_self-value.it _ };
  answers = omega arith;
  bytes = refl;
  tally = tallies_self _ _;
}

pub returns-in_err-take_one-clause-outcome : goal.returns-in_err-take_one-clause-outcome
returns-in_err-take_one-clause-outcome g c =
    let out = err_from_is_err_and c.from_residual.result c.from_residual.ensures.1 in
    rw (out.1, out.2) (λ streams. fails_later c.args.until_done c.in_err-take_one.field-0.0 _ _ _ _ (c.loop-did.invariant.does streams) (c.in_err-take_one.ensures.outcome streams))

pub loop-did-smaller : goal.loop-did-smaller
loop-did-smaller g c = c.in_ok-take_one.ensures.fewer c.if-branch.true

pub loop-did-preserved : goal.loop-did-preserved
loop-did-preserved g c = record {
  does = λ streams. did_then _ _ _ _ _ _ c.if-branch.true (c.loop-did.invariant.does streams) (c.in_ok-take_one.ensures.outcome streams);
  keeps = keeps_through _ _ _ _ _ _ c.loop-did.invariant.keeps c.take_one.ensures.keeps;
  answers = omega (arith, c.loop-did.invariant.answers, c.take_one.ensures.answers);
  bytes = c.take_one.ensures.bytes ∙ c.loop-did.invariant.bytes;
  tally = tallies_trans _ _ _ _ _ _ c.loop-did.invariant.tally c.take_one.ensures.tally;
}

pub returns-in_err-take_one-clause-keeps : goal.returns-in_err-take_one-clause-keeps
returns-in_err-take_one-clause-keeps g c = keeps_through _ _ _ _ _ _ c.loop-did.invariant.keeps c.take_one.ensures.keeps

pub returns-clause-keeps : goal.returns-clause-keeps
returns-clause-keeps g c = keeps_through _ _ _ _ _ _ c.loop-did.invariant.keeps c.take_one.ensures.keeps

pub returns-clause-outcome : goal.returns-clause-outcome
returns-clause-outcome g c streams = did_not _ _ _ _ _ _ c.if-branch.false (c.loop-did.invariant.does streams) (c.in_ok-take_one.ensures.outcome streams)

pub returns-in_err-take_one-clause-tally : goal.returns-in_err-take_one-clause-tally
returns-in_err-take_one-clause-tally g c = tallies_trans _ _ _ _ _ _ c.loop-did.invariant.tally c.take_one.ensures.tally

pub returns-clause-tally : goal.returns-clause-tally
returns-clause-tally g c = tallies_trans _ _ _ _ _ _ c.loop-did.invariant.tally c.take_one.ensures.tally

pub returns-in_err-take_one-clause-answers : goal.returns-in_err-take_one-clause-answers
returns-in_err-take_one-clause-answers g c = omega (arith, c.loop-did.invariant.answers, c.take_one.ensures.answers)

pub returns-clause-answers : goal.returns-clause-answers
returns-clause-answers g c = omega (arith, c.loop-did.invariant.answers, c.take_one.ensures.answers)

pub returns-in_err-take_one-clause-bytes : goal.returns-in_err-take_one-clause-bytes
returns-in_err-take_one-clause-bytes g c = c.take_one.ensures.bytes ∙ c.loop-did.invariant.bytes

pub returns-clause-bytes : goal.returns-clause-bytes
returns-clause-bytes g c = c.take_one.ensures.bytes ∙ c.loop-did.invariant.bytes
