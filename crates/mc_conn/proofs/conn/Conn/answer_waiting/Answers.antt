use Rattle.std.proofs.Common.{◌≡◌, ◌||◌, Some, refl, ap, arith}
use Rattle.std.proofs.lemmas.Result.{err_from_is_err_and}
use Rattle.mc_conn.proofs.Breakings.{fails_taking}
use Rattle.mc_read.specs.Administering.{lines_spoken}
use Rattle.mc_conn.proofs.Awaiting.{not_left}
use Rattle.mc_conn.proofs.Readings.{fewer_taken, read_answered, read_same}
use Rattle.mc_conn.proofs.Takings.{does_looked, does_responded}
use Rattle.mc_conn.proofs.Countings.{answers_one, tallies_self}
use Rattle.mc_conn.proofs.conn.Conn.answer_waiting.Goals as goal

pub returns-in_ok-respond-in-Some-clause-outcome : goal.returns-in_ok-respond-in-Some-clause-outcome
returns-in_ok-respond-in-Some-clause-outcome g c until streams room few =
    let value = c.take.ensures.value in
    let is = c.in-Some.is in
    let old : c.args.self.now.waiting ≡ Some c.in-Some.request = cc in
    does_responded c.args.self.now _ _ _ streams c.in-Some.request (read_answered (lines_spoken c.args.self.now.reader.speaker) c.args.self.now.waiting c.take.new.self c.args.self.now.reader.held c.in-Some.request old c.take.ensures.after) refl refl refl
    (ap (λ ends. c.args.self.now.is_over || ends) c.ends_stream-ends.ensures) c.respond.ensures.onward c.in_ok-respond-in-Some.ensures.outcome c.in_ok-respond-in-Some.ensures.counts until
    (not_left until c.args.self.now c.args.worker.now c.in-Some.request old room) few (omega (arith, c.requires.some))

pub returns-in_ok-respond-in-Some-clause-fewer : goal.returns-in_ok-respond-in-Some-clause-fewer
returns-in_ok-respond-in-Some-clause-fewer g c =
    let value = c.take.ensures.value in
    let is = c.in-Some.is in
    let old : c.args.self.now.waiting ≡ Some c.in-Some.request = cc in
    fewer_taken (lines_spoken c.args.self.now.reader.speaker) c.args.self.now.waiting c.take.new.self c.args.self.now.reader.held c.in-Some.request old c.take.ensures.after

pub returns-in_err-respond-in-Some-clause-outcome : goal.returns-in_err-respond-in-Some-clause-outcome
returns-in_err-respond-in-Some-clause-outcome g c =
    let value = c.take.ensures.value in
    let is = c.in-Some.is in
    let old : c.args.self.now.waiting ≡ Some c.in-Some.request = cc in
    let out = err_from_is_err_and c.from_residual.result c.from_residual.ensures.1 in
    rw (out.1, out.2) (λ until streams room.
    fails_taking c.in_err-respond-in-Some.field-0.0 c.args.self.now _ _ _ streams c.in-Some.request
    (read_answered (lines_spoken c.args.self.now.reader.speaker) c.args.self.now.waiting c.take.new.self c.args.self.now.reader.held c.in-Some.request old c.take.ensures.after) refl c.in_err-respond-in-Some.ensures.counts c.respond.ensures.onward
    c.in_err-respond-in-Some.ensures.outcome until (not_left until c.args.self.now c.args.worker.now c.in-Some.request old room))

pub returns-in-None-clause-outcome : goal.returns-in-None-clause-outcome
returns-in-None-clause-outcome g c until streams room few =
    let value = c.take.ensures.value in
    let is = c.in-None.is in
    let after = c.take.ensures.after in
    let same : c.take.new.self ≡ c.args.self.now.waiting = cc in
    does_looked until c.args.self.now _ _ streams (read_same (lines_spoken c.args.self.now.reader.speaker) c.args.self.now.waiting c.take.new.self c.args.self.now.reader.held same)
    (record { role = refl; has_ended = refl; is_closed = refl; queue = refl; over = refl; past = refl })

pub returns-in-None-clause-tally : goal.returns-in-None-clause-tally
returns-in-None-clause-tally g c = tallies_self _ _

pub returns-in_ok-respond-in-Some-clause-answers : goal.returns-in_ok-respond-in-Some-clause-answers
returns-in_ok-respond-in-Some-clause-answers g c =
    answers_one c.args.self.now.role c.in-Some.request _ _ _ _ _ _ c.in_ok-respond-in-Some.ensures.counts (omega (arith, c.requires.some))
