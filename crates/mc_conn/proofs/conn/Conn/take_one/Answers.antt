use Rattle.std.proofs.Common.{◌≡◌, ◌≤◌, ◌∙◌, true, false, length, sym, refl, arith}
use Rattle.std.proofs.lemmas.Result.{err_from_is_err_and}
use Rattle.mc_stream.specs.Stream.{Streams}
use Rattle.mc_conn.specs.Held.{most_held}
use Rattle.mc_conn.specs.Parts.{Does, IsLeft}
use Rattle.mc_conn.specs.Turn.{holding_of, queue_of, scene}
use Rattle.mc_conn.specs.declared.conn.TheConstants.{QUEUE_BYTES}
use Rattle.mc_conn.proofs.Breakings.{fails_later, fails_looking}
use Rattle.mc_conn.proofs.Outcomes.{if_ok_map, match_map}
use Rattle.mc_conn.proofs.Readings.{fewer_after}
use Rattle.mc_conn.proofs.Takings.{does_looked, does_trans}
use Rattle.mc_conn.proofs.Countings.{tallies_same, tallies_within}
use Rattle.mc_conn.proofs.conn.Conn.take_one.Goals as goal

pub returns-in_err-look-clause-outcome : goal.returns-in_err-look-clause-outcome
returns-in_err-look-clause-outcome g c =
    let out = err_from_is_err_and c.from_residual.result c.from_residual.ensures.1 in
    rw (out.1, out.2, c.in_err-look.ensures.memory) (λ streams. fails_looking c.args.until_done c.args.self.now c.look.new.self _ streams c.look.ensures.looks)

pub returns-then-len-gt-QUEUE_BYTES-clause-outcome : goal.returns-then-len-gt-QUEUE_BYTES-clause-outcome
returns-then-len-gt-QUEUE_BYTES-clause-outcome g c streams =
    does_looked c.args.until_done c.args.self.now c.look.new.self _ streams c.in_ok-look.ensures.read c.look.ensures.looks

pub returns-then-allowed-eq0-clause-outcome : goal.returns-then-allowed-eq0-clause-outcome
returns-then-allowed-eq0-clause-outcome g c streams =
    does_looked c.args.until_done c.args.self.now c.look.new.self _ streams c.in_ok-look.ensures.read c.look.ensures.looks

pub returns-then-allowed-eq0-clause-tally : goal.returns-then-allowed-eq0-clause-tally
returns-then-allowed-eq0-clause-tally g c = tallies_same _ _ _ c.look.ensures.looks.past

pub returns-clause-outcome : goal.returns-clause-outcome
returns-clause-outcome g c =
    let room : ¬ (IsLeft c.args.until_done c.look.new.self c.args.worker.now) = λ left. let no : true ≡ false = sym (c.is_left.ensures.1 left) ∙ c.if-is_left.false in cc in
    let few : length (queue_of c.look.new.self) ≤ QUEUE_BYTES = omega (arith, c.if-len-gt-QUEUE_BYTES.false, c.len.ensures) in
    let looked : (streams : Streams) → Does c.args.until_done c.args.allowed.now.requests (scene c.args.self.now c.args.worker.now streams) (scene c.look.new.self c.args.worker.now streams) false c.args.allowed.now.requests =
    λ streams. does_looked c.args.until_done c.args.self.now c.look.new.self c.args.worker.now streams c.in_ok-look.ensures.read c.look.ensures.looks in
    match_map c.answer_waiting.result _ _ _ _ (λ did does streams. does_trans _ _ (scene c.look.new.self _ streams) _ _ did (looked streams) (does c.args.until_done streams room few))
    (λ fault fails streams. fails_later c.args.until_done fault _ (scene c.look.new.self _ streams) _ _ (looked streams) (fails c.args.until_done streams room)) c.answer_waiting.ensures.outcome

pub returns-clause-fewer : goal.returns-clause-fewer
returns-clause-fewer g c =
    if_ok_map c.answer_waiting.result _ _ (λ did fewer. fewer_after did (most_held (holding_of c.args.self.now)) (most_held (holding_of c.look.new.self)) (most_held (holding_of c.answer_waiting.new.self)) _ c.in_ok-look.ensures.most fewer)
    c.answer_waiting.ensures.fewer

pub returns-then-is_left-clause-outcome : goal.returns-then-is_left-clause-outcome
returns-then-is_left-clause-outcome g c streams =
    does_looked c.args.until_done c.args.self.now c.look.new.self _ streams c.in_ok-look.ensures.read c.look.ensures.looks

pub returns-in_err-look-clause-tally : goal.returns-in_err-look-clause-tally
returns-in_err-look-clause-tally g c = tallies_same _ _ _ c.look.ensures.looks.past

pub returns-then-len-gt-QUEUE_BYTES-clause-tally : goal.returns-then-len-gt-QUEUE_BYTES-clause-tally
returns-then-len-gt-QUEUE_BYTES-clause-tally g c = tallies_same _ _ _ c.look.ensures.looks.past

pub returns-then-is_left-clause-tally : goal.returns-then-is_left-clause-tally
returns-then-is_left-clause-tally g c = tallies_same _ _ _ c.look.ensures.looks.past

pub returns-clause-tally : goal.returns-clause-tally
returns-clause-tally g c = tallies_within _ _ _ _ _ _ c.look.ensures.looks.past c.answer_waiting.ensures.tally refl
