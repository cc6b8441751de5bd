use Rattle.std.proofs.Common.{arith}
use Rattle.mc_read.specs.Administering.{lines_spoken}
use Rattle.mc_read.proofs.Lines.{line_length_le}
use Rattle.mc_read.proofs.Steps.{answer_first, answer_none, first_open, first_too_long, not_too_long, not_unended}
use Rattle.mc_read.proofs.reader.next_line.Goals as goal

pub returns-in_ok-request-in-Found-clause-unended : goal.returns-in_ok-request-in-Found-clause-unended
returns-in_ok-request-in-Found-clause-unended c = λ is.
    absurd (not_unended c.args.buffer.now c.in-Found.line (c.in-Found.ensures) is)

pub returns-in_ok-request-in-Found-clause-too_long : goal.returns-in_ok-request-in-Found-clause-too_long
returns-in_ok-request-in-Found-clause-too_long c = λ text more request same is.
    absurd (not_too_long c.args.buffer.now c.in-Found.line (c.in-Found.ensures) text more request same is)

pub returns-in-TooLong-clause-answer : goal.returns-in-TooLong-clause-answer
returns-in-TooLong-clause-answer c =
    answer_first (lines_spoken c.args.speaker) c.args.buffer.now _ _ (first_too_long (lines_spoken c.args.speaker) c.args.buffer.now (c.in-TooLong.ensures))

pub returns-in-TooLong-clause-unended : goal.returns-in-TooLong-clause-unended
returns-in-TooLong-clause-unended c = λ is.
    absurd (omega (arith, c.in-TooLong.ensures, line_length_le c.args.buffer.now, is.short))

pub returns-in-Open-clause-answer : goal.returns-in-Open-clause-answer
returns-in-Open-clause-answer c =
    let is_open = c.in-Open.ensures in
    answer_none (lines_spoken c.args.speaker) c.args.buffer.now (first_open (lines_spoken c.args.speaker) c.args.buffer.now is_open.0 is_open.1) (omega (arith, is_open.1))

pub returns-in_err-request-in-Found-clause-unended : goal.returns-in_err-request-in-Found-clause-unended
returns-in_err-request-in-Found-clause-unended c = λ is.
    absurd (not_unended c.args.buffer.now c.in-Found.line (c.in-Found.ensures) is)

pub returns-in_err-request-in-Found-clause-too_long : goal.returns-in_err-request-in-Found-clause-too_long
returns-in_err-request-in-Found-clause-too_long c = λ text more request same is.
    absurd (not_too_long c.args.buffer.now c.in-Found.line (c.in-Found.ensures) text more request same is)

pub returns-in-TooLong-clause-scanned : goal.returns-in-TooLong-clause-scanned
returns-in-TooLong-clause-scanned c = omega (arith, c.in-TooLong.ensures, line_length_le c.args.buffer.now, c.requires.few)

pub returns-in_ok-request-in-Found-clause-once : goal.returns-in_ok-request-in-Found-clause-once
returns-in_ok-request-in-Found-clause-once c =
    let at = c.in-Found.ensures in
    omega (arith, at.is_length, at.ends, at.short)

pub returns-in-TooLong-clause-once : goal.returns-in-TooLong-clause-once
returns-in-TooLong-clause-once c = omega (arith, c.in-TooLong.ensures, line_length_le c.args.buffer.now, c.requires.few)

pub returns-in-Open-clause-once : goal.returns-in-Open-clause-once
returns-in-Open-clause-once c = omega (arith, c.in-Open.ensures.0, c.in-Open.ensures.1, c.len-held.ensures)

pub returns-in_ok-request-in-Found-clause-refused : goal.returns-in_ok-request-in-Found-clause-refused
returns-in_ok-request-in-Found-clause-refused c = λ request left is. c.in_ok-request-in-Found.ensures.refused request left is
