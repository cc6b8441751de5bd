use Rattle.std.proofs.Common.{length-append, arith}
use Rattle.mc_read.proofs.Lines.{line_in_front, no_line_in_front}
use Rattle.mc_read.proofs.source.find_line.Goals as goal

pub find_behind-requires-in-None-2-clause-searched : goal.find_behind-requires-in-None-2-clause-searched
find_behind-requires-in-None-2-clause-searched c =
    let past = no_line_in_front c.args.rest.now c.args.piece.now c.args.searched c.min-limit.result c.requires.in_vain
    (omega (arith, c.min-limit.ensures, c.if-rest-searched.false, c.requires.few)) (omega (arith, c.min-limit.ensures)) c.in-None-2.ensures in
    record {
      in_vain = omega (arith, past, c.min-limit.ensures, c.if-rest-gt-LINE_BYTES.false);
      few = omega (arith, c.if-rest-gt-LINE_BYTES.false);
    }

pub returns-in-Some : goal.returns-in-Some
returns-in-Some c =
    let both = length-append c.args.rest.now c.args.piece.now in
    let place = line_in_front c.args.rest.now c.args.piece.now c.args.searched c.min-limit.result c.requires.in_vain c.in-Some.place
    (omega (arith, c.min-limit.ensures, c.if-rest-searched.false, c.requires.few)) (omega (arith, c.min-limit.ensures)) c.in-Some.ensures in
    record { is_length = place.0; ends = omega (arith, place.1, both, c.min-limit.ensures); short = omega (arith, place.1, c.min-limit.ensures) }

pub returns-in-None : goal.returns-in-None
returns-in-None c =
    let past = no_line_in_front c.args.rest.now c.args.piece.now c.args.searched c.min-limit.result c.requires.in_vain
    (omega (arith, c.min-limit.ensures, c.if-rest-searched.false, c.requires.few)) (omega (arith, c.min-limit.ensures)) c.in-None.ensures in
    omega (arith, past, c.min-limit.ensures, c.if-rest-gt-LINE_BYTES.true)
