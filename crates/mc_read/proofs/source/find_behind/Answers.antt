use Rattle.std.proofs.Common.{◌++◌, length-append, arith}
use Rattle.mc_read.proofs.Lines.{line_length_le, line_behind, no_line_behind}
use Rattle.mc_read.proofs.source.find_behind.Goals as goal

pub find_in-requires : goal.find_in-requires
find_in-requires c =
    let all = line_length_le (c.args.rest.now ++ c.args.piece.now) in
    let both = length-append c.args.rest.now c.args.piece.now in
    (omega (arith, all, both, c.min-limit.ensures, c.requires.searched.in_vain, c.requires.searched.few, c.requires.behind), omega (arith, c.min-limit.ensures))

pub returns-in-Some : goal.returns-in-Some
returns-in-Some c =
    let all = line_length_le (c.args.rest.now ++ c.args.piece.now) in
    let both = length-append c.args.rest.now c.args.piece.now in
    let place = line_behind c.args.rest.now c.args.piece.now c.args.searched c.min-limit.result c.requires.searched.in_vain c.in-Some.place c.requires.behind
    (omega (arith, all, both, c.min-limit.ensures, c.requires.searched.in_vain, c.requires.searched.few, c.requires.behind)) (omega (arith, c.min-limit.ensures)) c.in-Some.ensures in
    record {
      is_length = place.0;
      ends = omega (arith, place.1, both, c.min-limit.ensures);
      short = omega (arith, place.1, c.min-limit.ensures, c.requires.behind, c.requires.searched.few);
    }

pub returns-in-None : goal.returns-in-None
returns-in-None c =
    let all = line_length_le (c.args.rest.now ++ c.args.piece.now) in
    let both = length-append c.args.rest.now c.args.piece.now in
    let past = no_line_behind c.args.rest.now c.args.piece.now c.args.searched c.min-limit.result c.requires.searched.in_vain c.requires.behind
    (omega (arith, all, both, c.min-limit.ensures, c.requires.searched.in_vain, c.requires.searched.few, c.requires.behind)) (omega (arith, c.min-limit.ensures)) c.in-None.ensures in
    omega (arith, past, c.min-limit.ensures, c.if-piece-held.true, c.requires.behind, c.requires.searched.few)

pub returns-in-None-2 : goal.returns-in-None-2
returns-in-None-2 c =
    let all = line_length_le (c.args.rest.now ++ c.args.piece.now) in
    let both = length-append c.args.rest.now c.args.piece.now in
    let past = no_line_behind c.args.rest.now c.args.piece.now c.args.searched c.min-limit.result c.requires.searched.in_vain c.requires.behind
    (omega (arith, all, both, c.min-limit.ensures, c.requires.searched.in_vain, c.requires.searched.few, c.requires.behind)) (omega (arith, c.min-limit.ensures)) c.in-None-2.ensures in
    (omega (arith, past, all, both, c.min-limit.ensures, c.if-piece-held.false, c.requires.behind, c.requires.searched.few), omega (arith, both, c.if-piece-held.false, c.requires.behind, c.requires.searched.few))
