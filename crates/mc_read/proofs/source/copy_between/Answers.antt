use Rattle.std.proofs.Common.{◌-◌, ◌++◌, length, length-drop, take, drop, ◌∙◌, ap, arith}
use Rattle.std.proofs.lemmas.List.{take_all}
use Rattle.mc_read.proofs.Parts.{across}
use Rattle.mc_read.proofs.source.copy_between.Goals as goal

pub returns-clause-bytes : goal.returns-clause-bytes
returns-clause-bytes c =
    let rest = c.args.rest.now in
    let start = c.args.start in
    let tail = take (c.args.end - length rest) c.args.piece.now in
    let first = c.in_ok-extend_from_slice.ensures.items ∙ (λ i. c.in_ok-bytes.ensures.items i ++ take_all (length rest - start) (drop start rest) (omega (arith, length-drop start rest)) i) in
    c.in_ok-extend_from_slice-2.ensures.items ∙ (ap (λ bytes. bytes ++ tail) first ∙ across rest c.args.piece.now start c.args.end c.requires.parted.0 c.requires.parted.1)
