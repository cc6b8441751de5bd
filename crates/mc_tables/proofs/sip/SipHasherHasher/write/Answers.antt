use Rattle.std.proofs.Common.{get_or, refl, sym, ap, ◌∙◌, arith}
use lib.Seq.{take_all}
use Rattle.core.specs.Hash.DefaultHasher.{write, write_byte}
use Rattle.core.proofs.hash.Loops.{byte_more}
use Rattle.std.specs.List.{fold}
use Rattle.mc_tables.proofs.sip.SipHasherHasher.write.Goals as goal

pub loop-at-preserved : goal.loop-at-preserved
loop-at-preserved c =
    let bytes = c.args.bytes.now in
    let at = c.loop-at.at in
    (omega arith, λ start is. c.write_byte.ensures ∙ ap (λ hasher. write_byte hasher (get_or bytes at 0)) (c.loop-at.invariant.1 start is) ∙ sym (byte_more write_byte start bytes at (omega arith)))

pub returns : goal.returns
unfolding write
returns c =
    let old = c.args.self.now in
    c.loop-at.invariant.1 old (c.write_words-words.ensures.written old refl)
    ∙ ap (fold write_byte old) (take_all c.loop-at.at c.args.bytes.now (omega arith))
