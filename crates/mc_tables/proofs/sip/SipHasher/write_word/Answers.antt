use Rattle.std.proofs.Common.{◌≡◌, ◌%◌, ap, ◌∙◌, arith}
use Rattle.core.specs.Hash.DefaultHasher.{wrapping_add}
use Rattle.core.proofs.hash.SipWords.{write_word_keeps}
use Rattle.mc_tables.specs.Hashing.{with_tail}
use Rattle.mc_tables.proofs.Bytes.{none_left}
use Rattle.mc_tables.proofs.sip.SipHasher.write_word.Goals as goal

pub returns : goal.returns
returns c =
    let after = c.self.view_is ∙ c.compress.ensures in
    let written = c.self.inside.written in
    let count : written ≡ c.args.self.now.length = ap (λ s. s.length) after ∙ (write_word_keeps c.args.self.now c.args.word).1 in
    let whole : wrapping_add written 8 % 8 ≡ 0 = omega (arith, count, c.requires.whole) in
    let none = none_left c.args.word (wrapping_add written 8) c.ranges.word.fits whole in
    λ i. with_tail (after i) (none i) (wrapping_add (count i) 8)
