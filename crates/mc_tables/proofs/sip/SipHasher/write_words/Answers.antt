use Rattle.std.proofs.Common.{◌≡◌, ◌%◌, ◌^◌, ◌<◌, sym, ap, ◌∙◌, arith}
use Rattle.core.specs.Hash.DefaultHasher.{wrapping_add, write_word}
use Rattle.core.proofs.hash.SipWords.{word_more}
use Rattle.mc_tables.specs.Hashing.{with_tail}
use Rattle.mc_tables.proofs.Bytes.{none_left}
use Rattle.mc_tables.proofs.sip.SipHasher.write_words.Goals as goal

pub loop-at-init : goal.loop-at-init
loop-at-init c =
    let s = c.self.inside in
    let fits : s.written < 2 ^ 64 = omega arith in
    let count = ap (λ h. h.length) c.self.view_is in
    let whole : s.written % 8 ≡ 0 = c.if-self-ne0.false in
    let none = none_left s.latest s.written (omega arith) whole in
    (omega arith, omega (arith, fits, count), omega (arith, whole, count), sym (ap (λ h. h.tail) c.self.view_is) ∙ none, λ start is. is)

pub loop-at-preserved : goal.loop-at-preserved
loop-at-preserved c =
    let s = c.loop-at.self in
    let inv = c.loop-at.invariant in
    let after = c.write_word.ensures ∙ ap (λ word. with_tail (write_word s word) 0 (wrapping_add s.length 8)) c.read_word.ensures in
    let count = ap (λ h. h.length) after in (
      omega arith,
      omega (arith, count),
      omega (arith, count, inv.2),
      ap (λ h. h.tail) after,
      λ start is. after ∙ word_more start s c.args.bytes.now c.loop-at.at (omega arith) (c.type_inv.bytes c.loop-at.at).fits inv.1 inv.2 inv.3 (inv.4 start is),
    )
