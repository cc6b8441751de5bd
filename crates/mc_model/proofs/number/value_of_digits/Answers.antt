use Rattle.std.proofs.Common.{◌≡◌, ◌+◌, ◌*◌, ◌^◌, ◌≤◌, get_or, sym, ◌∙◌, arith}
use Rattle.std.specs.Char.{digit_value}
use Rattle.mc_model.proofs.Numerals.{SpellsSoFar-all, digit_value-at_digit, too_large}
use Rattle.mc_model.proofs.number.value_of_digits.Goals as goal

pub returns-in_err-checked_mul : goal.returns-in_err-checked_mul
returns-in_err-checked_mul c =
    let digit = digit_value (get_or c.args.bytes.now c.loop-byte.byte-index 0) in
    let past : 2 ^ 64 ≤ c.loop-byte.value * 10 + digit = omega (arith, c.in_err-checked_mul.ensures) in
    rw c.from_residual.ensures (too_large c.args.bytes.now c.loop-byte.byte-index c.loop-byte.value c.loop-byte-test.true c.loop-byte.invariant.so_far (2 ^ 64) past)

pub returns-in_err-value : goal.returns-in_err-value
returns-in_err-value c =
    let digit = digit_value (get_or c.args.bytes.now c.loop-byte.byte-index 0) in
    let is : digit ≡ c.from-digit.result = digit_value-at_digit _ c.if-not-is_ascii_digit.ensures.cases ∙ sym c.from-digit.ensures in
    let past : 2 ^ 64 ≤ c.loop-byte.value * 10 + digit = omega (arith, is, c.in_err-value.ensures, c.in_ok-checked_mul.ensures) in
    rw c.from_residual-in_err-value.ensures (too_large c.args.bytes.now c.loop-byte.byte-index c.loop-byte.value c.loop-byte-test.true c.loop-byte.invariant.so_far (2 ^ 64) past)

pub returns : goal.returns
returns c =
    let all = SpellsSoFar-all c.args.bytes.now c.loop-byte.byte-index c.loop-byte.value c.loop-byte-test.false c.loop-byte.invariant.so_far in
    ((all.0, omega (arith, all.1)), all.1)
