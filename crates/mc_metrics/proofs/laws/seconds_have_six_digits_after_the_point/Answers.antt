use Rattle.std.proofs.Common.{◌∙◌, ◌/◌, ◌%◌, append_assoc, arith, codes, decimal, refl, sym}
use Rattle.mc_metrics.proofs.Seconds.{last_digit, left_over, six, six_digits, six_value}
use Rattle.mc_metrics.proofs.laws.seconds_have_six_digits_after_the_point.Goals as goal

pub returns : goal.returns
returns c micros =
    let first = micros / 100000 in
    let second = micros / 10000 in
    let third = micros / 1000 in
    let fourth = micros / 100 in
    let fifth = micros / 10 in
    let digits = six (first % 10) (second % 10) (third % 10) (fourth % 10) (fifth % 10) (micros % 10) in (
      digits,
      sym (append_assoc (decimal (micros / 1000000)) (codes ".") digits),
      refl,
      (omega arith, six_digits _ _ _ _ _ _ (last_digit first) (last_digit second) (last_digit third) (last_digit fourth) (last_digit fifth) (last_digit micros)),
      six_value _ _ _ _ _ _ (last_digit first) (last_digit second) (last_digit third) (last_digit fourth) (last_digit fifth) (last_digit micros) ∙ left_over micros,
    )
