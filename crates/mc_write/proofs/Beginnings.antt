-- What begins with more begins with less.
use Rattle.std.proofs.Common.{◌≡◌, ℕ, ◌≤◌, List, ◌++◌, length, take, sym, ap, ◌∙◌, arith, length-append}
use Rattle.std.proofs.Math.Seq.{take-append_seam}
use Rattle.std.proofs.lemmas.List.{take-take}
use Rattle.std.specs.Io.{StartsWith}

pub StartsWith-append : (bytes front more : List ℕ) → bytes ≡ front ++ more → StartsWith bytes front
StartsWith-append bytes front more is = ap (take (length front)) is ∙ take-append_seam front more

pub StartsWith-shorter : (bytes longer front more : List ℕ) → StartsWith bytes longer → longer ≡ front ++ more → StartsWith bytes front
StartsWith-shorter bytes longer front more begun is =
    let fits : length front ≤ length longer = omega (arith, length-append front more, ap length is) in
    sym (take-take (length front) (length longer) bytes fits) ∙ (ap (take (length front)) begun ∙ StartsWith-append longer front more is)
