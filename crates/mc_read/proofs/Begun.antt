-- A line whose block is refused, and less than the block with the two bytes behind it, are bytes that
-- end in a refusal.
use Rattle.std.proofs.Common.{◌≡◌, ℕ, ◌+◌, ◌-◌, ◌<◌, ◌≤◌, Bool, List, ◌∷◌, ◌++◌, length, refl, ◌∙◌, ap, length-append, arith}
use Rattle.std.proofs.lemmas.List.{take_at}
use Rattle.mc_model.specs.declared.reply.WireNo.{WireNo}
use Rattle.mc_read.specs.declared.line.Asked.TheVariants.{RefusedBlock}
use Rattle.mc_read.specs.Line.{refused}
use Rattle.mc_read.specs.State.{EndsInRefusal}
use Rattle.mc_read.specs.Text.{IsUnbroken, Lines}
use Rattle.mc_read.proofs.Texts.{line_length_at}

pub begun_refusal : (lines : Lines) (line part : List ℕ) (size : ℕ) (refusal : WireNo) (quiet : Bool) → IsUnbroken line → length line ≤ 65536 → lines line ≡ RefusedBlock size refusal quiet → length part < size + 2
    → EndsInRefusal lines (line ++ 10 ∷ part) (refused refusal quiet) (size + 2 - length part)
begun_refusal lines line part size refusal quiet unbroken short is begun = record {
  line = length line;
  size = size;
  refusal = refusal;
  quiet = quiet;
  is_line = record {
    is_length = line_length_at line part unbroken;
    ends = omega (arith, length-append line (10 ∷ part));
    short = short;
  };
  is_asked = ap lines (take_at line (10 ∷ part) (length line) refl) ∙ is;
  is_request = refl;
  is_left = omega (arith, begun, length-append line (10 ∷ part));
  some = omega (arith, begun);
}
