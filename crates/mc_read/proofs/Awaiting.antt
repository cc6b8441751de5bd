-- A line that was read, and what has arrived of its block.
use Rattle.std.proofs.Common.{◌≡◌, ℕ, ◌+◌, ◌-◌, ◌≤◌, Bool, List, [], ◌∷◌, ◌++◌, length, take, drop, Some, None, sym, ◌∙◌, ap, subst, append-nil, length-append, length-drop, length-take, arith}
use Rattle.std.proofs.lemmas.List.{append_assoc, drop-drop}
use Rattle.std.proofs.Math.Seq.{drop-append-add, take-append_seam}
use Rattle.mc_model.specs.declared.item.Data.{Data}
use Rattle.mc_model.specs.declared.item.TheConstants.{DATA_BYTES}
use Rattle.mc_model.specs.declared.request.Request.{Request}
use Rattle.mc_read.specs.declared.awaited.Awaited.{Awaited}
use Rattle.mc_read.specs.declared.awaited.ReadLine.{ReadLine}
use Rattle.mc_read.specs.declared.line.Asked.TheVariants.{RefusedBlock, StoredBlock}
use Rattle.mc_read.specs.declared.line.Header.{Header}
use Rattle.mc_read.specs.Reading.{IsFed, Kept}
use Rattle.mc_read.specs.State.{EndsInRefusal, IsAwaited, IsFinished, IsLineAt, IsNextAnswer, IsTaken, line_reach, with_line}
use Rattle.mc_read.specs.Text.{IsUnbroken, Lines, ends_well, stored_if}
use Rattle.mc_read.proofs.Holdings.{fed_kept}
use Rattle.mc_read.proofs.Steps.{answer_awaited, answer_taken, split_line, unbroken_line}
use Rattle.mc_read.proofs.Texts.{line_length_at}

-- what stands behind a line and its line feed
behind_line : (text more : List ℕ) → drop (length text + 1) (text ++ 10 ∷ more) ≡ more
behind_line text more = drop-append-add text (10 ∷ more) 1

text_of : (block : Awaited) (bytes : List ℕ) → take (length block.line.text) (with_line block bytes) ≡ block.line.text
text_of block bytes = take-append_seam block.line.text (10 ∷ (block.body.items ++ bytes))

-- a piece comes behind what is held
with_more : (block : Awaited) (bytes piece : List ℕ) → with_line block (bytes ++ piece) ≡ with_line block bytes ++ piece
with_more block bytes piece =
    ap (λ behind. block.line.text ++ 10 ∷ behind) (sym (append_assoc block.body.items bytes piece)) ∙ sym (append_assoc block.line.text (10 ∷ (block.body.items ++ bytes)) piece)

pub fed_awaiting : (lines : Lines) (block : Awaited) (bytes piece : List ℕ) → IsFed lines (Kept (with_line block bytes)) piece (Kept (with_line block (bytes ++ piece)))
fed_awaiting lines block bytes piece =
    subst (λ held. IsFed lines (Kept (with_line block bytes)) piece (Kept held)) (sym (with_more block bytes piece)) (fed_kept lines (with_line block bytes) piece)

-- A block begins where its line has come, and less than all of it.
module _ (lines : Lines) (bytes : List ℕ) (line : ℕ) (block : Awaited) (at : IsLineAt bytes line) (is_text : block.line.text ≡ take line bytes) (is_body : block.body.items ≡ drop (line + 1) bytes) where
  pub begun_holds : with_line block [] ≡ bytes
  begun_holds =
      ap (λ behind. block.line.text ++ 10 ∷ behind) (append-nil block.body.items) ∙ ((λ i. is_text i ++ 10 ∷ is_body i) ∙ sym (split_line bytes line at))

  pub begun_line : length block.line.text ≡ line
  begun_line = ap length is_text ∙ omega (arith, length-take line bytes, at.ends)

  pub begun_awaits : lines (take line bytes) ≡ StoredBlock block.header → block.header.length ≤ DATA_BYTES → (left : List ℕ) → IsTaken bytes line block.header.length None left → IsAwaited lines block
  begun_awaits asked small left part = record {
    unbroken = subst IsUnbroken (sym is_text) (unbroken_line bytes line at);
    short = omega (arith, begun_line, at.short);
    asked = ap lines is_text ∙ asked;
    small = small;
    few = omega (arith, ap length is_body, length-drop (line + 1) bytes, part.0);
  }

module _ (lines : Lines) (block : Awaited) (is : IsAwaited lines block) (bytes : List ℕ) where
  -- the line that was read stands at the front of what is held
  pub line_awaited : IsLineAt (with_line block bytes) (length block.line.text)
  line_awaited = record {
    is_length = line_length_at block.line.text (block.body.items ++ bytes) is.unbroken;
    ends = omega (arith, length-append block.line.text (10 ∷ (block.body.items ++ bytes)));
    short = is.short;
  }

  -- in no byte of a block a line end is searched
  pub none_to_search : line_reach (with_line block bytes) - (length block.line.text + 1) ≡ 0
  none_to_search = omega (arith, line_length_at block.line.text (block.body.items ++ bytes) is.unbroken)

  is_asked : lines (take (length block.line.text) (with_line block bytes)) ≡ StoredBlock block.header
  is_asked = ap lines (text_of block bytes) ∙ is.asked

  -- a part of the block is still to come
  pub awaits_more : (after : Awaited) (left : List ℕ) → after.line ≡ block.line → IsFinished block.header.length (block.body.items ++ bytes) None (after.body.items ++ left) → IsNextAnswer lines (Kept (with_line block bytes)) None (Kept (with_line after left))
  awaits_more after left same part =
      answer_awaited lines (with_line block bytes) (length block.line.text) line_awaited block.header is_asked is.small (with_line after left)
      (omega (arith, part.0, length-append block.line.text (10 ∷ (block.body.items ++ bytes))), (λ i. (same i).text ++ 10 ∷ part.1 i))

  -- the block is whole
  pub awaits_none : (given : Data × Bool) (left : List ℕ) → IsFinished block.header.length (block.body.items ++ bytes) (Some given) left → IsNextAnswer lines (Kept (with_line block bytes)) (Some (stored_if given.1 block.header given.0)) (Kept left)
  awaits_none given left whole =
      let all = with_line block bytes in
      let size = block.header.length in
      let behind : drop (length block.line.text + 1) all ≡ block.body.items ++ bytes = behind_line block.line.text (block.body.items ++ bytes) in
      let taken : take (size + 2) (drop (length block.line.text + 1) all) ≡ take (size + 2) (block.body.items ++ bytes) = ap (λ b. take (size + 2) b) behind in
      answer_taken lines all (length block.line.text) line_awaited block.header is_asked given left (
        omega (arith, whole.0, length-append block.line.text (10 ∷ (block.body.items ++ bytes))),
        whole.1 ∙ ap (λ b. take size b) (sym taken),
        whole.2 ∙ ap (λ b. ends_well (drop size b)) (sym taken),
        whole.3 ∙ (ap (λ b. drop (size + 2) b) (sym behind) ∙ drop-drop (size + 2) (length block.line.text + 1) all),
      )

  -- its line asks for no refused block
  pub awaits_unrefused : (request : Request) (left : ℕ) → EndsInRefusal lines (with_line block bytes) request left → ⊥
  awaits_unrefused request left ends =
      let at : ends.line ≡ length block.line.text = sym ends.is_line.is_length ∙ line_length_at block.line.text (block.body.items ++ bytes) is.unbroken in
      let both : RefusedBlock ends.size ends.refusal ends.quiet ≡ StoredBlock block.header = sym ends.is_asked ∙ (ap (λ n. lines (take n (with_line block bytes))) at ∙ is_asked) in
      cc

-- nor once more has come
pub none_to_search_after : (lines : Lines) (block : Awaited) → IsAwaited lines block → (after : Awaited) → after.line ≡ block.line → (bytes : List ℕ) → line_reach (with_line after bytes) - (length after.line.text + 1) ≡ 0
none_to_search_after lines block is after same bytes =
    omega (arith, line_length_at after.line.text (after.body.items ++ bytes) (subst (λ (l : ReadLine). IsUnbroken l.text) (sym same) is.unbroken))
