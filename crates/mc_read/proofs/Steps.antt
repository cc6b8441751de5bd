-- The answers of a reader that looks at the line at the front of its bytes.
use Rattle.std.proofs.Common.{◌≡◌, ℕ, ◌+◌, ◌-◌, ◌<◌, ◌≤◌, Bool, true, false, cond, List, [], ◌∷◌, ◌++◌, length, get_or, take, drop, Some, None, refl, sym, ◌∙◌, ap, subst, length-drop, length-take, arith}
use Rattle.std.proofs.lemmas.Bool.{cond-false, cond-true, eqb-true, le-leb, le-ltb, lt-leb, lt-ltb}
use Rattle.std.proofs.lemmas.List.{drop-drop}
use Rattle.std.proofs.lemmas.List.Sums.{passes_at_first, split_at_first}
use Rattle.mc_model.specs.declared.item.TheConstants.{DATA_BYTES}
use Rattle.mc_model.specs.declared.item.Data.{Data}
use Rattle.mc_model.specs.declared.reply.WireNo.{WireNo}
use Rattle.mc_model.specs.declared.request.Request.{Request}
use Rattle.mc_model.specs.declared.request.Request.TheVariants.{TooLong}
use Rattle.mc_read.specs.declared.line.Asked.{Asked}
use Rattle.mc_read.specs.declared.line.Asked.TheVariants.{RefusedBlock, StoredBlock}
use Rattle.mc_read.specs.declared.line.Header.{Header}
use Rattle.mc_read.specs.declared.line.TheConstants.{LINE_BYTES}
use Rattle.mc_read.specs.declared.reader.State.TheVariants as state
use Rattle.mc_read.specs.First.{first_of_line, first_request, found, is_line_feed, line_length}
use Rattle.mc_read.specs.Line.{refused}
use Rattle.mc_read.specs.Reading.{Ended, HasNone, Kept, ReadAlike, Swallowing, ends_stream}
use Rattle.mc_read.specs.State.{IsNextAnswer, IsLineAt, IsStateOf, IsTaken, held_in, most_requests, state_past}
use Rattle.mc_read.specs.Text.{IsTooLongText, IsUnbroken, IsUnended, Lines, body_length, ends_well, request_of, stored_request, stored_if}
use Rattle.mc_read.proofs.Holdings.{has_none, held_after, next_is_first, reads_alike, refused_alike, refused_has_none}
use Rattle.mc_read.proofs.Readings.{shorter}
use Rattle.mc_read.proofs.Texts.{before_first-unbroken, line_length-too_long}

module _ (bytes : List ℕ) (line : ℕ) (is_line : IsLineAt bytes line) where
  pub split_line : bytes ≡ take line bytes ++ 10 ∷ drop (line + 1) bytes
  split_line =
      let stands : line_length bytes < length bytes = omega (arith, is_line.is_length, is_line.ends) in
      let feed : get_or bytes (line_length bytes) 0 ≡ 10 = eqb-true _ 10 (passes_at_first is_line_feed bytes 0 stands) in
      split_at_first is_line_feed bytes 0 stands
      ∙ (ap (λ byte. take (line_length bytes) bytes ++ byte ∷ drop (line_length bytes + 1) bytes) feed
      ∙ ap (λ n. take n bytes ++ 10 ∷ drop (n + 1) bytes) is_line.is_length)

  pub unbroken_line : IsUnbroken (take line bytes)
  unbroken_line = before_first-unbroken bytes line (omega (arith, is_line.is_length))

-- Where a line has ended, none is still open and none is too long.
module _ (bytes : List ℕ) (line : ℕ) (is_line : IsLineAt bytes line) where
  pub not_unended : IsUnended bytes → ⊥
  not_unended is =
      let stands : line_length bytes < length bytes = omega (arith, is_line.is_length, is_line.ends) in
      is.unbroken (line_length bytes) 0 stands (eqb-true _ 10 (passes_at_first is_line_feed bytes 0 stands))

  pub not_too_long : (text more : List ℕ) (request : Request) → bytes ≡ text ++ more → IsTooLongText text request → ⊥
  not_too_long text more request same is =
      absurd (omega (arith, line_length-too_long text more is.long is.unbroken, ap line_length same, is_line.is_length, is_line.short))

-- the state after a request, with what follows it or nothing at the end of the stream
pub held_in_state_after : (request : Request) (left : List ℕ) → held_in (state_past request) (cond (ends_stream request) [] left) ≡ held_after request left
held_in_state_after request left =
    elim (ends_stream request) as (λ b. held_in (cond b state.Ended (state.AwaitsLine 0)) (cond b [] left) ≡ cond b Ended (Kept left)) [ true ↦ refl | false ↦ refl ]

-- after a block the stream goes on
pub stored_goes_on : (header : Header) (body left : List ℕ) → held_after (stored_request header body) left ≡ Kept left
stored_goes_on header body left =
    elim (ends_well (drop header.length body)) as (λ b. held_after (stored_if b header (take header.length body)) left ≡ Kept left) [ true ↦ refl | false ↦ refl ]

few_after : (request : Request) (left : List ℕ) {most : ℕ} → length left < most → most_requests (held_after request left) < most
few_after request left {most} fewer =
    elim (ends_stream request) as (λ b. most_requests (cond b Ended (Kept left)) < most) [ true ↦ omega arith | false ↦ fewer ]

module _ (lines : Lines) where
  -- a first request is answered
  pub answer_first : (bytes : List ℕ) (request : Request) (left : List ℕ) → first_request lines bytes ≡ found request left → IsNextAnswer lines (Kept bytes) (Some request) (held_after request left)
  answer_first bytes request left is = (next_is_first lines bytes request left is, few_after request left (shorter lines bytes request left is))

  -- without one the bytes stay
  pub answer_none : (bytes : List ℕ) → first_request lines bytes ≡ None → length bytes ≤ LINE_BYTES + 1 + DATA_BYTES + 1 → IsNextAnswer lines (Kept bytes) None (Kept bytes)
  answer_none bytes none few = (has_none lines bytes none, reads_alike lines (Kept bytes), few, omega arith)

  pub first_too_long : (bytes : List ℕ) → LINE_BYTES < line_length bytes → first_request lines bytes ≡ found TooLong (drop (LINE_BYTES + 1) bytes)
  first_too_long bytes long = cond-true _ _ _ (lt-ltb LINE_BYTES (line_length bytes) long)

  pub first_open : (bytes : List ℕ) → line_length bytes ≡ length bytes → length bytes ≤ LINE_BYTES → first_request lines bytes ≡ None
  first_open bytes is_open short =
      let in_limit : line_length bytes ≤ LINE_BYTES = omega (arith, is_open, short) in
      let unended : length bytes ≤ line_length bytes = omega (arith, is_open) in
      cond-false _ _ _ (le-ltb LINE_BYTES (line_length bytes) in_limit) ∙ cond-false _ _ _ (le-ltb (line_length bytes) (length bytes) unended)

  module _ (bytes : List ℕ) (line : ℕ) (is_line : IsLineAt bytes line) where
    first_at : first_request lines bytes ≡ first_of_line (lines (take line bytes)) (drop (line + 1) bytes)
    first_at =
        let in_limit : line_length bytes ≤ LINE_BYTES = omega (arith, is_line.is_length, is_line.short) in
        let stands : line_length bytes < length bytes = omega (arith, is_line.is_length, is_line.ends) in
        cond-false _ _ _ (le-ltb LINE_BYTES (line_length bytes) in_limit)
        ∙ (cond-true _ _ _ (lt-ltb (line_length bytes) (length bytes) stands)
        ∙ ap (λ n. first_of_line (lines (take n bytes)) (drop (n + 1) bytes)) is_line.is_length)

    -- all that belongs to the line has come
    pub first_whole : (a : Asked) → lines (take line bytes) ≡ a → line + 1 + body_length a ≤ length bytes →
        first_request lines bytes ≡ found (request_of a (take (body_length a) (drop (line + 1) bytes))) (drop (line + 1 + body_length a) bytes)
    first_whole a is whole =
        let enough : body_length a ≤ length (drop (line + 1) bytes) = omega (arith, whole, length-drop (line + 1) bytes) in
        first_at
        ∙ (ap (λ b. first_of_line b (drop (line + 1) bytes)) is
        ∙ (cond-true _ _ _ (le-leb (body_length a) (length (drop (line + 1) bytes)) enough)
        ∙ ap (found (request_of a (take (body_length a) (drop (line + 1) bytes)))) (drop-drop (body_length a) (line + 1) bytes)))

    pub answer_whole : (a : Asked) → lines (take line bytes) ≡ a → line + 1 + body_length a ≤ length bytes → (request : Request) (left : List ℕ)
        → request ≡ request_of a (take (body_length a) (drop (line + 1) bytes)) → left ≡ drop (line + 1 + body_length a) bytes → IsNextAnswer lines (Kept bytes) (Some request) (held_after request left)
    answer_whole a is whole request left is_request is_left =
        answer_first bytes request left (first_whole a is whole ∙ (λ i. found (sym is_request i) (sym is_left i)))

    -- a part of it is still to come
    pub first_partial : (a : Asked) → lines (take line bytes) ≡ a → length bytes < line + 1 + body_length a → first_request lines bytes ≡ None
    first_partial a is partial =
        let ends = is_line.ends in
        let short_of : length (drop (line + 1) bytes) < body_length a = omega (arith, partial, ends, length-drop (line + 1) bytes) in
        first_at
        ∙ (ap (λ b. first_of_line b (drop (line + 1) bytes)) is
        ∙ cond-false _ _ _ (lt-leb (body_length a) (length (drop (line + 1) bytes)) short_of))

    -- of a refused block only the length is kept
    pub answer_swallowing : (size left : ℕ) (refusal : WireNo) (quiet : Bool) → lines (take line bytes) ≡ RefusedBlock size refusal quiet → length bytes + left ≡ line + 1 + size + 2 → 0 < left → IsNextAnswer lines (Kept bytes) None (Swallowing (refused refusal quiet) left [])
    answer_swallowing size left refusal quiet is is_left some =
        let body = drop (line + 1) bytes in
        let ends = is_line.ends in
        let partial : length body < size + 2 = omega (arith, is_left, some, ends, length-drop (line + 1) bytes) in
        let same_left : size + 2 - length body ≡ left = omega (arith, is_left, some, ends, length-drop (line + 1) bytes) in
        let short : length (take line bytes) ≤ LINE_BYTES = omega (arith, is_line.short, length-take line bytes) in
        let held = ap (λ b. Kept b) (sym (split_line bytes line is_line)) in (
          subst (HasNone lines) held (refused_has_none lines (take line bytes) body size refusal quiet (unbroken_line bytes line is_line) short is partial),
          subst (λ h. ReadAlike lines h (Swallowing (refused refusal quiet) left [])) held
              (subst (λ n. ReadAlike lines (Kept (take line bytes ++ 10 ∷ body)) (Swallowing (refused refusal quiet) n [])) same_left
              (refused_alike lines (take line bytes) body size refusal quiet (unbroken_line bytes line is_line) short is partial)),
          omega arith,
          omega (arith, ends),
        )

  pub is_state_after : (request : Request) (left : List ℕ) → IsStateOf lines (state_past request) (cond (ends_stream request) [] left)
  is_state_after request left =
      elim (ends_stream request) as (λ b. IsStateOf lines (cond b state.Ended (state.AwaitsLine 0)) (cond b [] left)) [ true ↦ refl | false ↦ record { in_vain = omega arith; few = omega arith } ]

  -- a block that was taken with its line is stored as its bytes say
  pub answer_taken : (bytes : List ℕ) (line : ℕ) (is_line : IsLineAt bytes line) (header : Header) → lines (take line bytes) ≡ StoredBlock header → (given : Data × Bool) (left : List ℕ) → IsTaken bytes line header.length (Some given) left
      → IsNextAnswer lines (Kept bytes) (Some (stored_if given.1 header given.0)) (Kept left)
  answer_taken bytes line is_line header is given left taken =
      let body = take (header.length + 2) (drop (line + 1) bytes) in
      let is_request : stored_if given.1 header given.0 ≡ stored_request header body = λ i. stored_if (taken.2 i) header (taken.1 i) in
      let answer = answer_whole bytes line is_line (StoredBlock header) is taken.0 (stored_if given.1 header given.0) left is_request taken.3 in
      let held : held_after (stored_if given.1 header given.0) left ≡ Kept left = ap (λ request. held_after request left) is_request ∙ stored_goes_on header body left in
      subst (λ h. IsNextAnswer lines (Kept bytes) (Some (stored_if given.1 header given.0)) h) held answer

  -- a block that is still to come is awaited
  pub answer_awaited : (bytes : List ℕ) (line : ℕ) (is_line : IsLineAt bytes line) (header : Header) → lines (take line bytes) ≡ StoredBlock header → header.length ≤ DATA_BYTES → (left : List ℕ) → IsTaken bytes line header.length None left
      → IsNextAnswer lines (Kept bytes) None (Kept left)
  answer_awaited bytes line is_line header is small left taken =
      subst (λ b. IsNextAnswer lines (Kept bytes) None (Kept b)) (sym taken.1)
      (answer_none bytes (first_partial bytes line is_line (StoredBlock header) is taken.0) (omega (arith, is_line.short, small, taken.0)))
