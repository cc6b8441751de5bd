-- Each byte list has exactly one reading, and what is held reads on as it would have in one piece.
use Rattle.std.proofs.Common.{◌≡◌, ℕ, zero, suc, ◌<◌, ◌≤◌, Bool, true, false, List, [], ◌∷◌, ◌++◌, length, Option, Some, None, refl, sym, ◌∙◌, ap, subst, ⊎_elim, append-nil, length-append, arith}
use Rattle.std.specs.Bool.{MatchBool}
use Rattle.mc_model.specs.declared.request.Request.{Request}
use Rattle.mc_read.specs.First.{first_request, found}
use Rattle.mc_read.specs.Reading.{FollowsRequest, HasReading, Reads, ends_stream}
use Rattle.mc_read.specs.Text.{IsRequestText, Lines}
use Rattle.mc_read.proofs.Texts.{first_of_text, none_of_first, some_parts, text_of_first}

module _ (lines : Lines) where
  -- no request text is a proper prefix of another
  pub text_is_whole : (text more : List ℕ) (request other : Request) → IsRequestText lines text request → IsRequestText lines (text ++ more) other → (more ≡ []) × (request ≡ other)
  text_is_whole text more request other is longer =
      let both = sym (first_of_text lines text more request is) ∙ (ap (first_request lines) (sym (append-nil (text ++ more))) ∙ first_of_text lines (text ++ more) [] other longer) in
      let parts = some_parts request other more [] both in
      (parts.1, parts.0)

  -- the first request of a reading
  pub reads_first : (bytes : List ℕ) (request : Request) (requests : List Request) (rest : List ℕ) → Reads lines bytes (request ∷ requests) rest → (more : List ℕ) × (first_request lines bytes ≡ found request more) × FollowsRequest lines request more requests rest
  reads_first bytes request requests rest reads =
      (reads.1, ap (first_request lines) reads.3 ∙ first_of_text lines reads.0 reads.1 request reads.2, reads.4)

  pub reads_from_first : (bytes : List ℕ) (request : Request) (more : List ℕ) (requests : List Request) (rest : List ℕ) → first_request lines bytes ≡ found request more → FollowsRequest lines request more requests rest → Reads lines bytes (request ∷ requests) rest
  reads_from_first bytes request more requests rest is follows =
      let text = text_of_first lines bytes request more is in (text.0, more, text.1, text.2, follows)

  one_tail : (ends : Bool) (more : List ℕ) (requests others : List Request) (rest left : List ℕ) → (Reads lines more requests rest → Reads lines more others left → (requests ≡ others) × (rest ≡ left))
      → MatchBool ends ((requests ≡ []) × (more ≡ rest)) (Reads lines more requests rest) → MatchBool ends ((others ≡ []) × (more ≡ left)) (Reads lines more others left) → (requests ≡ others) × (rest ≡ left)
  one_tail true more requests others rest left same a b = (a.0 ∙ sym b.0, sym a.1 ∙ b.1)
  one_tail false more requests others rest left same a b = same a b

  -- a byte list has one reading
  pub one_reading : (bytes : List ℕ) (requests others : List Request) (rest left : List ℕ) → Reads lines bytes requests rest → Reads lines bytes others left → (requests ≡ others) × (rest ≡ left)
  one_reading bytes [] [] rest left reads other = (refl, sym reads.0 ∙ other.0)
  one_reading bytes [] (request ∷ others) rest left reads other = absurd (reads.1 other.0 other.1 request other.2 other.3)
  one_reading bytes (request ∷ requests) [] rest left reads other = absurd (other.1 reads.0 reads.1 request reads.2 reads.3)
  one_reading bytes (request ∷ requests) (twin ∷ others) rest left reads other =
      let first = reads_first bytes request requests rest reads in
      let second = reads_first bytes twin others left other in
      let same = some_parts request twin first.0 second.0 (sym first.1 ∙ second.1) in
      let pair : ◌≡◌ {A = Request × List ℕ} (twin, second.0) (request, first.0) = λ i. (sym same.0 i, sym same.1 i) in
      let follows = subst (λ (p : Request × List ℕ). FollowsRequest lines p.0 p.1 others left) pair second.2 in
      let tails = one_tail (ends_stream request) first.0 requests others rest left (one_reading first.0 requests others rest left) first.2 follows in
      (λ i. same.0 i ∷ tails.0 i, tails.1)

  -- a text has at least one byte
  text_some : (text : List ℕ) (request : Request) → IsRequestText lines text request → 0 < length text
  text_some text request is =
      ⊎_elim (λ line. omega (arith, ap length line.in_text, length-append line.line (10 ∷ line.body))) (λ long. omega (arith, long.long)) is

  tail_of : (ends : Bool) (more : List ℕ) → HasReading lines more → (requests : List Request) × (rest : List ℕ) × MatchBool ends ((requests ≡ []) × (more ≡ rest)) (Reads lines more requests rest)
  tail_of true more reading = ([], more, (refl, refl))
  tail_of false more reading = reading

  reading_from : (bytes : List ℕ) (first : Option (Request × List ℕ)) → first_request lines bytes ≡ first → ((request : Request) (more : List ℕ) → first_request lines bytes ≡ found request more → HasReading lines more) → HasReading lines bytes
  reading_from bytes None is later = ([], bytes, (refl, none_of_first lines bytes is))
  reading_from bytes (Some (request, more)) is later =
      let tail = tail_of (ends_stream request) more (later request more is) in
      (request ∷ tail.0, tail.1, reads_from_first bytes request more tail.0 tail.1 is tail.2)

  pub shorter : (bytes : List ℕ) (request : Request) (more : List ℕ) → first_request lines bytes ≡ found request more → length more < length bytes
  shorter bytes request more is =
      let text = text_of_first lines bytes request more is in
      omega (arith, text_some text.0 request text.1, ap length text.2, length-append text.0 more)

  -- a byte list has a reading: each text takes bytes away
  reading_within : (bound : ℕ) (bytes : List ℕ) → length bytes ≤ bound → HasReading lines bytes
  reading_within zero bytes short =
      reading_from bytes _ refl (λ request more is. absurd (omega (arith, shorter bytes request more is)))
  reading_within (suc bound) bytes short =
      reading_from bytes _ refl (λ request more is. reading_within bound more (omega (arith, shorter bytes request more is)))

  pub has_reading : (bytes : List ℕ) → HasReading lines bytes
  has_reading bytes = reading_within (length bytes) bytes (omega arith)
