-- What is held reads on as it would have in one piece.
use Rattle.std.proofs.Common.{◌≡◌, ℕ, ◌+◌, ◌-◌, ◌<◌, ◌≤◌, ◌↔◌, Bool, true, false, cond, List, [], ◌∷◌, ◌++◌, length, drop, None, refl, sym, ◌∙◌, ap, subst, ⊎_elim, append-nil, append_assoc, length-append, arith}
use Rattle.std.proofs.lemmas.Bool.{cases_lt, cond-false, cond-true, le-leb, le-ltb, lt-leb, lt-ltb}
use Rattle.std.proofs.lemmas.List.{drop-append-le, drop-drop, drop_at}
use Rattle.std.specs.Bool.{MatchBool}
use Rattle.mc_model.specs.declared.reply.WireNo.{WireNo}
use Rattle.mc_model.specs.declared.request.Request.{Request}
use Rattle.mc_read.specs.declared.line.Asked.TheVariants.{RefusedBlock}
use Rattle.mc_read.specs.declared.line.TheConstants.{LINE_BYTES}
use Rattle.mc_read.specs.First.{first_of_line, first_request, found}
use Rattle.mc_read.specs.Line.{refused}
use Rattle.mc_read.specs.Reading.{Ended, GoesOn, HasNone, Held, IsFed, IsNext, Kept, ReadAlike, Reads, ReadsAs, ReadsOn, Swallowing, ends_stream}
use Rattle.mc_read.specs.Text.{IsUnbroken, Lines}
use Rattle.mc_read.proofs.Readings.{reads_first, reads_from_first}
use Rattle.mc_read.proofs.Texts.{first_of_none, first_of_text, first_request_at, none_of_first, some_parts, text_of_first}

-- what is held after a request
abbrev pub held_after : Request → List ℕ → Held
held_after request left = cond (ends_stream request) Ended (Kept left)

-- an equivalence, joined to another and reversed
iff_then : {P Q R : Type 0} → P ↔ Q → Q ↔ R → P ↔ R
iff_then a b = (λ p. b.0 (a.0 p), λ r. a.1 (b.1 r))

iff_back : {P Q : Type 0} → P ↔ Q → Q ↔ P
iff_back a = (a.1, a.0)

module _ (lines : Lines) where
  -- a request that is whole stays the first, whatever follows
  pub first_request-more : (bytes more : List ℕ) (request : Request) (left : List ℕ) → first_request lines bytes ≡ found request left → first_request lines (bytes ++ more) ≡ found request (left ++ more)
  first_request-more bytes more request left is =
      let text = text_of_first lines bytes request left is in
      ap (λ all. first_request lines (all ++ more)) text.2 ∙ (ap (first_request lines) (append_assoc text.0 left more) ∙ first_of_text lines text.0 (left ++ more) request text.1)

  -- what a request leaves to read is what is held after it
  left_on : (ends : Bool) (left : List ℕ) (requests : List Request)
      → ((rest : List ℕ) × MatchBool ends ((requests ≡ []) × (left ≡ rest)) (Reads lines left requests rest)) ↔ ReadsOn lines (cond ends Ended (Kept left)) [] requests
  left_on true left requests = (λ tail. tail.1.0, λ none. (left, (none, refl)))
  left_on false left requests = (
    λ tail. (tail.0, subst (λ bytes. Reads lines bytes requests tail.0) (sym (append-nil left)) tail.1),
    λ reads. (reads.0, subst (λ bytes. Reads lines bytes requests reads.0) (append-nil left) reads.1),
  )

  -- the same with more bytes after
  on_more : (ends : Bool) (left more : List ℕ) (requests : List Request) → ReadsOn lines (cond ends Ended (Kept (left ++ more))) [] requests ↔ ReadsOn lines (cond ends Ended (Kept left)) more requests
  on_more true left more requests = (λ none. none, λ none. none)
  on_more false left more requests = (
    λ reads. (reads.0, subst (λ bytes. Reads lines bytes requests reads.0) (append-nil (left ++ more)) reads.1),
    λ reads. (reads.0, subst (λ bytes. Reads lines bytes requests reads.0) (sym (append-nil (left ++ more))) reads.1),
  )

  no_first : (bytes : List ℕ) (request : Request) (left : List ℕ) (rest : List ℕ) → first_request lines bytes ≡ found request left → Reads lines bytes [] rest → ⊥
  no_first bytes request left rest is reads = let both = sym is ∙ first_of_none lines bytes reads.1 in none_of_both both
    where
      none_of_both : found request left ≡ None → ⊥
      none_of_both both = cc

  -- a first request is the next one, and what follows it is held then
  pub next_is_first : (bytes : List ℕ) (request : Request) (left : List ℕ) → first_request lines bytes ≡ found request left → IsNext lines (Kept bytes) request (held_after request left)
  next_is_first bytes request left is more [] = (λ reads. no_first (bytes ++ more) request (left ++ more) reads.0 (first_request-more bytes more request left is) reads.1, λ none. absurd none)
  next_is_first bytes request left is more (other ∷ others) = (
    λ reads.
        let first = reads_first lines (bytes ++ more) other others reads.0 reads.1 in
        let same = some_parts other request first.0 (left ++ more) (sym first.1 ∙ first_request-more bytes more request left is) in
        let tail = subst (λ (p : Request × List ℕ). MatchBool (ends_stream p.0) ((others ≡ []) × (p.1 ≡ reads.0)) (Reads lines p.1 others reads.0)) (λ i. (same.0 i, same.1 i)) first.2 in
        (same.0, (on_more (ends_stream request) left more others).0 ((left_on (ends_stream request) (left ++ more) others).0 (reads.0, tail))),
    λ goes.
        let tail = (left_on (ends_stream request) (left ++ more) others).1 ((on_more (ends_stream request) left more others).1 goes.1) in
        let reads = reads_from_first lines (bytes ++ more) request (left ++ more) others tail.0 (first_request-more bytes more request left is) tail.1 in
        (tail.0, subst (λ first. Reads lines (bytes ++ more) (first ∷ others) tail.0) (sym goes.0) reads),
  )

  -- bytes that are equal read alike
  same_reading : (bytes others : List ℕ) → bytes ≡ others → (requests : List Request) → ReadsAs lines bytes requests ↔ ReadsAs lines others requests
  same_reading bytes others same requests = (subst (λ b. ReadsAs lines b requests) same, subst (λ b. ReadsAs lines b requests) (sym same))

  goes_alike : (request : Request) (bytes others : List ℕ) → bytes ≡ others → (requests : List Request) → GoesOn request (ReadsAs lines bytes) requests ↔ GoesOn request (ReadsAs lines others) requests
  goes_alike request bytes others same requests = (subst (λ b. GoesOn request (ReadsAs lines b) requests) same, subst (λ b. GoesOn request (ReadsAs lines b) requests) (sym same))

  -- where no request stands first, none is read
  reads_none : (bytes : List ℕ) → first_request lines bytes ≡ None → (requests : List Request) → ReadsAs lines bytes requests ↔ (requests ≡ [])
  reads_none bytes none [] = (λ reads. refl, λ _. (bytes, (refl, none_of_first lines bytes none)))
  reads_none bytes none (request ∷ requests) = (
    λ reads. let first = reads_first lines bytes request requests reads.0 reads.1 in absurd (none_of_both first.0 (sym first.1 ∙ none)),
    λ no_requests. absurd (cc),
  )
    where
      none_of_both : (left : List ℕ) → found request left ≡ None → ⊥
      none_of_both left both = cc

  -- a first request that doesn't end the stream is read, and then what it leaves
  reads_of_first : (bytes : List ℕ) (request : Request) (left : List ℕ) → first_request lines bytes ≡ found request left → ends_stream request ≡ false → (requests : List Request) → ReadsAs lines bytes requests ↔ GoesOn request (ReadsAs lines left) requests
  reads_of_first bytes request left is goes_on requests =
      let next = next_is_first bytes request left is [] requests in
      let after : held_after request left ≡ Kept left = ap (λ ends. cond ends Ended (Kept left)) goes_on in
      iff_then (same_reading bytes (bytes ++ []) (sym (append-nil bytes)) requests)
      (iff_then next
      (iff_then (subst (λ held. GoesOn request (ReadsOn lines held []) requests) after, subst (λ held. GoesOn request (ReadsOn lines held []) requests) (sym after))
      (goes_alike request (left ++ []) left (append-nil left) requests)))

  -- what is held reads alike while no request stands in it
  pub has_none : (bytes : List ℕ) → first_request lines bytes ≡ None → HasNone lines (Kept bytes)
  has_none bytes none requests = reads_none (bytes ++ []) (ap (first_request lines) (append-nil bytes) ∙ none) requests

  pub reads_alike : (held : Held) → ReadAlike lines held held
  reads_alike held more requests = (λ reads. reads, λ reads. reads)

  module _ (request : Request) (left : ℕ) (bytes more : List ℕ) (requests : List Request) where
    -- within a refused block no request is read
    swallows_more : length more < left → ReadsOn lines (Swallowing request left bytes) more requests ↔ (requests ≡ [])
    swallows_more within =
        let test = lt-ltb (length more) left within in (
          subst (λ b. MatchBool b (requests ≡ []) (GoesOn request (ReadsAs lines (bytes ++ drop left more)) requests)) test,
          subst (λ b. MatchBool b (requests ≡ []) (GoesOn request (ReadsAs lines (bytes ++ drop left more)) requests)) (sym test),
        )

    -- after it the refused request is read, and what follows the block
    swallows_all : left ≤ length more → ReadsOn lines (Swallowing request left bytes) more requests ↔ GoesOn request (ReadsAs lines (bytes ++ drop left more)) requests
    swallows_all past =
        let test = le-ltb (length more) left past in (
          subst (λ b. MatchBool b (requests ≡ []) (GoesOn request (ReadsAs lines (bytes ++ drop left more)) requests)) test,
          subst (λ b. MatchBool b (requests ≡ []) (GoesOn request (ReadsAs lines (bytes ++ drop left more)) requests)) (sym test),
        )

  pub swallowing_has_none : (request : Request) (left : ℕ) (bytes : List ℕ) → 0 < left → HasNone lines (Swallowing request left bytes)
  swallowing_has_none request left bytes some requests = swallows_more request left bytes [] requests some

  -- once its block has come a refused request is the next
  pub swallowed_is_next : (request : Request) (bytes : List ℕ) → IsNext lines (Swallowing request 0 bytes) request (Kept bytes)
  swallowed_is_next request bytes more requests = swallows_all request 0 bytes more requests (omega arith)

  -- Where a line's block is refused and hasn't all come, what has come of it needn't be kept.
  module _ (line body : List ℕ) (size : ℕ) (refusal : WireNo) (quiet : Bool) (unbroken : IsUnbroken line) (short : length line ≤ LINE_BYTES) (is_asked : lines line ≡ RefusedBlock size refusal quiet) (partial : length body < size + 2) where
    kept_line : List ℕ → List ℕ
    kept_line more = line ++ 10 ∷ (body ++ more)

    first_of_refused : (more : List ℕ) → first_request lines (kept_line more) ≡ first_of_line (RefusedBlock size refusal quiet) (body ++ more)
    unfolding kept_line
    first_of_refused more = first_request_at lines line (body ++ more) unbroken short ∙ ap (λ a. first_of_line a (body ++ more)) is_asked

    rest_after : (more : List ℕ) → size + 2 ≤ length body + length more → drop (size + 2) (body ++ more) ≡ drop (size + 2 - length body) more
    rest_after more all =
        let sum : size + 2 ≡ length body + (size + 2 - length body) = omega arith in
        ap (λ n. drop n (body ++ more)) sum
        ∙ (sym (drop-drop (size + 2 - length body) (length body) (body ++ more)) ∙ ap (drop (size + 2 - length body)) (drop_at body more (length body) refl))

    refused_alike_kept : (more : List ℕ) (requests : List Request) → ReadsAs lines (kept_line more) requests ↔ ReadsOn lines (Swallowing (refused refusal quiet) (size + 2 - length body) []) more requests
    refused_alike_kept more requests =
        ⊎_elim
        (λ within.
        let none : first_request lines (kept_line more) ≡ None = first_of_refused more ∙ cond-false _ _ _ (lt-leb (size + 2) (length (body ++ more)) (omega (arith, within, length-append body more))) in
        iff_then (reads_none (kept_line more) none requests) (iff_back (swallows_more (refused refusal quiet) (size + 2 - length body) [] more requests (omega (arith, within)))))
        (λ past.
        let all : size + 2 ≤ length (body ++ more) = omega (arith, past, length-append body more) in
        let first = first_of_refused more ∙ cond-true _ _ _ (le-leb (size + 2) (length (body ++ more)) all) in
        iff_then (reads_of_first (kept_line more) (refused refusal quiet) _ first refl requests)
        (iff_then (goes_alike (refused refusal quiet) _ _ (rest_after more (omega (arith, past))) requests)
        (iff_back (swallows_all (refused refusal quiet) (size + 2 - length body) [] more requests (omega (arith, past))))))
        (cases_lt (length body + length more) (size + 2))

    pub refused_alike : ReadAlike lines (Kept (line ++ 10 ∷ body)) (Swallowing (refused refusal quiet) (size + 2 - length body) [])
    unfolding kept_line
    refused_alike more requests =
        iff_then (same_reading ((line ++ 10 ∷ body) ++ more) (kept_line more) (append_assoc line (10 ∷ body) more) requests) (refused_alike_kept more requests)

    pub refused_has_none : HasNone lines (Kept (line ++ 10 ∷ body))
    refused_has_none requests =
        iff_then (refused_alike [] requests) (swallowing_has_none (refused refusal quiet) (size + 2 - length body) [] (omega (arith, partial)) requests)

  -- What a piece adds to what is held.
  pub fed_kept : (bytes piece : List ℕ) → IsFed lines (Kept bytes) piece (Kept (bytes ++ piece))
  fed_kept bytes piece more requests = same_reading ((bytes ++ piece) ++ more) (bytes ++ (piece ++ more)) (append_assoc bytes piece more) requests

  pub fed_ended : (piece : List ℕ) → IsFed lines Ended piece Ended
  fed_ended piece more requests = (λ none. none, λ none. none)

  -- after a refused block
  pub fed_after : (request : Request) (bytes piece : List ℕ) → IsFed lines (Swallowing request 0 bytes) piece (Swallowing request 0 (bytes ++ piece))
  fed_after request bytes piece more requests =
      iff_then (swallows_all request 0 (bytes ++ piece) more requests (omega arith))
      (iff_then (goes_alike request ((bytes ++ piece) ++ more) (bytes ++ (piece ++ more)) (append_assoc bytes piece more) requests)
      (iff_back (swallows_all request 0 bytes (piece ++ more) requests (omega arith))))

  -- a piece within a refused block
  pub fed_within : (request : Request) (left : ℕ) (piece : List ℕ) → length piece ≤ left → IsFed lines (Swallowing request left []) piece (Swallowing request (left - length piece) [])
  fed_within request left piece within more requests =
      ⊎_elim
      (λ short. iff_then (swallows_more request (left - length piece) [] more requests (omega (arith, short, within)))
      (iff_back (swallows_more request left [] (piece ++ more) requests (omega (arith, short, length-append piece more)))))
      (λ past.
      let sum : left ≡ length piece + (left - length piece) = omega (arith, within) in
      let same : drop (left - length piece) more ≡ drop left (piece ++ more) =
      ap (drop (left - length piece)) (sym (drop_at piece more (length piece) refl)) ∙ (drop-drop (left - length piece) (length piece) (piece ++ more) ∙ ap (λ n. drop n (piece ++ more)) (sym sum)) in
      iff_then (swallows_all request (left - length piece) [] more requests (omega (arith, past)))
      (iff_then (goes_alike request _ _ same requests)
      (iff_back (swallows_all request left [] (piece ++ more) requests (omega (arith, past, length-append piece more))))))
      (cases_lt (length piece + length more) left)

  -- a piece that ends a refused block
  pub fed_past : (request : Request) (left : ℕ) (piece : List ℕ) → left ≤ length piece → IsFed lines (Swallowing request left []) piece (Swallowing request 0 (drop left piece))
  fed_past request left piece past more requests =
      iff_then (swallows_all request 0 (drop left piece) more requests (omega arith))
      (iff_then (goes_alike request (drop left piece ++ more) (drop left (piece ++ more)) (sym (drop-append-le left piece more past)) requests)
      (iff_back (swallows_all request left [] (piece ++ more) requests (omega (arith, past, length-append piece more)))))
