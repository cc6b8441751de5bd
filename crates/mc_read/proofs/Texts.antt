-- The computed first request is the one whose text is at the front, and no other's is.
use Rattle.std.proofs.Common.{◌≡◌, ℕ, ◌+◌, ◌<◌, ◌≤◌, Bool, true, false, cond, nat_le, nat_lt, not, ◌⊎◌, List, [], ◌∷◌, ◌++◌, length, get_or, take, drop, Option, Some, None, refl, sym, ◌∙◌, ap, inl, inr, ⊎_elim, append_assoc, length-append, length-take, arith}
use Rattle.std.proofs.lemmas.Bool.{both_ways, cases_lt, cond-false, cond-true, eqb-true, le-leb, le-ltb, leb-true, lt-ltb, ltb-false, ltb-true, ne_eqb}
use Rattle.std.proofs.lemmas.List.{drop_at, get_or-take, get_or_append_left, get_or_at, length-take-le, take-append-drop, take_at}
use Rattle.std.proofs.lemmas.List.Sums.{fails_before_first, passes_at_first, position_or_len_is, prefix_len-le-length, split_at_first}
use Rattle.std.specs.List.{after_first, before_first}
use Rattle.mc_model.specs.declared.request.Request.{Request}
use Rattle.mc_model.specs.declared.request.Request.TheVariants.{TooLong}
use Rattle.mc_read.specs.declared.line.Asked.{Asked}
use Rattle.mc_read.specs.declared.line.TheConstants.{LINE_BYTES}
use Rattle.mc_read.specs.First.{first_of_line, first_request, found, is_line_feed, line_length}
use Rattle.mc_read.specs.Reading.{HasNoRequest}
use Rattle.mc_read.specs.Text.{IsRequestText, IsUnbroken, Lines, body_length, request_of}

cases_le : (m n : ℕ) → (m ≤ n) ⊎ (n < m)
cases_le m n = ⊎_elim (λ above. inr above) (λ below. inl below) (cases_lt n m)

-- which way a test went
pub cond_is : {X : Type 0} (b : Bool) (x y z : X) → cond b x y ≡ z → ((b ≡ true) × (x ≡ z)) ⊎ ((b ≡ false) × (y ≡ z))
cond_is true x y z is = inl (refl, is)
cond_is false x y z is = inr (refl, is)

module _ (line rest : List ℕ) (unbroken : IsUnbroken line) where
  -- a line ends at its line feed
  pub line_length_at : line_length (line ++ 10 ∷ rest) ≡ length line
  line_length_at =
      position_or_len_is is_line_feed (line ++ 10 ∷ rest) (length line) 0 (omega (arith, length-append line (10 ∷ rest)))
      (λ k below. ap is_line_feed (get_or_append_left line (10 ∷ rest) 0 k below) ∙ ne_eqb _ 10 (unbroken k 0 below))
      (λ _. ap is_line_feed (get_or_at line 10 rest 0 (length line) refl))

  pub before_first_at : before_first is_line_feed (line ++ 10 ∷ rest) ≡ line
  before_first_at = ap (λ n. take n (line ++ 10 ∷ rest)) line_length_at ∙ take_at line (10 ∷ rest) (length line) refl

  pub after_first_at : after_first is_line_feed (line ++ 10 ∷ rest) ≡ rest
  after_first_at =
      ap (λ n. drop (n + 1) (line ++ 10 ∷ rest)) line_length_at
      ∙ (ap (λ bytes. drop (length line + 1) bytes) (sym (append_assoc line (10 ∷ []) rest))
      ∙ drop_at (line ++ 10 ∷ []) rest (length line + 1) (length-append line (10 ∷ [])))

-- if there is no line feed in the first bytes, the line is longer
pub line_length-too_long : (text more : List ℕ) → length text ≡ LINE_BYTES + 1 → IsUnbroken text → LINE_BYTES < line_length (text ++ more)
line_length-too_long text more long unbroken =
    ⊎_elim (λ within.
    let here : line_length (text ++ more) < length text = omega (arith, within, long) in
    let stands : line_length (text ++ more) < length (text ++ more) = omega (arith, here, length-append text more) in
    let breaks = eqb-true _ 10 (sym (ap is_line_feed (get_or_append_left text more 0 _ here)) ∙ passes_at_first is_line_feed (text ++ more) 0 stands) in
    absurd (unbroken _ 0 here breaks)) (λ long. long) (cases_le (line_length (text ++ more)) LINE_BYTES)

-- what belongs to a line is a prefix of what comes after it
first_of_line_at : (a : Asked) (body more : List ℕ) → length body ≡ body_length a → first_of_line a (body ++ more) ≡ found (request_of a body) more
first_of_line_at a body more whole =
    let enough : body_length a ≤ length (body ++ more) = omega (arith, whole, length-append body more) in
    cond-true _ _ _ (le-leb _ _ enough)
    ∙ ap Some (λ i. (request_of a (take_at body more (body_length a) whole i), drop_at body more (body_length a) whole i))

pub some_parts : (request other : Request) (more rest : List ℕ) → found request more ≡ found other rest → (request ≡ other) × (more ≡ rest)
some_parts request other more rest is =
    let pair : ◌≡◌ {A = Request × List ℕ} (request, more) (other, rest) = cc in
    (ap (λ (p : Request × List ℕ). p.0) pair, ap (λ (p : Request × List ℕ). p.1) pair)

-- before the first line feed there is none
pub before_first-unbroken : (bytes : List ℕ) (n : ℕ) → n ≤ line_length bytes → IsUnbroken (take n bytes)
before_first-unbroken bytes n within k d below line_feed =
    let short : k < n = omega (arith, below, length-take n bytes) in
    let byte : get_or bytes k d ≡ 10 = sym (get_or-take n bytes k d short) ∙ line_feed in
    both_ways _ (fails_before_first is_line_feed bytes k d (omega (arith, short, within))) (ap is_line_feed byte)

module _ (lines : Lines) where
  -- what comes after a line of valid length decides
  pub first_request_at : (line rest : List ℕ) → IsUnbroken line → length line ≤ LINE_BYTES → first_request lines (line ++ 10 ∷ rest) ≡ first_of_line (lines line) rest
  first_request_at line rest unbroken short =
      let in_limit : line_length (line ++ 10 ∷ rest) ≤ LINE_BYTES = omega (arith, line_length_at line rest unbroken) in
      let stands : line_length (line ++ 10 ∷ rest) < length (line ++ 10 ∷ rest) = omega (arith, line_length_at line rest unbroken, length-append line (10 ∷ rest)) in
      cond-false _ _ _ (le-ltb LINE_BYTES _ in_limit)
      ∙ (cond-true _ _ _ (lt-ltb _ _ stands)
      ∙ (ap (λ text. first_of_line (lines text) (after_first is_line_feed (line ++ 10 ∷ rest))) (before_first_at line rest unbroken)
      ∙ ap (first_of_line (lines line)) (after_first_at line rest unbroken)))

  -- the text of a request at the front is the first request, whatever follows
  pub first_of_text : (text more : List ℕ) (request : Request) → IsRequestText lines text request → first_request lines (text ++ more) ≡ found request more
  first_of_text text more request (inl is) =
      ap (λ bytes. first_request lines (bytes ++ more)) is.in_text
      ∙ (ap (first_request lines) (append_assoc is.line (10 ∷ is.body) more)
      ∙ (first_request_at is.line (is.body ++ more) is.unbroken is.short
      ∙ (first_of_line_at (lines is.line) is.body more is.whole ∙ ap (λ r. found r more) (sym is.is_asked))))
  first_of_text text more request (inr is) =
      let long : LINE_BYTES < line_length (text ++ more) = line_length-too_long text more is.long is.unbroken in
      cond-true _ _ _ (lt-ltb LINE_BYTES _ long)
      ∙ ap Some (λ i. (sym is.is_too_long i, drop_at text more (LINE_BYTES + 1) is.long i))

  too_long_at : (bytes : List ℕ) (request : Request) (more : List ℕ) → LINE_BYTES < line_length bytes → found TooLong (drop (LINE_BYTES + 1) bytes) ≡ found request more → (text : List ℕ) × IsRequestText lines text request × (bytes ≡ text ++ more)
  too_long_at bytes request more long is =
      let parts = some_parts TooLong request _ more is in
      let within = prefix_len-le-length (λ byte. not (is_line_feed byte)) bytes in (
        take (LINE_BYTES + 1) bytes,
        inr (record {
          long = length-take-le (LINE_BYTES + 1) bytes (omega (arith, long, within));
          unbroken = before_first-unbroken bytes (LINE_BYTES + 1) (omega (arith, long));
          is_too_long = sym parts.0;
        }),
        sym (take-append-drop (LINE_BYTES + 1) bytes) ∙ ap (λ rest. take (LINE_BYTES + 1) bytes ++ rest) parts.1,
      )

  line_at : (bytes : List ℕ) (request : Request) (more : List ℕ) → line_length bytes ≤ LINE_BYTES → line_length bytes < length bytes
      → first_of_line (lines (before_first is_line_feed bytes)) (after_first is_line_feed bytes) ≡ found request more → (text : List ℕ) × IsRequestText lines text request × (bytes ≡ text ++ more)
  line_at bytes request more short stands is =
      let line = before_first is_line_feed bytes in
      let after = after_first is_line_feed bytes in
      let n = body_length (lines line) in
      let feed : get_or bytes (line_length bytes) 0 ≡ 10 = eqb-true _ 10 (passes_at_first is_line_feed bytes 0 stands) in
      let split : bytes ≡ line ++ 10 ∷ after = split_at_first is_line_feed bytes 0 stands ∙ ap (λ byte. line ++ byte ∷ after) feed in
      ⊎_elim
      (λ whole.
      let parts = some_parts _ request _ more whole.1 in
      let enough : n ≤ length after = leb-true _ _ whole.0 in (
        line ++ 10 ∷ take n after,
        inl (record {
          line = line;
          body = take n after;
          short = omega (arith, short, length-take (line_length bytes) bytes);
          unbroken = before_first-unbroken bytes (line_length bytes) (omega arith);
          whole = length-take-le n after enough;
          in_text = refl;
          is_asked = sym parts.0;
        }),
        split ∙ (ap (λ rest. line ++ 10 ∷ rest) (sym (take-append-drop n after) ∙ ap (λ rest. take n after ++ rest) parts.1)
            ∙ sym (append_assoc line (10 ∷ take n after) more)),
      ))
      (λ short_of. absurd (none_is_some request more short_of.1))
      (cond_is (nat_le n (length after)) _ None _ is)
    where
      none_is_some : (request : Request) (more : List ℕ) → None ≡ found request more → ⊥
      none_is_some request more is = cc

  -- what the computation finds has its text at the front
  pub text_of_first : (bytes : List ℕ) (request : Request) (more : List ℕ) → first_request lines bytes ≡ found request more → (text : List ℕ) × IsRequestText lines text request × (bytes ≡ text ++ more)
  text_of_first bytes request more is =
      ⊎_elim
      (λ long. too_long_at bytes request more (ltb-true _ _ long.0) long.1)
      (λ short. ⊎_elim
      (λ stands. line_at bytes request more (ltb-false _ _ short.0) (ltb-true _ _ stands.0) stands.1)
      (λ open_line. absurd (none_is_some open_line.1))
      (cond_is (nat_lt (line_length bytes) (length bytes)) _ None _ short.1))
      (cond_is (nat_lt LINE_BYTES (line_length bytes)) _ _ _ is)
    where
      none_is_some : None ≡ found request more → ⊥
      none_is_some no_request = cc

  -- there is no request where the computation finds none, and conversely
  pub none_of_first : (bytes : List ℕ) → first_request lines bytes ≡ None → HasNoRequest lines bytes
  none_of_first bytes none text more request is split =
      let both = sym none ∙ (ap (first_request lines) split ∙ first_of_text text more request is) in absurd (cc)

  pub first_of_none : (bytes : List ℕ) → HasNoRequest lines bytes → first_request lines bytes ≡ None
  first_of_none bytes has_none = from_cases (first_request lines bytes) refl
    where
      from_cases : (first : Option (Request × List ℕ)) → first_request lines bytes ≡ first → first ≡ None
      from_cases None is = refl
      from_cases (Some (request, more)) is =
          let text = text_of_first bytes request more is in absurd (has_none text.0 more request text.1 text.2)
