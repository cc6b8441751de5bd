-- The lines one after another: the next is in its place, or it is the first that isn't.
use Rattle.std.proofs.Common.{◌≡◌, ℕ, ◌+◌, ◌<◌, ◌≤◌, true, false, List, [], ◌∷◌, ◌++◌, Bor, length, get_or, map, take, drop, Option, None, sym, ◌∙◌, ap, arith}
use Rattle.std.proofs.lemmas.Bool.{cond-false, cond-true}
use Rattle.std.proofs.lemmas.List.{drop_all, drop_more, get_or-map, length-map, take_all, take_more}
use Rattle.std.proofs.lemmas.List.FromFn.{get_or-enumerate_from, length-enumerate_from}
use Rattle.std.specs.List.{enumerate_from}
use Rattle.mc_schedules.specs.Line.{said}
use Rattle.mc_schedules.specs.Place.{Statement, cores, first_misplaced, is_in_place, items, statement, statements, tenants}
use Rattle.mc_schedules.specs.Schedule.{BadLine, listed, read_lines, read_unless}

abbrev pub nothing : Bor (List ℕ)
nothing = record { ref_ptr = (0, 0); now = [] }

abbrev pub texts : List (Bor (List ℕ)) → List (List ℕ)
texts lines = map (λ line. line.now) lines

abbrev pub all_of : List (Bor (List ℕ)) → List Statement
all_of lines = statements (texts lines)

-- what the line of this index says
abbrev pub one_of : List (Bor (List ℕ)) → ℕ → Statement
one_of lines i = (1 + i, said (get_or lines i nothing).now)

module _ (lines : List (Bor (List ℕ))) where
  texts_length : length (texts lines) ≡ length lines
  texts_length = length-map lines (λ (line : Bor (List ℕ)). line.now)

  numbered_length : length (enumerate_from 1 (texts lines)) ≡ length lines
  numbered_length = length-enumerate_from 1 (texts lines) ∙ texts_length

  all_length : length (all_of lines) ≡ length lines
  all_length = length-map (enumerate_from 1 (texts lines)) statement ∙ numbered_length

  numbered_at : (i : ℕ) → i < length lines → get_or (enumerate_from 1 (texts lines)) i (0, []) ≡ (1 + i, (get_or lines i nothing).now)
  numbered_at i below =
      get_or-enumerate_from 1 (texts lines) i (0, []) (omega (arith, texts_length, below))
      ∙ ap (λ (text : List ℕ). (1 + i, text)) (get_or-map (λ (line : Bor (List ℕ)). line.now) lines i nothing [] below)

  statement_at : (i : ℕ) → i < length lines → get_or (all_of lines) i (0, None) ≡ one_of lines i
  statement_at i below =
      get_or-map statement (enumerate_from 1 (texts lines)) i (0, []) (0, None) (omega (arith, numbered_length, below))
      ∙ ap statement (numbered_at i below)

  next_left : (i : ℕ) → i < length lines → drop i (all_of lines) ≡ one_of lines i ∷ drop (i + 1) (all_of lines)
  next_left i below =
      drop_more (all_of lines) i (0, None) (omega (arith, all_length, below))
      ∙ ap (λ (one : Statement). one ∷ drop (i + 1) (all_of lines)) (statement_at i below)

  pub next_taken : (i : ℕ) → i < length lines → take (i + 1) (all_of lines) ≡ take i (all_of lines) ++ one_of lines i ∷ []
  next_taken i below =
      take_more (all_of lines) i (0, None) (omega (arith, all_length, below))
      ∙ ap (λ (one : Statement). take i (all_of lines) ++ one ∷ []) (statement_at i below)

  -- a line that is in its place is passed
  pub goes_on : (i : ℕ) → i < length lines → is_in_place (take i (all_of lines)) (one_of lines i).1 ≡ true
      → first_misplaced (take i (all_of lines)) (drop i (all_of lines)) ≡ first_misplaced (take (i + 1) (all_of lines)) (drop (i + 1) (all_of lines))
  goes_on i below fits =
      ap (first_misplaced (take i (all_of lines))) (next_left i below)
      ∙ (cond-true _ _ _ fits ∙ ap (λ before. first_misplaced before (drop (i + 1) (all_of lines))) (sym (next_taken i below)))

  -- one that isn't is the first bad line
  pub stops : (i : ℕ) → i < length lines → first_misplaced [] (all_of lines) ≡ first_misplaced (take i (all_of lines)) (drop i (all_of lines))
      → is_in_place (take i (all_of lines)) (one_of lines i).1 ≡ false → BadLine (1 + i) ≡ read_lines (texts lines)
  stops i below so_far misplaced =
      sym (ap (λ (bad : Option ℕ). read_unless bad (all_of lines))
      (so_far ∙ (ap (first_misplaced (take i (all_of lines))) (next_left i below) ∙ cond-false _ _ _ misplaced)))

  -- after the last line all count
  pub ends : (i : ℕ) → length lines ≤ i → first_misplaced [] (all_of lines) ≡ first_misplaced (take i (all_of lines)) (drop i (all_of lines))
      → listed (cores (take i (all_of lines))) (tenants (take i (all_of lines))) (items (take i (all_of lines))) ≡ read_lines (texts lines)
  ends i past so_far =
      let whole : take i (all_of lines) ≡ all_of lines = take_all i (all_of lines) (omega (arith, all_length, past)) in
      let none_left : drop i (all_of lines) ≡ [] = drop_all i (all_of lines) (omega (arith, all_length, past)) in
      ap (λ (all : List Statement). listed (cores all) (tenants all) (items all)) whole
      ∙ sym (ap (λ (bad : Option ℕ). read_unless bad (all_of lines)) (so_far ∙ ap (first_misplaced (take i (all_of lines))) none_left))
