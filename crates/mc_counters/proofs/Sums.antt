-- Lemmas on adding one tally to another.
use Rattle.std.proofs.Common.{◌≡◌, ℕ, ◌+◌, ◌^◌, ◌-◌, ◌<◌, ◌≤◌, ◌++◌, cond, zero, suc, [], ◌∷◌, ◌∙◌, arith, ap, sym, List, length, take, drop, min, refl, slice_index, slice_set, sum_by, ⊎_elim}
use Rattle.std.proofs.Math.Nat.{min-eq_left, min-eq_right}
use Rattle.std.proofs.lemmas.Bool.{cases_lt}
use Rattle.std.proofs.lemmas.List.Sums.{sum_by-append}
use Rattle.mc_counters.specs.Tallied.{CountedRequest, IsTallyOf, capped, counts_of_both, is_of_kind, is_refused, items_found, keys_missed, tally_of_both}
use Rattle.mc_counters.specs.declared.kinds.TheConstants.{COMMANDS, REFUSALS}
use Rattle.mc_counters.specs.declared.tally.Tally.{Tally}

-- one place more
adds_next : (place : ℕ) (ones others : List ℕ) → place < length ones → length ones ≡ length others
    → slice_set (counts_of_both (take place ones) (take place others) ++ drop place ones) place
    (capped (slice_index (counts_of_both (take place ones) (take place others) ++ drop place ones) place + slice_index others place))
    ≡ counts_of_both (take (suc place) ones) (take (suc place) others) ++ drop (suc place) ones
adds_next place [] others inside long = absurd (omega (arith, inside))
adds_next place (one ∷ ones) [] inside long = absurd (omega (arith, long))
adds_next zero (one ∷ ones) (other ∷ others) inside long = refl
adds_next (suc place) (one ∷ ones) (other ∷ others) inside long =
    ap (λ (counts : List ℕ). capped (one + other) ∷ counts) (adds_next place ones others (omega (arith, inside)) (omega (arith, long)))

pub adds_more : (place : ℕ) (ones others : List ℕ) → place < length ones → length ones ≡ length others
    → slice_set (counts_of_both (take place ones) (take place others) ++ drop place ones) place
    (capped (slice_index (counts_of_both (take place ones) (take place others) ++ drop place ones) place + slice_index others place))
    ≡ counts_of_both (take (place + 1) ones) (take (place + 1) others) ++ drop (place + 1) ones
adds_more place ones others inside long =
    let next : suc place ≡ place + 1 = omega arith in
    adds_next place ones others inside long ∙ ap (λ more. counts_of_both (take more ones) (take more others) ++ drop more ones) next

-- there are as many counts of both as of each
length-counts_of_both : (ones others : List ℕ) → length ones ≡ length others → length (counts_of_both ones others) ≡ length ones
length-counts_of_both [] others long = refl
length-counts_of_both (one ∷ ones) [] long = absurd (omega (arith, long))
length-counts_of_both (one ∷ ones) (other ∷ others) long = ap suc (length-counts_of_both ones others (omega (arith, long)))

long-counts_of_both : (ones others : List ℕ) (count : ℕ) → length ones ≡ count → length others ≡ count → length (counts_of_both ones others) ≡ count
long-counts_of_both ones others count one other = length-counts_of_both ones others (one ∙ sym other) ∙ one

-- the counts of both at a place
index-counts_of_both : (ones others : List ℕ) (place : ℕ) → length ones ≡ length others → place < length ones
    → slice_index (counts_of_both ones others) place ≡ capped (slice_index ones place + slice_index others place)
index-counts_of_both [] others place long inside = absurd (omega (arith, inside))
index-counts_of_both (one ∷ ones) [] place long inside = absurd (omega (arith, long))
index-counts_of_both (one ∷ ones) (other ∷ others) zero long inside = refl
index-counts_of_both (one ∷ ones) (other ∷ others) (suc place) long inside = index-counts_of_both ones others place (omega (arith, long)) (omega (arith, inside))

-- two numbers that stop at the largest, together
min-both : (largest m n : ℕ) → min (min m largest + min n largest) largest ≡ min (m + n) largest
min-both largest m n = ⊎_elim
    (λ (below : m < largest). ⊎_elim
    (λ (also : n < largest).
    let one : min m largest ≡ m = min-eq_left (omega arith) in let two : min n largest ≡ n = min-eq_left (omega arith) in rw (one, two) refl)
    (λ (above : largest ≤ n).
    let two : min n largest ≡ largest = min-eq_right above in
    let left : min (min m largest + largest) largest ≡ largest = min-eq_right (omega arith) in
    let right : min (m + n) largest ≡ largest = min-eq_right (omega arith) in
    rw two (left ∙ sym right))
    (cases_lt n largest))
    (λ (above : largest ≤ m).
    let one : min m largest ≡ largest = min-eq_right above in
    let left : min (largest + min n largest) largest ≡ largest = min-eq_right (omega arith) in
    let right : min (m + n) largest ≡ largest = min-eq_right (omega arith) in
    rw one (left ∙ sym right))
    (cases_lt m largest)

-- a number that counts one list and one that counts another count both together
capped-both : (f : CountedRequest → ℕ) (first second : List CountedRequest) (m n : ℕ) → m ≡ capped (sum_by f first) → n ≡ capped (sum_by f second)
    → capped (m + n) ≡ capped (sum_by f (first ++ second))
capped-both f first second m n one two =
    ap (λ (number : ℕ). capped (number + n)) one ∙ ap (λ (number : ℕ). capped (capped (sum_by f first) + number)) two
    ∙ min-both (2 ^ 64 - 1) (sum_by f first) (sum_by f second) ∙ ap (λ (number : ℕ). capped number) (sym (sum_by-append f first second))

-- two tallies together count both lists
pub both_counted : (one other : Tally) (first second : List CountedRequest) → IsTallyOf first one → IsTallyOf second other → IsTallyOf (first ++ second) (tally_of_both one other)
both_counted one other first second is also = record {
  places = (
    long-counts_of_both one.commands other.commands COMMANDS is.places.0 also.places.0,
    long-counts_of_both one.refusals other.refusals REFUSALS is.places.1 also.places.1,
  );
  commands = λ place below. index-counts_of_both one.commands other.commands place (omega (arith, is.places.0, also.places.0)) (omega (arith, below, is.places.0))
      ∙ capped-both (λ one. cond (is_of_kind place one.asked) 1 0) first second _ _ (is.commands place below) (also.commands place below);
  refusals = λ place below. index-counts_of_both one.refusals other.refusals place (omega (arith, is.places.1, also.places.1)) (omega (arith, below, is.places.1))
      ∙ capped-both (λ one. cond (is_refused place one.reply) 1 0) first second _ _ (is.refusals place below) (also.refusals place below);
  hits = capped-both (λ one. items_found one.reply) first second _ _ is.hits also.hits;
  misses = capped-both (λ one. keys_missed one.asked one.reply) first second _ _ is.misses also.misses;
}

-- the tally after both were added
pub added : (old middle late other : Tally) (hits misses : ℕ) → middle ≡ record old { commands = counts_of_both old.commands other.commands }
    → late ≡ record middle { refusals = counts_of_both middle.refusals other.refusals } → hits ≡ capped (late.hits + other.hits) → misses ≡ capped (late.misses + other.misses)
    → record { commands = late.commands; hits = hits; misses = misses; refusals = late.refusals } ≡ tally_of_both old other
added old middle late other hits misses middle_is late_is hits_is misses_is =
    let after : late ≡ record (record old { commands = counts_of_both old.commands other.commands }) { refusals = counts_of_both old.refusals other.refusals } =
    late_is ∙ ap (λ (tally : Tally). record tally { refusals = counts_of_both tally.refusals other.refusals }) middle_is in
    (λ i. record { commands = (after i).commands; hits = hits_is i; misses = misses_is i; refusals = (after i).refusals })
    ∙ (λ i. record { commands = counts_of_both old.commands other.commands; hits = capped ((after i).hits + other.hits); misses = capped ((after i).misses + other.misses); refusals = counts_of_both old.refusals other.refusals })
