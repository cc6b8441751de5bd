-- Places among the entries of two lists, one after the other.
use Rattle.std.proofs.Common.{◌≡◌, ◌≢◌, ℕ, ◌+◌, ◌<◌, ◌≤◌, Bool, true, false, cond, not, List, [], ◌∷◌, ◌++◌, length, get_or, position, Some, None, refl, sym, ap, ◌∙◌, arith, length-append}
use Rattle.std.proofs.lemmas.Bool.Decides.{nat_tests}
use Rattle.std.proofs.lemmas.Grind.{common_steps}
use Rattle.std.proofs.lemmas.List.{get_or-append-add, length-map, map-append}
use Rattle.std.proofs.lemmas.List.Quantifiers.{position-Some}
use Rattle.std.proofs.lemmas.Option.{same_Some}
use Rattle.std.specs.List.{position_or_len}
use Rattle.std.specs.Prelude.{nat_lt, suc}
use Rattle.std.specs.Map.{keys_of}
use Rattle.mc_model.specs.declared.item.Item.{Item}
use Rattle.mc_model.specs.declared.key.Key.{Key}
use Rattle.mc_tables.specs.Entries.{same_key}
use Rattle.mc_tables.proofs.Layering.{is_same, place_of, same}

sooner : (b : Bool) (n m l : ℕ) → (n < l → m ≡ n) → cond (not b) (1 + n) 0 < suc l → cond (not b) (1 + m) 0 ≡ cond (not b) (1 + n) 0
sooner true n m l is inside = refl
sooner false n m l is inside = ap (λ k. 1 + k) (is (omega (arith, inside)))

found_first : {X : Type 0} (p : X → Bool) (xs ys : List X) → position_or_len p xs < length xs → position_or_len p (xs ++ ys) ≡ position_or_len p xs
found_first p [] ys inside = absurd (omega (arith, inside))
found_first p (x ∷ xs) ys inside = sooner (p x) (position_or_len p xs) (position_or_len p (xs ++ ys)) (length xs) (found_first p xs ys) inside

later : (b : Bool) (n m l k : ℕ) → (l ≤ n → m ≡ l + k) → suc l ≤ cond (not b) (1 + n) 0 → cond (not b) (1 + m) 0 ≡ suc l + k
later true n m l k is past = absurd (omega (arith, past))
later false n m l k is past = let next : m ≡ l + k = is (omega (arith, past)) in omega (arith, next)

found_later : {X : Type 0} (p : X → Bool) (xs ys : List X) → length xs ≤ position_or_len p xs → position_or_len p (xs ++ ys) ≡ length xs + position_or_len p ys
found_later p [] ys past = omega arith
found_later p (x ∷ xs) ys past = later (p x) (position_or_len p xs) (position_or_len p (xs ++ ys)) (length xs) (position_or_len p ys) (found_later p xs ys) past

position-first : {X : Type 0} (p : X → Bool) (xs ys : List X) (i : ℕ) → position p xs ≡ Some i → position p (xs ++ ys) ≡ Some i
position-first p xs ys i is =
    let at : position_or_len p xs ≡ i = grind (arith, common_steps) in
    let inside : i < length xs = grind (arith, common_steps) in
    let whole : position_or_len p (xs ++ ys) ≡ i = found_first p xs ys (omega (arith, at, inside)) ∙ at in
    let long : length (xs ++ ys) ≡ length xs + length ys = length-append xs ys in
    let found : nat_lt i (length (xs ++ ys)) ≡ true = grind (arith, nat_tests) in
    (λ k. cond (nat_lt (whole k) (length (xs ++ ys))) (Some (whole k)) None) ∙ ap (λ b. cond b (Some i) None) found

position-later : {X : Type 0} (p : X → Bool) (xs ys : List X) (j : ℕ) → position p xs ≡ None → position p ys ≡ Some j → position p (xs ++ ys) ≡ Some (length xs + j)
position-later p xs ys j none is =
    let past : length xs ≤ position_or_len p xs = grind (arith, common_steps) in
    let at : position_or_len p ys ≡ j = grind (arith, common_steps) in
    let inside : j < length ys = grind (arith, common_steps) in
    let whole : position_or_len p (xs ++ ys) ≡ length xs + j = found_later p xs ys past ∙ ap (λ n. length xs + n) at in
    let long : length (xs ++ ys) ≡ length xs + length ys = length-append xs ys in
    let found : nat_lt (length xs + j) (length (xs ++ ys)) ≡ true = grind (arith, nat_tests) in
    (λ k. cond (nat_lt (whole k) (length (xs ++ ys))) (Some (whole k)) None) ∙ ap (λ b. cond b (Some (length xs + j)) None) found

module _ (front end : List (Key × Item)) where
  both : keys_of (front ++ end) ≡ keys_of front ++ keys_of end
  both = map-append (λ entry. same_key entry.0) front end

  as_long : length (keys_of front) ≡ length front
  as_long = length-map front (λ entry. same_key entry.0)

  pub place_first : (q : Key) (i : ℕ) → place_of front q ≡ Some i → place_of (front ++ end) q ≡ Some i
  place_first q i is = ap (position (same q)) both ∙ position-first (same q) (keys_of front) (keys_of end) i is

  pub place_later : (q : Key) (j : ℕ) → place_of front q ≡ None → place_of end q ≡ Some j → place_of (front ++ end) q ≡ Some (length front + j)
  place_later q j none is =
      ap (position (same q)) both ∙ position-later (same q) (keys_of front) (keys_of end) j none is ∙ ap (λ n. Some (n + j)) as_long

  -- the place of an entry of the end, whose key the front has too, is no key's place
  pub no_place : (text q : Key) (i j : ℕ) → place_of front text ≡ Some i → place_of end text ≡ Some j → place_of (front ++ end) q ≢ Some (length front + j)
  no_place text q i j first last at =
      let before : i < length (keys_of front) = (position-Some (same text) (keys_of front) i text first).0 in
      let text_is : text ≡ get_or (keys_of end) j text = is_same text _ (position-Some (same text) (keys_of end) j text last).1 in
      let q_is : q ≡ get_or (keys_of (front ++ end)) (length front + j) text = is_same q _ (position-Some (same q) (keys_of (front ++ end)) (length front + j) text at).1 in
      let one : q ≡ text = q_is ∙ ap (λ ts. get_or ts (length front + j) text) both ∙ ap (λ n. get_or (keys_of front ++ keys_of end) (n + j) text) (sym as_long)
      ∙ get_or-append-add (keys_of front) (keys_of end) j text ∙ sym text_is in
      let same_place : i ≡ length front + j = same_Some _ _ (sym (place_first text i first) ∙ ap (place_of (front ++ end)) (sym one) ∙ at) in
      let front_is : length (keys_of front) ≡ length front = as_long in
      absurd (omega (arith, before, same_place, front_is))

pub place_within : (held : List (Key × Item)) (q : Key) (i : ℕ) → place_of held q ≡ Some i → i < length held
place_within held q i at =
    let inside : i < length (keys_of held) = (position-Some (same q) (keys_of held) i q at).0 in
    let long : length (keys_of held) ≡ length held = length-map held (λ entry. same_key entry.0) in
    omega (arith, inside, long)
