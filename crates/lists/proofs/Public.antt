-- Lemmas on lists that Rattle's std has not: lists that grow at their end, that begin with others,
-- and of which one place is set, read by `slice_get`.
use Rattle.std.proofs.Common.{◌≡◌, ◌≢◌, ◌⊎◌, ℕ, zero, suc, ◌<◌, ◌≤◌, List, [], ◌∷◌, ◌++◌, length, length-append, take, replicate, sym, refl, ap, subst, ◌∙◌, inl, inr, ⊎_elim, arith, append_assoc, append-nil, slice_get, slice_set, Some, None}
use Rattle.std.proofs.lemmas.Option.{none-some, same_Some}
use Rattle.lists.specs.Lists.{BeginsWith}

module _ {X : Type 0} where
  -- what stands after a front, and at the end of a list
  pub at_seam : (front : List X) (x : X) (rest : List X) → slice_get (front ++ x ∷ rest) (length front) ≡ Some x
  at_seam [] x rest = refl
  at_seam (y ∷ front) x rest = at_seam front x rest

  pub at_end : (list : List X) → slice_get list (length list) ≡ None
  at_end [] = refl
  at_end (x ∷ list) = at_end list

  -- a place where nothing stands is past the end
  pub beyond : (list : List X) (place : ℕ) → slice_get list place ≡ None → length list ≤ place
  beyond [] place empty = omega arith
  beyond (x ∷ list) zero empty = absurd (none-some x (sym empty))
  beyond (x ∷ list) (suc place) empty = let rest = beyond list place empty in omega arith

  -- the front of a list before a place where something stands is the front of every longer list
  pub take_longer : (list : List X) (place : ℕ) (x : X) (more : List X) → slice_get list place ≡ Some x → take place (list ++ more) ≡ take place list
  take_longer [] place x more at = absurd (none-some x at)
  take_longer (y ∷ list) zero x more at = refl
  take_longer (y ∷ list) (suc place) x more at = ap (λ (rest : List X). y ∷ rest) (take_longer list place x more at)

  pub take_front : (front rest : List X) → take (length front) (front ++ rest) ≡ front
  take_front [] [] = refl
  take_front [] (x ∷ rest) = refl
  take_front (y ∷ front) rest = ap (λ (list : List X). y ∷ list) (take_front front rest)

  pub take_more : (list : List X) (place : ℕ) (x : X) → slice_get list place ≡ Some x → take (suc place) list ≡ take place list ++ x ∷ []
  take_more [] place x at = absurd (none-some x at)
  take_more (y ∷ list) zero x at = ap (λ (z : X). z ∷ []) (same_Some y x at)
  take_more (y ∷ list) (suc place) x at = ap (λ (rest : List X). y ∷ rest) (take_more list place x at)

  -- what stands in a list with one more element stood there before, or is that element at the end
  pub at_pushed : (list : List X) (x y : X) (place : ℕ) → slice_get (list ++ x ∷ []) place ≡ Some y →
      (slice_get list place ≡ Some y) ⊎ ((place ≡ length list) × (x ≡ y))
  at_pushed [] x y zero at = inr (refl, same_Some x y at)
  at_pushed [] x y (suc place) at = absurd (none-some y at)
  at_pushed (z ∷ list) x y zero at = inl at
  at_pushed (z ∷ list) x y (suc place) at =
      ⊎_elim inl (λ (new : (place ≡ length list) × (x ≡ y)). inr (ap suc new.0, new.1)) (at_pushed list x y place at)

  -- a list begins with another: with what stands next too, and where nothing stands next they are
  -- equal
  pub begins_self : (list : List X) → BeginsWith list list
  begins_self list = ([], sym (append-nil list))

  pub begins_through : (long list front : List X) → BeginsWith long list → BeginsWith list front → BeginsWith long front
  begins_through long list front more begins =
      (begins.0 ++ more.0, more.1 ∙ (ap (λ (some : List X). some ++ more.0) begins.1 ∙ append_assoc front begins.0 more.0))

  pub begins_longer : (list front : List X) → BeginsWith list front → length front ≤ length list
  begins_longer list front begins = let same = ap length begins.1 in let both = length-append front begins.0 in omega arith

  pub front_is_taken : (list front : List X) → BeginsWith list front → front ≡ take (length front) list
  front_is_taken list front begins = sym (take_front front begins.0) ∙ ap (take (length front)) (sym begins.1)

  pub next_begins : (list front : List X) (x : X) → BeginsWith list front → slice_get list (length front) ≡ Some x → BeginsWith list (front ++ x ∷ [])
  next_begins list front x (rest, is) at = by_rest rest is
    where
      at_rest : (rest : List X) → list ≡ front ++ rest → slice_get (front ++ rest) (length front) ≡ Some x
      at_rest rest is = ap (λ (some : List X). slice_get some (length front)) (sym is) ∙ at

      by_rest : (rest : List X) → list ≡ front ++ rest → BeginsWith list (front ++ x ∷ [])
      by_rest [] is = absurd (none-some x (sym (at_end front) ∙ (ap (λ (some : List X). slice_get some (length front)) (sym (append-nil front)) ∙ at_rest [] is)))
      by_rest (y ∷ rest) is =
          let same : y ≡ x = same_Some y x (sym (at_seam front y rest) ∙ at_rest (y ∷ rest) is) in
          (rest, is ∙ (ap (λ (z : X). front ++ z ∷ rest) same ∙ sym (append_assoc front (x ∷ []) rest)))

  pub nothing_next : (list front : List X) → BeginsWith list front → slice_get list (length front) ≡ None → list ≡ front
  nothing_next list front (rest, is) empty = by_rest rest is
    where
      by_rest : (rest : List X) → list ≡ front ++ rest → list ≡ front
      by_rest [] is = is ∙ append-nil front
      by_rest (y ∷ rest) is = absurd (none-some y (sym empty ∙ (ap (λ (some : List X). slice_get some (length front)) is ∙ at_seam front y rest)))

  -- a list of which one place is set
  pub set_here : (list : List X) (place : ℕ) (x : X) → place < length list → slice_get (slice_set list place x) place ≡ Some x
  set_here [] place x inside = absurd (omega (arith, inside))
  set_here (y ∷ list) zero x inside = refl
  set_here (y ∷ list) (suc place) x inside = set_here list place x (omega (arith, inside))

  pub set_elsewhere : (list : List X) (place other : ℕ) (x : X) → other ≢ place → slice_get (slice_set list place x) other ≡ slice_get list other
  set_elsewhere [] place other x apart = refl
  set_elsewhere (y ∷ list) zero zero x apart = absurd (apart refl)
  set_elsewhere (y ∷ list) zero (suc other) x apart = refl
  set_elsewhere (y ∷ list) (suc place) zero x apart = refl
  set_elsewhere (y ∷ list) (suc place) (suc other) x apart = set_elsewhere list place other x (λ same. apart (ap suc same))

  pub at_set : (list : List X) (place other : ℕ) (x y : X) → slice_get (slice_set list place x) other ≡ Some y →
      ((other ≡ place) × (x ≡ y)) ⊎ ((other ≢ place) × (slice_get list other ≡ Some y))
  at_set [] place other x y at = absurd (none-some y at)
  at_set (z ∷ list) zero zero x y at = inl (refl, same_Some x y at)
  at_set (z ∷ list) zero (suc other) x y at = inr (omega arith, at)
  at_set (z ∷ list) (suc place) zero x y at = inr (omega arith, at)
  at_set (z ∷ list) (suc place) (suc other) x y at = ⊎_elim
      (λ (here : (other ≡ place) × (x ≡ y)). inl (ap suc here.0, here.1))
      (λ (else : (other ≢ place) × (slice_get list other ≡ Some y)). inr (λ same. else.0 (omega (arith, same)), else.1)) (at_set list place other x y at)

  -- what stands in a list of equal elements
  pub at_replicated : (number place : ℕ) (x y : X) → slice_get (replicate number x) place ≡ Some y → x ≡ y
  at_replicated zero place x y at = absurd (none-some y at)
  at_replicated (suc number) zero x y at = same_Some x y at
  at_replicated (suc number) (suc place) x y at = at_replicated number place x y at

  -- the element at the end
  pub last_at : (list : List X) (x : X) → slice_get (list ++ x ∷ []) (length list) ≡ Some x
  last_at list x = at_seam list x []

  pub at_longer : (list more : List X) (place : ℕ) (x : X) → slice_get list place ≡ Some x → slice_get (list ++ more) place ≡ Some x
  at_longer [] more place x at = absurd (none-some x at)
  at_longer (y ∷ list) more zero x at = at
  at_longer (y ∷ list) more (suc place) x at = at_longer list more place x at

  pub begins_same : (new old : List X) → new ≡ old → BeginsWith new old
  begins_same new old same = ([], same ∙ sym (append-nil old))

  pub begins_pushed : (new list front : List X) (x : X) → new ≡ list ++ x ∷ [] → BeginsWith list front → BeginsWith new front
  begins_pushed new list front x pushed begins = begins_through new list front (x ∷ [], pushed) begins

  -- a beginning as long as the list is the list
  pub begins_whole : (list front : List X) → BeginsWith list front → length list ≡ length front → front ≡ list
  begins_whole list front begins same = by_rest begins.0 begins.1
    where
      by_rest : (rest : List X) → list ≡ front ++ rest → front ≡ list
      by_rest [] is = sym (is ∙ append-nil front)
      by_rest (x ∷ rest) is = absurd (let long = ap length is ∙ length-append front (x ∷ rest) in omega arith)

  -- one of two lists begins with the other: the longer with the shorter
  pub longer_begins : (list other : List X) → BeginsWith list other ⊎ BeginsWith other list → length other ≤ length list → BeginsWith list other
  longer_begins list other (inl begins) few = begins
  longer_begins list other (inr begins) few = let long = begins_longer other list begins in
      let same = begins_whole other list begins (omega arith) in begins_same list other same

  -- what comes next in a list that begins with a shorter one
  pub next_of : (list front : List X) → BeginsWith list front → length front < length list → (x : X) × (slice_get list (length front) ≡ Some x) × BeginsWith list (front ++ x ∷ [])
  next_of list front (rest, is) shorter = by_rest rest is
    where
      by_rest : (rest : List X) → list ≡ front ++ rest → (x : X) × (slice_get list (length front) ≡ Some x) × BeginsWith list (front ++ x ∷ [])
      by_rest [] is = absurd (let long = ap length (is ∙ append-nil front) in omega arith)
      by_rest (x ∷ rest) is = (x, ap (λ (l : List X). slice_get l (length front)) is ∙ at_seam front x rest, (rest, is ∙ sym (append_assoc front (x ∷ []) rest)))

  -- what two parts send, one after the other, with what is queued between them
  pub joined : (sent later queued between left owed more : List X) → sent ++ between ≡ queued ++ owed → later ++ left ≡ between ++ more →
      (sent ++ later) ++ left ≡ queued ++ (owed ++ more)
  joined sent later queued between left owed more first second =
      append_assoc sent later left
      ∙ (ap (λ (list : List X). sent ++ list) second
      ∙ (sym (append_assoc sent between more)
      ∙ (ap (λ (list : List X). list ++ more) first ∙ append_assoc queued owed more)))

  pub appended_twice : (old between new first second : List X) → between ≡ old ++ first → new ≡ between ++ second → new ≡ old ++ (first ++ second)
  appended_twice old between new first second one two = two ∙ (ap (λ (list : List X). list ++ second) one ∙ append_assoc old first second)

-- what is true of each element by its place is true with one more
pub each_pushed : {X : Type 0} (P : ℕ → X → Type 0) (old new : List X) (x : X) → new ≡ old ++ x ∷ [] →
    ((place : ℕ) (y : X) → slice_get old place ≡ Some y → P place y) → P (length old) x → (place : ℕ) (y : X) → slice_get new place ≡ Some y → P place y
each_pushed {X} P old new x is each last place y at = pushed old P each last place (ap (λ (list : List X). slice_get list place) (sym is) ∙ at)
  where
    pushed : (old : List X) (P : ℕ → X → Type 0) → ((place : ℕ) (y : X) → slice_get old place ≡ Some y → P place y) → P (length old) x →
        (place : ℕ) → slice_get (old ++ x ∷ []) place ≡ Some y → P place y
    pushed [] P each last zero at = subst (P 0) (same_Some x y at) last
    pushed [] P each last (suc place) at = absurd (none-some y at)
    pushed (z ∷ old) P each last zero at = each zero y at
    pushed (z ∷ old) P each last (suc place) at = pushed old (λ k. P (suc k)) (λ k w h. each (suc k) w h) last place at

-- if nothing is left, all was taken
pub all_taken : {X : Type 0} (taken rest list : List X) → taken ++ rest ≡ list → length rest ≡ 0 → taken ≡ list
all_taken taken [] list is none = sym (append-nil taken) ∙ is
all_taken taken (x ∷ rest) list is none = absurd (omega (arith, none))
