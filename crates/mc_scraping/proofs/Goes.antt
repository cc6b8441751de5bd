-- Whom a holder lets go first, by what the two are.
use Rattle.std.proofs.Common.{◌≡◌, ◌⊎◌, ◌<◌, ◌≤◌, ℕ, zero, suc, List, [], ◌∷◌, All, Some, inl, inr, refl, slice_get, subst, arith}
use Rattle.std.proofs.lemmas.List.Elements.{All-head, All-tail}
use Rattle.std.proofs.lemmas.Option.{none-some, same_Some}
use Rattle.mc_scraping.specs.Yielding.{IsFirstToYield, YieldsNoLater, rank}
use Rattle.mc_scraping.specs.declared.yielding.Holder.{Holder}
use Rattle.mc_scraping.specs.declared.yielding.Holder.TheVariants.{Nobody, Idle, Answered, New}

-- what holds of all holders holds of the one at a place
at : (P : Holder → Type 0) (holders : List Holder) (place : ℕ) (holder : Holder) → All P holders → slice_get holders place ≡ Some holder → P holder
at P [] place holder all has = absurd (none-some holder has)
at P (first ∷ rest) zero holder all has = subst P (same_Some first holder has) (All-head P first rest all)
at P (first ∷ rest) (suc place) holder all has = at P rest place holder (All-tail P first rest all) has

less_ready : {A : Type 0} (one other : Holder) → rank one < rank other → YieldsNoLater one other → A
less_ready one other less later = elim later [ inl more ↦ absurd (omega (arith, less, more)) | inr same ↦ absurd (omega (arith, less, same.0)) ]

before_nobody : (holder : Holder) → YieldsNoLater holder Nobody → holder ≡ Nobody
before_nobody Nobody later = refl
before_nobody (Idle time) later = less_ready (Idle time) Nobody (omega arith) later
before_nobody (Answered time) later = less_ready (Answered time) Nobody (omega arith) later
before_nobody New later = less_ready New Nobody (omega arith) later

before_idle : (holder : Holder) (time : ℕ) → YieldsNoLater holder (Idle time) → (holder ≡ Nobody) ⊎ (longer : ℕ) × (holder ≡ Idle longer) × (time ≤ longer)
before_idle Nobody time later = inl refl
before_idle (Idle longer) time later = elim later [ inl less ↦ absurd (omega (arith, less)) | inr same ↦ inr (longer, refl, same.1) ]
before_idle (Answered longer) time later = less_ready (Answered longer) (Idle time) (omega arith) later
before_idle New time later = less_ready New (Idle time) (omega arith) later

after_answered : (holder : Holder) (longer : ℕ) → YieldsNoLater (Answered longer) holder → (holder ≡ New) ⊎ (time : ℕ) × (holder ≡ Answered time) × (time ≤ longer)
after_answered Nobody longer later = less_ready (Answered longer) Nobody (omega arith) later
after_answered (Idle time) longer later = less_ready (Answered longer) (Idle time) (omega arith) later
after_answered (Answered time) longer later = elim later [ inl less ↦ absurd (omega (arith, less)) | inr same ↦ inr (time, refl, same.1) ]
after_answered New longer later = inl refl

pub after_new : (holder : Holder) → YieldsNoLater New holder → holder ≡ New
after_new Nobody later = less_ready New Nobody (omega arith) later
after_new (Idle time) later = less_ready New (Idle time) (omega arith) later
after_new (Answered time) later = less_ready New (Answered time) (omega arith) later
after_new New later = refl

module _ (holders : List Holder) (place other : ℕ) (holder : Holder) (first : IsFirstToYield holders place holder) where
  later_than : (second : Holder) → slice_get holders other ≡ Some second → YieldsNoLater holder second
  later_than second has = at (λ (other : Holder). YieldsNoLater holder other) holders other second first.first has

pub free_first : (holders : List Holder) (place free : ℕ) (holder : Holder) → IsFirstToYield holders place holder → slice_get holders free ≡ Some Nobody → holder ≡ Nobody
free_first holders place free holder first has = before_nobody holder (later_than holders place free holder first Nobody has)

pub idle_longest : (holders : List Holder) (place idle time : ℕ) (holder : Holder) → IsFirstToYield holders place holder → slice_get holders idle ≡ Some (Idle time) →
    (holder ≡ Nobody) ⊎ (longer : ℕ) × (holder ≡ Idle longer) × (time ≤ longer)
idle_longest holders place idle time holder first has = before_idle holder time (later_than holders place idle holder first (Idle time) has)

pub answered_last : (holders : List Holder) (place other longer : ℕ) (holder : Holder) → IsFirstToYield holders place (Answered longer) → slice_get holders other ≡ Some holder →
    (holder ≡ New) ⊎ (time : ℕ) × (holder ≡ Answered time) × (time ≤ longer)
answered_last holders place other longer holder first has = after_answered holder longer (later_than holders place other (Answered longer) first holder has)

pub new_stays : (holders : List Holder) (place other : ℕ) (holder : Holder) → IsFirstToYield holders place New → slice_get holders other ≡ Some holder → holder ≡ New
new_stays holders place other holder first has = after_new holder (later_than holders place other New first holder has)
