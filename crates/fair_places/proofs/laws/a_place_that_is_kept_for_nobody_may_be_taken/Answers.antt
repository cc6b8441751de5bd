use Rattle.std.proofs.Common.{◌≡◌, ◌≢◌, ℕ, ◌-◌, ◌*◌, ◌<◌, ◌≤◌, List, length, get_or, arith, subst, inl, inr}
use Rattle.std.specs.List.{sum_by}
use Rattle.std.proofs.lemmas.Bool.{cases_lt}
use Rattle.std.proofs.lemmas.List.Elements.{All-from_get_or}
use Rattle.std.proofs.lemmas.List.Sums.{sum_by-le}
use Rattle.fair_places.specs.Places.{held_by, owed_places}
use Rattle.fair_places.proofs.laws.a_place_that_is_kept_for_nobody_may_be_taken.Goals as goal

-- nothing is owed where each holder holds its reserve
nothing_owed : (reserve : ℕ) (held : List ℕ) → ((holder : ℕ) → holder < length held → reserve ≤ get_or held holder 0) →
    sum_by (λ mine. reserve - mine) held ≤ 0
nothing_owed reserve held each =
    let few : sum_by (λ mine. reserve - mine) held ≤ length held * 0 =
    sum_by-le (λ mine. reserve - mine) 0 held
    (All-from_get_or (λ mine. reserve - mine ≤ 0) held 0
    (λ holder within. let holds : reserve ≤ get_or held holder 0 = each holder within in omega (arith, holds))) in
    omega (arith, few)

-- each holder holds its reserve if this one does, and each other
each_holds : (reserve : ℕ) (held : List ℕ) (holder : ℕ) → reserve ≤ get_or held holder 0 →
    ((other : ℕ) → other < length held → other ≢ holder → reserve ≤ get_or held other 0) →
    (other : ℕ) → other < length held → reserve ≤ get_or held other 0
each_holds reserve held holder own others other within =
    elim (cases_lt other holder) [
      | inl less ↦ others other within (λ same. let never : 0 < 0 = omega (arith, less, same) in omega (arith, never))
      | inr least ↦ elim (cases_lt holder other) [
        | inl more ↦ others other within (λ same. let never : 0 < 0 = omega (arith, more, same) in omega (arith, never))
        | inr most ↦ let same : holder ≡ other = omega (arith, least, most) in subst (λ at. reserve ≤ get_or held at 0) same own
      ]
    ]

pub returns : goal.returns
returns c state holder some others =
    elim (cases_lt (held_by state holder) state.reserve) [
      | inl less ↦ inl less
      | inr own ↦
          let none : owed_places state ≤ 0 = nothing_owed state.reserve state.held (each_holds state.reserve state.held holder own others) in
          inr (omega (arith, none, some))
    ]
