-- Where a connection that began just now would give its place first, all have begun just now.
use Rattle.std.proofs.Common.{◌≡◌, ℕ, List, [], ◌∷◌, All, Option, map, subst, arith}
use Rattle.std.proofs.lemmas.List.Elements.{All-cons, All-head, All-tail}
use Rattle.std.specs.declared.time.Instant.{Instant}
use Rattle.mc_scraping.proofs.Goes.{after_new}
use Rattle.mc_scraping.specs.Yielding.{IsFirstToYield, YieldsNoLater, holder_of}
use Rattle.mc_scraping.specs.declared.visit.Visit.{Visit}
use Rattle.mc_scraping.specs.declared.yielding.Holder.{Holder}
use Rattle.mc_scraping.specs.declared.yielding.Holder.TheVariants.{New}

all_are_new : (now : Instant) (visits : List (Option Visit)) → All (λ (other : Holder). YieldsNoLater New other) (map (holder_of now) visits)
    → All (λ visit. holder_of now visit ≡ New) visits
all_are_new now [] later = λ k d within. absurd (omega (arith, within))
all_are_new now (visit ∷ visits) later =
    let P : Holder → Type 0 = λ other. YieldsNoLater New other in
    All-cons (λ visit. holder_of now visit ≡ New) visit visits
    (after_new (holder_of now visit) (All-head P (holder_of now visit) (map (holder_of now) visits) later))
    (all_are_new now visits (All-tail P (holder_of now visit) (map (holder_of now) visits) later))

pub all_new : (now : Instant) (visits read : List (Option Visit)) (place : ℕ) (holder : Holder) → read ≡ visits → holder ≡ New
    → IsFirstToYield (map (holder_of now) read) place holder → All (λ visit. holder_of now visit ≡ New) visits
all_new now visits read place holder same is first =
    let later : All (λ (other : Holder). YieldsNoLater New other) (map (holder_of now) read) =
    subst (λ h. All (λ (other : Holder). YieldsNoLater h other) (map (holder_of now) read)) is first.first in
    subst (λ list. All (λ visit. holder_of now visit ≡ New) list) same (all_are_new now read later)
