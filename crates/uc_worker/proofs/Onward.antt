-- A command from its announcement on.
use Rattle.std.proofs.Common.{◌≡◌, ◌≢◌, ℕ, ◌+◌, ◌-◌, ◌<◌, List, [], ◌∷◌, ◌++◌, length, slice_get, Some, sym, refl, ap, ◌∙◌, subst, arith}
use Rattle.mc_model.specs.declared.id.Ticket.{Ticket}
use Rattle.mc_model.specs.declared.shown.Phase.{Phase}
use Rattle.mc_model.specs.declared.shown.Phase.TheVariants.{Idle, Pending, Looked, Stopped}
use Rattle.lists.specs.Lists.{BeginsWith}
use Rattle.mc_model.specs.Legal.{ticket_of}
use Rattle.uc_cells.specs.Sighting.{Sighting}
use Rattle.uc_places.specs.declared.view.View.{View}
use Rattle.uc_worker.specs.Steps.{Decided, IsSame, Later, Rests}
use Rattle.uc_worker.proofs.Steps.{Announced}
use Rattle.lists.proofs.Public.{last_at}

pub idle_rests : (phase : Phase) → phase ≡ Idle → Rests phase
idle_rests phase is = ((λ looked. (let e = sym is ∙ looked in cc)), (λ stopped. (let e = sym is ∙ stopped in cc)))

pub pending_rests : (phase : Phase) → phase ≡ Pending → Rests phase
pending_rests phase is = ((λ looked. (let e = sym is ∙ looked in cc)), (λ stopped. (let e = sym is ∙ stopped in cc)))

pub idle_of : (phase : Phase) → Rests phase → phase ≢ Pending → phase ≡ Idle
idle_of Idle rests other = refl
idle_of Pending rests other = absurd (other refl)
idle_of Looked rests other = absurd (rests.0 refl)
idle_of Stopped rests other = absurd (rests.1 refl)

module _ (one two three : View) (announced : Announced one two) (later : Later two three) where
  pub same_on : IsSame one three
  same_on = (later.same.0 ∙ announced.same.0, later.same.1 ∙ announced.same.1)

  pub begins_on : BeginsWith three.state.learned one.state.learned
  begins_on = (later.learned.0, later.learned.1 ∙ ap (λ (list : List Ticket). list ++ later.learned.0) announced.learned)

  pub announced_on : three.state.announced ≡ one.state.announced + 1
  announced_on = later.announced ∙ announced.announced

  pub more_on : Decided two three → length one.state.learned < length three.state.learned
  more_on decided = subst (λ (list : List Ticket). length list < length three.state.learned) announced.learned decided.more

  pub last_on : Decided two three → slice_get three.state.learned (length three.state.learned - 1) ≡ Some (ticket_of one.worker one.state.announced)
  last_on decided = let count = announced.announced in let own : two.state.announced - 1 ≡ one.state.announced = omega arith in
      decided.last ∙ ap (λ (t : Ticket). Some t) (λ i. ticket_of (announced.same.1 i) (own i))

-- what was put last
pub put_at : (old middle new : List Sighting) (seen : Sighting) (number : ℕ) → new ≡ middle → middle ≡ old ++ seen ∷ [] → length old ≡ number →
    slice_get new number ≡ Some seen
put_at old middle new seen number same pushed count = (λ i. slice_get ((same ∙ pushed) i) (sym count i)) ∙ last_at old seen
