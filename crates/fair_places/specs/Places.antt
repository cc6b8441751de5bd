-- Places that holders share, of which some are kept for each; this project's profile.
use Rattle.std.specs.Prelude.{ℕ, ◌+◌, ◌-◌, ◌*◌, ◌<◌, ◌≤◌, ◌⊎◌, List, length, slice_index, slice_set, sum, sum_by}

-- how many places there are, how many of them are kept for each holder, and how many each holds
pub record PlacesState : Type 0 where
  pub most : ℕ
  pub reserve : ℕ
  pub held : List ℕ

abbrev pub held_by : PlacesState → ℕ → ℕ
held_by state holder = slice_index state.held holder

-- how many places nobody holds
abbrev pub free : PlacesState → ℕ
free state = state.most - sum state.held

-- how many places are kept for holders who don't hold them: what is left of each one's reserve
abbrev pub owed_places : PlacesState → ℕ
owed_places state = sum_by (λ held. state.reserve - held) state.held

-- The holder may take one more place: it holds less than its reserve, or a place is free that is
-- owed to nobody. To one that holds its reserve nothing is owed, so what is owed is owed to the
-- others.
abbrev pub MayTake : ℕ → PlacesState → Type 0
MayTake holder state = (held_by state holder < state.reserve) ⊎ (owed_places state < free state)

-- the state with another number of places held by this one
abbrev pub with_held : PlacesState → ℕ → ℕ → PlacesState
with_held state holder held = record state { held = slice_set state.held holder held }

-- every place that is owed is free
pub record AreKept (state : PlacesState) : Type 0 where
  pub within : sum state.held + owed_places state ≤ state.most
  pub reserves : length state.held * state.reserve ≤ state.most
