-- Who holds a worker's places; this project's profile.
use Rattle.std.specs.Prelude.{ℕ}
use Rattle.fair_places.specs.Places.{PlacesState}

-- the places of tenants, who share them, and how many places administrators hold
pub record WorkerPlaces : Type 0 where
  pub tenants : PlacesState
  pub admins : ℕ
