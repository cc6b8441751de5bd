-- What the code keeps of the lines of an event list so far; this project's profile, as the form of
-- the list is.
use Rattle.std.specs.Prelude.{◌≡◌, true, List, [], ◌∷◌, ◌++◌, Option, Some, None}
use Rattle.mc_schedules.specs.declared.draft.Draft.{Draft}
use Rattle.mc_schedules.specs.Place.{Statement, cores, is_in_place, items, tenants}

abbrev pub option_list : {X : Type 0} → Option X → List X
option_list None = []
option_list (Some value) = value ∷ []

-- the draft holds what the core line, the tenant lines and the other lines among these say
pub record IsDraftOf (draft : Draft) (before : List Statement) : Type 0 where
  pub core : option_list draft.core ≡ cores before
  pub tenants : draft.tenants.items ≡ tenants before
  pub items : draft.items.items ≡ items before

-- the next draft has one more line, if the line is in its place
abbrev pub AddsLine : Draft → Statement → Draft → Type 0
AddsLine draft one next = (before : List Statement) → IsDraftOf draft before →
    is_in_place before one.1 ≡ true → IsDraftOf next (before ++ one ∷ [])
