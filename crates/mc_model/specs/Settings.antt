-- The settings of a server, this project's profile: how many workers and places, and each tenant's
-- quotas.
use Rattle.std.specs.Prelude.{ℕ, suc, ◌≤◌, List, length, Option, Some, None, All}
use Rattle.mc_model.specs.declared.settings.Limits.{Limits}
use Rattle.mc_model.specs.declared.settings.TheConstants.{MAX_ITEMS, MAX_BYTES, MAX_PLACES}
use Rattle.mc_model.specs.declared.id.TheConstants.{TENANTS, WORKERS}
use Rattle.mc_model.specs.Number.{number_up_to}

-- settings as contracts see them
pub record Configuration : Type 0 where
  pub workers : ℕ
  pub places : ℕ
  pub tenants : List Limits

-- the number is within the bounds, both included
abbrev pub IsBetween : ℕ → ℕ → ℕ → Type 0
IsBetween low high number = (low ≤ number) × (number ≤ high)

-- quotas that a tenant may have
pub record AreLawfulLimits (limits : Limits) : Type 0 where
  pub items : IsBetween 1 MAX_ITEMS limits.items
  pub bytes : IsBetween 1 MAX_BYTES limits.bytes

-- the number, unless it is 0
abbrev pub positive : Option ℕ → Option ℕ
positive (Some (suc number)) = Some (suc number)
positive _ = None

abbrev pub both_quotas : Option ℕ → Option ℕ → Option Limits
both_quotas (Some items) (Some bytes) = Some (record { items = items; bytes = bytes })
both_quotas items bytes = None

-- the quotas that two words name in decimal digits, if a tenant may have them
abbrev pub limits_named : List ℕ → List ℕ → Option Limits
limits_named items bytes =
    both_quotas (positive (number_up_to MAX_ITEMS items)) (positive (number_up_to MAX_BYTES bytes))

-- each number is within its bounds
pub record IsLawful (settings : Configuration) : Type 0 where
  pub workers : IsBetween 1 WORKERS settings.workers
  pub places : IsBetween 1 MAX_PLACES settings.places
  pub tenants : IsBetween 1 TENANTS (length settings.tenants)
  pub limits : All AreLawfulLimits settings.tenants
