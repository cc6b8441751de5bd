-- A number of 64 bits isn't cut.
use Rattle.std.proofs.Common.{◌≡◌, ℕ, ◌<◌, ◌^◌, arith}
use Rattle.mc_counters.specs.Tallied.{capped}

pub capped_is : (number : ℕ) → number < 2 ^ 64 → capped number ≡ number
capped_is number below = omega (arith, below)
