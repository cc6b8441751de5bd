-- What pushes all of some bytes, asking a full output again; this project's profile.
use Rattle.std.specs.Prelude.{◌≡◌, ℕ, List}
use Rattle.mc_model.specs.declared.fault.Fault.{Fault}
use Rattle.mc_model.specs.declared.fault.Fault.TheVariants.{Output}
use Rattle.mc_stream.specs.Pushing.{FailsOnce, IsUnfailed, Pushes, PushesFront}
use Rattle.mc_stream.specs.Stream.{Outflow}

-- All of the bytes were pushed, and the output hasn't failed.
pub record PushesAll (bytes : List ℕ) (before after : Outflow) : Type 0 where
  pub went : Pushes before after bytes
  pub unfailed : IsUnfailed before after

-- The output failed once, after a prefix of the bytes.
pub record FailsToPush (bytes : List ℕ) (before after : Outflow) (fault : Fault) : Type 0 where
  pub is_output : fault ≡ Output
  pub front : PushesFront bytes before after
  pub failed : FailsOnce before after
