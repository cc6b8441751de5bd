-- What a push of all bytes comes to.
use Rattle.std.proofs.Common.{inl, inr, Result, Ok, Err, List, ℕ}
use Rattle.std.specs.Prelude.{MatchResult}
use Rattle.mc_model.specs.declared.fault.Fault.{Fault}
use Rattle.mc_programs.specs.Waiting.{FailsToPush, PushesAll}
use Rattle.mc_stream.specs.Pushing.{PushesOrFails}
use Rattle.mc_stream.specs.Stream.{Outflow}

-- the bytes were pushed, as far as the output took them
pub told : (result : Result (Unit {0}) Fault) (bytes : List ℕ) (before after : Outflow) → MatchResult result (λ _. PushesAll bytes before after) (FailsToPush bytes before after)
    → PushesOrFails bytes before after
told (Ok done) bytes before after all = inl (all.went, all.unfailed)
told (Err fault) bytes before after fails = inr (fails.front, fails.failed)
