-- What pushes of all bytes come to, one part after another.
use Rattle.std.proofs.Common.{◌∙◌, ◌+◌, ◌++◌, ap, append_assoc, inl, inr, Result, Ok, Err, List, ℕ}
use Rattle.std.specs.Prelude.{MatchResult}
use Rattle.mc_model.specs.declared.fault.Fault.{Fault}
use Rattle.mc_programs.specs.Waiting.{FailsToPush, PushesAll}
use Rattle.mc_stream.specs.Event.{moved}
use Rattle.mc_stream.specs.Pushing.{PushesOrFails}
use Rattle.stream_lemmas.proofs.Pushed.{front_more, front_only}
use Rattle.mc_stream.specs.Stream.{Outflow}

-- the bytes were pushed, as far as the output took them
pub told : (result : Result (Unit {0}) Fault) (bytes : List ℕ) (before after : Outflow) → MatchResult result (λ _. PushesAll bytes before after) (FailsToPush bytes before after)
    → PushesOrFails bytes before after
told (Ok done) bytes before after all = inl (all.went, all.unfailed)
told (Err fault) bytes before after fails = inr (fails.front, fails.failed)

module _ (first second : List ℕ) where
  -- the output failed in the first bytes
  pub fails_first : (before after : Outflow) (fault : Fault) → FailsToPush first before after fault → FailsToPush (first ++ second) before after fault
  fails_first before after fault fails = record { is_output = fails.is_output; front = front_only first second before after fails.front; failed = fails.failed }

  module _ (before now after : Outflow) (start : PushesAll first before now) where
    -- the first bytes were pushed, and the second, or the output failed in those
    pub all_more : PushesAll second now after → PushesAll (first ++ second) before after
    all_more all = record {
      went = all.went ∙ (ap (λ known. known ++ second) start.went ∙ append_assoc (moved before.events) first second);
      unfailed = all.unfailed ∙ start.unfailed;
    }

    pub fails_more : (fault : Fault) → FailsToPush second now after fault → FailsToPush (first ++ second) before after fault
    fails_more fault fails = record {
      is_output = fails.is_output;
      front = front_more first second before now after start.went fails.front;
      failed = fails.failed ∙ ap (λ n. n + 1) start.unfailed;
    }

    pub pushes_more : (result : Result (Unit {0}) Fault) → MatchResult result (λ _. PushesAll second now after) (FailsToPush second now after)
        → MatchResult result (λ _. PushesAll (first ++ second) before after) (FailsToPush (first ++ second) before after)
    pushes_more (Ok done) all = all_more all
    pushes_more (Err fault) fails = fails_more fault fails
