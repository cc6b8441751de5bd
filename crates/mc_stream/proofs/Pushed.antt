-- What a push that stops has taken.
use Rattle.std.proofs.Common.{◌≡◌, ℕ, inr, List, ◌++◌, take, drop, sym, ◌∙◌}
use Rattle.std.proofs.lemmas.List.{take-append-drop}
use Rattle.mc_stream.specs.Event.{moved}
use Rattle.mc_stream.specs.Pushing.{IsStopped, PushesAtOnce}
use Rattle.mc_stream.specs.Stream.{Outflow}

-- nothing more was taken
pub at_once_sent : (before after : Outflow) (now queue : List ℕ) (sent : ℕ) → now ≡ moved before.events ++ take sent queue → moved after.events ≡ now → IsStopped before after → PushesAtOnce queue before after
at_once_sent before after now queue sent is_now is_after stopped =
    (drop sent queue, record { front = take sent queue; split = sym (take-append-drop sent queue); went = is_after ∙ is_now }, inr stopped)
