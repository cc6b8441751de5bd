-- A queue that is pushed piece by piece.
use Rattle.std.proofs.Common.{◌≡◌, ◌≤◌, ℕ, List, ◌++◌, sym, ap, ◌∙◌, append_assoc}
use Rattle.mc_stream.specs.Event.{moved, waits}
use Rattle.mc_stream.specs.Pushing.{IsUnfailed, Pushes, PushesAtOnce, Unqueues}
use Rattle.mc_stream.specs.Stream.{Outflow}
use Rattle.stream_lemmas.proofs.Pushed.{at_once_more}

-- one more piece was pushed
pub unqueues_more : (queue rest next more : List ℕ) (before now after : Outflow) → Unqueues queue rest before now → rest ≡ more ++ next → Pushes now after more → Unqueues queue next before after
unqueues_more queue rest next more before now after so_far is pushed = record {
  front = so_far.front ++ more;
  split = so_far.split ∙ (ap (λ bytes. so_far.front ++ bytes) is ∙ sym (append_assoc so_far.front more next));
  went = pushed ∙ (ap (λ bytes. bytes ++ more) so_far.went ∙ append_assoc (moved before.events) so_far.front more);
}

-- all that is left was pushed
pub unqueues_all : (queue rest : List ℕ) (before now after : Outflow) → Unqueues queue rest before now → Pushes now after rest → Pushes before after queue
unqueues_all queue rest before now after so_far pushed =
    pushed
    ∙ (ap (λ bytes. bytes ++ rest) so_far.went
    ∙ (append_assoc (moved before.events) so_far.front rest ∙ ap (λ bytes. moved before.events ++ bytes) (sym so_far.split)))

-- as much of what is left was pushed as the output took
pub unqueues_at_once : (queue rest : List ℕ) (before now after : Outflow) → Unqueues queue rest before now → IsUnfailed before now → waits before.events ≤ waits now.events → PushesAtOnce rest now after → PushesAtOnce queue before after
unqueues_at_once queue rest before now after so_far same waited pushed =
    rw so_far.split (at_once_more so_far.front rest before now after so_far.went same waited pushed)
