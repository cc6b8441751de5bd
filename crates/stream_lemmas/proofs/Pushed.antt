-- How the bytes that an output took add up, one part after another.
use Rattle.std.proofs.Common.{◌≡◌, ℕ, ◌+◌, ◌≤◌, arith, inl, inr, ⊎_elim, List, ◌++◌, take, drop, sym, ap, ◌∙◌, append_assoc}
use Rattle.std.proofs.lemmas.List.{take-append-drop}
use Rattle.mc_stream.specs.Event.{moved, waits}
use Rattle.mc_stream.specs.Pushing.{FailsOnce, IsAllOrStopped, IsStopped, IsUnfailed, Pushes, PushesAtOnce, PushesFront, PushesOrFails}
use Rattle.mc_stream.specs.Stream.{Outflow}

-- if nothing more was taken, what was pushed is a prefix
pub front_sent : (before after : Outflow) (now queue : List ℕ) (sent : ℕ) → now ≡ moved before.events ++ take sent queue → moved after.events ≡ now → PushesFront queue before after
front_sent before after now queue sent is_now is_after =
    (drop sent queue, record { front = take sent queue; split = sym (take-append-drop sent queue); went = is_after ∙ is_now })

-- the first bytes were pushed, and a prefix of the second
pub front_more : (first second : List ℕ) (before now after : Outflow) → Pushes before now first → PushesFront second now after → PushesFront (first ++ second) before after
front_more first second before now after is_now (rest, moves) = (
  rest,
  record {
    front = first ++ moves.front;
    split = ap (λ bytes. first ++ bytes) moves.split ∙ sym (append_assoc first moves.front rest);
    went = moves.went ∙ (ap (λ known. known ++ moves.front) is_now ∙ append_assoc (moved before.events) first moves.front);
  },
)

-- a prefix of the first bytes was pushed, and nothing of the second
pub front_only : (first second : List ℕ) (before after : Outflow) → PushesFront first before after → PushesFront (first ++ second) before after
front_only first second before after (rest, moves) = (
  rest ++ second,
  record {
    front = moves.front;
    split = ap (λ bytes. bytes ++ second) moves.split ∙ append_assoc moves.front rest second;
    went = moves.went;
  },
)

-- the output had not failed in between
pub same_stop : (unsent : List ℕ) (before now after : Outflow) → IsUnfailed before now → waits before.events ≤ waits now.events → IsAllOrStopped unsent now after → IsAllOrStopped unsent before after
same_stop unsent before now after same waited stops =
    ⊎_elim
    (λ all. inl (all.0, all.1 ∙ same))
    (λ stopped. inr (⊎_elim (λ full. inl (full.0, full.1 ∙ same, omega (arith, waited, full.2))) (λ failed. inr (failed ∙ ap (λ n. n + 1) same)) stopped))
    stops

-- the first bytes were taken, and as many of the second as the output took
pub at_once_more : (first second : List ℕ) (before now after : Outflow) → Pushes before now first → IsUnfailed before now → waits before.events ≤ waits now.events → PushesAtOnce second now after → PushesAtOnce (first ++ second) before after
unfolding front_more
at_once_more first second before now after is_now same waited (rest, moves, stops) =
    let front = front_more first second before now after is_now (rest, moves) in (front.0, front.1, same_stop rest before now after same waited stops)

-- the first bytes weren't all taken, and the second aren't tried
pub at_once_stopped : (first second : List ℕ) (before after : Outflow) → PushesAtOnce first before after → IsStopped before after → PushesAtOnce (first ++ second) before after
unfolding front_only
at_once_stopped first second before after (rest, moves, _) stopped =
    let front = front_only first second before after (rest, moves) in (front.0, front.1, inr stopped)

-- the first bytes were pushed, and of the second what their push says
pub tells_more : (first second : List ℕ) (before now after : Outflow) → Pushes before now first → IsUnfailed before now → PushesOrFails second now after → PushesOrFails (first ++ second) before after
tells_more first second before now after is_now same tells =
    ⊎_elim
    (λ all. inl (all.0 ∙ (ap (λ known. known ++ second) is_now ∙ append_assoc (moved before.events) first second), all.1 ∙ same))
    (λ part. inr (front_more first second before now after is_now part.0, part.1 ∙ ap (λ n. n + 1) same))
    tells

-- the output failed within the first bytes
pub tells_front : (first second : List ℕ) (before after : Outflow) → PushesFront first before after → FailsOnce before after → PushesOrFails (first ++ second) before after
tells_front first second before after front failed = inr (front_only first second before after front, failed)
