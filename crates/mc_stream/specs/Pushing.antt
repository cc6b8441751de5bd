-- What an output took of the bytes that it was given, one push after another; this project's
-- profile.
use Rattle.std.specs.Prelude.{◌≡◌, ◌<◌, true, ◌+◌, ◌⊎◌, List, [], ◌++◌, take, ℕ}
use Rattle.mc_stream.specs.Event.{failures, had_to_wait, moved, waits}
use Rattle.mc_stream.specs.Stream.{Outflow}
use Rattle.mc_stream.specs.declared.pushing.Stop.{Stop}
use Rattle.mc_stream.specs.declared.pushing.Stop.TheVariants.{All, Full, Failed}
use Rattle.mc_stream.specs.declared.stream.Push.{Push}
use Rattle.mc_stream.specs.declared.stream.Push.TheVariants as push

-- these bytes were pushed between the two states
abbrev pub Pushes : Outflow → Outflow → List ℕ → Type 0
Pushes before after bytes = moved after.events ≡ moved before.events ++ bytes

-- the output didn't fail between the two states
abbrev pub IsUnfailed : Outflow → Outflow → Type 0
IsUnfailed before after = failures after.events ≡ failures before.events

-- the output failed once between the two states
abbrev pub FailsOnce : Outflow → Outflow → Type 0
FailsOnce before after = failures after.events ≡ failures before.events + 1

-- A push of these bytes answered this: what it took is pushed; or nothing is, since the output was
-- full or failed.
abbrev pub IsPush : Push → List ℕ → Outflow → Outflow → Type 0
IsPush (push.Taken count) bytes before after =
    Pushes before after (take count bytes) × IsUnfailed before after
    × (waits after.events ≡ waits before.events)
IsPush push.Full bytes before after =
    Pushes before after [] × IsUnfailed before after × (had_to_wait after.events ≡ true)
    × (waits after.events ≡ waits before.events + 1)
IsPush push.Failed bytes before after =
    Pushes before after [] × FailsOnce before after × (waits after.events ≡ waits before.events)

-- a prefix of what was queued is pushed, and the rest is still queued
pub record Unqueues (before after : List ℕ) (output_before output : Outflow) : Type 0 where
  pub front : List ℕ
  pub split : before ≡ front ++ after
  pub went : Pushes output_before output front

-- a prefix of the bytes is pushed
abbrev pub PushesFront : List ℕ → Outflow → Outflow → Type 0
PushesFront bytes before after = (rest : List ℕ) × Unqueues bytes rest before after

-- between the two states the output was full at the last push, or it failed once
abbrev pub IsStopped : Outflow → Outflow → Type 0
IsStopped before after =
    (had_to_wait after.events ≡ true) × IsUnfailed before after
    × (waits before.events < waits after.events)
    ⊎ FailsOnce before after

-- nothing is left unsent, or the output was full or failed
abbrev pub IsAllOrStopped : List ℕ → Outflow → Outflow → Type 0
IsAllOrStopped unsent before after =
    (unsent ≡ []) × IsUnfailed before after ⊎ IsStopped before after

-- as many of the bytes are pushed as the output takes at once
abbrev pub PushesAtOnce : List ℕ → Outflow → Outflow → Type 0
PushesAtOnce bytes before after =
    (rest : List ℕ) × Unqueues bytes rest before after × IsAllOrStopped rest before after

-- the bytes are pushed, or a prefix of them if the output failed once
abbrev pub PushesOrFails : List ℕ → Outflow → Outflow → Type 0
PushesOrFails bytes before after =
    Pushes before after bytes × IsUnfailed before after
    ⊎ PushesFront bytes before after × FailsOnce before after

-- why a push of `there` bytes stopped after `count` of them
abbrev pub StopsAs : Stop → ℕ → ℕ → Outflow → Outflow → Type 0
StopsAs All count there before after =
    (count ≡ there) × IsUnfailed before after × (waits after.events ≡ waits before.events)
StopsAs Full count there before after =
    IsUnfailed before after × (had_to_wait after.events ≡ true)
    × (waits after.events ≡ waits before.events + 1)
StopsAs Failed count there before after =
    FailsOnce before after × (waits after.events ≡ waits before.events)
