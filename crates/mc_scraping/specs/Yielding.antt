-- Which connection gives its place to a stream that finds none free; this project's profile.
use Rattle.std.specs.Prelude.{◌≡◌, ◌==◌, ◌<◌, ◌≤◌, ◌⊎◌, ◌-◌, ℕ, List, Option, None, Some, All, if◌then◌else◌, length, slice_get}
use Rattle.std.specs.Time.{instant_nanos}
use Rattle.std.specs.declared.time.Instant.{Instant}
use Rattle.http_server.specs.Connection.{history}
use Rattle.mc_scraping.specs.declared.visit.Visit.{Visit}
use Rattle.mc_scraping.specs.declared.yielding.Holder.{Holder}
use Rattle.mc_scraping.specs.declared.yielding.Holder.TheVariants.{Nobody, Idle, Answered, New}

-- how many bytes of an answer a connection has yet to take
abbrev pub pending : Visit → ℕ
pending visit = length (history visit.connection).pending

-- How readily a place is given: first one that nobody has, then one whose holder is idle, then one
-- whose holder is being answered, and last one whose holder began just now.
abbrev pub rank : Holder → ℕ
rank Nobody = 3
rank (Idle time) = 2
rank (Answered time) = 1
rank New = 0

-- for how long its holder had no use of it
abbrev pub idle_time : Holder → ℕ
idle_time Nobody = 0
idle_time (Idle time) = time
idle_time (Answered time) = time
idle_time New = 0

-- one holder gives its place no later than another: of two that are as ready, the one that was idle
-- for as long or longer
abbrev pub YieldsNoLater : Holder → Holder → Type 0
YieldsNoLater one other =
    (rank other < rank one) ⊎ (rank one ≡ rank other) × (idle_time other ≤ idle_time one)

-- who holds a place at this time, by the connection there, if there is one
abbrev pub holder_of : Instant → Option Visit → Holder
holder_of now None = Nobody
holder_of now (Some visit) =
    let idle = instant_nanos now - instant_nanos visit.used in
    if instant_nanos now - instant_nanos visit.begun == 0 then New
    else (if pending visit == 0 then Idle idle else Answered idle)

-- This is the holder of this place, and gives it no later than any other.
pub record IsFirstToYield (holders : List Holder) (place : ℕ) (holder : Holder) : Type 0 where
  pub within : place < length holders
  pub has : slice_get holders place ≡ Some holder
  pub first : All (λ (other : Holder). YieldsNoLater holder other) holders

-- where a place is free, a free one is given
abbrev pub FreePlacesGoFirst : Type 0
FreePlacesGoFirst = (holders : List Holder) (place free : ℕ) (holder : Holder) →
    IsFirstToYield holders place holder → slice_get holders free ≡ Some Nobody → holder ≡ Nobody

-- where a holder is idle and no place is free, one that was idle for as long or longer gives its
-- place
abbrev pub WhoWasIdleLongestGoes : Type 0
WhoWasIdleLongestGoes = (holders : List Holder) (place idle time : ℕ) (holder : Holder) →
    IsFirstToYield holders place holder → slice_get holders idle ≡ Some (Idle time) →
    (holder ≡ Nobody) ⊎ (longer : ℕ) × (holder ≡ Idle longer) × (time ≤ longer)

-- one that is being answered gives its place only where all others began just now or are being
-- answered, and were idle for as long or shorter
abbrev pub WhoIsAnsweredGoesLast : Type 0
WhoIsAnsweredGoesLast = (holders : List Holder) (place other longer : ℕ) (holder : Holder) →
    IsFirstToYield holders place (Answered longer) → slice_get holders other ≡ Some holder →
    (holder ≡ New) ⊎ (time : ℕ) × (holder ≡ Answered time) × (time ≤ longer)

-- one that began just now gives its place only where all did
abbrev pub WhoIsNewStays : Type 0
WhoIsNewStays = (holders : List Holder) (place other : ℕ) (holder : Holder) →
    IsFirstToYield holders place New → slice_get holders other ≡ Some holder → holder ≡ New
