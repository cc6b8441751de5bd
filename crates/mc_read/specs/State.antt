-- What a reader's fields mean, and what is true of them; this project's profile. What bytes read as
-- is said in `Reading`.
use Rattle.std.specs.Prelude.{◌≡◌, ℕ, ◌+◌, ◌-◌, ◌^◌, ◌<◌, ◌≤◌, min, ◌⊎◌, Bool, if◌then◌else◌, List, [], ◌∷◌, ◌++◌, length, take, drop, Option, Some, None}
use Rattle.mc_model.specs.declared.item.Data.{Data}
use Rattle.mc_model.specs.declared.item.TheConstants.{DATA_BYTES}
use Rattle.mc_model.specs.declared.reply.WireNo.{WireNo}
use Rattle.mc_model.specs.declared.request.Request.{Request}
use Rattle.mc_read.specs.declared.line.Asked.TheVariants.{RefusedBlock, StoredBlock}
use Rattle.mc_read.specs.declared.line.TheConstants.{LINE_BYTES}
use Rattle.mc_read.specs.declared.awaited.Awaited.{Awaited}
use Rattle.mc_read.specs.declared.reader.State.{State}
use Rattle.mc_read.specs.declared.reader.State.TheVariants as state
use Rattle.mc_read.specs.declared.reader.Sought.{Sought}
use Rattle.mc_read.specs.declared.reader.Sought.TheVariants as sought
use Rattle.mc_read.specs.First.{line_length}
use Rattle.mc_read.specs.Line.{refused}
use Rattle.mc_read.specs.Text.{IsUnbroken, Lines, ends_well}
use Rattle.mc_read.specs.Reading.{Ended, HasNone, Held, IsFed, IsNext, Kept, ReadAlike, Swallowing, ends_stream}

-- a line that was read, what has arrived of its block, and what stands behind that
abbrev pub with_line : Awaited → List ℕ → List ℕ
with_line block bytes = block.line.text ++ 10 ∷ (block.body.items ++ bytes)

-- what is held in this state with these bytes
abbrev pub held_in : State → List ℕ → Held
held_in (state.AwaitsLine searched) bytes = Kept bytes
held_in (state.AwaitsBlock block) bytes = Kept (with_line block.value bytes)
held_in (state.SwallowsBlock refusal quiet left) bytes =
    Swallowing (refused refusal quiet) left bytes
held_in state.Ended bytes = Ended

-- a line of this length is at the front of the bytes
pub record IsLineAt (bytes : List ℕ) (line : ℕ) : Type 0 where
  pub is_length : line_length bytes ≡ line
  pub ends : line < length bytes
  pub short : line ≤ LINE_BYTES

-- there is no line feed in the first `searched` bytes, which are no more than a line may have
pub record IsSearched (searched : ℕ) (bytes : List ℕ) : Type 0 where
  pub in_vain : searched ≤ line_length bytes
  pub few : searched ≤ LINE_BYTES

-- what is true of a block that is awaited
pub record IsAwaited (lines : Lines) (block : Awaited) : Type 0 where
  pub unbroken : IsUnbroken block.line.text
  pub short : length block.line.text ≤ LINE_BYTES
  pub asked : lines block.line.text ≡ StoredBlock block.header
  pub small : block.header.length ≤ DATA_BYTES
  pub few : length block.body.items ≤ block.header.length + 2

-- what a state says of the bytes
abbrev pub IsStateOf : Lines → State → List ℕ → Type 0
IsStateOf lines (state.AwaitsLine searched) bytes = IsSearched searched bytes
IsStateOf lines (state.AwaitsBlock block) bytes = IsAwaited lines block.value
IsStateOf lines (state.SwallowsBlock refusal quiet left) bytes = 0 < left → bytes ≡ []
IsStateOf lines state.Ended bytes = bytes ≡ []

-- the number of bytes that are kept
abbrev pub kept_length : Held → ℕ
kept_length (Kept bytes) = length bytes
kept_length (Swallowing request left bytes) = length bytes
kept_length Ended = 0

-- no more is kept than a line with its line feed, and a block and the two bytes after it except for
-- one byte
abbrev pub IsBounded : Held → Type 0
IsBounded held = kept_length held ≤ LINE_BYTES + 1 + DATA_BYTES + 1

-- no more requests than this are held whole
abbrev pub most_requests : Held → ℕ
most_requests (Kept bytes) = length bytes
most_requests (Swallowing request left bytes) = length bytes + 1
most_requests Ended = 0

-- what is true before and after `next` returns
abbrev pub IsNextAnswer : Lines → Held → Option Request → Held → Type 0
IsNextAnswer lines before (Some request) after =
    IsNext lines before request after × (most_requests after < most_requests before)
IsNextAnswer lines before None after =
    HasNone lines before × ReadAlike lines before after × IsBounded after
    × (most_requests after ≤ most_requests before)

-- the bytes end within a refused block or the two bytes after it, and `left` of these are still to
-- come
pub record EndsInRefusal (lines : Lines) (bytes : List ℕ) (request : Request)
    (left : ℕ) : Type 0 where
  pub line : ℕ
  pub size : ℕ
  pub refusal : WireNo
  pub quiet : Bool
  pub is_line : IsLineAt bytes line
  pub is_asked : lines (take line bytes) ≡ RefusedBlock size refusal quiet
  pub is_request : request ≡ refused refusal quiet
  pub is_left : length bytes + left ≡ line + 1 + size + 2
  pub some : 0 < left

-- a line, a block of this size and two more bytes were removed from the front, and the block is
-- returned with whether the two bytes end it well; or nothing was, because a part is still to come
abbrev pub IsTaken : List ℕ → ℕ → ℕ → Option (Data × Bool) → List ℕ → Type 0
IsTaken bytes line size None left = (length bytes < line + 1 + (size + 2)) × (left ≡ bytes)
IsTaken bytes line size (Some given) left = let body = take (size + 2) (drop (line + 1) bytes) in
    (line + 1 + (size + 2) ≤ length bytes) × (given.0 ≡ take size body)
    × (given.1 ≡ ends_well (drop size body)) × (left ≡ drop (line + 1 + (size + 2)) bytes)

-- A block and the two bytes after it stand at the front of the bytes, and the block is returned with
-- whether these end it well; or a part of it is still to come, and the bytes stay.
abbrev pub IsFinished : ℕ → List ℕ → Option (Data × Bool) → List ℕ → Type 0
IsFinished size bytes None left = (length bytes < size + 2) × (left ≡ bytes)
IsFinished size bytes (Some given) left = let body = take (size + 2) bytes in
    (size + 2 ≤ length bytes) × (given.0 ≡ take size body)
    × (given.1 ≡ ends_well (drop size body)) × (left ≡ drop (size + 2) bytes)

-- the state in which a reader goes on after a request
abbrev pub state_past : Request → State
state_past request = if ends_stream request then state.Ended else state.AwaitsLine 0

-- what a search says of the bytes
abbrev pub IsSought : List ℕ → Sought → Type 0
IsSought bytes (sought.Found line) = IsLineAt bytes line
IsSought bytes sought.TooLong = LINE_BYTES < line_length bytes
IsSought bytes sought.Open = (line_length bytes ≡ length bytes) × (length bytes ≤ LINE_BYTES)

-- how far the first line reaches in the bytes, with its line feed, but no farther than a line may
abbrev pub line_reach : List ℕ → ℕ
line_reach bytes = min (min (line_length bytes + 1) (length bytes)) (LINE_BYTES + 1)

-- in how many bytes at the front the end of the first line was searched
abbrev pub searched_in : State → ℕ
searched_in (state.AwaitsLine searched) = searched
searched_in (state.AwaitsBlock block) = length block.value.line.text + 1
searched_in (state.SwallowsBlock refusal quiet left) = 0
searched_in state.Ended = 0

-- in how many more it is to be searched
abbrev pub to_search : Held → ℕ → ℕ
to_search (Kept bytes) searched = line_reach bytes - searched
to_search (Swallowing request left bytes) searched = 0
to_search Ended searched = 0

-- after a request nothing of the next line is searched; without one all that can be is
abbrev pub IsAllSearched : Option Request → Held → ℕ → Type 0
IsAllSearched None held searched = to_search held searched ≡ 0
IsAllSearched (Some request) held searched = searched ≡ 0

-- how many bytes are held in which no line end was searched yet
abbrev pub ahead_in : State → List ℕ → ℕ
ahead_in (state.AwaitsLine searched) bytes = length bytes - searched
ahead_in (state.AwaitsBlock block) bytes = length block.value.body.items + length bytes
ahead_in (state.SwallowsBlock refusal quiet left) bytes = length bytes
ahead_in state.Ended bytes = 0

-- A state with bytes takes a piece: what is held was fed it, and no more is ahead than it and what
-- was.
pub record Feeds (lines : Lines) (s : State) (bytes piece : List ℕ) (next : State)
    (left : List ℕ) : Type 0 where
  pub readings : IsFed lines (held_in s bytes) piece (held_in next left)
  pub stands : IsStateOf lines next left
  pub ahead : ahead_in next left ≤ ahead_in s bytes + length piece

-- What is true of a reader's fields. Of the bytes that it was fed, a line end was searched in none
-- of those that are ahead, unless the count of them has stopped.
pub record IsReader (lines : Lines) (s : State) (bytes : List ℕ) (fed scanned : ℕ) : Type 0 where
  pub stands : IsStateOf lines s bytes
  pub within : scanned ≤ fed
  pub ahead : (scanned + ahead_in s bytes ≤ fed) ⊎ (fed ≡ 2 ^ 64 - 1)
