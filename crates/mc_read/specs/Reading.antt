-- What a byte list reads as: requests, and a rest that has no whole request at its front. After
-- memcached's doc/protocol.txt, "Protocol": a connection is a stream of such texts, one after
-- another.
use Rattle.std.specs.Prelude.{◌≡◌, ◌≢◌, ◌↔◌, ℕ, ◌+◌, ◌-◌, ◌^◌, min, Bool, true, false, nat_lt, MatchBool, List, [], ◌∷◌, ◌++◌, length, drop}
use Rattle.mc_model.specs.declared.request.Request.{Request}
use Rattle.mc_model.specs.declared.request.Request.TheVariants.{Limit, Local, Logged, Quit, TooLong}
use Rattle.mc_read.specs.declared.speaker.Speaker.{Speaker}
use Rattle.mc_read.specs.Text.{IsRequestText, Lines}

-- nothing is read after such a request
abbrev pub ends_stream : Request → Bool
ends_stream (Logged command quiet) = false
ends_stream (Local reply quiet) = false
ends_stream (Limit name limits quiet) = false
ends_stream Quit = true
ends_stream TooLong = true

-- no request text is a prefix of the bytes
abbrev pub HasNoRequest : Lines → List ℕ → Type 0
HasNoRequest lines bytes = (text more : List ℕ) (request : Request) →
    IsRequestText lines text request → bytes ≢ text ++ more

-- the bytes read as these requests and a rest
abbrev pub Reads : Lines → List ℕ → List Request → List ℕ → Type 0
Reads lines bytes [] rest = (bytes ≡ rest) × HasNoRequest lines bytes
Reads lines bytes (request ∷ requests) rest =
    (text : List ℕ) × (more : List ℕ) × IsRequestText lines text request × (bytes ≡ text ++ more)
    × MatchBool (ends_stream request) ((requests ≡ []) × (more ≡ rest))
    (Reads lines more requests rest)

-- What a reader holds: bytes; or a request that was refused, with the number of bytes still to come
-- of its block and the two bytes after it, and the bytes that follow those; or nothing, after the
-- end.
pub data Held : Type 0 where
  Kept : List ℕ → Held
  Swallowing : Request → ℕ → List ℕ → Held
  Ended : Held

-- A reader as contracts see it: whose lines it reads, what it holds, how many bytes it was fed, in
-- how many of these a line end was searched, and in how many of those that it holds.
pub record ReaderView : Type 0 where
  pub speaker : Speaker
  pub held : Held
  pub fed : ℕ
  pub scanned : ℕ
  pub searched : ℕ

-- a count that rises by so much, and stops at the largest number of 64 bits
abbrev pub raised : ℕ → ℕ → ℕ
raised count more = min (count + more) (2 ^ 64 - 1)

-- the first of the requests is this one, and P holds of the others
abbrev pub GoesOn : Request → (List Request → Type 0) → List Request → Type 0
GoesOn request P [] = ⊥
GoesOn request P (first ∷ others) = (first ≡ request) × P others

-- the requests that the bytes read as, whatever the rest
abbrev pub ReadsAs : Lines → List ℕ → List Request → Type 0
ReadsAs lines bytes requests = (rest : List ℕ) × Reads lines bytes requests rest

-- the requests that what is held, followed by more bytes, reads as
abbrev pub ReadsOn : Lines → Held → List ℕ → List Request → Type 0
ReadsOn lines (Kept bytes) more requests = ReadsAs lines (bytes ++ more) requests
ReadsOn lines (Swallowing request left bytes) more requests =
    MatchBool (nat_lt (length more) left) (requests ≡ [])
    (GoesOn request (ReadsAs lines (bytes ++ drop left more)) requests)
ReadsOn lines Ended more requests = requests ≡ []

-- whatever follows, what is held before reads as this request followed by what is held after
abbrev pub IsNext : Lines → Held → Request → Held → Type 0
IsNext lines before request after = (more : List ℕ) (requests : List Request) →
    ReadsOn lines before more requests ↔ GoesOn request (ReadsOn lines after more) requests

-- what is held reads as no request
abbrev pub HasNone : Lines → Held → Type 0
HasNone lines held = (requests : List Request) → ReadsOn lines held [] requests ↔ (requests ≡ [])

-- whatever follows, both read the same
abbrev pub ReadAlike : Lines → Held → Held → Type 0
ReadAlike lines before after = (more : List ℕ) (requests : List Request) →
    ReadsOn lines before more requests ↔ ReadsOn lines after more requests

-- whatever follows, what is held after a piece reads as what was held before it, followed by the
-- piece
abbrev pub IsFed : Lines → Held → List ℕ → Held → Type 0
IsFed lines before piece after = (more : List ℕ) (requests : List Request) →
    ReadsOn lines after more requests ↔ ReadsOn lines before (piece ++ more) requests

-- a request, followed by what it leaves to read
abbrev pub FollowsRequest : Lines → Request → List ℕ → List Request → List ℕ → Type 0
FollowsRequest lines request more requests rest =
    MatchBool (ends_stream request) ((requests ≡ []) × (more ≡ rest))
    (Reads lines more requests rest)

abbrev pub HasReading : Lines → List ℕ → Type 0
HasReading lines bytes =
    (requests : List Request) × (rest : List ℕ) × Reads lines bytes requests rest
