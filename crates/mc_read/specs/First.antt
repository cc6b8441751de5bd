-- The request at the front of a byte list, computed; `Text` has it as a relation. After memcached's
-- doc/protocol.txt, "Protocol" and "Storage commands"; that a line feed alone ends a line, and how
-- long a line may be, are this project's profile.
use Rattle.std.specs.Prelude.{ℕ, ◌+◌, Bool, ◌==◌, nat_lt, nat_le, if◌then◌else◌, List, length, take, drop, Option, Some, None}
use Rattle.std.specs.List.{after_first, before_first, position_or_len}
use Rattle.mc_model.specs.declared.request.Request.{Request}
use Rattle.mc_model.specs.declared.request.Request.TheVariants.{TooLong}
use Rattle.mc_read.specs.declared.line.Asked.{Asked}
use Rattle.mc_read.specs.declared.line.TheConstants.{LINE_BYTES}
use Rattle.mc_read.specs.Text.{Lines, body_length, request_of}

abbrev pub is_line_feed : ℕ → Bool
is_line_feed byte = byte == 10

-- the number of bytes before the first line feed, or of all bytes if there is none
abbrev pub line_length : List ℕ → ℕ
line_length bytes = position_or_len is_line_feed bytes

-- this request is at the front, and this follows it
abbrev pub found : Request → List ℕ → Option (Request × List ℕ)
found request more = Some (request, more)

-- the request of a line, and what follows it
abbrev pub first_of_line : Asked → List ℕ → Option (Request × List ℕ)
first_of_line asked body =
    if nat_le (body_length asked) (length body)
    then found (request_of asked (take (body_length asked) body)) (drop (body_length asked) body)
    else None

-- the first request and what follows it, if there is a whole request at the front
abbrev pub first_request : Lines → List ℕ → Option (Request × List ℕ)
first_request lines bytes =
    if nat_lt LINE_BYTES (line_length bytes) then found TooLong (drop (LINE_BYTES + 1) bytes)
    else if nat_lt (line_length bytes) (length bytes)
    then first_of_line (lines (before_first is_line_feed bytes)) (after_first is_line_feed bytes)
    else None
