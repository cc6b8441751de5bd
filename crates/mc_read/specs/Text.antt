-- The text of a request, after memcached's doc/protocol.txt, "Protocol" and "Storage commands": a
-- line, and after the line of a storage command a body, which is a block and two bytes. How long a
-- line may be is this project's profile.
use Rattle.std.specs.Prelude.{◌≡◌, ◌≢◌, ℕ, ◌+◌, ◌≤◌, ◌⊎◌, Bool, if◌then◌else◌, List, ◌∷◌, ◌++◌, length, take, drop, codes, All}
use Rattle.mc_model.specs.declared.command.Command.{Command}
use Rattle.mc_model.specs.declared.command.Command.TheVariants.{Cas, Store}
use Rattle.mc_model.specs.declared.item.Data.{Data}
use Rattle.mc_model.specs.declared.key.Key.{Key}
use Rattle.mc_model.specs.declared.reply.TheConstants.WireNo.{BAD_BLOCK}
use Rattle.mc_model.specs.declared.request.Request.{Request}
use Rattle.mc_model.specs.declared.request.Request.TheVariants.{Logged, TooLong}
use Rattle.mc_read.specs.declared.line.Asked.{Asked}
use Rattle.mc_read.specs.declared.line.Asked.TheVariants.{LineOnly, RefusedBlock, StoredBlock}
use Rattle.mc_read.specs.declared.line.Header.{Header}
use Rattle.mc_read.specs.declared.line.Storage.TheVariants.{CheckAndSet, Plain}
use Rattle.mc_read.specs.declared.line.Storage.{Storage}
use Rattle.mc_read.specs.declared.line.TheConstants.{LINE_BYTES}
use Rattle.mc_read.specs.Line.{refused}
use Rattle.mc_read.specs.Word.{is_word}

-- what each line asks for
abbrev pub Lines : Type 0
Lines = List ℕ → Asked

-- the number of bytes that a request has after its line: none, or a block and two more
abbrev pub body_length : Asked → ℕ
body_length (LineOnly request) = 0
body_length (RefusedBlock length refusal quiet) = length + 2
body_length (StoredBlock header) = header.length + 2

-- the command that stores a block
abbrev pub storing : Storage → Key → ℕ → Data → Command
storing (Plain verb) key flags block = Store verb key flags block
storing (CheckAndSet unique) key flags block = Cas key flags block unique

-- a block is stored if it ends well
abbrev pub stored_if : Bool → Header → Data → Request
stored_if is_whole header block =
    if is_whole then Logged (storing header.storage header.key header.flags block) header.quiet
    else refused BAD_BLOCK header.quiet

-- the two bytes after a block must be a carriage return and a line feed
abbrev pub ends_well : List ℕ → Bool
ends_well bytes = is_word bytes (codes "\r\n")

-- a block and the two bytes after it
abbrev pub stored_request : Header → List ℕ → Request
stored_request header body =
    stored_if (ends_well (drop header.length body)) header (take header.length body)

-- the request of a line with this body
abbrev pub request_of : Asked → List ℕ → Request
request_of (LineOnly request) body = request
request_of (RefusedBlock length refusal quiet) body = refused refusal quiet
request_of (StoredBlock header) body = stored_request header body

-- there is no line feed in the bytes
abbrev pub IsUnbroken : List ℕ → Type 0
IsUnbroken bytes = All (λ byte. byte ≢ 10) bytes

-- no line has ended yet in the bytes, and none is too long
pub record IsUnended (bytes : List ℕ) : Type 0 where
  pub unbroken : IsUnbroken bytes
  pub short : length bytes ≤ LINE_BYTES

-- a line with its line feed, and its body: nothing, or a block and two more bytes
pub record IsLineText (lines : Lines) (text : List ℕ) (request : Request) : Type 0 where
  pub line : List ℕ
  pub body : List ℕ
  pub short : length line ≤ LINE_BYTES
  pub unbroken : IsUnbroken line
  pub whole : length body ≡ body_length (lines line)
  pub in_text : text ≡ line ++ 10 ∷ body
  pub is_asked : request ≡ request_of (lines line) body

-- one byte more than a line may have, with no line feed among them
pub record IsTooLongText (text : List ℕ) (request : Request) : Type 0 where
  pub long : length text ≡ LINE_BYTES + 1
  pub unbroken : IsUnbroken text
  pub is_too_long : request ≡ TooLong

abbrev pub IsRequestText : Lines → List ℕ → Request → Type 0
IsRequestText lines text request = IsLineText lines text request ⊎ IsTooLongText text request
