-- What the answers of std's readers and writers mean to the layers above: an interrupted call and
-- one that would block are made again, and any other error is a failure. After std's `Read`,
-- `Write` and `ErrorKind`.
use Rattle.std.specs.Prelude.{ℕ, zero, suc, ◌≤◌, Bool, true, false, if◌then◌else◌, List, take, length, Option, Result, Ok, Err}
use Rattle.std.specs.IoError.{error_kind}
use Rattle.std.specs.Io.KnownBytes.{Appends, Keeps}
use Rattle.std.specs.declared.io.Error.{Error}
use Rattle.std.specs.declared.io.ErrorKind.{ErrorKind}
use Rattle.std.specs.declared.io.ErrorKind.TheVariants.{Interrupted, WouldBlock}
use Rattle.mc_stream.specs.declared.standard.ReadInput.{ReadInput}
use Rattle.mc_stream.specs.declared.standard.WriteOutput.{WriteOutput}
use Rattle.mc_stream.specs.declared.stream.Pull.{Pull}
use Rattle.mc_stream.specs.declared.stream.Pull.TheVariants.{Bytes, Empty, Ended, Failed as InputFailed}
use Rattle.mc_stream.specs.declared.stream.Push.{Push}
use Rattle.mc_stream.specs.declared.stream.Push.TheVariants.{Taken, Full, Failed as OutputFailed}
use Rattle.mc_stream.specs.Stream.{Inflow, Outflow}

-- the call did nothing, and may be made again
abbrev pub asks_again : ErrorKind → Bool
asks_again Interrupted = true
asks_again WouldBlock = true
asks_again _ = false

-- what a pull answers if a read into a buffer with room answered this
abbrev pub pull_of : Result ℕ Error → Pull
pull_of (Ok zero) = Ended
pull_of (Ok (suc count)) = Bytes (suc count)
pull_of (Err error) = if asks_again (error_kind error) then Empty else InputFailed

-- What a push answers if a write answered this, and the flush after a write that took bytes
-- answered that. A flush is never made again, since the bytes would be sent twice; a write that
-- takes none of some bytes never will take any.
abbrev pub push_of : Result ℕ Error → Result (Unit {0}) Error → Push
push_of (Ok zero) flushed = OutputFailed
push_of (Ok (suc count)) (Ok done) = Taken (suc count)
push_of (Ok (suc count)) (Err error) = OutputFailed
push_of (Err error) flushed = if asks_again (error_kind error) then Full else OutputFailed

abbrev pub reader_of : {R : Type 0} → ReadInput R → R
reader_of input = input.reader

-- what an input reports, if `remaining` is what its reader has left
abbrev pub read_of : {R : Type 0} → (R → Option (List ℕ)) → ReadInput R → Inflow
read_of remaining input = record { events = input.tape.events; left = remaining input.reader }

abbrev pub writer_of : {W : Type 0} → WriteOutput W → W
writer_of output = output.writer

abbrev pub written_of : {W : Type 0} → WriteOutput W → Outflow
written_of output = record { events = output.tape.events }

-- what a push took has been written, and nothing has if it took nothing; after a failure a prefix
-- of the bytes has, once
abbrev pub WritesTaken : Option (List ℕ) → Option (List ℕ) → Push → List ℕ → Type 0
WritesTaken old new (Taken count) bytes = Appends old new (take count bytes)
WritesTaken old new Full bytes = Keeps old new
WritesTaken old new OutputFailed bytes =
    (count : ℕ) × (count ≤ length bytes) × Appends old new (take count bytes)
