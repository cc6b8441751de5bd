-- What a pull adds to the bytes that a reader holds; this project's profile.
use Rattle.std.specs.Prelude.{◌≡◌, ℕ, ◌≤◌, List, ◌++◌, length}
use Rattle.mc_stream.specs.Stream.{Inflow, IsPull, pulled_by}
use Rattle.mc_stream.specs.declared.stream.Pull.{Pull}
use Rattle.mc_read.specs.Administering.{lines_spoken}
use Rattle.mc_read.specs.Reading.{IsFed, ReaderView, raised}

-- a pull of at most `most` bytes, and those that came stand behind those that were there
pub record PullsBehind (before after : Inflow) (most : ℕ) (old new : List ℕ)
    (pull : Pull) : Type 0 where
  pub memory : List ℕ
  pub is : IsPull before after pull memory
  pub few : length memory ≤ most
  pub bytes : new ≡ old ++ pulled_by pull memory

-- a pull of at most `most` bytes, and the reader was fed those that came: they are counted
pub record IsFedByPull (before after : Inflow) (most : ℕ) (old new : ReaderView)
    (pull : Pull) : Type 0 where
  pub memory : List ℕ
  pub is : IsPull before after pull memory
  pub few : length memory ≤ most
  pub readings : IsFed (lines_spoken old.speaker) old.held (pulled_by pull memory) new.held
  pub fed : new.fed ≡ raised old.fed (length (pulled_by pull memory))
