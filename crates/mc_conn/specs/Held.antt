-- What a connection reads as: the request that waits in it, if there is one, and then what its
-- reader holds. After memcached's doc/protocol.txt, "Protocol": a connection is a stream of request
-- texts, one after another.
use Rattle.std.specs.Prelude.{◌≡◌, ◌↔◌, ℕ, ◌+◌, cond, is_some, List, [], ◌++◌, Option, Some, None}
use Rattle.mc_model.specs.declared.request.Request.{Request}
use Rattle.mc_read.specs.Administering.{lines_spoken}
use Rattle.mc_read.specs.declared.speaker.Speaker.{Speaker}
use Rattle.mc_read.specs.declared.speaker.Speaker.TheVariants as speaker
use Rattle.mc_read.specs.Reading.{GoesOn, HasNone, Held, Kept, ReadsOn}
use Rattle.mc_read.specs.State.{most_requests}
use Rattle.mc_read.specs.Text.{Lines}
use Rattle.mc_conn.specs.declared.conn.Role.{Role}
use Rattle.mc_conn.specs.declared.conn.Role.TheVariants.{Admin, Tenant}

-- whose lines a connection of this role carries
abbrev pub speaker_of : Role → Speaker
speaker_of (Tenant tenant) = speaker.Tenant
speaker_of (Admin names) = speaker.Admin

-- what each line asks for on a connection of this role
abbrev pub lines_of : Role → Lines
lines_of role = lines_spoken (speaker_of role)

-- what each line asks for, a request that was read and not taken yet, and what the reader holds
-- after it
pub record Holding : Type 0 where
  pub lines : Lines
  pub waiting : Option Request
  pub held : Held

-- what is held before the first byte
abbrev pub nothing_held : Role → Holding
nothing_held role = record { lines = lines_of role; waiting = None; held = Kept [] }

-- the requests are the one that waits, if there is one, and then others of which P holds
abbrev pub WaitsThen : Option Request → (List Request → Type 0) → List Request → Type 0
WaitsThen None P = P
WaitsThen (Some request) P = GoesOn request P

-- what is held, followed by more bytes, reads as these requests
abbrev pub HoldsOn : Holding → List ℕ → List Request → Type 0
HoldsOn holding more = WaitsThen holding.waiting (ReadsOn holding.lines holding.held more)

-- all the requests are these, and then others of which P holds
abbrev pub Follow : List Request → (List Request → Type 0) → List Request → Type 0
Follow requests P all = (others : List Request) × (all ≡ requests ++ others) × P others

-- whatever follows, what was held before and the bytes that came read as the requests, and then as
-- what is held after
abbrev pub IsRead : Holding → List ℕ → List Request → Holding → Type 0
IsRead before came requests after = (more : List ℕ) (all : List Request) →
    HoldsOn before (came ++ more) all ↔ Follow requests (HoldsOn after more) all

-- no more requests than this are held whole
abbrev pub most_held : Holding → ℕ
most_held holding = cond (is_some holding.waiting) 1 0 + most_requests holding.held

-- no whole request is held
abbrev pub HoldsNone : Holding → Type 0
HoldsNone holding = (holding.waiting ≡ None) × HasNone holding.lines holding.held
