use Rattle.std.proofs.Common.{◌≡◌}
use Rattle.mc_model.specs.Joined.{unread_bytes}
use Rattle.mc_model.proofs.Pieces.{Halfway}
use Rattle.mc_model.proofs.unread.Unread.reads.Given as goal

-- as many bytes were read of both, and the fragments before this place are read
abbrev pub invariant-loop-place : goal.invariant-loop-place
invariant-loop-place l =
    Halfway l.bytes l.wanted (unread_bytes l.fn.self) (unread_bytes l.self)
    × (l.self.next ≡ l.place) × (l.self.list ≡ l.fn.self.list)
