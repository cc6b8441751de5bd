use Rattle.std.proofs.Common.{◌≡◌, nat_lt, length, filter, map, take}
use Rattle.mc_schedules.proofs.words.words.Given as goal

-- the words so far are the pieces so far that have a byte
abbrev pub invariant-loop-piece : goal.invariant-loop-piece
invariant-loop-piece l =
    map (λ word. word.now) l.found.items ≡ filter (λ piece. nat_lt 0 (length piece)) (map (λ piece. piece.now) (take l.piece-index l.piece-items))
