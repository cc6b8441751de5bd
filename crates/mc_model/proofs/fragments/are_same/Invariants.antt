use Rattle.std.proofs.Common.{◌≡◌, ◌++◌, flat_map, take}
use Rattle.mc_model.specs.Joined.{fragment_bytes, joined_pieces, unread_bytes}
use Rattle.mc_model.proofs.fragments.are_same.Given as goal

-- the bytes of the fragments so far were read
abbrev pub invariant-loop-place : goal.invariant-loop-place
invariant-loop-place l =
    joined_pieces l.right ≡ flat_map fragment_bytes (take l.place l.many.value.items) ++ unread_bytes l.rest
