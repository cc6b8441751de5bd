use Rattle.std.proofs.Common.{◌≡◌, ◌++◌, flat_map, take}
use Rattle.mc_model.specs.Joined.{fragment_bytes}
use Rattle.mc_model.proofs.fragments.give_pieces.Given as goal

-- the bytes of the fragments so far are at the end
abbrev pub invariant-loop-place : goal.invariant-loop-place
invariant-loop-place g l =
    g.S.Sink.taken l.sink ≡ g.S.Sink.taken l.initial.sink ++ flat_map fragment_bytes (take l.place l.many.value.items)
