use Rattle.std.proofs.Common.{◌≡◌, ◌≤◌, ◌++◌, take}
use Rattle.std.specs.Prelude.{flat_map, vec_capacity}
use Rattle.mc_model.specs.Joined.{fragment_bytes}
use Rattle.mc_model.proofs.fragments.write_pieces.Given as goal

-- the bytes of the fragments so far are at the end
abbrev pub invariant-loop-place : goal.invariant-loop-place
invariant-loop-place l =
    (l.out.items ≡ l.initial.out.items ++ flat_map fragment_bytes (take l.place l.many.value.items))
    × (vec_capacity l.initial.out ≤ vec_capacity l.out)
