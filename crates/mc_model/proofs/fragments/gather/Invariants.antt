use Rattle.std.proofs.Common.{◌≡◌, length, take}
use Rattle.std.specs.Prelude.{flat_map}
use Rattle.mc_model.specs.Joined.{fragment_bytes}
use Rattle.mc_model.proofs.fragments.gather.Given as goal

-- the bytes of the fragments so far are at the front
abbrev pub invariant-loop-place : goal.invariant-loop-place
invariant-loop-place l =
    let so_far = flat_map fragment_bytes (take l.place l.many.value.items) in
    (take l.at l.out ≡ so_far) × (l.at ≡ length so_far)
