use Rattle.std.proofs.Common.{◌≡◌, ◌&&◌, drop}
use Rattle.std.specs.List.{list_all}
use Rattle.mc_model.specs.Key.{is_key_byte}
use Rattle.mc_model.proofs.key.are_plain.Given as goal

-- the bytes so far and those that are left are plain if all are
abbrev pub invariant-loop-byte : goal.invariant-loop-byte
invariant-loop-byte l =
    (l.are_plain && list_all is_key_byte (drop l.byte-index l.bytes)) ≡ list_all is_key_byte l.bytes
