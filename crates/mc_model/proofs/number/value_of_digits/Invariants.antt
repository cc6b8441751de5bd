use Rattle.std.proofs.Common.{◌<◌, ◌^◌, drop}
use Rattle.mc_model.proofs.Numerals.{SpellsSoFar}
use Rattle.mc_model.proofs.number.value_of_digits.Given as goal

abbrev pub invariant-loop-byte : goal.invariant-loop-byte
invariant-loop-byte l = record {
  so_far : SpellsSoFar l.bytes (drop l.byte-index l.bytes) l.value;
  fits : l.value < 2 ^ 64;
}
