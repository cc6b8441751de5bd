use Rattle.std.proofs.Common.{◌≤◌, length}
use Rattle.core.specs.Hash.DefaultHasher.{WritesOn}
use Rattle.mc_tables.proofs.sip.SipHasherHasher.write.Given as goal

-- the bytes so far are written
abbrev pub invariant-loop-at : goal.invariant-loop-at
invariant-loop-at l = (l.at ≤ length l.bytes) × WritesOn l.bytes l.initial.self l.initial.at l.self l.at
