use Rattle.std.proofs.Common.{◌≡◌, ◌-◌, ◌%◌, ◌^◌, ◌<◌, ◌≤◌, length}
use Rattle.core.specs.Hash.DefaultHasher.{WritesOn}
use Rattle.mc_tables.proofs.sip.SipHasher.write_words.Given as goal

-- the words so far are written, and no part of another
abbrev pub invariant-loop-at : goal.invariant-loop-at
invariant-loop-at l = (l.at ≤ length l.bytes) × (l.self.length < 2 ^ 64) × (l.self.length % 8 ≡ 0) × (l.self.tail ≡ 0)
    × WritesOn l.bytes l.initial.self 0 l.self l.at

abbrev pub decreases-loop-at : goal.decreases-loop-at
decreases-loop-at l = length l.bytes - l.at
