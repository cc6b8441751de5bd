-- Which hasher a table's hash begins with, and what a word leaves of one.
use Rattle.std.specs.Prelude.{ℕ}
use Rattle.std.specs.Hash.DefaultHasher.{with_keys}
use Rattle.std.specs.declared.hash.DefaultHasher.{DefaultHasher}
use Rattle.mc_tables.specs.declared.hashing.Hashing.{Hashing}
use Rattle.mc_tables.specs.declared.hashing.Hashing.TheVariants.{Random, Fixed}

-- SipHash-1-3, by std's definition of it, with the random keys, or with keys that are both 0
abbrev pub hasher_by : Hashing → DefaultHasher
hasher_by (Random keys) = with_keys keys.first keys.second
hasher_by Fixed = with_keys 0 0

-- the same four words, with another tail and length
abbrev pub with_tail : DefaultHasher → ℕ → ℕ → DefaultHasher
with_tail hasher tail length = record {
  v0 = hasher.v0;
  v1 = hasher.v1;
  v2 = hasher.v2;
  v3 = hasher.v3;
  tail = tail;
  length = length;
}
