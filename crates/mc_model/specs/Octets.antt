-- The bytes of a block, in a vector of its own or in a buffer that others may share. Which of the
-- two is this project's profile; a block is the "data block" of memcached's doc/protocol.txt,
-- "Storage commands".
use Rattle.std.specs.Prelude.{ℕ, List}
use Rattle.mc_model.specs.declared.item.Octets.{Octets}
use Rattle.mc_model.specs.declared.item.Octets.TheVariants.{Owned, Shared}

abbrev pub bytes_of : Octets → List ℕ
bytes_of (Owned bytes) = bytes.items
bytes_of (Shared bytes) = bytes
