-- What a look-up tells of an item: the flags, the number of bytes and the unique that memcached's
-- doc/protocol.txt, "Retrieval command", has in the line of an item.
use Rattle.std.specs.Prelude.{length}
use Rattle.mc_model.specs.declared.item.Item.{Item}
use Rattle.mc_tables.specs.declared.storage.Found.{Found}

-- its flags, the length of its data and its unique
abbrev pub found_of : Item → Found
found_of item = record { flags = item.flags; len = length item.block; unique = item.unique }
