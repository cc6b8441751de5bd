-- The words of a storage line, which the code borrows, as `Line` has them; they are those of
-- memcached's doc/protocol.txt, "Storage commands".
use Rattle.std.specs.Option.{option_copied}
use Rattle.mc_read.specs.declared.storage.StorageLine as code
use Rattle.mc_read.specs.Line.{StorageLine}

abbrev pub storage_line : code.StorageLine → StorageLine
storage_line line = record {
  storage = line.storage;
  key = line.key.now;
  flags = line.flags;
  exptime = line.exptime.now;
  size = line.size.now;
  last = option_copied line.last;
}
