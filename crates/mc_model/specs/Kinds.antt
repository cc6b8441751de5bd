-- Kinds of commands, by their names. Retrieval is a kind in memcached's doc/protocol.txt,
-- "Commands"; the other two are this project's profile.
use Rattle.mc_model.specs.declared.command.Command.{Command}
use Rattle.mc_model.specs.declared.command.Command.TheVariants.{Get, Delete, Flush, Limit}

-- the command only reads
abbrev pub IsRetrieval : Command → Type 0
IsRetrieval (Get keys uniques) = Unit {0}
IsRetrieval _ = ⊥

-- the command stores and shows no data: it removes keys, or sets quotas
abbrev pub NeedsNoMemory : Command → Type 0
NeedsNoMemory (Delete key) = Unit {0}
NeedsNoMemory Flush = Unit {0}
NeedsNoMemory (Limit limits) = Unit {0}
NeedsNoMemory _ = ⊥

-- the command sets the tenant's quotas
abbrev pub SetsLimits : Command → Type 0
SetsLimits (Limit limits) = Unit {0}
SetsLimits _ = ⊥
