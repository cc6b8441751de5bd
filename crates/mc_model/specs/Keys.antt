-- The keys of a list, whether the only one stands alone or they stand in a block: the "one or more
-- key strings" of memcached's doc/protocol.txt, "Retrieval command". Where they are kept is this
-- project's profile.
use Rattle.std.specs.Prelude.{List, [], ◌∷◌}
use Rattle.mc_model.specs.declared.key.Key.{Key}
use Rattle.mc_model.specs.declared.key_list.Keys.{Keys}
use Rattle.mc_model.specs.declared.key_list.Keys.TheVariants.{Single, Several}

abbrev pub keys_of : Keys → List Key
keys_of (Single key) = key ∷ []
keys_of (Several keys) = keys
