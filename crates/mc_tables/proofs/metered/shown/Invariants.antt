use Rattle.std.proofs.Common.{◌≡◌, ◌++◌, length}
use Rattle.std.specs.List.{filter_map}
use Rattle.mc_model.specs.Effect.{shown_at}
use Rattle.mc_tables.proofs.metered.shown.Given as goal

-- what is shown so far and what is shown of the keys that are left is what is shown of all, and the
-- table stays as it is
abbrev pub invariant-loop-text : goal.invariant-loop-text
invariant-loop-text g l =
    let table = g.S.Storage.table l.initial.storage in
    let shown = shown_at table l.uniques in
    (l.values.items ++ filter_map shown l.keys ≡ filter_map shown l.fn.keys)
    × (g.S.Storage.table l.storage ≡ table)

abbrev pub decreases-loop-text : goal.decreases-loop-text
decreases-loop-text g l = length l.keys
