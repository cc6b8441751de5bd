-- What a table counts for in total, to be compared with the tenant's quotas; this project's
-- profile.
use Rattle.std.specs.Prelude.{◌≡◌, Option, IfNone, IfSome}
use Rattle.std.specs.Option.{is_some}
use Rattle.mc_model.specs.declared.settings.Limits.{Limits}
use Rattle.mc_model.specs.Effect.{Effect, is_acceptance}
use Rattle.mc_model.specs.Table.{Table, count_of, is_within, use_of}
use Rattle.mc_tables.specs.declared.meter.Meter.{Meter}

-- the totals are those of the table
abbrev pub IsMeterOf : Meter → Table → Type 0
IsMeterOf meter table = (meter.used ≡ use_of table) × (meter.count ≡ count_of table)

-- the totals of a table, with the quotas, if these allow it
abbrev pub IsMeterIf : Option Meter → Limits → Table → Type 0
IsMeterIf meter limits table =
    (is_some meter ≡ is_within limits table)
    × IfSome meter (λ after. (after.limits ≡ limits) × IsMeterOf after table)

-- the totals of the table that an effect leaves, with the quotas, if the effect is a change; if
-- not, it leaves the table as it was
abbrev pub IsMeterBy : Option Meter → Limits → Table → Effect → Type 0
IsMeterBy meter limits table effect =
    (is_some meter ≡ is_acceptance effect.reply)
    × IfSome meter (λ after. (after.limits ≡ limits) × IsMeterOf after effect.table)
    × IfNone meter (effect.table ≡ table)
