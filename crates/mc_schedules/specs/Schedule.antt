-- What an event list reads as: settings and actions, or the number of its first bad line; this form
-- is this project's profile.
use Rattle.std.specs.Prelude.{ℕ, nat_lt, if◌then◌else◌, List, [], ◌∷◌, length, Option, Some, None}
use Rattle.mc_model.specs.declared.settings.Limits.{Limits}
use Rattle.mc_schedules.specs.declared.schedule.Item.{Item}
use Rattle.mc_schedules.specs.declared.schedule.Reading.{Reading}
use Rattle.mc_schedules.specs.declared.schedule.Reading.TheVariants as code
use Rattle.mc_schedules.specs.declared.schedule.TheConstants.{INPUT_BYTES}
use Rattle.mc_schedules.specs.Line.{lines}
use Rattle.mc_schedules.specs.Place.{Statement, cores, first_misplaced, items, statements, tenants}

-- the numbers of the opening lines, which may be out of range, and the actions
pub record Listed : Type 0 where
  pub workers : ℕ
  pub places : ℕ
  pub tenants : List Limits
  pub items : List Item

pub data Read : Type 0 where
  BadLine : ℕ → Read
  Whole : Listed → Read

-- what the code returns, as the definitions see it
abbrev pub read_as : Reading → Read
read_as (code.Bad line) = BadLine line
read_as (code.Schedule schedule) =
    Whole (record {
      workers = schedule.workers;
      places = schedule.places;
      tenants = schedule.tenants.items;
      items = schedule.items.items;
    })

-- without a core line and a tenant line the list is bad, but at none of its lines
abbrev pub listed : List (ℕ × ℕ) → List Limits → List Item → Read
listed (core ∷ others) (tenant ∷ tenants) items =
    Whole (record { workers = core.0; places = core.1; tenants = tenant ∷ tenants; items = items })
listed cores tenants items = BadLine 0

abbrev pub read_unless : Option ℕ → List Statement → Read
read_unless (Some line) all = BadLine line
read_unless None all = listed (cores all) (tenants all) (items all)

-- the first line that isn't in its place is bad; if there is none, all lines count
abbrev pub read_lines : List (List ℕ) → Read
read_lines lines = read_unless (first_misplaced [] (statements lines)) (statements lines)

-- an input that is too long is bad, but at none of its lines, whatever they are
abbrev pub reading : List ℕ → Read
reading bytes = if nat_lt INPUT_BYTES (length bytes) then BadLine 0 else read_lines (lines bytes)
