-- Which lines of an event list may follow which: first the core line, then 1 to 64 tenant lines,
-- then the actions; this form is this project's profile.
use Rattle.std.specs.Prelude.{ℕ, Bool, true, false, ◌&&◌, not, nat_lt, if◌then◌else◌, List, [], ◌∷◌, ◌++◌, length, map, Option, Some, None, filter_map}
use Rattle.std.specs.List.{enumerate_from}
use Rattle.mc_model.specs.declared.settings.Limits.{Limits}
use Rattle.mc_schedules.specs.declared.line.Said.{Said}
use Rattle.mc_schedules.specs.declared.line.Said.TheVariants.{Core, Nothing, Tenant, ToDo}
use Rattle.mc_schedules.specs.declared.schedule.Item.{Item}
use Rattle.mc_model.specs.declared.id.TheConstants.{TENANTS}
use Rattle.mc_schedules.specs.Line.{lines, said}

-- a line's number, from 1, and what it says; `None` if it has no known form
abbrev pub Statement : Type 0
Statement = ℕ × Option Said

abbrev pub statement : ℕ × List ℕ → Statement
statement line = (line.0, said line.1)

abbrev pub statements : List (List ℕ) → List Statement
statements lines = map statement (enumerate_from 1 lines)

-- the number of workers and places that a core line names
abbrev pub core_said : Option Said → Option (ℕ × ℕ)
core_said (Some (Core workers places)) = Some (workers, places)
core_said other = None

-- the quotas that a tenant line names
abbrev pub tenant_said : Option Said → Option Limits
tenant_said (Some (Tenant limits)) = Some limits
tenant_said other = None

-- what a line asks for
abbrev pub item_said : ℕ → Option Said → Option Item
item_said line (Some (ToDo action)) = Some (record { line = line; action = action })
item_said line other = None

abbrev pub cores : List Statement → List (ℕ × ℕ)
cores statements = filter_map (λ (one : Statement). core_said one.1) statements

abbrev pub tenants : List Statement → List Limits
tenants statements = filter_map (λ (one : Statement). tenant_said one.1) statements

abbrev pub items : List Statement → List Item
items statements = filter_map (λ (one : Statement). item_said one.0 one.1) statements

abbrev pub is_there : {X : Type 0} → List X → Bool
is_there list = nat_lt 0 (length list)

-- whether a line may say this after these lines: a core line if there is none before, a tenant line
-- after it, before all actions and as one of the first 64, and an action after a tenant line
abbrev pub is_in_place : List Statement → Option Said → Bool
is_in_place before None = false
is_in_place before (Some Nothing) = true
is_in_place before (Some (Core workers places)) = not (is_there (cores before))
is_in_place before (Some (Tenant limits)) =
    (is_there (cores before) && not (is_there (items before)))
    && nat_lt (length (tenants before)) TENANTS
is_in_place before (Some (ToDo action)) = is_there (tenants before)

-- the number of the first line that isn't in its place after those before it
abbrev pub first_misplaced : List Statement → List Statement → Option ℕ
first_misplaced before [] = None
first_misplaced before (one ∷ others) =
    if is_in_place before one.1 then first_misplaced (before ++ one ∷ []) others else Some one.0
