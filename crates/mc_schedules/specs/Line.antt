-- The lines of an event list, and what each says by its words; this form is this project's profile.
use Rattle.std.specs.Prelude.{ℕ, Bool, false, ◌==◌, if◌then◌else◌, List, [], ◌∷◌, Option, Some, None, option_map, codes}
use Rattle.std.specs.List.{slice_split}
use Rattle.mc_model.specs.declared.command.Command.{Command}
use Rattle.mc_model.specs.Number.{number_up_to}
use Rattle.mc_read.specs.First.{is_line_feed}
use Rattle.mc_read.specs.Word.{is_word, spaced_words}
use Rattle.uc_core.specs.declared.event.Event.{Event}
use Rattle.uc_core.specs.declared.event.Event.TheVariants.{Announce, Look, Propose, Read, Replay, Stop}
use Rattle.mc_schedules.specs.declared.command.TheConstants.{NUMBER}
use Rattle.mc_schedules.specs.declared.line.Said.{Said}
use Rattle.mc_schedules.specs.declared.line.Said.TheVariants.{Core, Nothing, Tenant, ToDo}
use Rattle.mc_schedules.specs.declared.line.TheConstants.{NAMED}
use Rattle.mc_schedules.specs.declared.schedule.Action.TheVariants as action
use Rattle.mc_schedules.specs.Command.{command_of}

-- what line feeds separate; after a last line feed there is a line of no bytes, which says nothing
abbrev pub lines : List ℕ → List (List ℕ)
lines bytes = slice_split is_line_feed bytes

-- the line's first byte is a number sign
abbrev pub is_comment : List ℕ → Bool
is_comment [] = false
is_comment (byte ∷ bytes) = byte == 35

-- the number of a worker or a tenant, which may not exist
abbrev pub named : List ℕ → Option ℕ
named word = number_up_to NAMED word

abbrev pub both_numbers : Option ℕ → Option ℕ → Option (ℕ × ℕ)
both_numbers (Some one) (Some other) = Some (one, other)
both_numbers one other = None

-- two numbers of at most 64 bits
abbrev pub pair_of : List (List ℕ) → Option (ℕ × ℕ)
pair_of (one ∷ other ∷ []) = both_numbers (number_up_to NUMBER one) (number_up_to NUMBER other)
pair_of arguments = None

-- a worker
abbrev pub named_worker : List (List ℕ) → Option ℕ
named_worker (worker ∷ []) = named worker
named_worker arguments = None

abbrev pub ordering : Option ℕ → Option ℕ → Option Command → Option (ℕ × ℕ × Command)
ordering (Some worker) (Some tenant) (Some command) = Some (worker, tenant, command)
ordering worker tenant command = None

-- a worker, a tenant and a command
abbrev pub order_of : List (List ℕ) → Option (ℕ × ℕ × Command)
order_of (worker ∷ tenant ∷ command) = ordering (named worker) (named tenant) (command_of command)
order_of arguments = None

abbrev pub event : Event → Said
event one = ToDo (action.Event one)

-- a step of the worker that the words name
abbrev pub step_of : (ℕ → Event) → List (List ℕ) → Option Said
step_of step arguments = option_map (λ worker. event (step worker)) (named_worker arguments)

-- what a line says, by its first word, byte for byte; `None` if it has no known form
abbrev pub said_by : List (List ℕ) → Option Said
said_by [] = Some Nothing
said_by (name ∷ arguments) =
    if is_word name (codes "core")
    then option_map (λ (size : ℕ × ℕ). Core size.0 size.1) (pair_of arguments)
    else if is_word name (codes "tenant")
    then option_map (λ (limits : ℕ × ℕ). Tenant (record { items = limits.0; bytes = limits.1 }))
    (pair_of arguments)
    else if is_word name (codes "announce")
    then option_map (λ (order : ℕ × ℕ × Command). event (Announce order.0 order.1 order.2))
    (order_of arguments)
    else if is_word name (codes "submit")
    then option_map (λ (order : ℕ × ℕ × Command). ToDo (action.Submit order.0 order.1 order.2))
    (order_of arguments)
    else if is_word name (codes "read") then step_of Read arguments
    else if is_word name (codes "look") then step_of Look arguments
    else if is_word name (codes "propose") then step_of Propose arguments
    else if is_word name (codes "replay") then step_of Replay arguments
    else if is_word name (codes "stop") then step_of Stop arguments else None

-- a comment says nothing, and so does a line without words
abbrev pub said : List ℕ → Option Said
said line = if is_comment line then Some Nothing else said_by (spaced_words line)
