-- Runs of the core: any finite list of events, of any workers in any order. The log is Herlihy's
-- universal construction (Wait-Free Synchronization, TOPLAS 1991); replies, their places and faults
-- are this project's profile.
use Rattle.std.specs.Prelude.{◌≡◌, ℕ, List, [], ◌∷◌, ◌++◌, length, Option, Some, true, Result, Ok, Err, slice_get}
use Rattle.std.specs.Option.{option_map, option_map_or, option_to_list, unwrap_or}
use Rattle.mc_model.specs.declared.fault.Fault.{Fault}
use Rattle.mc_model.specs.declared.fault.Fault.TheVariants.{Memory}
use Rattle.mc_model.specs.declared.reply.Reply.{Reply}
use Rattle.mc_model.specs.Settings.{Configuration}
use Rattle.uc_core.specs.Core.{CoreState, ReplayState, new_core}
use Rattle.uc_core.specs.Step.{CoreStep, actor, is_quiet, refusal}
use Rattle.uc_core.specs.declared.event.Event.{Event}
use Rattle.uc_core.specs.declared.event.RunFault.{RunFault}

-- a reply that was given: the worker, the place of its command in the log, and the reply
abbrev pub Given : Type 0
Given = ℕ × ℕ × Reply

-- how many places a worker has replayed
abbrev pub replayed_by : CoreState → ℕ → ℕ
replayed_by core number =
    option_map_or (λ (replay : ReplayState). replay.replayed) (slice_get core.replays number) 0

-- what an event gives: its reply, if any, with its worker and the place that the worker replays
abbrev pub given_by : CoreState → Event → Option Reply → List Given
given_by core event reply =
    option_to_list
    (option_map (λ (it : Reply). (actor event, replayed_by core (actor event), it)) reply)

-- events in their order lead from one state to another, and give these replies
abbrev pub Runs : CoreState → List Event → CoreState → List Given → Type 0
Runs old [] new given = (new ≡ old) × (given ≡ [])
Runs old (event ∷ events) new given =
    (next : CoreState) × (reply : Option Reply) × (later : List Given)
    × CoreStep old event next reply × Runs next events new later
    × (given ≡ given_by old event reply ++ later)

-- how many events of a run were taken, if it ended with this result
abbrev pub done : List Event → Result (Unit {0}) RunFault → ℕ
done events (Ok nothing) = length events
done events (Err fault) = fault.at

-- the fault of a run's event: that of its first condition that fails, or `Memory` if all are met,
-- which only an announcement or a replay can meet
abbrev pub IsFaultOf : CoreState → Event → Fault → Type 0
IsFaultOf core event fault =
    (fault ≡ unwrap_or (refusal core event) Memory)
    × (is_quiet event ≡ true → refusal core event ≡ Some fault)

-- a run from the core's opening
abbrev pub IsRun : Configuration → List Event → CoreState → List Given → Type 0
IsRun settings events core given = Runs (new_core settings) events core given

-- some run from some opening leads to the core
abbrev pub IsReachedCore : CoreState → Type 0
IsReachedCore core =
    (settings : Configuration) × (events : List Event) × (given : List Given)
    × IsRun settings events core given
