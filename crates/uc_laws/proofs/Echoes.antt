-- Which events a core can take, and what they make of all but its tables, doesn't depend on these: so
-- a run over tables is, with other tables and other replies, a run over these.
use Rattle.std.proofs.Common.{◌≡◌, ℕ, zero, suc, ◌+◌, ◌<◌, List, [], ◌∷◌, ◌++◌, length, replicate, Option, None, Some, slice_get, slice_set, ⊎_elim, refl, sym, ap, subst, ◌∙◌}
use Rattle.std.proofs.lemmas.Bool.{cases_eq}
use Rattle.std.proofs.lemmas.Option.{none-some, same_Some, slice_get_within}
use Rattle.std.specs.Option.{option_map}
use Rattle.lists.proofs.Public.{set_elsewhere, set_here}
use Rattle.mc_model.specs.declared.command.Command.{Command}
use Rattle.mc_model.specs.declared.reply.Reply.{Reply}
use Rattle.mc_model.specs.declared.request.Entry.{Entry}
use Rattle.mc_model.specs.Replay.{empty_tables, reply_from}
use Rattle.mc_model.specs.Settings.{Configuration}
use Rattle.mc_model.specs.State.{TableState}
use Rattle.uc_core.specs.Core.{CoreState, ReplayState, new_core}
use Rattle.uc_core.specs.Run.{Given, Runs, given_by}
use Rattle.uc_core.specs.Step.{CoreStep, entry_at}
use Rattle.uc_core.specs.declared.event.Event.{Event}
use Rattle.uc_core.specs.declared.event.Event.TheVariants.{Announce, Look, Propose, Read, Replay, Stop}
use Rattle.uc_laws.proofs.Effects.{effects, takes_effect}
use Rattle.uc_laws.specs.CoreRun.{core_over}

-- each worker has replayed as many places here as there
abbrev pub counted : Option ReplayState → Option ℕ
counted found = option_map (λ (replay : ReplayState). replay.replayed) found

abbrev pub AreAlike : List ReplayState → List ReplayState → Type 0
AreAlike replays others = (number : ℕ) → counted (slice_get others number) ≡ counted (slice_get replays number)

pub found_alike : (replays others : List ReplayState) (number : ℕ) (one : ReplayState) → AreAlike replays others → slice_get replays number ≡ Some one →
    (other : ReplayState) × (slice_get others number ≡ Some other) × (other.replayed ≡ one.replayed)
found_alike replays others number one alike at = by_found (slice_get others number) refl (alike number ∙ ap counted at)
  where
    by_found : (found : Option ReplayState) → slice_get others number ≡ found → counted found ≡ Some one.replayed →
        (other : ReplayState) × (slice_get others number ≡ Some other) × (other.replayed ≡ one.replayed)
    by_found None there is = absurd (none-some one.replayed is)
    by_found (Some other) there is = (other, there, same_Some other.replayed one.replayed is)

abbrev pub with_replays : CoreState → List ReplayState → CoreState
with_replays core replays = record core { replays = replays }

-- one event over other tables
pub record Echo (old : CoreState) (event : Event) (new : CoreState) (reply : Option Reply) (others : List ReplayState) : Type 0 where
  pub later : List ReplayState
  pub told : Option Reply
  pub step : CoreStep (with_replays old others) event (with_replays new later) told
  pub alike : AreAlike new.replays later

-- an event that replays nothing
unmoved : (old new : CoreState) (event : Event) (reply : Option Reply) (others : List ReplayState) → new.replays ≡ old.replays →
    AreAlike old.replays others → CoreStep (with_replays old others) event (with_replays new others) reply → Echo old event new reply others
unmoved old new event reply others same alike step = record {
  later = others;
  told = reply;
  step = step;
  alike = subst (λ (list : List ReplayState). AreAlike list others) (sym same) alike;
}

pub announce_echoes : (old new : CoreState) (number tenant : ℕ) (command : Command) (reply : Option Reply) (others : List ReplayState) →
    CoreStep old (Announce number tenant command) new reply → CoreStep (with_replays old others) (Announce number tenant command) (with_replays new others) reply
announce_echoes old new number tenant command reply others step =
    (step.0, step.1, ap (λ (core : CoreState). with_replays core others) step.2, step.3)

pub stop_echoes : (old new : CoreState) (number : ℕ) (reply : Option Reply) (others : List ReplayState) →
    CoreStep old (Stop number) new reply → CoreStep (with_replays old others) (Stop number) (with_replays new others) reply
stop_echoes old new number reply others step = (step.0, ap (λ (core : CoreState). with_replays core others) step.1, step.2)

-- a replay
module _ (old new : CoreState) (number : ℕ) (reply : Option Reply) (others : List ReplayState) (alike : AreAlike old.replays others)
    (step : CoreStep old (Replay number) new reply) where
  abbrev its : (other : ReplayState) × (slice_get others number ≡ Some other) × (other.replayed ≡ step.3.replayed)
  its = found_alike old.replays others number step.3 alike step.4

  abbrev entry : Option Entry
  entry = entry_at old its.0.replayed

  abbrev over : ReplayState
  over = record { replayed = step.3.replayed + 1; tables = step.6 }

  abbrev further : ReplayState
  further = record { replayed = its.0.replayed + 1; tables = effects 0 entry its.0.tables }

  all_alike : AreAlike (slice_set old.replays number over) (slice_set others number further)
  all_alike other = ⊎_elim
      (λ (here : other ≡ number). subst (λ (n : ℕ). counted (slice_get (slice_set others number further) n) ≡ counted (slice_get (slice_set old.replays number over) n))
      (sym here)
      (ap counted (set_here others number further (slice_get_within others number its.0 its.1))
      ∙ (ap (λ (n : ℕ). Some (n + 1)) its.2
      ∙ sym (ap counted (set_here old.replays number over (slice_get_within old.replays number step.3 step.4))))))
      (λ apart. ap counted (set_elsewhere others number other further apart) ∙ (alike other ∙ sym (ap counted (set_elsewhere old.replays number other over apart))))
      (cases_eq other number)

  replay_echoes : Echo old (Replay number) new reply others
  replay_echoes = record {
    later = slice_set others number further;
    told = reply_from number its.0.tables entry;
    step = (
      step.0,
      step.1,
      step.2,
      its.0,
      its.1,
      subst (λ (n : ℕ). n < length step.0.learned) (sym its.2) step.5,
      effects 0 entry its.0.tables,
      takes_effect entry its.0.tables,
      ap (λ (core : CoreState). with_replays core (slice_set others number further)) step.8,
      refl,
    );
    alike = subst (λ (list : List ReplayState). AreAlike list (slice_set others number further)) (sym (ap (λ (core : CoreState). core.replays) step.8)) all_alike;
  }

pub echoes : (old new : CoreState) (event : Event) (reply : Option Reply) (others : List ReplayState) → AreAlike old.replays others →
    CoreStep old event new reply → Echo old event new reply others
echoes old new (Announce number tenant command) reply others alike step =
    unmoved old new (Announce number tenant command) reply others (ap (λ (core : CoreState). core.replays) step.2) alike
    (announce_echoes old new number tenant command reply others step)
echoes old new (Read number) reply others alike step =
    unmoved old new (Read number) reply others (ap (λ (core : CoreState). core.replays) step.1) alike
    (step.0, ap (λ (core : CoreState). with_replays core others) step.1, step.2)
echoes old new (Look number) reply others alike step =
    unmoved old new (Look number) reply others (ap (λ (core : CoreState). core.replays) step.1) alike
    (step.0, ap (λ (core : CoreState). with_replays core others) step.1, step.2)
echoes old new (Propose number) reply others alike step =
    unmoved old new (Propose number) reply others (ap (λ (core : CoreState). core.replays) step.1) alike
    (step.0, ap (λ (core : CoreState). with_replays core others) step.1, step.2)
echoes old new (Stop number) reply others alike step =
    unmoved old new (Stop number) reply others (ap (λ (core : CoreState). core.replays) step.1) alike
    (stop_echoes old new number reply others step)
echoes old new (Replay number) reply others alike step = replay_echoes old new number reply others alike step

-- a run over other tables
pub record Echoed (old : CoreState) (events : List Event) (new : CoreState) (given : List Given) (others : List ReplayState) : Type 0 where
  pub later : List ReplayState
  pub told : List Given
  pub runs : Runs (with_replays old others) events (with_replays new later) told
  pub alike : AreAlike new.replays later

pub run_echoes : (old new : CoreState) (events : List Event) (given : List Given) (others : List ReplayState) → AreAlike old.replays others →
    Runs old events new given → Echoed old events new given others
run_echoes old new [] given others alike runs = record {
  later = others;
  told = given;
  runs = (ap (λ (core : CoreState). with_replays core others) runs.0, runs.1);
  alike = subst (λ (core : CoreState). AreAlike core.replays others) (sym runs.0) alike;
}
run_echoes old new (event ∷ events) given others alike runs =
    let first = echoes old runs.0 event runs.1 others alike runs.3 in
    let rest = run_echoes runs.0 new events runs.2 first.later first.alike runs.4 in record {
      later = rest.later;
      told = given_by (with_replays old others) event first.told ++ rest.told;
      runs = (with_replays runs.0 first.later, first.told, rest.told, first.step, rest.runs, refl);
      alike = rest.alike;
    }

-- from the openings
replicated_alike : (many : ℕ) (one other : ReplayState) → other.replayed ≡ one.replayed → AreAlike (replicate many one) (replicate many other)
replicated_alike zero one other same k = refl
replicated_alike (suc many) one other same zero = ap (λ (n : ℕ). Some n) same
replicated_alike (suc many) one other same (suc k) = replicated_alike many one other same k

pub open_alike : (settings : Configuration) (tables : List TableState) → AreAlike (core_over settings tables).replays (new_core settings).replays
open_alike settings tables =
    replicated_alike settings.workers (record { replayed = 0; tables = tables }) (record { replayed = 0; tables = empty_tables settings.tenants }) refl
