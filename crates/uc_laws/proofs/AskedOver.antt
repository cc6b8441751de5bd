-- What a run's events ask for, by the run over empty tables that it echoes: it has the same events.
use Rattle.std.proofs.Common.{◌≡◌, ℕ, List, Option, None, Some, slice_get, refl, sym, ap, ◌∙◌}
use Rattle.std.specs.Option.{option_map, option_map_or}
use Rattle.mc_model.specs.Settings.{Configuration}
use Rattle.mc_model.specs.State.{TableState}
use Rattle.uc_core.specs.Asked.{AnnouncementsStand, ByEvents, FewProposals, IsOfSettings, ReplaysCount}
use Rattle.uc_core.specs.Core.{CoreState, ReplayState, new_core}
use Rattle.uc_core.specs.Run.{Given, Runs}
use Rattle.uc_core.specs.declared.event.Event.{Event}
use Rattle.uc_laws.proofs.Echoes.{Echoed, open_alike, run_echoes, with_replays}
use Rattle.uc_laws.specs.Over.{ByEventsOver}
use Rattle.uc_laws.specs.CoreRun.{core_over}

echo_of : (settings : Configuration) (tables : List TableState) (events : List Event) (core : CoreState) (given : List Given) →
    Runs (core_over settings tables) events core given → Echoed (core_over settings tables) events core given (new_core settings).replays
echo_of settings tables events core given run = run_echoes (core_over settings tables) core events given (new_core settings).replays (open_alike settings tables) run

pub is_of_settings : ByEvents (λ settings events core. IsOfSettings settings core) → ByEventsOver (λ settings events core. IsOfSettings settings core)
is_of_settings law settings tables events core given run =
    let it = echo_of settings tables events core given run in
    let its = law settings events (with_replays core it.later) it.told it.runs in record { workers = its.workers; places = its.places; tenants = its.tenants }

pub announcements_stand : ByEvents (λ settings events core. AnnouncementsStand events core) → ByEventsOver (λ settings events core. AnnouncementsStand events core)
announcements_stand law settings tables events core given run =
    let it = echo_of settings tables events core given run in
    let its = law settings events (with_replays core it.later) it.told it.runs in record { many = its.many; each = its.each }

-- a count of what was found, by the count that is known of it
by_count : (found : Option ReplayState) → option_map_or (λ (replay : ReplayState). replay.replayed) found 0
    ≡ option_map_or (λ (n : ℕ). n) (option_map (λ (replay : ReplayState). replay.replayed) found) 0
by_count None = refl
by_count (Some replay) = refl

pub replays_count : ByEvents (λ settings events core. ReplaysCount events core) → ByEventsOver (λ settings events core. ReplaysCount events core)
replays_count law settings tables events core given run number =
    let it = echo_of settings tables events core given run in
    by_count (slice_get core.replays number)
    ∙ (ap (λ (found : Option ℕ). option_map_or (λ (n : ℕ). n) found 0) (sym (it.alike number))
    ∙ (sym (by_count (slice_get it.later number)) ∙ law settings events (with_replays core it.later) it.told it.runs number))

pub few_proposals : ByEvents (λ settings events core. FewProposals settings events) → ByEventsOver (λ settings events core. FewProposals settings events)
few_proposals law settings tables events core given run =
    let it = echo_of settings tables events core given run in law settings events (with_replays core it.later) it.told it.runs
