-- The state of the core: what the log shows, and with it what each worker has announced and
-- replayed. The log is Herlihy's universal construction (Wait-Free Synchronization, TOPLAS 1991);
-- tenants and their quotas are this project's profile.
use Rattle.std.specs.Prelude.{ℕ, List, [], length, map, replicate, Option, slice_get, refl}
use Rattle.std.specs.Coded.{Coded, code_by, coded×, coded_ℕ, coded_list}
use Rattle.std.specs.Option.{option_and_then}
use Rattle.mc_model.specs.contracts.request.Entry as entry_row
use Rattle.mc_model.specs.contracts.shown.ShownState as shown_row
use Rattle.mc_model.specs.declared.id.Ticket.{Ticket}
use Rattle.mc_model.specs.declared.request.Entry.{Entry}
use Rattle.mc_model.specs.declared.settings.Limits.{Limits}
use Rattle.mc_model.specs.declared.shown.LogSize.{LogSize}
use Rattle.mc_model.specs.declared.shown.ShownState.{ShownState}
use Rattle.mc_model.specs.Replay.{empty_tables}
use Rattle.mc_model.specs.Settings.{Configuration}
use Rattle.mc_model.specs.Shown.{new_log}
use Rattle.mc_model.specs.State.{TableState, coded_limits, coded_state}

-- how many places a worker has replayed, and its tables of all tenants
pub record ReplayState : Type 0 where
  pub replayed : ℕ
  pub tables : List TableState

-- the number of places and each tenant's quotas; what the log shows; what each worker announced, in
-- order, and what it has replayed
pub record CoreState : Type 0 where
  pub places : ℕ
  pub openings : List Limits
  pub shown : ShownState
  pub entries : List (List Entry)
  pub replays : List ReplayState

abbrev pub core_size : CoreState → LogSize
core_size core = record { workers = length core.shown.workers; places = core.places }

-- the core before any event
abbrev pub new_core : Configuration → CoreState
new_core settings = record {
  places = settings.places;
  openings = settings.tenants;
  shown = new_log (record { workers = settings.workers; places = settings.places });
  entries = replicate settings.workers [];
  replays = replicate settings.workers
      (record { replayed = 0; tables = empty_tables settings.tenants });
}

-- the entry that was announced under a ticket
abbrev pub entry_under : CoreState → Ticket → Option Entry
entry_under core ticket =
    option_and_then (λ (announced : List Entry). slice_get announced ticket.number)
    (slice_get core.entries ticket.worker)

-- the log: the entry of each decided place
abbrev pub log_of : CoreState → List (Option Entry)
log_of core = map (entry_under core) core.shown.decided

-- how it is stored as a model's value
abbrev pub coded_replay : Coded ReplayState
coded_replay =
    code_by (ℕ × List TableState) (coded× coded_ℕ (coded_list coded_state))
    (λ r. (r.replayed, r.tables)) (λ p. record { replayed = p.0; tables = p.1 }) (λ _. refl)

abbrev pub coded_core : Coded CoreState
coded_core =
    code_by (ℕ × (List Limits × (ShownState × (List (List Entry) × List ReplayState))))
    (coded× coded_ℕ (coded× (coded_list coded_limits)
    (coded× shown_row.the_row.coded
    (coded× (coded_list (coded_list entry_row.the_row.coded)) (coded_list coded_replay)))))
    (λ c. (c.places, (c.openings, (c.shown, (c.entries, c.replays)))))
    (λ p. record {
      places = p.0;
      openings = p.1.0;
      shown = p.1.1.0;
      entries = p.1.1.1.0;
      replays = p.1.1.1.1;
    })
    (λ _. refl)
