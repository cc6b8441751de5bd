-- Replicas as contracts see them: this project's profile.
use Rattle.std.specs.Prelude.{◌≡◌, ℕ, ◌≤◌, false, List, [], ◌∷◌, ◌++◌, length, Option, Some, Result, IfSome, IsOk, IsOkUnless, OnErr, OnOk, refl, slice_get}
use Rattle.std.specs.Coded.{Coded, code_by, coded×, coded_ℕ, coded_list}
use Rattle.mc_model.specs.declared.request.Entry.{Entry}
use Rattle.mc_items.specs.Asker.{is_own}
use Rattle.mc_model.specs.declared.fault.Fault.{Fault}
use Rattle.mc_model.specs.declared.fault.Fault.TheVariants.{Memory}
use Rattle.mc_model.specs.Kinds.{IsRetrieval, NeedsNoMemory}
use Rattle.mc_model.specs.Replay.{EachStands, HaveRoom, IsNobodys, IsRefused, TakeEffect, empty_tables}
use Rattle.mc_model.specs.State.{TableState, coded_state}
use Rattle.mc_replica.specs.declared.replica.Opening.{Opening}
use Rattle.mc_replica.specs.declared.replica.Opening.TheVariants.{Empty, Over}
use Rattle.uc_cells.specs.Sighting.{Sighting, coded_sighting, entries}

-- the entry that was seen; an entry of another ticket already counts as absent
abbrev pub entry_of : Sighting → Option Entry
entry_of seen = seen.entry

-- at each place that both histories reach, they have sightings of the same ticket in the same row
abbrev pub SameCells : List Sighting → List Sighting → Type 0
SameCells ones others = (place : ℕ) (one other : Sighting) → slice_get ones place ≡ Some one →
    slice_get others place ≡ Some other → (one.ticket ≡ other.ticket) × (one.row ≡ other.row)

-- the tables that a replica was opened over: empty ones, or those of a base
abbrev pub opened_by : Opening → List TableState
opened_by (Empty limits) = empty_tables limits.items
opened_by (Over base) = base.now

-- its worker, how many places its history may have, each tenant's table as it was opened, what was
-- seen of the places, and each tenant's table
pub record ReplicaState : Type 0 where
  pub worker : ℕ
  pub places : ℕ
  pub openings : List TableState
  pub history : List Sighting
  pub tables : List TableState

-- how it is stored as a model's value
abbrev pub coded_replica : Coded ReplicaState
coded_replica =
    code_by (ℕ × (ℕ × (List TableState × (List Sighting × List TableState))))
    (coded× coded_ℕ (coded× coded_ℕ (coded× (coded_list coded_state)
    (coded× (coded_list coded_sighting) (coded_list coded_state)))))
    (λ r. (r.worker, (r.places, (r.openings, (r.history, r.tables)))))
    (λ p. record {
      worker = p.0;
      places = p.1.0;
      openings = p.1.1.0;
      history = p.1.1.1.0;
      tables = p.1.1.1.1;
    })
    (λ _. refl)

-- what holds of a replica's fields at all times, if its history has capacity for `room` sightings
pub record IsSoundReplica (places room : ℕ) (openings : List TableState) (history : List Sighting)
    (tables : List TableState) : Type 0 where
  pub few : length history ≤ places
  pub reserved : places ≤ room
  pub uniques : HaveRoom openings places
  pub stands : EachStands openings (entries history) tables

-- what the replay of one more place does, if this was seen there and the asker is answered. Each
-- table takes its own tenant's command alone. An entry that is nobody's changes no table, and
-- counts as refused; a refused command needs no memory, nor does one that removes keys or sets
-- quotas, nor a retrieval that isn't the asker's own. At `Memory` nothing changes.
pub record Replays {A : Type 0} (asker : Option ℕ) (seen : Sighting) (old new : ReplicaState)
    (result : Result A Fault) : Type 0 where
  pub history : OnOk result (new.history ≡ old.history ++ seen ∷ [])
  pub tables : OnOk result (TakeEffect seen.entry old.tables new.tables)
  pub untouched : IsNobodys old.openings seen.entry → new.tables ≡ old.tables
  pub tenants : length new.tables ≡ length old.tables
  pub stands : EachStands new.openings (entries new.history) new.tables
  pub openings : new.openings ≡ old.openings
  pub worker : new.worker ≡ old.worker
  pub places : new.places ≡ old.places
  pub no_memory : IfSome seen.entry (λ entry. NeedsNoMemory entry.command) → IsOk result
  pub reads :
      IfSome seen.entry (λ entry. IsRetrieval entry.command × (is_own asker entry ≡ false)) →
      IsOk result
  pub refused : IsRefused old.openings (entries old.history) seen.entry → IsOk result
  pub memory : IsOkUnless result Memory
  pub unchanged : OnErr result (new ≡ old)
