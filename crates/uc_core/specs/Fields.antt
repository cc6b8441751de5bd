-- What the fields of the core show of its state, and what is true of them at all times: the law of
-- this project's own data structure.
use Rattle.std.specs.Prelude.{◌≡◌, ℕ, ◌≤◌, length, map, Some, slice_get, vec_capacity}
use Rattle.std.specs.Global.{Vec}
use Rattle.mc_model.specs.declared.id.TheConstants.{TENANTS, WORKERS}
use Rattle.mc_model.specs.declared.request.Entry.{Entry}
use Rattle.uc_core.specs.Core.{CoreState}
use Rattle.uc_core.specs.Kept.{IsInOrder, replay_of, shown_worker}
use Rattle.uc_core.specs.Run.{IsReachedCore}
use Rattle.uc_core.specs.declared.machine.Core.TheInside.{Inside}
use Rattle.uc_core.specs.declared.worker.Worker.{Worker}

-- the state of a core with these fields
abbrev pub core_of : Inside → CoreState
core_of s = record {
  places = s.places;
  openings = s.openings.items;
  shown = record {
    decided = s.decided.items;
    workers = map (shown_worker s.decided.items) s.workers.items;
  };
  entries = map (λ (announced : Vec Entry). announced.items) s.entries.items;
  replays = map replay_of s.workers.items;
}

-- each worker is in order, there is capacity for all places, and some run leads to this state
pub record IsCore (s : Inside) : Type 0 where
  pub tenants : length s.openings.items ≤ TENANTS
  pub few : length s.workers.items ≤ WORKERS
  pub lists : length s.entries.items ≡ length s.workers.items
  pub reserved : s.places ≤ vec_capacity s.decided
  pub each : (number : ℕ) (worker : Worker) → slice_get s.workers.items number ≡ Some worker →
      IsInOrder (length s.workers.items) s.places s.decided.items worker
  pub reached : IsReachedCore (core_of s)
