-- The core's log of a closed log is the history that its workers have.
use Rattle.std.proofs.Common.{◌≡◌, ◌<◌, ◌≤◌, ℕ, List, [], ◌∷◌, ◌++◌, length, length-append, append-nil, All, Option, Some, slice_get, ap, refl, subst, ◌∙◌, arith}
use Rattle.std.proofs.lemmas.List.{length-map, nil_from_length}
use Rattle.std.proofs.lemmas.List.Elements.{All-head}
use Rattle.std.proofs.lemmas.Option.{get_or_from_slice_get, slice_get_within}
use Rattle.mc_model.specs.declared.request.Entry.{Entry}
use Rattle.mc_model.specs.declared.shown.ShownState.{ShownState}
use Rattle.mc_model.specs.State.{TableState}
use Rattle.uc_cells.specs.Sighting.{Sighting, entries}
use Rattle.uc_core.specs.Core.{entry_under, log_of}
use Rattle.uc_log.specs.declared.log.Log.{Log}
use Rattle.uc_laws.specs.CoreRun.{RunsAsCore}
use Rattle.uc_worker.specs.declared.worker.Worker.{Worker}
use Rattle.uc_refinement.specs.Refinement.{AreAllOf, AreOver, ClosedLogsRunTheCore, DoOneCoreRun, OwnHaveTheirReplies}
use Rattle.uc_worker.specs.AllWorkers.{AreOnOneRun}
use Rattle.uc_worker.specs.TurningOver.{HaveOneHistory, IsUpToDateAt}
use Rattle.uc_worker.specs.Worker.{history_of, openings_of}
use Rattle.uc_refinement.proofs.Behind.{nothing_behind_all}
use Rattle.uc_refinement.proofs.OneCoreRun.{all_do_one_core_run, log_is}
use Rattle.uc_refinement.proofs.PartsOfOneRun.{some}

module _ (tables : List TableState) (log : Log) (workers : List Worker) (places : ℕ) (all : AreAllOf log workers) (run : AreOnOneRun workers)
    (same : HaveOneHistory workers) (done : All (IsUpToDateAt places) workers) (one : DoOneCoreRun log.settings tables workers) (is : one.log ≡ run.1) where
  long : length (log_of one.core.core) ≡ places
  long = length-map one.core.core.shown.decided (entry_under one.core.core)
      ∙ (ap (λ (state : ShownState). length state.decided) (one.core.shown ∙ is) ∙ nothing_behind_all log workers run places all done)

  whole : (number : ℕ) (worker : Worker) → slice_get workers number ≡ Some worker → log_of one.core.core ≡ entries (history_of worker)
  whole number worker at =
      let begins = one.replayed same number worker at in
      let inside = slice_get_within workers number worker at in
      let its : IsUpToDateAt places worker = subst (IsUpToDateAt places) (get_or_from_slice_get workers number worker worker at) (done number worker inside) in
      let history : length (entries (history_of worker)) ≡ places = length-map (history_of worker) (λ (seen : Sighting). seen.entry) ∙ its.1 in
      let parts = ap length begins.1 ∙ length-append (entries (history_of worker)) begins.0 in
      let none : begins.0 ≡ [] = nil_from_length begins.0 (omega (arith, long, history, parts)) in
      begins.1 ∙ (ap (λ (rest : List (Option Entry)). entries (history_of worker) ++ rest) none ∙ append-nil (entries (history_of worker)))

-- each tenant of the log has a table
table_for_each : (tables : List TableState) (log : Log) (workers : List Worker) → AreAllOf log workers → AreOver tables workers → 0 < length workers →
    length log.settings.tenants ≤ length tables
table_for_each tables log [] all over some = absurd (omega (arith, some))
table_for_each tables log (worker ∷ workers) all over some =
    let its = ap (λ (list : List TableState). length list) (All-head (λ (it : Worker). openings_of it ≡ tables) worker workers over) in
    let known = ap (λ (it : Log). length it.settings.tenants) (all.of 0 worker refl) in
    omega (arith, its, known, worker.opened.1)

pub closed_logs_run_the_core : RunsAsCore → OwnHaveTheirReplies → ClosedLogsRunTheCore
closed_logs_run_the_core law replies tables log workers places all over run same done =
    let one = all_do_one_core_run law tables log workers all run in record {
      over = over;
      one = one;
      whole = whole tables log workers places all run same done one (log_is law tables log workers all run);
      replies = replies log.settings tables workers one (table_for_each tables log workers all over (some log workers all run)) same;
    }
