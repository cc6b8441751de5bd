-- Each worker's part in one run of all of them.
use Rattle.std.proofs.Common.{◌≡◌, ◌<◌, ℕ, List, [], ◌∷◌, length, map, Some, slice_get, refl, sym, ap, subst, ◌∙◌, arith}
use Rattle.std.proofs.lemmas.Option.{slice_get-map}
use Rattle.std.specs.Option.{option_map}
use Rattle.mc_model.specs.declared.shown.LogSize.{LogSize}
use Rattle.mc_model.specs.declared.shown.ShownState.{ShownState}
use Rattle.mc_model.specs.Helping.{LogLaw}
use Rattle.mc_model.specs.Lawful.{IsReached, IsWorker, LeadOn, ShownEvent}
use Rattle.mc_model.specs.Shown.{new_log}
use Rattle.model_lemmas.proofs.Waiting.{is_lawful}
use Rattle.uc_log.specs.declared.log.Log.{Log}
use Rattle.uc_log.specs.Passes.{size_of}
use Rattle.uc_places.specs.Run.{HasMade}
use Rattle.uc_worker.specs.declared.worker.Worker.{Worker}
use Rattle.uc_refinement.specs.Refinement.{AreAllOf}
use Rattle.uc_worker.specs.AllWorkers.{AreOnOneRun, own_part}

-- a run from the opening reaches its end
pub reached : (size : LogSize) (run : List ShownEvent) (from log : ShownState) → IsReached size from → LeadOn size from run log → IsReached size log
reached size [] from log so_far lead = subst (IsReached size) (sym lead) so_far
reached size (event ∷ run) from log so_far lead = reached size run lead.0 log ((event ∷ so_far.0), (from, so_far.1, lead.1)) lead.2

module _ (log : Log) (workers : List Worker) (all : AreAllOf log workers) (one : AreOnOneRun workers) where
  pub some : 0 < length workers
  some = let least = log.lawful.workers.0 in omega (arith, all.many, least)

  part_at : (place : ℕ) (worker : Worker) → slice_get workers place ≡ Some worker → slice_get (map own_part workers) place ≡ Some (own_part worker)
  part_at place worker at = slice_get-map own_part workers place ∙ ap (option_map own_part) at

  size_at : (place : ℕ) (worker : Worker) → slice_get workers place ≡ Some worker → one.0 ≡ size_of log
  size_at place worker at = sym (one.2.sized place (own_part worker) (part_at place worker at)) ∙ (worker.of.1 ∙ ap size_of (all.of place worker at))

  pub sized : one.0 ≡ size_of log
  sized = by_first workers refl
    where
      by_first : (list : List Worker) → workers ≡ list → one.0 ≡ size_of log
      by_first [] is = absurd (let none = ap length is in omega (arith, none, some))
      by_first (worker ∷ list) is = size_at 0 worker (ap (λ (l : List Worker). slice_get l 0) is)

  pub shown_at : (place : ℕ) (worker : Worker) → slice_get workers place ≡ Some worker → IsWorker one.1 place (own_part worker).state
  shown_at place worker at = subst (λ (number : ℕ). IsWorker one.1 number (own_part worker).state) (all.numbers place worker at)
      (one.2.shown place (own_part worker) (part_at place worker at))

  pub made_at : (place : ℕ) (worker : Worker) → slice_get workers place ≡ Some worker → HasMade one.2.run place (own_part worker).calls
  made_at place worker at = subst (λ (number : ℕ). HasMade one.2.run number (own_part worker).calls) (all.numbers place worker at)
      (one.2.own place (own_part worker) (part_at place worker at))

  pub lawful : LogLaw one.0 one.1
  lawful = is_lawful one.0 one.1 (reached one.0 one.2.run (new_log one.0) one.1 ([], refl) one.2.lead)
