-- Workers that were opened with passes that were never used.
use Rattle.std.proofs.Common.{◌≡◌, ◌∙◌, ℕ, ◌+◌, ◌<◌, suc, All, List, [], ◌∷◌, Some, Result, Ok, Err, Vec, Global, MatchResult, length, map, slice_get, slice_index_or, ap, refl, subst, arith}
use Rattle.std.proofs.Math.ListN.{get_or-map}
use Rattle.std.proofs.lemmas.List.{length-map, nil_from_length}
use Rattle.std.proofs.lemmas.Option.{get_or_from_slice_get, slice_get_within}
use Rattle.mc_model.specs.declared.fault.Fault.{Fault}
use Rattle.mc_model.specs.declared.fault.Fault.TheVariants.{Memory}
use Rattle.mc_model.specs.State.{TableState}
use Rattle.mc_server.specs.Crew.{HasDoneNothing, number_of}
use Rattle.mc_server.specs.Listeners.{CountsFrom}
use Rattle.mc_server.specs.Logs.{AreOpenedOver, OpensOver}
use Rattle.uc_log.specs.declared.log.Log.{Log}
use Rattle.uc_log.specs.declared.pass.Pass.{Pass}
use Rattle.uc_log.specs.Passes.{IsNew, IsUnusedPass}
use Rattle.uc_worker.specs.Cited.{View}
use Rattle.uc_worker.specs.declared.worker.Worker.{Worker}
use Rattle.uc_worker.specs.Worker.{announced_of}

-- workers that have the numbers of their places, from this one on
counts_from : (first : ℕ) (workers : List Worker) → ((place : ℕ) (worker : Worker) → slice_get workers place ≡ Some worker → number_of worker ≡ first + place) → CountsFrom first (map number_of workers)
counts_from first [] numbers = tt
counts_from first (x ∷ xs) numbers =
    (omega (arith, numbers 0 x refl), counts_from (first + 1) xs (λ place worker at. omega (arith, numbers (suc place) worker at)))

abbrev as_opened : Worker → Result Worker Fault
as_opened worker = Ok worker

-- with each pass a worker was opened, or memory ran out
module _ (log : Log) (tables : List TableState) (passes : List Pass) (results : List (Result Worker Fault)) (count : length results ≡ length passes) (workers_of : length passes ≡ log.settings.workers)
    (new : (number : ℕ) (pass : Pass) → slice_get passes number ≡ Some pass → IsNew log number pass)
    (unused : (number : ℕ) (pass : Pass) → slice_get passes number ≡ Some pass → IsUnusedPass log pass)
    (opens : (place : ℕ) (other : Result Worker Fault) → place < length passes → (pass : Pass) × (slice_get passes place ≡ Some pass) × OpensOver log tables pass (slice_index_or results place other)) where
  -- if all were opened
  module _ (workers : List Worker) (all : results ≡ map (λ (worker : Worker). Ok worker) workers) where
    many : length workers ≡ length passes
    many = omega (arith, length-map workers as_opened, ap length all, count)

    opened_at : (place : ℕ) (other : Worker) → place < length workers → (pass : Pass) × (slice_get passes place ≡ Some pass) × OpensOver log tables pass (Ok (slice_index_or workers place other))
    opened_at place other inside =
        let at = opens place (Ok other) (omega (arith, inside, many)) in
        let is : slice_index_or results place (Ok other) ≡ Ok (slice_index_or workers place other) =
        ap (λ list. slice_index_or list place (Ok other)) all ∙ get_or-map as_opened workers place other
        in
        (at.0, at.1, subst (OpensOver log tables at.0) is at.2)

    nothing : All HasDoneNothing workers
    nothing place other inside =
        let at = opened_at place other inside in
        let worker = slice_index_or workers place other in
        let fresh = unused place at.0 at.1 in
        let announced = ap (λ (view : View). view.state.announced) at.2.1 in
        (nil_from_length (announced_of worker) (omega (arith, worker.pass.count, announced, fresh.unused)), at.2.2)

    number_is : (place : ℕ) (worker : Worker) → slice_get workers place ≡ Some worker → number_of worker ≡ place
    number_is place worker here =
        let at = opened_at place worker (slice_get_within workers place worker here) in
        let same : slice_index_or workers place worker ≡ worker = get_or_from_slice_get workers place worker worker here in
        subst (λ (it : Worker). number_of it ≡ place) same (ap (λ (view : View). view.worker) at.2.1 ∙ ap (λ (view : View). view.worker) (new place at.0 at.1).1)

    all_over : AreOpenedOver log.settings log tables workers
    all_over = record {
      all = record {
        opened = refl;
        of = λ place other inside. (opened_at place other inside).2.0;
        many = many ∙ workers_of;
        numbers = counts_from 0 workers (λ place worker here. omega (arith, number_is place worker here));
      };
      new = nothing;
      over = λ place other inside. (opened_at place other inside).2.3;
    }

  pub opened_over : (result : Result (Vec Worker Global) Fault) → MatchResult result (λ workers. results ≡ map (λ (worker : Worker). Ok worker) workers.items) (λ fault. fault ≡ Memory) →
      MatchResult result (λ workers. AreOpenedOver log.settings log tables workers.items) (λ fault. fault ≡ Memory)
  opened_over (Ok workers) is = all_over workers.items is
  opened_over (Err fault) is = is
