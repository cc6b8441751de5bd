-- The workers' lines one after another.
use Rattle.std.proofs.Common.{◌≡◌, ℕ, ◌+◌, ◌<◌, ◌≤◌, List, [], ◌++◌, length, take, None, ◌∙◌, ap, arith, flat_map, get_or, sym}
use Rattle.std.proofs.lemmas.List.{flat_map_more, take_all, take_more}
use Rattle.std.proofs.lemmas.List.FromFn.{get_or-enumerate_from, length-enumerate_from}
use Rattle.std.specs.List.{enumerate_from}
use Rattle.std.specs.Option.{option_map_or}
use Rattle.mc_model.specs.declared.shown.Phase.TheVariants.{Idle}
use Rattle.mc_model.specs.declared.shown.WorkerState.{WorkerState}
use Rattle.uc_core.specs.Core.{CoreState}
use Rattle.uc_core.specs.Showing.{progress_by}
use Rattle.mc_schedules.specs.Report.{worker_line, workers_text}

-- what is printed of the worker of this number
abbrev pub text_of : CoreState → ℕ → List ℕ
text_of core number = option_map_or (worker_line number) (progress_by core number) []

-- what is printed of the first `number` workers
abbrev pub first_text : CoreState → ℕ → List ℕ
first_text core number = flat_map (λ (one : ℕ × WorkerState). text_of core one.0) (take number (enumerate_from 0 core.shown.workers))

-- some worker, for where a list has none
nobody : WorkerState
nobody = record { phase = Idle; announced = 0; learned = []; mark = None; look = None; proposals = 0 }

module _ (core : CoreState) (number : ℕ) where
  -- numbered, there are as many
  numbered_length : length (enumerate_from 0 core.shown.workers) ≡ length core.shown.workers
  numbered_length = length-enumerate_from 0 core.shown.workers

  -- the numbers are those of the places
  number_at : number < length core.shown.workers → (get_or (enumerate_from 0 core.shown.workers) number (0, nobody)).0 ≡ number
  number_at below =
      let at = ap (λ (one : ℕ × WorkerState). one.0) (get_or-enumerate_from 0 core.shown.workers number (0, nobody) below) in
      omega (arith, at)

  -- the next worker's line comes after those of the workers before it
  pub one_more : (start : List ℕ) → number < length core.shown.workers
      → (start ++ first_text core number) ++ text_of core number ≡ start ++ first_text core (number + 1)
  one_more start below =
      let line = λ (one : ℕ × WorkerState). text_of core one.0 in
      let all = enumerate_from 0 core.shown.workers in
      ap (λ (n : ℕ). (start ++ first_text core number) ++ text_of core n) (sym (number_at below))
      ∙ (flat_map_more line start (take number all) (get_or all number (0, nobody))
      ∙ ap (λ (numbered : List (ℕ × WorkerState)). start ++ flat_map line numbered) (sym (take_more all number (0, nobody) (omega (arith, numbered_length, below)))))

  -- after the last worker all lines are there
  pub no_more : length core.shown.workers ≤ number → first_text core number ≡ workers_text core
  no_more past =
      ap (flat_map (λ (one : ℕ × WorkerState). text_of core one.0)) (take_all number (enumerate_from 0 core.shown.workers) (omega (arith, numbered_length, past)))
