-- The workers of a log are all of it, so that what they have done is one run of the core.
use Rattle.std.proofs.Common.{◌≡◌, ◌∙◌, ℕ, ◌+◌, zero, suc, List, [], ◌∷◌, Some, map, slice_get, ap, sym, subst, ⊎_elim, arith}
use Rattle.std.proofs.lemmas.List.Elements.{All-cons, All-head, All-tail}
use Rattle.std.proofs.lemmas.Option.{get_or_from_slice_get, none-some, same_Some, slice_get_within}
use Rattle.std.specs.List.{AllZip}
use Rattle.mc_conn.specs.Onward.{own_sighting}
use Rattle.mc_model.specs.Settings.{Configuration}
use Rattle.mc_model.specs.State.{TableState}
use Rattle.mc_server.proofs.LogRuns.{all_on, workers_back}
use Rattle.mc_server.proofs.NetworkRuns.{are_workers}
use Rattle.mc_server.specs.CoreRuns.{ClosedLogsAreCoreRuns, ClosedLogsDecidedNoMore, LastLogsAreCoreRuns, LastLogsComeBackOnCoreRuns, OwedRepliesAreGiven}
use Rattle.mc_server.specs.Crew.{AreWorkersOf, HaveClosed, number_of}
use Rattle.mc_server.specs.Listeners.{CountsFrom}
use Rattle.mc_server.specs.Logs.{AreOpenedOver, ServesInTwo}
use Rattle.uc_log.specs.declared.log.Log.{Log}
use Rattle.uc_refinement.specs.Refinement.{AllDoOneCoreRun, AreAllOf, AreOver, ClosedLogsRunTheCore, DoOneCoreRun, EarlierRepliesAreGiven, HaveRunTheCore, NothingIsDecidedBehindAll}
use Rattle.uc_worker.specs.Going.{Continues}
use Rattle.uc_worker.specs.Worker.{openings_of}
use Rattle.uc_worker.specs.declared.worker.Worker.{Worker}

numbers_from : (first : ℕ) (workers : List Worker) → CountsFrom first (map number_of workers) → (place : ℕ) (worker : Worker) → slice_get workers place ≡ Some worker →
    number_of worker ≡ first + place
numbers_from first [] counts place worker at = absurd (none-some worker at)
numbers_from first (x ∷ xs) counts zero worker at = let same = ap number_of (same_Some x worker at) in omega (arith, same, counts.0)
numbers_from first (x ∷ xs) counts (suc place) worker at = let rest = numbers_from (first + 1) xs counts.1 place worker at in omega (arith, rest)

are_all : (settings : Configuration) (log : Log) (workers : List Worker) → AreWorkersOf settings log workers → AreAllOf log workers
are_all settings log workers all = record {
  of = λ place worker at. subst (λ (it : Worker). it.log.now ≡ log) (get_or_from_slice_get workers place worker worker at)
      (all.of place worker (slice_get_within workers place worker at));
  many = all.many ∙ ap (λ (known : Configuration). known.workers) (sym all.opened);
  numbers = λ place worker at. let number = numbers_from 0 workers all.numbers place worker at in omega (arith, number);
}

-- workers that have gone on are over the tables that they were opened over
pub over_on : (tables : List TableState) (old new : List Worker) → AllZip Continues old new → AreOver tables old → AreOver tables new
over_on tables [] [] on over = over
over_on tables [] (y ∷ ys) on over = absurd on
over_on tables (x ∷ xs) [] on over = absurd on
over_on tables (x ∷ xs) (y ∷ ys) on over =
    let IsOver = λ (worker : Worker). openings_of worker ≡ tables in
    All-cons IsOver y ys (on.0.openings ∙ All-head IsOver x xs over) (over_on tables xs ys on.1 (All-tail IsOver x xs over))

module _ (settings : Configuration) (log : Log) (used : ℕ) (tables : List TableState) (begun served : List Worker) (opened : AreOpenedOver settings log tables begun)
    (onward : AllZip Continues begun served) (closes : HaveClosed served used) where
  closed_are_all : AreAllOf log closes.closed
  closed_are_all = are_all settings log closes.closed
      (are_workers settings log served closes.closed (all_on served closes.closed closes.later) (are_workers settings log begun served onward opened.all))

  run_of_core : ClosedLogsRunTheCore → HaveRunTheCore settings tables closes.closed
  run_of_core law = subst (λ (known : Configuration). HaveRunTheCore known tables closes.closed) opened.all.opened
      (law tables log closes.closed used closed_are_all
      (over_on tables served closes.closed (all_on served closes.closed closes.later) (over_on tables begun served onward opened.over))
      closes.run closes.same closes.up_to_date)

pub closed_logs : ClosedLogsRunTheCore → ClosedLogsAreCoreRuns
closed_logs law settings log used tables begun served opened onward closes = run_of_core settings log used tables begun served opened onward closes law

pub no_more_decided : NothingIsDecidedBehindAll → ClosedLogsDecidedNoMore
no_more_decided law settings log used tables begun served opened onward closes =
    law log closes.closed closes.run used (closed_are_all settings log used tables begun served opened onward closes) closes.up_to_date

-- the law of going on again and again
abbrev pub ContinuesThrough : Type 0
ContinuesThrough = (first second third : Worker) → Continues first second → Continues second third → Continues first third

all_through : ContinuesThrough → (old now new : List Worker) → AllZip Continues old now → AllZip Continues now new → AllZip Continues old new
all_through through [] [] [] one two = tt
all_through through [] [] (z ∷ zs) one two = absurd two
all_through through [] (y ∷ ys) new one two = absurd one
all_through through (x ∷ xs) [] new one two = absurd one
all_through through (x ∷ xs) (y ∷ ys) [] one two = absurd two
all_through through (x ∷ xs) (y ∷ ys) (z ∷ zs) one two = (through x y z one.0 two.0, all_through through xs ys zs one.1 two.1)

pub last_logs : ClosedLogsRunTheCore → ContinuesThrough → LastLogsAreCoreRuns
last_logs law through settings most number were =
    closed_logs law settings were.serves.log were.last were.serves.tables were.serves.begun were.served were.serves.opened onward were.closes
  where
    onward : AllZip Continues were.serves.begun were.served
    onward = ⊎_elim (λ one. one.0)
        (λ (two : ServesInTwo were.serves.who were.serves.begun were.served were.all).
        all_through through were.serves.begun two.again were.served
        (all_through through were.serves.begun two.full two.again two.first (all_on two.full two.again two.between)) two.second)
        were.serves.parts

pub last_logs_back : AllDoOneCoreRun → LastLogsComeBackOnCoreRuns
last_logs_back law settings most number were =
    let back = workers_back settings were.logs were.places were.all were.served were.serves in
    subst (λ (known : Configuration). DoOneCoreRun known were.serves.tables were.served) back.opened
    (law were.serves.tables were.serves.log were.served (are_all settings were.serves.log were.served back) were.run)

-- what a connection was owed for a command is what the run gives
pub owed_replies : EarlierRepliesAreGiven → OwedRepliesAreGiven
owed_replies law settings tables workers ran number tenant command reply early worker from to placed at its on =
    law settings tables workers ran number placed.place early worker (own_sighting early from.number tenant command) reply at on placed.stands (sym on.same.1 ∙ its) placed.reply_is
