-- What a worker has replayed: its tables stand for a front of the log. They do so still once the
-- log goes on, and one place further once they take the effect of the next place's entry.
use Rattle.std.proofs.Common.{◌≡◌, ℕ, ◌+◌, ◌<◌, ◌≤◌, List, length, take, Option, sym, ap, subst, ◌∙◌, arith}
use Rattle.std.proofs.lemmas.List.{take-append-le}
use Rattle.mc_model.specs.declared.request.Entry.{Entry}
use Rattle.mc_model.specs.declared.settings.Limits.{Limits}
use Rattle.mc_model.specs.declared.shown.WorkerState.{WorkerState}
use Rattle.lists.specs.Lists.{BeginsWith}
use Rattle.mc_model.specs.Replay.{EachStands, TakeEffect, empty_tables}
use Rattle.model_lemmas.proofs.Replays.{EachStands-push}
use Rattle.mc_model.specs.State.{TableState}
use Rattle.uc_core.specs.Core.{CoreState, ReplayState, log_of}
use Rattle.uc_core.specs.Headline.{HasReplica}
use Rattle.uc_core.specs.Step.{entry_at}
use Rattle.uc_core.proofs.Entries.{log-at}
use Rattle.uc_core.proofs.Lookups.{take-more_at}

-- a worker has replayed no more than it has learned, and its tables stand for those places of the
-- log
pub record ReplayLaw (core : CoreState) (worker : WorkerState) (replay : ReplayState) : Type 0 where
  pub few : replay.replayed ≤ length worker.learned
  pub stands : EachStands (empty_tables core.openings) (take replay.replayed (log_of core)) replay.tables

-- so of every worker
abbrev pub AreReplays : CoreState → Type 0
AreReplays core = (number : ℕ) (worker : WorkerState) (replay : ReplayState) → HasReplica core number worker replay → ReplayLaw core worker replay

-- a front stays where a list goes on
pub take-begins : {X : Type 0} (list front : List X) (n : ℕ) → BeginsWith list front → n ≤ length front → take n list ≡ take n front
take-begins list front n begins few = ap (take n) begins.1 ∙ take-append-le n front begins.0 few

-- the log goes on, and the worker has learned no less
pub replay_stays : (old new : CoreState) (was worker : WorkerState) (replay : ReplayState) → ReplayLaw old was replay →
    new.openings ≡ old.openings → BeginsWith (log_of new) (log_of old) → length was.learned ≤ length (log_of old) → length was.learned ≤ length worker.learned →
    ReplayLaw new worker replay
replay_stays old new was worker replay law openings begins inside more =
    let few : replay.replayed ≤ length (log_of old) = omega (arith, law.few, inside) in
    let same = take-begins (log_of new) (log_of old) replay.replayed begins few in record {
      few = omega (arith, law.few, more);
      stands = subst (λ (it : List Limits × List (Option Entry)). EachStands (empty_tables it.0) it.1 replay.tables) (λ i. (sym openings i, sym same i)) law.stands;
    }

-- one more place is replayed
pub replay_more : (core : CoreState) (worker : WorkerState) (replay : ReplayState) (tables : List TableState) → ReplayLaw core worker replay →
    replay.replayed < length worker.learned → replay.replayed < length core.shown.decided → TakeEffect (entry_at core replay.replayed) replay.tables tables →
    ReplayLaw core worker (record { replayed = replay.replayed + 1; tables = tables })
replay_more core worker replay tables law more inside takes = record {
  few = omega (arith, more);
  stands = subst (λ (log : List (Option Entry)). EachStands (empty_tables core.openings) log tables)
      (sym (take-more_at (log_of core) replay.replayed (entry_at core replay.replayed) (log-at core replay.replayed inside)))
      (EachStands-push (empty_tables core.openings) (take replay.replayed (log_of core)) (entry_at core replay.replayed) replay.tables tables law.stands takes);
}
