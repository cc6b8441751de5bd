-- Which of two seats shared its list, by what they have learned afterwards: that is what they had
-- learned before.
use Rattle.std.proofs.Common.{◌<◌, ◌≤◌, List, length, sym, ap, ◌∙◌, subst, ⊎_elim, arith}
use Rattle.std.proofs.lemmas.Bool.{cases_lt}
use Rattle.mc_model.specs.declared.id.Ticket.{Ticket}
use Rattle.mc_model.specs.declared.shown.WorkerState.{WorkerState}
use Rattle.lists.specs.Lists.{BeginsWith}
use Rattle.uc_log.specs.declared.log.Log.{Log}
use Rattle.uc_log.specs.declared.pass.Pass.{Pass}
use Rattle.uc_log.specs.Passes.{Keeps, desk, learned}
use Rattle.uc_places.specs.declared.desk.Desk.{Desk}
use Rattle.uc_places.specs.Calls.{Shares, Tells, state_of}
use Rattle.uc_places.specs.OneRun.{IsStill}
use Rattle.uc_worker.specs.Steps.{Rests}
use Rattle.uc_worker.specs.Waiting.{LearnsMore}
use Rattle.uc_worker.proofs.Counting.{still_telling, still_told}

module _ (one other new_one new_other : Desk) (tells : Tells one other new_one new_other) where
  -- neither takes an event
  still : IsStill one new_one × IsStill other new_other
  still = ⊎_elim
      (λ fewer. let shares = tells.fewer fewer in (still_told one new_one _ shares.second.1, still_telling other new_other shares.first.1))
      (λ more. let shares = tells.more more in (still_telling one new_one shares.first.1, still_told other new_other _ shares.second.1))
      (cases_lt (length (state_of one).learned) (length (state_of other).learned))

  pub one_still : IsStill one new_one
  one_still = still.0

  pub other_still : IsStill other new_other
  other_still = still.1

  pub other_shared : length (state_of new_one).learned < length (state_of new_other).learned → Shares other one new_other new_one
  other_shared fewer = tells.fewer (omega (arith, fewer, ap (λ (s : WorkerState). length s.learned) one_still.state, ap (λ (s : WorkerState). length s.learned) other_still.state))

  pub one_shared : length (state_of new_other).learned ≤ length (state_of new_one).learned → Shares one other new_one new_other
  one_shared more = tells.more (omega (arith, more, ap (λ (s : WorkerState). length s.learned) one_still.state, ap (λ (s : WorkerState). length s.learned) other_still.state))

-- a pass that has learned more, and then takes no event
pub learns_still : (log : Log) (old middle new : Pass) → LearnsMore log old middle → IsStill (desk middle) (desk new) → Keeps log middle new →
    LearnsMore log old new
learns_still log old middle new learns still keeps = let first = learns.advances in record {
  advances = record {
    of = keeps.of;
    rests = subst Rests (sym (ap (λ (s : WorkerState). s.phase) still.state)) first.rests;
    same = (still.size ∙ first.same.0, still.worker ∙ first.same.1);
    begins = subst (λ (list : List Ticket). BeginsWith list (learned old)) (sym (ap (λ (s : WorkerState). s.learned) still.state)) first.begins;
  };
  own = keeps.own ∙ learns.own;
}
