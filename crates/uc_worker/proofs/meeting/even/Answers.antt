-- Meeting once more takes no event (`Telling`).
use Rattle.std.proofs.Common.{sym, ap, ◌∙◌, ⊎_elim, inl, inr}
use Rattle.mc_model.specs.declared.shown.WorkerState.{WorkerState}
use Rattle.uc_log.specs.Passes.{desk}
use Rattle.uc_worker.proofs.Counting.{takes_still, takes_through}
use Rattle.uc_worker.proofs.Telling.{learns_still, one_still, other_still}
use Rattle.uc_worker.proofs.meeting.even.Goals as goal

pub returns-clause-one : goal.returns-clause-one
returns-clause-one c = let same = c.learn_the_same.new in
    learns_still _ c.args.one.now same.one c.tell.new.one c.learn_the_same.ensures.one (one_still (desk same.one) (desk same.other) _ _ c.tell.ensures.told) c.tell.ensures.kept.0

pub returns-clause-other : goal.returns-clause-other
returns-clause-other c = let same = c.learn_the_same.new in
    learns_still _ c.args.other.now same.other c.tell.new.other c.learn_the_same.ensures.other (other_still (desk same.one) (desk same.other) _ _ c.tell.ensures.told) c.tell.ensures.kept.1

pub returns-clause-learned : goal.returns-clause-learned
returns-clause-learned c = let same = c.learn_the_same.new in
    let one = one_still (desk same.one) (desk same.other) _ _ c.tell.ensures.told in let other = other_still (desk same.one) (desk same.other) _ _ c.tell.ensures.told in
    ap (λ (s : WorkerState). s.learned) one.state ∙ (c.learn_the_same.ensures.learned ∙ sym (ap (λ (s : WorkerState). s.learned) other.state))

pub returns-clause-either : goal.returns-clause-either
returns-clause-either c = let same = c.learn_the_same.new in
    let one = ap (λ (s : WorkerState). s.learned) (one_still (desk same.one) (desk same.other) _ _ c.tell.ensures.told).state in
    ⊎_elim (λ h. inl (one ∙ h)) (λ h. inr (one ∙ h)) c.learn_the_same.ensures.either

pub returns-clause-takes : goal.returns-clause-takes
returns-clause-takes c = let same = c.learn_the_same.new in let takes = c.learn_the_same.ensures.takes in
    let one = one_still (desk same.one) (desk same.other) _ _ c.tell.ensures.told in let other = other_still (desk same.one) (desk same.other) _ _ c.tell.ensures.told in (
      takes_through 0 0 (desk c.args.one.now) (desk same.one) (desk c.tell.new.one) takes.0 (takes_still (desk same.one) (desk c.tell.new.one) one),
      takes_through 0 0 (desk c.args.other.now) (desk same.other) (desk c.tell.new.other) takes.1 (takes_still (desk same.other) (desk c.tell.new.other) other),
    )
