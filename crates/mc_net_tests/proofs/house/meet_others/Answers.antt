-- The next one is of the log, and both stay so as they meet.
use Rattle.std.proofs.Common.{◌≡◌, All, sym, ap, subst}
use Rattle.std.proofs.lemmas.List.Elements.{All-head, All-rest}
use Rattle.uc_log.specs.declared.log.Log.{Log}
use Rattle.uc_worker.specs.declared.worker.Worker.{Worker}
use Rattle.mc_net_tests.proofs.house.meet_others.Goals as goal

pub meet-requires : goal.meet-requires
meet-requires c =
    sym (All-head (λ (worker : Worker). worker.log.now ≡ c.loop-other.one.log.now) c.in-Some.other _ (subst (All (λ (worker : Worker). worker.log.now ≡ c.loop-other.one.log.now)) c.in-Some.ensures.steps.0 c.loop-other.invariant))

pub loop-other-preserved : goal.loop-other-preserved
loop-other-preserved c =
    let AreOf : Log → Type 0 = λ log. All (λ (worker : Worker). worker.log.now ≡ log) c.next.new.self.rest.items in
    let left = All-rest (λ (worker : Worker). worker.log.now ≡ c.loop-other.one.log.now) c.in-Some.other _ _ c.in-Some.ensures.steps.0 c.loop-other.invariant in
    subst AreOf (ap (λ log. log.now) (sym c.meet.ensures.one.continues.log)) left
