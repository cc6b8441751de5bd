use Rattle.std.proofs.Common.{◌≡◌, ◌++◌, ◌∷◌, List, All, length, arith, subst, sym, ap, ◌∙◌}
use Rattle.std.proofs.lemmas.List.Elements.{All-head, All-rest}
use Rattle.uc_log.specs.declared.log.Log.{Log}
use Rattle.uc_worker.specs.declared.worker.Worker.{Worker}
use Rattle.mc_net.specs.Running.{IsFor, event_loops_of, workers_of}
use Rattle.mc_net.specs.declared.event_loop.EventLoop.{EventLoop}
use Rattle.mc_net.proofs.Runnings.{one_more_loop, one_more_worker}
use Rattle.mc_net.proofs.running.threads_of.Goals as goal

-- two lists that are as long as each other still are without their first elements
one_fewer : {X Y : Type 0} (all rest : List X) (first : X) (others left : List Y) (other : Y) → all ≡ first ∷ rest → others ≡ other ∷ left →
    length all ≡ length others → length rest ≡ length left
one_fewer all rest first others left other one two same =
    let both : length (first ∷ rest) ≡ length (other ∷ left) = subst (λ list. length (first ∷ rest) ≡ length list) two (subst (λ list. length list ≡ length others) one same) in
    omega (arith, both)

pub invariant_of-push : goal.invariant_of-push
invariant_of-push g c =
    let Of = λ (worker : Worker). worker.log.now ≡ c.args.log.now in
    let Known = IsFor (length c.args.log.now.settings.tenants) in
    let fits = c.loop-worker.invariant.fits in
    let of = All-head Of c.in-Some.worker _ (subst (All Of) c.in-Some.ensures.steps.0 fits.logs) in
    let step = c.in-Some-next-2.ensures.items in
    let known = All-head Known c.in-Some-next-2.event_loop _ (subst (All Known) step fits.tenants) in
    record { tenants = known ∙ ap (λ (log : Log). length log.settings.tenants) (sym of) }

pub loop-worker-preserved : goal.loop-worker-preserved
loop-worker-preserved g c =
    let before = c.loop-worker.invariant in
    let Of = λ (worker : Worker). worker.log.now ≡ c.args.log.now in
    let Known = IsFor (length c.args.log.now.settings.tenants) in
    let step = c.in-Some-next-2.ensures.items in
    record {
      workers =
          rw c.in_ok-push.ensures.items
          (one_more_worker _ _ _ ∙ subst (λ (rest : List Worker). workers_of c.loop-worker.worker_threads.items ++ rest ≡ c.args.workers.items) c.in-Some.ensures.steps.0 before.workers);
      event_loops =
          rw c.in_ok-push.ensures.items
          (one_more_loop _ _ _ ∙ subst (λ (rest : List EventLoop). event_loops_of c.loop-worker.worker_threads.items ++ rest ≡ c.args.event_loops.items) step before.event_loops);
      fits = record {
        logs = All-rest Of c.in-Some.worker _ _ c.in-Some.ensures.steps.0 before.fits.logs;
        a_gate_each =
            one_fewer _ _ _ _ _ _ c.in-Some-next.ensures.items c.in-Some.ensures.steps.0 before.fits.a_gate_each;
        a_loop_each = one_fewer _ _ _ _ _ _ step c.in-Some.ensures.steps.0 before.fits.a_loop_each;
        tenants = All-rest Known c.in-Some-next-2.event_loop _ _ step before.fits.tenants;
      };
    }
