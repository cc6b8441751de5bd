use Rattle.std.proofs.Common.{◌≡◌, ◌∙◌, Bool, Vec, false, All, ap, length, not, subst, sym}
use Rattle.mc_net.specs.Running.{HaveServedAt, IsFor}
use Rattle.mc_net.specs.declared.ended.Ended.{Ended}
use Rattle.mc_net.specs.declared.ended.Ended.TheVariants.{Done}
use Rattle.mc_net.specs.declared.event_loop.EventLoop.{EventLoop}
use Rattle.mc_net.proofs.Runnings.{all_of, empty_if_done, front_served, last_is_done, served_in_turn, served_known, served_later, served_many, served_onward}
use Rattle.mc_net.proofs.front.Front.serve_generation.Goals as goal
use Rattle.mc_net.proofs.front.Front.serve_generation.Goals.{else-is_last, then-is_last}

pub invariant_of-self-2 : goal.invariant_of-self-2
invariant_of-self-2 g c =
    let served =
    front_served (not c.args.is_last) c.in_ok-workers.ended c.in_ok-threads.threads.items _ c.run_all.new.worker_threads _ _ _ _ _ c.deref_mut.ensures.value c.run_all.ensures.workers
    c.in_ok-threads.threads.ok.0 c.in_ok-workers.ensures.ended c.in_ok-workers.ensures.workers c.in_ok-workers.ensures.event_loops c.in_ok-threads.ensures.workers
    (c.in_ok-threads.ensures.event_loops ∙ ap (λ (event_loops : Vec EventLoop _). event_loops.items) c.replace-lent.ensures.value) in
    let known : All (IsFor (length c.args.log.now.settings.tenants)) c.args.self.now.event_loops.items =
    subst (λ tenants. All (IsFor tenants) c.args.self.now.event_loops.items) c.requires.tenants c.args.self.now.known in
    record {
      known = subst (λ tenants. All (IsFor tenants) c.in_ok-workers.left.items) (sym c.requires.tenants)
          (served_known c.work_adds_up.ensures.goes_on c.work_adds_up.ensures.known c.args.log.now _ _ _ _ _ _ served c.requires.logs known);
    }

pub on_one_run-workers-requires : goal.on_one_run-workers-requires
on_one_run-workers-requires g c =
    let served =
    front_served (not c.args.is_last) c.in_ok-workers.ended c.in_ok-threads.threads.items _ c.run_all.new.worker_threads _ _ _ _ _ c.deref_mut.ensures.value c.run_all.ensures.workers
    c.in_ok-threads.threads.ok.0 c.in_ok-workers.ensures.ended c.in_ok-workers.ensures.workers c.in_ok-workers.ensures.event_loops c.in_ok-threads.ensures.workers
    (c.in_ok-threads.ensures.event_loops ∙ ap (λ (event_loops : Vec EventLoop _). event_loops.items) c.replace-lent.ensures.value) in
    all_of _ _ _ (served_onward c.work_adds_up.ensures.goes_on _ _ _ _ _ _ served) c.requires.logs

pub returns-clause-served : goal.returns-clause-served
returns-clause-served g c =
    let at_first =
    front_served (not c.args.is_last) c.in_ok-workers.ended c.in_ok-threads.threads.items _ c.run_all.new.worker_threads _ _ _ _ _ c.deref_mut.ensures.value c.run_all.ensures.workers
    c.in_ok-threads.threads.ok.0 c.in_ok-workers.ensures.ended c.in_ok-workers.ensures.workers c.in_ok-workers.ensures.event_loops c.in_ok-threads.ensures.workers
    (c.in_ok-threads.ensures.event_loops ∙ ap (λ (event_loops : Vec EventLoop _). event_loops.items) c.replace-lent.ensures.value) in
    let served = served_later c.work_adds_up.ensures.catches_up _ _ _ _ _ _ _ at_first c.on_one_run-workers.ensures.later in
    let At : Bool → Ended → Type 0 = λ until ended. HaveServedAt until ended c.args.workers.items c.args.self.now.event_loops.items c.on_one_run-workers.result.items c.in_ok-workers.left.items in
    elim c.if-is_last.branch [
      | then-is_last w ↦
          let is : not c.args.is_last ≡ false = ap not w.if-is_last.true in
          subst (At (not c.args.is_last)) (sym w.result-is)
          (subst (λ until. At until Done) (sym is) (last_is_done _ _ _ _ _ (subst (λ until. At until c.in_ok-workers.ended) is served)))
      | else-is_last w ↦ subst (At (not c.args.is_last)) (sym w.result-is) served
    ]

pub returns-clause-done : goal.returns-clause-done
returns-clause-done g c = λ done. empty_if_done _ _ _ _ _ _ (returns-clause-served g c) done

pub returns-clause-in_turn : goal.returns-clause-in_turn
returns-clause-in_turn g c = served_in_turn _ _ _ _ _ _ (returns-clause-served g c)

pub returns-clause-back : goal.returns-clause-back
returns-clause-back g c = served_onward c.work_adds_up.ensures.goes_on _ _ _ _ _ _ (returns-clause-served g c)

pub returns-clause-logs : goal.returns-clause-logs
returns-clause-logs g c = all_of _ _ _ (returns-clause-back g c) c.requires.logs

pub returns-clause-loops : goal.returns-clause-loops
returns-clause-loops g c = c.in_ok-workers.left.ok.0 ∙ (served_many _ _ _ _ _ _ (returns-clause-served g c)).1 ∙ sym c.args.self.now.event_loops.ok.0
