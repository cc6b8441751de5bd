use Rattle.std.proofs.Common.{◌∙◌, ◌++◌, length, refl, subst}
use Rattle.mc_metrics.specs.Gathering.{IsFurthest, tenants_shown, workers_shown}
use Rattle.mc_metrics.proofs.gathering.snapshot_of.Goals as goal

pub returns-clause-gathers : goal.returns-clause-gathers
returns-clause-gathers c some =
    let leader = c.in-Some.leader.now in
    let log = c.log_numbers-log-2.ensures in
    record {
      leader = leader;
      furthest = subst (λ workers. IsFurthest workers leader) c.deref.ensures.value c.in-Some.ensures;
      tenants =
          c.in_ok-write_tenants.ensures.shown
          ∙ (λ i. c.new-tenants.ensures.items i ++ tenants_shown (c.deref-2.ensures.value i) leader (length (c.new-tenants.ensures.items i)) c.args.names.now);
      workers =
          c.in_ok-write_workers.ensures
          ∙ (λ i. c.new-workers.ensures.items i ++ workers_shown (log i).generation (log i).used_places (length (c.new-workers.ensures.items i)) (c.deref-3.ensures.value i));
      log = log;
      memory = refl;
    }
