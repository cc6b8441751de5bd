-- The slice that was lent is all of them.
use Rattle.std.proofs.Common.{◌≡◌, ◌∙◌, ◌++◌, List, ap, drop, length, subst, sym, take}
use Rattle.std.proofs.lemmas.List.Elements.{length_all_zip}
use Rattle.std.specs.List.{AllZip}
use Rattle.mc_net.proofs.Runnings.{taken_whole}
use Rattle.uc_worker.specs.AllWorkers.{AreOfLog, AreOnOneRun}
use Rattle.uc_worker.specs.Going.{CatchesUp}
use Rattle.uc_worker.specs.declared.worker.Worker.{Worker}
use Rattle.mc_net.proofs.running.on_one_run.Goals as goal

pub find_run_of_all-requires : goal.find_run_of_all-requires
find_run_of_all-requires c = subst (AreOfLog c.args.log.now) (sym c.deref_mut.ensures.value) c.requires

pub returns-clause-later : goal.returns-clause-later
returns-clause-later c =
    let new = c.find_run_of_all.new.workers in
    let long : length c.deref_mut.result.now ≡ length new = length_all_zip CatchesUp c.deref_mut.result.now new c.find_run_of_all.ensures.later in
    let whole : take c.args.workers.len (new ++ drop (length new) c.args.workers.items) ≡ new =
    taken_whole _ new _ (c.args.workers.ok.0 ∙ ap length (sym c.deref_mut.ensures.value) ∙ long) in
    subst (AllZip CatchesUp c.args.workers.items) (sym whole)
    (subst (λ (old : List Worker). AllZip CatchesUp old new) c.deref_mut.ensures.value c.find_run_of_all.ensures.later)

pub returns-clause-run : goal.returns-clause-run
returns-clause-run c =
    let new = c.find_run_of_all.new.workers in
    let long : length c.deref_mut.result.now ≡ length new = length_all_zip CatchesUp c.deref_mut.result.now new c.find_run_of_all.ensures.later in
    let whole : take c.args.workers.len (new ++ drop (length new) c.args.workers.items) ≡ new =
    taken_whole _ new _ (c.args.workers.ok.0 ∙ ap length (sym c.deref_mut.ensures.value) ∙ long) in
    subst AreOnOneRun (sym whole) c.find_run_of_all.ensures.run
