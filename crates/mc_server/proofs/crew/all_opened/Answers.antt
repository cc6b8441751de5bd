use Rattle.std.proofs.Common.{◌∙◌, ◌++◌, ◌∷◌, [], All, IsOkUnless, List, Ok, map, ap, sym, subst, append_assoc}
use Rattle.std.proofs.lemmas.List.{map-append}
use Rattle.std.proofs.lemmas.List.Elements.{All-rest}
use Rattle.mc_model.specs.declared.fault.Fault.TheVariants as faults
use Rattle.uc_worker.specs.declared.worker.Worker.{Worker}
use Rattle.mc_server.proofs.crew.all_opened.Goals as goal

pub loop-one-init : goal.loop-one-init
loop-one-init c =
    let gives = c.into_iter-one-iterator.ensures.into_iter_gives.0 in
    record {
      faults = subst (All (λ one. IsOkUnless one faults.Memory)) (sym gives) c.requires.faults;
      opened = sym (λ i. map (λ (worker : Worker). Ok worker) (c.in_ok-workers.ensures.items i) ++ gives i);
    }

pub loop-one-preserved : goal.loop-one-preserved
loop-one-preserved c =
    let before = c.loop-one.invariant in
    let workers = c.loop-one.workers.items in
    let new = c.in_ok-one.field-0 in
    let left = c.next.new.self.rest.items in
    let opened = map (λ (worker : Worker). Ok worker) workers in
    record {
      faults = All-rest (λ one. IsOkUnless one faults.Memory) c.in-Some.one _ _ c.in-Some.ensures.steps.0 before.faults;
      opened =
          before.opened
          ∙ (ap (λ list. opened ++ list) (c.in-Some.ensures.steps.0 ∙ ap (λ one. one ∷ left) c.in_ok-one.was)
          ∙ (sym (append_assoc opened (Ok new ∷ []) left)
          ∙ ap (λ list. list ++ left) (sym (ap (λ (list : List Worker). map (λ (worker : Worker). Ok worker) list) c.in_ok-push.ensures.items ∙ map-append (λ (worker : Worker). Ok worker) workers (new ∷ [])))));
    }
