use Rattle.std.proofs.Common.{◌∷◌, List, [], slice_get, ap, ◌∙◌}
use Rattle.uc_worker.specs.declared.worker.Worker.{Worker}
use Rattle.uc_worker.proofs.TurningOver.{base_room, base_tenants}
use Rattle.uc_worker.proofs.turning_over.turn_over_alone.Goals as goal

pub returns-clause-base : goal.returns-clause-base
returns-clause-base c = c.in_ok-base.ensures.tables c.args.worker.now (ap (λ (list : List Worker). slice_get list 0) c.from_ref.ensures.value)

pub returns-clause-room : goal.returns-clause-room
returns-clause-room c = base_room c.args.settings.now (c.args.worker.now ∷ []) c.in_ok-base.base.tables.items c.requires.ready
    (λ first is. c.in_ok-base.ensures.tables first (ap (λ (list : List Worker). slice_get list 0) c.from_ref.ensures.value ∙ is))

pub returns-clause-tenants : goal.returns-clause-tenants
returns-clause-tenants c = base_tenants c.args.settings.now (c.args.worker.now ∷ []) c.in_ok-base.base.tables.items c.requires.ready
    (λ first is. c.in_ok-base.ensures.stands first (ap (λ (list : List Worker). slice_get list 0) c.from_ref.ensures.value ∙ is))
