use Rattle.uc_worker.proofs.TurningOver.{all_same, base_is, base_room, base_stands, base_tenants, ready_beside}
use Rattle.uc_worker.proofs.turning_over.turn_over.Goals as goal

pub meet_first-requires-clause-can_meet : goal.meet_first-requires-clause-can_meet
meet_first-requires-clause-can_meet c = ready_beside c.args.settings.now c.args.workers.now c.requires

pub returns-clause-same : goal.returns-clause-same
returns-clause-same c = all_same c.args.workers.now c.meet_first.new.all c.meet_first.ensures.before c.in_ok-meet_first.ensures.same

pub returns-clause-base : goal.returns-clause-base
returns-clause-base c = base_is c.args.workers.now c.meet_first.new.all c.in_ok-base.base.tables.items c.meet_first.ensures.before c.in_ok-base.ensures.tables

pub returns-clause-room : goal.returns-clause-room
returns-clause-room c = base_room c.args.settings.now c.args.workers.now c.in_ok-base.base.tables.items c.requires
    (base_is c.args.workers.now c.meet_first.new.all c.in_ok-base.base.tables.items c.meet_first.ensures.before c.in_ok-base.ensures.tables)

pub returns-clause-stands : goal.returns-clause-stands
returns-clause-stands c = base_stands c.args.workers.now c.meet_first.new.all c.in_ok-base.base.tables.items c.meet_first.ensures.before c.in_ok-base.ensures.stands

pub returns-clause-tenants : goal.returns-clause-tenants
returns-clause-tenants c = base_tenants c.args.settings.now c.args.workers.now c.in_ok-base.base.tables.items c.requires
    (base_stands c.args.workers.now c.meet_first.new.all c.in_ok-base.base.tables.items c.meet_first.ensures.before c.in_ok-base.ensures.stands)
