use Rattle.std.proofs.Common.{◌∙◌, ap}
use Rattle.mc_conn.specs.declared.conn.Role.TheVariants.{Tenant}
use Rattle.mc_conn.specs.Held.{nothing_held}
use Rattle.mc_programs.proofs.Beginnings.{by_logs, not_yet}
use Rattle.mc_programs.proofs.Served.{refused}
use Rattle.mc_programs.proofs.serving.serve_and_leave.Goals as goal

pub returns-in-Left : goal.returns-in-Left
returns-in-Left g c =
    let role = c.new-conn.ensures.role ∙ ap Tenant c.first_tenant.ensures in
    let begun = not_yet c.args.service.now.limits c.args.service.now.places c.new-conn.result _ role (c.new-conn.ensures.holding ∙ ap nothing_held role) c.new-conn.ensures.queue c.new-conn.ensures.open in
    record { outcome = by_logs g.T.TurnOver.refused c.args.service.now.limits c.args.service.now.places c.args.service.now.generations _ _ c.serve_logs-served.result (c.serve_logs-served.ensures.served c.args.service.now.limits c.args.service.now.places begun c.in-Ok.ensures.opened.0) }

pub returns-in_default : goal.returns-in_default
returns-in_default g c =
    let role = c.new-conn.ensures.role ∙ ap Tenant c.first_tenant.ensures in
    let begun = not_yet c.args.service.now.limits c.args.service.now.places c.new-conn.result _ role (c.new-conn.ensures.holding ∙ ap nothing_held role) c.new-conn.ensures.queue c.new-conn.ensures.open in
    record { outcome = by_logs g.T.TurnOver.refused c.args.service.now.limits c.args.service.now.places c.args.service.now.generations _ _ c.serve_logs-served.result (c.serve_logs-served.ensures.served c.args.service.now.limits c.args.service.now.places begun c.in-Ok.ensures.opened.0) }

pub returns-in-Err : goal.returns-in-Err
returns-in-Err g c =
    record { outcome = refused c.args.service.now.limits c.args.service.now.places c.args.service.now.generations c.in-Err.fault _ _ _ _ c.requires.generations c.refuse_to_open.ensures.fault c.in-Err.ensures.faults c.refuse_to_open.ensures.told }
