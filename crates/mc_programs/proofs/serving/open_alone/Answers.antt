use Rattle.mc_programs.proofs.Served.{opened_alone}
use Rattle.mc_programs.proofs.serving.open_alone.Goals as goal

pub returns-clause-opened : goal.returns-clause-opened
returns-clause-opened c =
    opened_alone c.args.limits c.args.places c.in_ok-log.log c.in_ok-log.passes.items c.pop.new.self.items c.in-Some.pass c.in_ok-settings.settings c.push.new.self.items c.new-tenants.result.items
    c.in-Some.ensures.items c.in_ok-log.ensures.count c.in_ok-log.ensures.settings c.in_ok-settings.ensures.settings c.in_ok-push.ensures.items c.new-tenants.ensures.items
    c.in_ok-log.ensures.passes
