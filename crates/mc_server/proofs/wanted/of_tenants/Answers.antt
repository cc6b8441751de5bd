use Rattle.std.proofs.Common.{ap, refl}
use Rattle.mc_conn.specs.declared.conn.Role.TheVariants.{Tenant as Own}
use Rattle.mc_server.proofs.Numbered.{one_more_role, one_more_wanted}
use Rattle.mc_server.proofs.wanted.of_tenants.Goals as goal

pub loop-number-preserved : goal.loop-number-preserved
loop-number-preserved c =
    let before = c.loop-number.invariant in
    record {
      listeners = one_more_wanted c.args.tenants.now c.loop-number.number _ c.loop-number.wanted.items _ _ c.loop-number-test.true before.listeners refl c.in_ok-push.ensures.items;
      roles = one_more_role c.args.tenants.now c.loop-number.number c.loop-number.wanted.items _ _ c.loop-number-test.true before.roles (ap Own c.in-Some.ensures.1) c.in_ok-push.ensures.items;
    }
