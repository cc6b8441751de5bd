use Rattle.std.proofs.Common.{refl, arith}
use Rattle.mc_conn.proofs.Breakings.{fails_pushing}
use Rattle.mc_conn.proofs.Takings.{does_pushed}
use Rattle.mc_conn.proofs.conn.Conn.push.Goals as goal

pub returns-in-All-clause-outcome : goal.returns-in-All-clause-outcome
returns-in-All-clause-outcome g c until left worker input =
    let pushed = c.push_queue-count.ensures in
    let stop = rw c.in-All.is at pushed.stop in
    does_pushed c.args.self.now _ worker input _ _ c.push_queue-count.result.0 refl refl refl refl refl refl pushed.within pushed.left pushed.pushed (omega (arith, stop.2)) stop.1 until

pub returns-in-Full-clause-outcome : goal.returns-in-Full-clause-outcome
returns-in-Full-clause-outcome g c until left worker input =
    let pushed = c.push_queue-count.ensures in
    let stop = rw c.in-Full.is at pushed.stop in
    does_pushed c.args.self.now _ worker input _ _ c.push_queue-count.result.0 refl refl refl refl refl refl pushed.within pushed.left pushed.pushed (omega (arith, stop.2)) stop.0 until

pub returns-in-Failed-clause-outcome : goal.returns-in-Failed-clause-outcome
returns-in-Failed-clause-outcome g c until worker input =
    let pushed = c.push_queue-count.ensures in
    let stop = rw c.in-Failed.is at pushed.stop in
    fails_pushing until c.args.self.now _ worker input _ _ c.push_queue-count.result.0 pushed.left refl refl pushed.pushed stop.0 stop.1
