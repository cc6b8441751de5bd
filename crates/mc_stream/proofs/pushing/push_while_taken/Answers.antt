use Rattle.std.proofs.Common.{inl, inr, refl, arith}
use Rattle.mc_stream.proofs.Pushed.{at_once_sent}
use Rattle.mc_stream.proofs.pushing.push_while_taken.Goals as goal

pub returns-in-Full-clause-pushed : goal.returns-in-Full-clause-pushed
returns-in-Full-clause-pushed g c =
    let stop = rw c.in-Full.is at c.push_front-stop.ensures.stop in
    at_once_sent _ _ _ c.args.bytes.now c.push_front-stop.result.0 c.push_front-stop.ensures.pushed refl (inl (stop.1, stop.0, omega (arith, stop.2)))

pub returns-in-Failed-clause-pushed : goal.returns-in-Failed-clause-pushed
returns-in-Failed-clause-pushed g c =
    let stop = rw c.in-Failed.is at c.push_front-stop.ensures.stop in
    at_once_sent _ _ _ c.args.bytes.now c.push_front-stop.result.0 c.push_front-stop.ensures.pushed refl (inr stop.0)
