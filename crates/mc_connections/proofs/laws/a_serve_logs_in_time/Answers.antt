use Rattle.std.proofs.Common.{refl, subst}
use Rattle.mc_connections.specs.Serving.{IsInTime}
use Rattle.mc_connections.proofs.laws.a_serve_logs_in_time.Goals as goal

pub returns : goal.returns
returns c = record {
  taken = λ before after old new state later takes is. subst IsInTime is (later.served.in_time refl);
  stopped = λ before after old new state later fault stops is. subst IsInTime is (later.served.in_time refl);
}
