use Rattle.std.proofs.Common.{List, ◌↔◌, IsTrue, subst}
use Rattle.mc_model.specs.Replay.{HaveRoom}
use Rattle.mc_model.specs.State.{TableState}
use Rattle.mc_replica.proofs.replica.Replica.has_room.Goals as goal

pub returns : goal.returns
returns c = subst (λ (tables : List TableState). IsTrue c.have_room.result ↔ HaveRoom tables c.args.places) c.tables.ensures c.have_room.ensures
