use Rattle.std.proofs.Common.{sym, subst}
use Rattle.mc_server.specs.Network.{stop_line}
use Rattle.mc_server.specs.declared.listeners.Stop.{Stop}
use Rattle.mc_stream.specs.Pushing.{PushesOrFails}
use Rattle.mc_server.proofs.network.tell_stop.Goals as goal

pub returns-in-CannotListen : goal.returns-in-CannotListen
returns-in-CannotListen g c =
    let P : Stop → Type 0 = λ stop. PushesOrFails (stop_line stop) (g.E.Output.tells c.args.errors.now) (g.E.Output.tells c.tell_cannot_listen.new.errors) in
    subst P (sym c.in-CannotListen.is) c.tell_cannot_listen.ensures
