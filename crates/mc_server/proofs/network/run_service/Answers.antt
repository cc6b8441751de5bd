use Rattle.std.proofs.Common.{◌∙◌, map, ap}
use Rattle.std.proofs.lemmas.Result.{err_from_is_err_and}
use Rattle.mc_server.proofs.NetworkRuns.{listening_stops, metrics_stop, names_wanted}
use Rattle.mc_server.specs.NetworkWords.{served_by}
use Rattle.mc_server.proofs.network.run_service.Goals as goal

pub returns-in_err-listeners : goal.returns-in_err-listeners
returns-in_err-listeners g c =
    let names = ap (map (λ one. one.name.now)) c.deref.ensures.value ∙ names_wanted (served_by c.args.service.now) c.in_ok-wanted.wanted.items c.in_ok-wanted.ensures in
    let stops = listening_stops _ (served_by c.args.service.now) c.in_err-listeners.field-0.0 (g.O.Output.tells c.args.output.now) names c.in_err-listeners.ensures.outcome in
    let left = err_from_is_err_and c.from_residual-in_err-listeners.result c.from_residual-in_err-listeners.ensures.1 in
    record { outcome = rw (left.1, left.2) stops }

pub returns-in_err-metrics : goal.returns-in_err-metrics
returns-in_err-metrics g c =
    let stops = metrics_stop (served_by c.args.service.now) c.in_err-metrics.field-0.0 (g.O.Output.tells c.args.output.now) c.in_err-metrics.ensures.outcome in
    let left = err_from_is_err_and c.from_residual-in_err-metrics.result c.from_residual-in_err-metrics.ensures.1 in
    record { outcome = rw (left.1, left.2) stops }
