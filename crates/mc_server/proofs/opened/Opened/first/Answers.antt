use Rattle.std.proofs.Common.{◌∙◌, ap, sym}
use Rattle.mc_model.specs.Settings.{Configuration}
use Rattle.mc_server.proofs.opened.Opened.first.Goals as goal

pub invariant_of-result-clause-count : goal.invariant_of-result-clause-count
invariant_of-result-clause-count c = c.in_ok-log.ensures.count ∙ ap (λ (settings : Configuration). settings.workers) (sym c.in_ok-log.ensures.settings)
