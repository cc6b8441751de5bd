use Rattle.std.proofs.Common.{◌≡◌, slice_get, ap, ◌∙◌}
use Rattle.std.specs.Option.{unwrap_or}
use Rattle.mc_model.specs.declared.id.Ticket.{Ticket}
use Rattle.mc_model.specs.Lawful.{decided_with}
use Rattle.mc_model.specs.Shown.{proposal}
use Rattle.uc_core.specs.Kept.{shown_worker}
use Rattle.uc_core.proofs.worker.Worker.propose.Goals as goal

pub returns-clause-decided : goal.returns-clause-decided
returns-clause-decided c =
    let old = c.args.decided.now.items in
    c.decide-ticket.ensures.decided ∙ ap (λ (ticket : Ticket). decided_with ticket old (slice_get old c.args.self.now.learned)) (c.proposal.ensures old)

pub returns-clause-shown : goal.returns-clause-shown
returns-clause-shown c =
    let old = c.args.decided.now.items in
    let found = slice_get old c.args.self.now.learned in
    let is : c.decide-ticket.result ≡ unwrap_or found (proposal c.args.number (shown_worker old c.args.self.now)) =
    c.decide-ticket.ensures.found ∙ ap (λ (ticket : Ticket). unwrap_or found ticket) (c.proposal.ensures old) in
    rw (c.learn.ensures.others, c.learn.ensures.phase, c.decide-ticket.ensures.learned, is)
