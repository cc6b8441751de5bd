-- A look and a proposal, by which a place is learned.
use Rattle.std.proofs.Common.{ℕ, ◌+◌, List, length, sym, ap, ◌∙◌}
use Rattle.mc_model.specs.declared.id.Ticket.{Ticket}
use Rattle.uc_log.specs.Passes.{desk}
use Rattle.uc_worker.proofs.Counting.{takes_proposed}
use Rattle.uc_worker.proofs.Learning.{later_through, learns_later, learns_more, learns_proposed, looks_later, waits_proposed}
use Rattle.uc_worker.proofs.deciding.propose_on.Goals as goal

pub returns-then-is_idle-clause-takes : goal.returns-then-is_idle-clause-takes
returns-then-is_idle-clause-takes g c = takes_proposed (desk c.args.pass.now) (desk c.loop-place.pass) (desk c.look.new.pass) (desk c.propose.new.pass) _ _ _
    c.loop-place.invariant.takes c.look.ensures.looked c.propose.ensures.proposed.made

pub loop-place-preserved : goal.loop-place-preserved
loop-place-preserved g c =
    let i = c.loop-place.invariant in let w = i.waiting in
    let old = desk c.loop-place.pass in let middle = desk c.look.new.pass in let new = desk c.propose.new.pass in
    let looked = looks_later old middle _ _ c.look.ensures.looked in
    let learns = learns_proposed middle new _ c.propose.ensures.proposed.made in record {
      waiting = record {
        of = c.propose.ensures.kept.of;
        pending = waits_proposed middle new _ c.propose.ensures.proposed.made (c.is_idle.ensures.other c.if-is_idle.false);
        later = later_through _ _ _ (later_through _ _ _ w.later looked.0) (learns_later _ _ _ learns);
        here = learns_more _ _ _ learns ∙ ap (λ (n : ℕ). n + 1) (ap (λ (list : List Ticket). length list) looked.3 ∙ w.here);
        places = w.places;
        own = c.propose.ensures.kept.own ∙ (c.look.ensures.kept.own ∙ w.own);
      };
      marked = λ none. i.marked (sym (learns.mark ∙ looked.2) ∙ none);
      takes = takes_proposed (desk c.args.pass.now) old middle new _ _ _ i.takes c.look.ensures.looked c.propose.ensures.proposed.made;
    }
