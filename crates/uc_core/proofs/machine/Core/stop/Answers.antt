use Rattle.std.proofs.Common.{◌≡◌, Some, None, slice_get, sym, subst, arith}
use Rattle.std.proofs.lemmas.Grind.{common_steps}
use Rattle.std.proofs.lemmas.Option.{gets}
use Rattle.uc_core.specs.Core.{CoreState}
use Rattle.uc_core.specs.Step.{refusal}
use Rattle.uc_core.specs.declared.event.Event.TheVariants.{Stop}
use Rattle.uc_core.proofs.Shows.{changed}
use Rattle.uc_core.proofs.Ties.{Makes, stopped}
use Rattle.uc_core.proofs.machine.Core.stop.Goals as goal

made : (c : goal.After-self-1) →
    let s = c.self.inside in
    Makes s (Stop c.args.number) None (changed s s.decided s.entries c.args.number c.stop.new.self)
made c =
    let s = c.self.inside in
    let enabled = subst (λ (core : CoreState). refusal core (Stop c.args.number) ≡ None) (sym c.self.view_is) c.requires in
    let at : slice_get s.workers.items c.args.number ≡ Some c.index_mut.result.now = grind (arith, common_steps, gets) in
    stopped s c.args.number c.index_mut.result.now c.stop.new.self c.self.invariant at enabled
    (c.stop.ensures.shown s.decided.items) (c.stop.ensures.order _ s.places _) c.stop.ensures.replay

pub invariant_of-self : goal.invariant_of-self
invariant_of-self c = rw c.from.ensures (made c).stays

pub returns : goal.returns
returns c = rw (← c.self.view_is, c.from.ensures) (made c).step
