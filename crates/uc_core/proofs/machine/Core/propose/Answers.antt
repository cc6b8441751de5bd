use Rattle.std.proofs.Common.{◌≡◌, Some, None, slice_get, sym, subst, arith, rules}
use Rattle.std.proofs.lemmas.Grind.{common_steps}
use Rattle.std.proofs.lemmas.Option.{gets}
use Rattle.uc_core.specs.Core.{CoreState}
use Rattle.uc_core.specs.Step.{refusal}
use Rattle.uc_core.specs.declared.event.Event.TheVariants.{Propose}
use Rattle.uc_core.proofs.Shows.{changed}
use Rattle.uc_core.proofs.Ties.{Makes, proposed}
use Rattle.uc_core.proofs.machine.Core.propose.Goals as goal

made : (c : goal.After-self-1) →
    let s = c.self.inside in
    Makes s (Propose c.args.number) None (changed s c.propose.new.decided s.entries c.args.number c.propose.new.self)
made c =
    let s = c.self.inside in
    let enabled = subst (λ (core : CoreState). refusal core (Propose c.args.number) ≡ None) (sym c.self.view_is) c.requires in
    let at : slice_get s.workers.items c.args.number ≡ Some c.index_mut-worker.result.now = grind (arith, common_steps, gets) in
    let named : c.unwrap-id.result ≡ c.args.number = search rules in
    let decides = rw named at c.propose.ensures.decided in
    let shows = rw named at c.propose.ensures.shown in
    proposed s c.args.number c.index_mut-worker.result.now c.propose.new.self c.self.invariant at c.propose.new.decided enabled c.propose.ensures.room
    decides shows (c.propose.ensures.order _ s.places) c.propose.ensures.replay

pub invariant_of-self : goal.invariant_of-self
invariant_of-self c = rw c.from.ensures (made c).stays

pub returns : goal.returns
returns c = rw (← c.self.view_is, c.from.ensures) (made c).step
