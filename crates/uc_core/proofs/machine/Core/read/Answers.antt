use Rattle.std.proofs.Common.{◌≡◌, Some, None, length, slice_get, sym, subst, arith, rules}
use Rattle.std.proofs.lemmas.Grind.{common_steps}
use Rattle.std.proofs.lemmas.Option.{gets}
use Rattle.uc_core.specs.Core.{CoreState}
use Rattle.uc_core.specs.Step.{refusal}
use Rattle.uc_core.specs.declared.event.Event.TheVariants.{Read}
use Rattle.uc_core.proofs.Enabled.{exists}
use Rattle.uc_core.proofs.Shows.{changed}
use Rattle.uc_core.proofs.Ties.{Makes, was_read}
use Rattle.uc_core.proofs.machine.Core.read.Goals as goal

pub index_mut-worker-requires : goal.index_mut-worker-requires
index_mut-worker-requires c =
    let s = c.self.inside in
    let enabled = subst (λ (core : CoreState). refusal core (Read c.args.number) ≡ None) (sym c.self.view_is) c.requires in
    let there = exists s (Read c.args.number) enabled in
    omega arith

pub unwrap-id-requires : goal.unwrap-id-requires
unwrap-id-requires c =
    let few = c.self.invariant.few in
    let s = c.self.inside in
    let enabled = subst (λ (core : CoreState). refusal core (Read c.args.number) ≡ None) (sym c.self.view_is) c.requires in
    let there = exists s (Read c.args.number) enabled in
    search rules

pub read-requires-clause-learned : goal.read-requires-clause-learned
read-requires-clause-learned c =
    let s = c.self.inside in
    let at : slice_get s.workers.items c.args.number ≡ Some c.index_mut-worker.result.now = grind (arith, common_steps, gets) in
    rw c.deref.ensures.value (c.self.invariant.each c.args.number _ at).learned

pub read-requires-clause-counts : goal.read-requires-clause-counts
read-requires-clause-counts c =
    let s = c.self.inside in
    let at : slice_get s.workers.items c.args.number ≡ Some c.index_mut-worker.result.now = grind (arith, common_steps, gets) in
    rw c.deref.ensures.value (c.self.invariant.each c.args.number _ at).counts

made : (c : goal.After-self-1) →
    let s = c.self.inside in
    Makes s (Read c.args.number) None (changed s s.decided s.entries c.args.number c.read.new.self)
made c =
    let s = c.self.inside in
    let enabled = subst (λ (core : CoreState). refusal core (Read c.args.number) ≡ None) (sym c.self.view_is) c.requires in
    let at : slice_get s.workers.items c.args.number ≡ Some c.index_mut-worker.result.now = grind (arith, common_steps, gets) in
    let named : c.unwrap-id.result ≡ c.args.number = search rules in
    let shows = rw (c.deref.ensures.value, named) at c.read.ensures.shown in
    let order = rw c.deref.ensures.value at (c.read.ensures.order (length s.workers.items) s.places) in
    was_read s c.args.number c.index_mut-worker.result.now c.read.new.self c.self.invariant at enabled shows order c.read.ensures.replay

pub invariant_of-self : goal.invariant_of-self
invariant_of-self c = rw c.from.ensures (made c).stays

pub returns : goal.returns
returns c = rw (← c.self.view_is, c.from.ensures) (made c).step
