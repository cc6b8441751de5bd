use Rattle.std.proofs.Common.{◌≡◌, ◌∙◌, Some, None, slice_get, refl, sym, subst, arith, rules, length-set}
use Rattle.std.specs.Vec.{with_item}
use Rattle.std.proofs.lemmas.Grind.{common_steps}
use Rattle.std.proofs.lemmas.Option.{gets, same_Some}
use Rattle.uc_core.specs.Core.{CoreState}
use Rattle.uc_core.specs.Fields.{core_of}
use Rattle.uc_core.specs.Step.{refusal}
use Rattle.uc_core.specs.declared.event.Event.TheVariants.{Announce}
use Rattle.uc_core.proofs.Enabled.{exists}
use Rattle.uc_core.proofs.Shows.{IsCore-entries, changed, entries-kept}
use Rattle.uc_core.proofs.Ties.{Makes, announced, entries-set, entry_of}
use Rattle.uc_core.proofs.machine.Core.announce.Goals as goal

pub invariant_of-self : goal.invariant_of-self
invariant_of-self c =
    let s = c.self.inside in
    let at : slice_get s.entries.items c.args.number ≡ Some c.index_mut.result.now = grind (arith, common_steps, gets) in
    rw c.from-index.ensures (IsCore-entries s c.args.number c.index_mut.result.now c.push.new.self at c.in_err-push.ensures.items c.self.invariant)

pub returns-in_err-push-clause-unchanged : goal.returns-in_err-push-clause-unchanged
returns-in_err-push-clause-unchanged c =
    let s = c.self.inside in
    let at : slice_get s.entries.items c.args.number ≡ Some c.index_mut.result.now = grind (arith, common_steps, gets) in
    let same : core_of (record s { entries = with_item s.entries c.from-index.result c.push.new.self }) ≡ c.args.self.now =
    rw c.from-index.ensures (entries-kept s c.args.number c.index_mut.result.now c.push.new.self at c.in_err-push.ensures.items ∙ c.self.view_is) in
    search (rules, same)

pub index_mut-requires-2 : goal.index_mut-requires-2
index_mut-requires-2 c =
    let s = c.self.inside in
    let enabled = subst (λ (core : CoreState). refusal core (Announce c.args.number c.args.tenant c.args.command) ≡ None) (sym c.self.view_is) c.requires in
    let there = exists s (Announce c.args.number c.args.tenant c.args.command) enabled in
    omega arith

pub announce-requires : goal.announce-requires
announce-requires c =
    let s = c.self.inside in
    let at : slice_get s.workers.items c.args.number ≡ Some c.index_mut-2.result.now = grind (arith, common_steps, gets) in
    let order = c.self.invariant.each c.args.number _ at in
    omega arith

made : (c : goal.After-self-2-1) →
    let s = c.self.inside in
    Makes s (Announce c.args.number c.args.tenant c.args.command) None
    (changed s s.decided (with_item s.entries c.args.number c.push.new.self) c.args.number c.announce.new.self)
made c =
    let s = c.self.inside in
    let old = c.index_mut-2.result.now in
    let enabled = subst (λ (core : CoreState). refusal core (Announce c.args.number c.args.tenant c.args.command) ≡ None) (sym c.self.view_is) c.requires in
    let at : slice_get s.workers.items c.args.number ≡ Some old = grind (arith, common_steps, gets) in
    let seen : slice_get s.workers.items c.args.number ≡ Some c.index.result.now = grind (arith, common_steps, gets) in
    let list : slice_get s.entries.items c.args.number ≡ Some c.index_mut.result.now = grind (arith, common_steps, gets) in
    let named : c.unwrap.result ≡ c.args.number = search rules in
    let of_tenant : c.unwrap-tenant.result ≡ c.args.tenant = search rules in
    let counted = same_Some c.index.result.now old (sym seen ∙ at) in
    let grows = rw (named, of_tenant, counted) at c.in_ok-push.ensures.items in
    let entry = entry_of c.args.number old.announced c.args.tenant c.args.command in
    announced s c.args.number old c.announce.new.self c.self.invariant at c.args.tenant c.args.command (with_item s.entries c.args.number c.push.new.self) enabled
    (entries-set s.entries.items c.args.number entry c.index_mut.result.now c.push.new.self refl list grows)
    (length-set s.entries.items c.args.number c.push.new.self)
    (c.announce.ensures.shown s.decided.items) (c.announce.ensures.order _ s.places _) c.announce.ensures.replay

pub invariant_of-self-2 : goal.invariant_of-self-2
invariant_of-self-2 c = rw c.from-index.ensures (made c).stays

pub returns-clause-step : goal.returns-clause-step
returns-clause-step c = rw (← c.self.view_is, c.from-index.ensures) (made c).step
