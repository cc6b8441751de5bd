use Rattle.std.proofs.Common.{◌≡◌, ◌∙◌, Some, None, slice_get, sym, subst, arith, rules}
use Rattle.std.specs.Vec.{with_item}
use Rattle.std.proofs.lemmas.Grind.{common_steps}
use Rattle.std.proofs.lemmas.Option.{gets}
use Rattle.uc_core.specs.Core.{CoreState}
use Rattle.uc_core.specs.Fields.{core_of}
use Rattle.uc_core.specs.Step.{refusal}
use Rattle.uc_core.specs.declared.event.Event.TheVariants.{Replay}
use Rattle.uc_core.proofs.Enabled.{replayable}
use Rattle.uc_core.proofs.Shows.{IsCore-worker, changed, worker-kept}
use Rattle.uc_core.proofs.Ties.{Makes, entry-found, replayed}
use Rattle.uc_core.proofs.machine.Core.replay.Goals as goal

pub replay-requires-clause-few : goal.replay-requires-clause-few
replay-requires-clause-few c =
    let s = c.self.inside in
    let enabled = subst (λ (core : CoreState). refusal core (Replay c.args.number) ≡ None) (sym c.self.view_is) c.requires in
    let at : slice_get s.workers.items c.args.number ≡ Some c.index_mut-worker.result.now = grind (arith, common_steps, gets) in
    let there = replayable s c.args.number c.index_mut-worker.result.now at enabled in
    omega arith

pub replay-requires-clause-uniques : goal.replay-requires-clause-uniques
replay-requires-clause-uniques c =
    let s = c.self.inside in
    let at : slice_get s.workers.items c.args.number ≡ Some c.index_mut-worker.result.now = grind (arith, common_steps, gets) in
    (c.self.invariant.each c.args.number _ at).uniques

pub invariant_of-self : goal.invariant_of-self
invariant_of-self c =
    let s = c.self.inside in
    let at : slice_get s.workers.items c.args.number ≡ Some c.index_mut-worker.result.now = grind (arith, common_steps, gets) in
    rw c.from.ensures (IsCore-worker s c.args.number c.index_mut-worker.result.now c.replay.new.self at (c.replay.ensures.shown s.decided.items)
    c.in_err-reply.ensures.unchanged c.self.invariant (c.replay.ensures.order _ s.places _))

pub returns-in_err-reply-clause-unchanged : goal.returns-in_err-reply-clause-unchanged
returns-in_err-reply-clause-unchanged c =
    let s = c.self.inside in
    let at : slice_get s.workers.items c.args.number ≡ Some c.index_mut-worker.result.now = grind (arith, common_steps, gets) in
    let same : core_of (record s { workers = with_item s.workers c.from.result c.replay.new.self }) ≡ c.args.self.now =
    rw c.from.ensures (worker-kept s c.args.number c.index_mut-worker.result.now c.replay.new.self at (c.replay.ensures.shown s.decided.items)
    c.in_err-reply.ensures.unchanged ∙ c.self.view_is) in
    search (rules, same)

made : (c : goal.In_ok-reply) →
    let s = c.self.inside in
    Makes s (Replay c.args.number) c.in_ok-reply.reply (changed s s.decided s.entries c.args.number c.replay.new.self)
made c =
    let s = c.self.inside in
    let old = c.index_mut-worker.result.now in
    let enabled = subst (λ (core : CoreState). refusal core (Replay c.args.number) ≡ None) (sym c.self.view_is) c.requires in
    let at : slice_get s.workers.items c.args.number ≡ Some old = grind (arith, common_steps, gets) in
    let there = replayable s c.args.number old at enabled in
    let ticket : slice_get s.decided.items old.replayed ≡ Some c.index-ticket.result.now = grind (arith, common_steps, gets) in
    let finds = entry-found s old.replayed c.index-ticket.result.now ticket ∙ sym (rw c.deref.ensures.value at c.announced_under-found.ensures) in
    let named : c.unwrap-id.result ≡ c.args.number = search rules in
    let replies = rw named at c.in_ok-reply.ensures.reply in
    replayed s c.args.number old c.replay.new.self c.self.invariant at _ _ enabled finds (c.replay.ensures.shown s.decided.items)
    c.in_ok-reply.ensures.replayed c.in_ok-reply.ensures.tables replies (c.replay.ensures.order _ s.places _)

pub invariant_of-self-2 : goal.invariant_of-self-2
invariant_of-self-2 c = rw c.from.ensures (made c).stays

pub returns-clause-step : goal.returns-clause-step
returns-clause-step c = rw (← c.self.view_is, c.from.ensures) (made c).step
