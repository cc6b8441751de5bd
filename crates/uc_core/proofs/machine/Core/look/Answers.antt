use Rattle.std.proofs.Common.{◌≡◌, ◌%◌, ◌∙◌, Some, None, length, slice_get, sym, ap, ap₂, subst, arith, rules}
use Rattle.std.proofs.lemmas.Grind.{common_steps}
use Rattle.std.proofs.lemmas.Option.{gets, same_Some, slice_get_within}
use Rattle.uc_core.specs.Core.{CoreState}
use Rattle.uc_core.specs.Step.{refusal}
use Rattle.uc_core.specs.declared.event.Event.TheVariants.{Look}
use Rattle.uc_core.specs.declared.worker.Worker.{Worker}
use Rattle.uc_core.proofs.Shows.{changed}
use Rattle.uc_core.proofs.Ties.{Makes, was_looked}
use Rattle.uc_core.proofs.machine.Core.look.Goals as goal

pub look-requires : goal.look-requires
look-requires c =
    let s = c.self.inside in
    let at : slice_get s.workers.items c.args.number ≡ Some c.index_mut-worker.result.now = grind (arith, common_steps, gets) in
    let place : c.unwrap-helped.result ≡ c.index.result.now.learned % c.len.result = search rules in
    let there : slice_get s.workers.items (c.index.result.now.learned % c.len.result) ≡ Some c.index-2.result.now = grind (arith, common_steps, gets) in
    let within = slice_get_within s.workers.items (c.index.result.now.learned % c.len.result) c.index-2.result.now there in
    omega (arith, place, within, (c.self.invariant.each c.args.number c.index_mut-worker.result.now at).counted)

made : (c : goal.After-self-1) →
    let s = c.self.inside in
    Makes s (Look c.args.number) None (changed s s.decided s.entries c.args.number c.look.new.self)
made c =
    let s = c.self.inside in
    let old = c.index_mut-worker.result.now in
    let enabled = subst (λ (core : CoreState). refusal core (Look c.args.number) ≡ None) (sym c.self.view_is) c.requires in
    let at : slice_get s.workers.items c.args.number ≡ Some old = grind (arith, common_steps, gets) in
    let seen : slice_get s.workers.items c.args.number ≡ Some c.index.result.now = grind (arith, common_steps, gets) in
    let many : c.len.result ≡ length s.workers.items = omega arith in
    let place : c.unwrap-helped.result ≡ c.index.result.now.learned % c.len.result = search rules in
    let turn : c.unwrap-helped.result ≡ old.learned % length s.workers.items =
    place ∙ ap₂ (λ (worker : Worker) n. worker.learned % n) (same_Some _ _ (sym seen ∙ at)) many in
    let there : slice_get s.workers.items (c.index.result.now.learned % c.len.result) ≡ Some c.index-2.result.now = grind (arith, common_steps, gets) in
    let counts = (c.self.invariant.each c.args.number old at).counts in
    was_looked s c.args.number old c.look.new.self c.self.invariant at c.unwrap-helped.result c.index-2.result.now enabled turn
    (ap (slice_get s.workers.items) place ∙ there) (c.look.ensures.shown s.decided.items counts)
    (c.look.ensures.order _ s.places _) c.look.ensures.replay

pub invariant_of-self : goal.invariant_of-self
invariant_of-self c = rw c.from-index.ensures (made c).stays

pub returns : goal.returns
returns c = rw (← c.self.view_is, c.from-index.ensures) (made c).step
