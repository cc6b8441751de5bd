use Rattle.std.proofs.Common.{List, sym, ◌∙◌, subst}
use Rattle.std.proofs.lemmas.List.{nil_from_length}
use Rattle.mc_schedules.specs.declared.schedule.Item.{Item}
use Rattle.mc_schedules.proofs.Onward.{Doings, done-all, done-fault, doings-next, doings-none}
use Rattle.mc_schedules.proofs.running.do_all.Goals as goal

pub loop-line-init : goal.loop-line-init
loop-line-init g c =
    subst (λ (rest : List Item). Doings c.args.items.items rest c.args.core.now c.args.core.now c.args.replies.now.items c.args.replies.now.items)
    (sym c.into_iter-line-iterator.ensures.into_iter_gives.0) (doings-none c.args.items.items c.args.core.now c.args.replies.now.items)

pub returns-in-Err : goal.returns-in-Err
returns-in-Err g c =
    let so_far = subst (λ (rest : List Item). Doings c.args.items.items rest c.args.core.now c.loop-line.core c.args.replies.now.items c.loop-line.replies.items)
    c.in-Some.ensures.steps.0 c.loop-line.invariant in
    done-fault c.args.items.items c.in-Some.field-0 c.next.new.self.rest.items c.args.core.now c.loop-line.core c.args.replies.now.items c.loop-line.replies.items
    so_far c.act.new.core c.act.new.replies.items c.in-Err.fault c.in-Err.ensures

pub loop-line-preserved : goal.loop-line-preserved
loop-line-preserved g c =
    let so_far = subst (λ (rest : List Item). Doings c.args.items.items rest c.args.core.now c.loop-line.core c.args.replies.now.items c.loop-line.replies.items)
    c.in-Some.ensures.steps.0 c.loop-line.invariant in
    doings-next c.args.items.items c.in-Some.field-0 c.next.new.self.rest.items c.args.core.now c.loop-line.core c.args.replies.now.items c.loop-line.replies.items
    so_far c.act.new.core c.act.new.replies.items c.in_default.ensures

pub returns : goal.returns
returns g c =
    let none = nil_from_length c.loop-line.line-iterator.rest.items (sym c.loop-line.line-iterator.rest.ok.0 ∙ c.in-None.ensures.steps.0) in
    done-all c.args.items.items c.args.core.now c.loop-line.core c.args.replies.now.items c.loop-line.replies.items
    (subst (λ (rest : List Item). Doings c.args.items.items rest c.args.core.now c.loop-line.core c.args.replies.now.items c.loop-line.replies.items)
    none c.loop-line.invariant)
