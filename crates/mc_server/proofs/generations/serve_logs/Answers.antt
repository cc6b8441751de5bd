use Rattle.std.proofs.Common.{◌+◌, arith, inl, inr, length, refl, subst, sym, ⊎_elim, Option}
use Rattle.mc_model.specs.Settings.{Configuration}
use Rattle.mc_server.proofs.LogRuns.{first_few, nobody_at, nobody_there, one_more_few, served_by_nobody, were_served_at}
use Rattle.mc_server.specs.Logs.{IsFrontOf, LogsWere, ServesTo, no_log_yet, tables_over}
use Rattle.uc_worker.specs.declared.turning_over.Base.{Base}
use Rattle.mc_server.proofs.generations.serve_logs.Goals as goal

pub loop-init : goal.loop-init
loop-init g c =
    let loops = c.args.front.now.event_loops.items in
    let Begins = λ (base : Option Base). LogsWere c.args.opened.log.settings 0 0 (nobody_at loops) (tables_over c.args.opened.log base) in
    record {
      so_far = (
        0,
        c.in_ok-first.ensures.serves 0 0 (nobody_at loops) (subst Begins (sym c.requires.empty) (no_log_yet (nobody_at loops) (nobody_there loops))) (served_by_nobody (length c.args.opened.log.settings.tenants) loops c.requires.new),
        first_few c.args.most,
      );
      more = c.is_last_log-is_last.ensures.more;
      total = λ is. omega arith;
      bound = omega arith;
      front = c.in_ok-first.ensures.front;
      begun = c.in_ok-first.ensures.outcome;
    }

pub returns-in-Done-clause-served : goal.returns-in-Done-clause-served
returns-in-Done-clause-served g c =
    let so_far = c.loop.invariant.so_far in
    let ends = subst (ServesTo c.args.opened.log.settings c.loop.is_last so_far.0 c.loop.total c.loop.front) c.in-Done.is so_far.1 in
    were_served_at c.commands_answer_who_asked.ensures c.args.opened.log.settings c.args.most so_far.0 c.loop.total c.in-Done.last _ c.loop.front c.loop.invariant.front ends
    (⊎_elim (λ none. inl none) (λ few. inr few.1) so_far.2) refl

-- the next log was served
pub loop-preserved : goal.loop-preserved
loop-preserved g c =
    let before = c.loop.invariant in
    let so_far = before.so_far in
    let settings = c.args.opened.log.settings in
    let used = c.in-Full.used in
    let total = c.loop.total + used in
    let went = subst (ServesTo settings c.loop.is_last so_far.0 c.loop.total c.loop.front) c.in-Full.is so_far.1 in
    let next = went.1 in
    let serves =
    subst (λ (settings : Configuration). LogsWere settings (so_far.0 + 1) total next.who c.in-Full.next.base.tables.items →
    ServesTo settings c.is_last_log-is_last-in-loop.result (so_far.0 + 1) total c.serve_next.new.front c.in_ok-served.served)
    next.fits.settings_are (λ were. c.in_ok-served.ensures.serves (so_far.0 + 1) total next.who were next.by) in
    record {
      so_far = (
        so_far.0 + 1,
        serves next.were,
        ⊎_elim (λ none. inl none) (λ few. one_more_few so_far.0 c.loop.number c.args.most c.saturating_add-number.result (before.more went.0) few.0 (omega (arith, c.ranges.most.fits)) c.saturating_add-number.ensures) so_far.2,
      );
      more = c.is_last_log-is_last-in-loop.ensures.more;
      total = c.is_last_log-is_last-in-loop.ensures.total;
      bound = omega (arith, next.few, before.total went.0, c.requires.places);
      front = subst (λ (settings : Configuration). IsFrontOf settings c.serve_next.new.front) next.fits.settings_are c.in_ok-served.ensures.front;
      begun = before.begun;
    }
