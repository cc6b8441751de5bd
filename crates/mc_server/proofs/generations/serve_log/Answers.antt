use Rattle.std.proofs.Common.{◌≡◌, ◌∙◌, ◌++◌, List, ap, drop, inl, inr, length, refl, subst, sym, take}
use Rattle.std.proofs.lemmas.List.Elements.{length_all_zip}
use Rattle.std.specs.List.{AllZip}
use Rattle.mc_net.specs.Running.{each_followed_by}
use Rattle.mc_server.proofs.LogRuns.{all_on, not_last, taken_whole}
use Rattle.mc_server.proofs.NetworkRuns.{are_workers}
use Rattle.mc_server.specs.Logs.{Closes, one_more_log}
use Rattle.uc_worker.specs.Going.{CatchesUp}
use Rattle.uc_worker.specs.declared.worker.Worker.{Worker}
use Rattle.mc_server.proofs.generations.serve_log.Goals as goal

-- the log is served to the end in one part
pub returns-in-Done-clause-serves : goal.returns-in-Done-clause-serves
returns-in-Done-clause-serves g c = λ logs places who tables were by opened.
    let begun = c.args.workers.items in
    let served = c.in_ok-workers.workers.items in
    record {
      all = each_followed_by who begun served;
      served = served;
      serves = record {
        who = who;
        tables = tables;
        earlier = were;
        log = c.args.log.now;
        begun = begun;
        opened = opened;
        parts = inl (c.in_ok-workers.ensures.back, refl);
      };
      run = c.in_ok-workers.ensures.run;
      met = c.in_ok-meet_and_close-in-Done.ensures.outcome.met;
      closes = c.in_ok-meet_and_close-in-Done.ensures.outcome.closes;
      by = c.in_ok-workers.ensures.in_turn who by;
      over = c.in_ok-workers.ensures.done c.in-Done.is;
    }

-- another log follows
pub returns-in-Some-clause-serves : goal.returns-in-Some-clause-serves
returns-in-Some-clause-serves g c = λ logs places who tables were by opened.
    let begun = c.args.workers.items in
    let served = c.in_ok-workers.workers.items in
    let closes : Closes served c.in-Some.used c.in-Some.next.base.tables.items =
    subst (λ (workers : List Worker). Closes workers c.in-Some.used c.in-Some.next.base.tables.items) c.deref_mut.ensures.value c.in-Some.ensures.closes in (
      not_last c.args.is_last c.in_ok-workers.ended c.in_ok-workers.ensures.last c.in-Full.is,
      record {
        fits = c.in-Some.ensures.fits;
        few = c.in-Some.ensures.few;
        who = each_followed_by who begun served;
        were = one_more_log logs places c.in-Some.used who tables c.in-Some.next.base.tables.items c.args.log.now begun served were opened c.in_ok-workers.ensures.back closes;
        by = c.in_ok-workers.ensures.in_turn who by;
      },
    )

-- none can follow
pub serve_part-requires-2-clause-workers : goal.serve_part-requires-2-clause-workers
serve_part-requires-2-clause-workers g c κs within =
    let full = c.in_ok-workers.workers.items in
    let many : length c.deref_mut.result.now ≡ length c.next_log.new.workers = length_all_zip CatchesUp c.deref_mut.result.now c.next_log.new.workers c.next_log.ensures.later in
    let whole : take c.in_ok-workers.workers.len (c.next_log.new.workers ++ drop (length c.next_log.new.workers) full) ≡ c.next_log.new.workers =
    taken_whole _ c.next_log.new.workers _ (c.in_ok-workers.workers.ok.0 ∙ ap length (sym c.deref_mut.ensures.value) ∙ many) in
    let later : AllZip CatchesUp full (take c.in_ok-workers.workers.len (c.next_log.new.workers ++ drop (length c.next_log.new.workers) full)) =
    subst (AllZip CatchesUp full) (sym whole) (subst (λ (workers : List Worker). AllZip CatchesUp workers c.next_log.new.workers) c.deref_mut.ensures.value c.next_log.ensures.later) in
    are_workers c.args.log.now.settings c.args.log.now full _ (all_on full _ later) c.in_ok-workers.ensures.workers

pub returns-clause-serves : goal.returns-clause-serves
returns-clause-serves g c = λ logs places who tables were by opened.
    let begun = c.args.workers.items in
    let full = c.in_ok-workers.workers.items in
    let many : length c.deref_mut.result.now ≡ length c.next_log.new.workers = length_all_zip CatchesUp c.deref_mut.result.now c.next_log.new.workers c.next_log.ensures.later in
    let whole : take c.in_ok-workers.workers.len (c.next_log.new.workers ++ drop (length c.next_log.new.workers) full) ≡ c.next_log.new.workers =
    taken_whole _ c.next_log.new.workers _ (c.in_ok-workers.workers.ok.0 ∙ ap length (sym c.deref_mut.ensures.value) ∙ many) in
    let later : AllZip CatchesUp full (take c.in_ok-workers.workers.len (c.next_log.new.workers ++ drop (length c.next_log.new.workers) full)) =
    subst (AllZip CatchesUp full) (sym whole) (subst (λ (workers : List Worker). AllZip CatchesUp workers c.next_log.new.workers) c.deref_mut.ensures.value c.next_log.ensures.later) in
    let served = c.in_ok-workers-2.workers.items in
    let who_then = each_followed_by who begun full in
    record {
      all = each_followed_by who_then _ served;
      served = served;
      serves = record {
        who = who;
        tables = tables;
        earlier = were;
        log = c.args.log.now;
        begun = begun;
        opened = opened;
        parts = inr (record { full = full; again = _; first = c.in_ok-workers.ensures.back; between = later; second = c.in_ok-workers-2.ensures.back; in_turn = refl });
      };
      run = c.in_ok-workers-2.ensures.run;
      met = c.in_ok-meet_and_close.ensures.outcome.met;
      closes = c.in_ok-meet_and_close.ensures.outcome.closes;
      by = c.in_ok-workers-2.ensures.in_turn who_then (c.in_ok-workers.ensures.in_turn who by);
      over = c.in_ok-workers-2.ensures.done (c.in_ok-workers-2.ensures.last refl);
    }
