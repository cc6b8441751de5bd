use Rattle.std.proofs.Common.{◌≡◌, ◌∙◌, ◌≤◌, List, ap, arith, length, subst, sym}
use Rattle.std.proofs.lemmas.List.Elements.{length_all_zip}
use Rattle.mc_model.specs.Settings.{Configuration}
use Rattle.mc_server.proofs.LogRuns.{all_caught_up, all_on, can_all, closes, few_used}
use Rattle.mc_server.proofs.NetworkRuns.{are_workers}
use Rattle.uc_worker.specs.Cited.{Sighting}
use Rattle.uc_worker.specs.Going.{CatchesUp}
use Rattle.mc_server.proofs.generations.next_log.Goals as goal

pub turn_over-requires : goal.turn_over-requires
turn_over-requires c =
    let used = length c.history-used.result.now in
    let workers = c.catch_up_all.new.workers in
    let all = are_workers c.args.log.now.settings c.args.log.now c.args.workers.now workers (all_on _ _ c.catch_up_all.ensures.catches) c.requires.workers in
    let places : c.places.result ≡ c.settings-2.result.now.places =
    c.places.ensures.value ∙ ap (λ (settings : Configuration). settings.places) (c.settings.ensures ∙ sym c.settings-2.ensures) in
    let can = can_all c.args.log.now used c.settings-2.result.now workers c.places.result places all.of c.in-Ok.ensures.all (c.can_be_followed.ensures.0 c.if-not-can_be_followed.false) in record {
      log = c.args.log.now;
      replayed = used;
      tenants = ap (λ (settings : Configuration). length settings.tenants) (sym c.settings-2.ensures);
      some = omega (arith, length_all_zip CatchesUp c.args.workers.now workers c.catch_up_all.ensures.catches, c.requires.some);
      each = can;
    }

pub returns-in-Ok-turn_over-clause-later : goal.returns-in-Ok-turn_over-clause-later
returns-in-Ok-turn_over-clause-later c = all_caught_up c.workers_go_on.ensures.quietly_through _ _ _ c.catch_up_all.ensures.catches c.turn_over.ensures.before

pub returns-in-Err-clause-later : goal.returns-in-Err-clause-later
returns-in-Err-clause-later c = all_caught_up c.workers_go_on.ensures.quietly_through _ _ _ c.catch_up_all.ensures.catches c.turn_over.ensures.before

pub returns-in-Ok-turn_over-clause-few : goal.returns-in-Ok-turn_over-clause-few
returns-in-Ok-turn_over-clause-few c =
    let all = are_workers c.args.log.now.settings c.args.log.now c.args.workers.now c.catch_up_all.new.workers (all_on _ _ c.catch_up_all.ensures.catches) c.requires.workers in
    subst (λ (history : List Sighting). length history ≤ c.args.log.now.settings.places) (sym c.history-used.ensures.history)
    (few_used c.args.log.now c.catch_up_all.new.workers all.of c.in-Some.first.now (sym c.in-Some.ensures.value))

pub returns-in-Ok-turn_over-clause-closes : goal.returns-in-Ok-turn_over-clause-closes
returns-in-Ok-turn_over-clause-closes c =
    let used = length c.history-used.result.now in
    let workers = c.catch_up_all.new.workers in
    let all = are_workers c.args.log.now.settings c.args.log.now c.args.workers.now workers (all_on _ _ c.catch_up_all.ensures.catches) c.requires.workers in
    let places : c.places.result ≡ c.settings-2.result.now.places =
    c.places.ensures.value ∙ ap (λ (settings : Configuration). settings.places) (c.settings.ensures ∙ sym c.settings-2.ensures) in
    let can = can_all c.args.log.now used c.settings-2.result.now workers c.places.result places all.of c.in-Ok.ensures.all (c.can_be_followed.ensures.0 c.if-not-can_be_followed.false) in
    closes c.workers_go_on.ensures.quietly_through c.args.log.now used c.settings-2.result.now c.args.workers.now workers c.turn_over.new.workers c.in-Ok-turn_over.next.base.tables.items
    c.catch_up_all.ensures.catches can c.turn_over.ensures.before c.in-Ok-turn_over.ensures.same c.in-Ok-turn_over.ensures.run c.in-Ok-turn_over.ensures.stands
