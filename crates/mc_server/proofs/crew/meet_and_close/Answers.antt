-- All have the last worker's history, and none of them has done anything since.
use Rattle.std.proofs.Common.{◌≡◌, ◌∙◌, ◌∷◌, [], ◌++◌, List, Some, length, refl, sym, ap, subst}
use Rattle.std.proofs.lemmas.List.Elements.{All-pop, All-weaker, Contains-push}
use Rattle.std.proofs.lemmas.Slice.Zip.{all_zipped_more}
use Rattle.std.specs.List.{AllZip}
use Rattle.uc_worker.specs.AllWorkers.{AreOfLog}
use Rattle.uc_worker.specs.Cited.{Sighting}
use Rattle.uc_worker.specs.declared.worker.Worker.{Worker}
use Rattle.uc_worker.specs.TurningOver.{IsAsBefore}
use Rattle.uc_worker.specs.Worker.{history_of}
use Rattle.mc_server.specs.Crew.{AgreesWith, AreWorkersOf, MeetAndClose}
use Rattle.mc_server.proofs.Meetings.{agree_of, catches_through, have_closed, have_met}
use Rattle.mc_server.proofs.crew.meet_and_close.Goals as goal

pub meet_until_all_agree-requires-clause-log : goal.meet_until_all_agree-requires-clause-log
meet_until_all_agree-requires-clause-log c =
    let log = c.args.log.now in
    let both = All-pop (λ (worker : Worker). worker.log.now ≡ log) _ _ (Some c.in-Some.last) c.in-Some.ensures.items c.requires.of in
    All-weaker (λ (worker : Worker). worker.log.now ≡ log) (λ (worker : Worker). worker.log.now ≡ c.catch_up.new.self.log.now)
    (λ worker of. of ∙ (sym both.1 ∙ ap (λ lent. lent.now) (sym c.catch_up.ensures.catches.continues.log))) c.pop.new.self.items both.0

pub find_run_of_all-requires : goal.find_run_of_all-requires
find_run_of_all-requires c =
    let log = c.args.log.now in
    let others = c.pop.new.self.items in
    let first = c.in-Some.last in
    let one = c.meet_until_all_agree.new.one in
    let later = catches_through first c.catch_up.new.self one c.catch_up.ensures.catches c.meet_until_all_agree.ensures.later in
    let met = c.in_ok-workers.ensures.outcome in
    let own : AgreesWith one first one = record { later = later; whole = met.1; equal = refl } in
    let all = all_zipped_more (AgreesWith one) others c.in_ok-workers.workers.items first one met.0 own in
    subst (AreOfLog log) (sym (c.deref_mut.ensures.value ∙ c.in_ok-push.ensures.items))
    (agree_of log one (others ++ first ∷ []) (c.in_ok-workers.workers.items ++ one ∷ []) all (subst (AreOfLog log) c.in-Some.ensures.items c.requires.of))

pub returns : goal.returns
returns c =
    let log = c.args.log.now in
    let others = c.pop.new.self.items in
    let first = c.in-Some.last in
    let one = c.meet_until_all_agree.new.one in
    let later = catches_through first c.catch_up.new.self one c.catch_up.ensures.catches c.meet_until_all_agree.ensures.later in
    let met = c.in_ok-workers.ensures.outcome in
    let own : AgreesWith one first one = record { later = later; whole = met.1; equal = refl } in
    let all = all_zipped_more (AgreesWith one) others c.in_ok-workers.workers.items first one met.0 own in
    let workers = c.in-Some.ensures.items in
    let are = subst (AreWorkersOf log.settings log) workers c.requires in
    let used = length c.history-used.result.now in
    let long : length (history_of one) ≡ used = ap (length {A = Sighting}) (sym c.history-used.ensures.history) in
    let found = c.find_run_of_all.new.workers in
    let still : AllZip IsAsBefore (c.in_ok-workers.workers.items ++ one ∷ []) found =
    subst (λ (list : List Worker). AllZip IsAsBefore list found) (c.deref_mut.ensures.value ∙ c.in_ok-push.ensures.items) c.find_run_of_all.ensures.before in
    let ends : MeetAndClose (others ++ first ∷ []) used = record {
      met = have_met log.settings log (others ++ first ∷ []) (c.in_ok-workers.workers.items ++ one ∷ []) first one used are (Contains-push others first) later met.1 all long;
      closes = have_closed one (others ++ first ∷ []) (c.in_ok-workers.workers.items ++ one ∷ []) found used all still c.find_run_of_all.ensures.run long;
    } in
    record { outcome = subst (λ (list : List Worker). MeetAndClose list used) (sym workers) ends }
