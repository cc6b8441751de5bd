-- What a run of the core answers to a worker's own commands follows from the worker's history.
use Rattle.std.proofs.Common.{◌≡◌, ℕ, zero, suc, ◌<◌, ◌≤◌, List, [], ◌∷◌, ◌++◌, length, take, None, Option, Some, slice_get, refl, sym, ap, subst, ◌∙◌, arith}
use Rattle.std.proofs.lemmas.Option.{same_Some, slice_get-map, slice_get_within}
use Rattle.std.specs.Option.{option_map, option_map_or}
use Rattle.mc_model.specs.declared.command.Command.{Command}
use Rattle.mc_model.specs.declared.reply.Reply.{Reply}
use Rattle.mc_model.specs.declared.request.Entry.{Entry}
use Rattle.mc_model.specs.declared.settings.Limits.{Limits}
use Rattle.mc_model.specs.declared.shown.ShownState.{ShownState}
use Rattle.mc_model.specs.History.{answer_from}
use Rattle.mc_model.specs.Lawful.{IsReached, IsWorker}
use Rattle.mc_model.specs.Log.{own}
use Rattle.mc_model.specs.Replay.{reply_to}
use Rattle.mc_model.specs.Settings.{Configuration}
use Rattle.mc_model.specs.State.{TableState}
use Rattle.uc_cells.specs.Sighting.{Sighting, entries}
use Rattle.uc_core.specs.Asked.{IsOfSettings}
use Rattle.uc_core.specs.Core.{ReplayState, core_size, entry_under, log_of}
use Rattle.uc_core.specs.Headline.{HasReply, OwnAreAnswered}
use Rattle.uc_core.specs.Run.{Runs, replayed_by}
use Rattle.uc_laws.specs.Over.{ByEventsOver, EachHasATable, IsAnswerOver, OfEveryRunOver, RepliesAreAnswersOver}
use Rattle.uc_laws.specs.CoreRun.{core_over}
use Rattle.uc_worker.specs.declared.worker.Worker.{Worker}
use Rattle.uc_refinement.specs.Refinement.{DoOneCoreRun, OwnHaveTheirReplies}
use Rattle.uc_worker.specs.AllWorkers.{own_part}
use Rattle.uc_worker.specs.TurningOver.{HaveOneHistory}
use Rattle.uc_worker.specs.Worker.{history_of}

-- the laws of every run
pub record Laws : Type 0 where
  pub answered : OfEveryRunOver (λ tables core given. EachHasATable tables core → OwnAreAnswered core given)
  pub replies : OfEveryRunOver (λ tables core given. RepliesAreAnswersOver tables core given)
  pub shown : OfEveryRunOver (λ tables core given. IsReached (core_size core) core.shown)
  pub settings : ByEventsOver (λ settings events core. IsOfSettings settings core)

-- the first entries of a list that begins with a history's
first_entries : (history : List Sighting) (rest : List (Option Entry)) (first : ℕ) → first ≤ length history →
    take first (entries history ++ rest) ≡ entries (take first history)
first_entries [] [] zero few = refl
first_entries [] (entry ∷ rest) zero few = refl
first_entries (seen ∷ history) rest zero few = refl
first_entries [] rest (suc first) few = absurd (omega (arith, few))
first_entries (seen ∷ history) rest (suc first) few = ap (λ (list : List (Option Entry)). seen.entry ∷ list) (first_entries history rest first (omega (arith, few)))

module _ (laws : Laws) (settings : Configuration) (tables : List TableState) (workers : List Worker)
    (one : DoOneCoreRun settings tables workers) (enough : length settings.tenants ≤ length tables) (same : HaveOneHistory workers)
    (number place : ℕ) (worker : Worker) (seen : Sighting) (at : slice_get workers number ≡ Some worker)
    (here : slice_get (history_of worker) place ≡ Some seen) (mine : seen.ticket.worker ≡ number) where
  run : Runs (core_over settings tables) one.core.events one.core.core one.core.given
  run = one.core.runs

  of_settings : IsOfSettings settings one.core.core
  of_settings = laws.settings settings tables one.core.events one.core.core one.core.given run

  shows : IsWorker one.core.core.shown number (own_part worker).state
  shows = subst (λ (log : ShownState). IsWorker log number (own_part worker).state) (sym one.core.shown) (one.shown number worker at)

  decided : slice_get one.core.core.shown.decided place ≡ Some seen.ticket
  decided = ap (λ (log : ShownState). slice_get log.decided place) one.core.shown ∙ one.decided number worker at place seen here

  -- what stands there is what was put there
  in_log : slice_get (log_of one.core.core) place ≡ Some seen.entry
  in_log = slice_get-map (entry_under one.core.core) one.core.core.shown.decided place ∙ (ap (option_map (entry_under one.core.core)) decided
      ∙ ap (λ (entry : Option Entry). Some entry) (one.entries seen.ticket seen (one.as_put number place worker seen at here mine)))

  -- the worker has replayed it
  inside : place < length (history_of worker)
  inside = slice_get_within (history_of worker) place seen here

  count : replayed_by one.core.core number ≡ length (history_of worker)
  count = one.core.replays number (let within = slice_get_within one.core.core.shown.workers number (own_part worker).state shows in
      let wide = of_settings.workers in omega (arith, within, wide))
      ∙ ap (λ (found : Option Worker). option_map_or (λ (w : Worker). length (history_of w)) found 0) at

  has_reply : HasReply one.core.given number place
  has_reply = by_replay (slice_get one.core.core.replays number) refl
    where
      by_replay : (found : Option ReplayState) → slice_get one.core.core.replays number ≡ found → HasReply one.core.given number place
      by_replay None none =
          let zero_so_far : replayed_by one.core.core number ≡ 0 = ap (λ (o : Option ReplayState). option_map_or (λ (r : ReplayState). r.replayed) o 0) none in
          absurd (omega (arith, zero_so_far, count, inside))
      by_replay (Some replay) some =
          let long : replayed_by one.core.core number ≡ replay.replayed = ap (λ (o : Option ReplayState). option_map_or (λ (r : ReplayState). r.replayed) o 0) some in
          laws.answered settings tables one.core.events one.core.core one.core.given run
          (subst (λ (limits : List Limits). length limits ≤ length tables) (sym of_settings.tenants) enough) number place (own_part worker).state replay seen.ticket (shows, some)
          (omega (arith, long, count, inside)) decided mine

  -- and its reply is the answer
  module _ (reply : Reply) (answers : IsAnswerOver tables one.core.core number place reply) where
    there : seen.entry ≡ Some answers.entry
    there = sym (same_Some _ _ (sym answers.found ∙ in_log))

    before : own answers.entry.tenant (take place (log_of one.core.core)) ≡ own answers.entry.tenant (entries (take place (history_of worker)))
    before =
        let begins = one.replayed same number worker at in let within = inside in
        ap (own answers.entry.tenant) (ap (take place) begins.1 ∙ first_entries (history_of worker) begins.0 place (omega (arith, within)))

    given_so : Some reply ≡ reply_to tables (entries (take place (history_of worker))) seen.entry
    given_so =
        ap (λ (r : Reply). Some r) (answers.replied ∙ ap (λ (list : List Command). answer_from answers.opening list answers.entry.command) before)
        ∙ (sym (ap (option_map (λ (opening : TableState). answer_from opening (own answers.entry.tenant (entries (take place (history_of worker)))) answers.entry.command)) answers.began)
        ∙ ap (reply_to tables (entries (take place (history_of worker)))) (sym there))

pub own_have_their_replies : Laws → OwnHaveTheirReplies
own_have_their_replies laws settings tables workers one enough same number place worker seen at here mine =
    let found = has_reply laws settings tables workers one enough same number place worker seen at here mine in
    let answers = laws.replies settings tables one.core.events one.core.core one.core.given one.core.runs found.0 number place found.1 found.2 in
    (found.0, found.1, found.2, given_so laws settings tables workers one enough same number place worker seen at here mine found.1 answers)
