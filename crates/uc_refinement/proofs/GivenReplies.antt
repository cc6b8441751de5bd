-- What a worker answered at some time is what the run of its closed log gives it.
use Rattle.std.proofs.Common.{◌≡◌, ◌∙◌, List, Some, take, slice_get, ap, subst, sym}
use Rattle.std.proofs.lemmas.Option.{get_or_from_slice_get, same_Some, slice_get_within}
use Rattle.lists.proofs.Public.{at_longer, take_longer}
use Rattle.mc_model.specs.declared.reply.Reply.{Reply}
use Rattle.mc_model.specs.Replay.{reply_to}
use Rattle.mc_model.specs.State.{TableState}
use Rattle.uc_cells.specs.Sighting.{Sighting, entries}
use Rattle.uc_refinement.specs.Refinement.{EarlierRepliesAreGiven, SubmittedRepliesAreGiven}
use Rattle.uc_worker.specs.declared.worker.Worker.{Worker}
use Rattle.uc_worker.specs.Worker.{history_of, next_of, openings_of}

pub earlier_replies_are_given : EarlierRepliesAreGiven
earlier_replies_are_given settings tables workers ran number place early worker seen reply at on here mine says =
    let more = on.history in
    let there : slice_get (history_of worker) place ≡ Some seen =
    ap (λ (history : List Sighting). slice_get history place) more.1 ∙ at_longer (history_of early) more.0 place seen here in
    let front : take place (history_of worker) ≡ take place (history_of early) = ap (take place) more.1 ∙ take_longer (history_of early) place seen more.0 here in
    let found = ran.replies number place worker seen at there mine in
    let over : openings_of worker ≡ tables =
    subst (λ (it : Worker). openings_of it ≡ tables) (get_or_from_slice_get workers number worker worker at) (ran.over number worker (slice_get_within workers number worker at)) in
    let opened : openings_of early ≡ tables = sym on.openings ∙ over in
    let same : found.1 ≡ reply = same_Some found.1 reply
    (found.3 ∙ (ap (λ (openings : List TableState). reply_to openings (entries (take place (history_of worker))) seen.entry) (sym opened)
    ∙ ap (λ (history : List Sighting). reply_to (openings_of early) (entries history) seen.entry) front) ∙ sym says) in
    (found.0, found.2 ∙ ap (λ (it : Reply). Some (number, place, it)) same)

pub submitted_replies_are_given : SubmittedRepliesAreGiven
submitted_replies_are_given settings tables workers ran number tenant command old new worker answer at its on submits onward =
    earlier_replies_are_given settings tables workers ran number answer.place new worker (next_of old tenant command) answer.reply at onward submits.own
    (sym on.same.1 ∙ (sym onward.same.1 ∙ its))
    (submits.reply ∙ ap (λ (openings : List TableState). reply_to openings (entries (take answer.place (history_of new))) (next_of old tenant command).entry) (sym on.openings))
