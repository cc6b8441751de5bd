-- What a worker's calls do to it, as relations between the worker before and the worker after: this
-- project's profile. A command's way to its answer is that of Herlihy's universal construction
-- (Wait-Free Synchronization, TOPLAS 1991): it is announced, decided at a place of one log, and
-- answered from all that stands before it.
use Rattle.std.specs.Prelude.{◌≡◌, ◌⊎◌, ◌≤◌, ◌+◌, ◌∷◌, ◌++◌, [], ℕ, length, take, Some, slice_get}
use Rattle.mc_model.specs.declared.command.Command.{Command}
use Rattle.lists.specs.Lists.{BeginsWith}
use Rattle.mc_model.specs.Replay.{reply_to}
use Rattle.uc_cells.specs.Sighting.{entries}
use Rattle.uc_log.specs.Passes.{next_entry}
use Rattle.uc_places.specs.OneRun.{IsStill}
use Rattle.uc_worker.specs.declared.worker.Answer.{Answer}
use Rattle.uc_worker.specs.declared.worker.Worker.{Worker}
use Rattle.uc_worker.specs.Steps.{IsSame}
use Rattle.uc_worker.specs.Worker.{announced_of, history_of, next_of, openings_of, own_desk, seat_of}

-- the same worker of the same log over the same tables, later on: what it has replayed, announced
-- and learned stays
pub record Continues (old new : Worker) : Type 0 where
  pub log : new.log ≡ old.log
  pub openings : openings_of new ≡ openings_of old
  pub same : IsSame (seat_of old) (seat_of new)
  pub history : BeginsWith (history_of new) (history_of old)
  pub announced : BeginsWith (announced_of new) (announced_of old)
  pub learned : BeginsWith (seat_of new).state.learned (seat_of old).state.learned

-- the same, and the worker has announced nothing meanwhile
pub record CatchesUp (old new : Worker) : Type 0 where
  pub continues : Continues old new
  pub announced : announced_of new ≡ announced_of old

-- the worker has taken no event and replayed nothing; a list may have been shared with its seat
pub record StandsStill (old new : Worker) : Type 0 where
  pub seat : IsStill (own_desk old) (own_desk new)
  pub history : history_of new ≡ history_of old

-- both workers have learned the same tickets afterwards: those that one of the two had learned
pub record LearnsTheSame (one other new_one new_other : Worker) : Type 0 where
  pub same : (seat_of new_one).state.learned ≡ (seat_of new_other).state.learned
  pub either : ((seat_of new_one).state.learned ≡ (seat_of one).state.learned)
      ⊎ ((seat_of new_one).state.learned ≡ (seat_of other).state.learned)

-- the worker has replayed more, and taken no step of the log
pub record ReplaysMore (old new : Worker) : Type 0 where
  pub log : new.log ≡ old.log
  pub openings : openings_of new ≡ openings_of old
  pub pass : new.pass ≡ old.pass
  pub history : BeginsWith (history_of new) (history_of old)

-- the tenant's command was announced under the next number, or nothing was announced
abbrev pub AnnouncesAtMost : Worker → Worker → ℕ → Command → Type 0
AnnouncesAtMost old new tenant command =
    (announced_of new ≡ announced_of old)
    ⊎ (announced_of new ≡ announced_of old ++ next_of old tenant command ∷ [])

-- The tenant's command was announced under the next number, and nothing else was. It stands last in
-- the history, at a place that wasn't replayed before, and no later place is learned. The reply is
-- the answer after that tenant's own commands before that place. At most one more proposal was made
-- for it than there are workers.
pub record Submits (old new : Worker) (tenant : ℕ) (command : Command)
    (answer : Answer) : Type 0 where
  pub announced : announced_of new ≡ announced_of old ++ next_of old tenant command ∷ []
  pub count : (seat_of new).state.announced ≡ (seat_of old).state.announced + 1
  pub place : length (history_of old) ≤ answer.place
  pub last : length (history_of new) ≡ answer.place + 1
  pub learned : length (seat_of new).state.learned ≡ answer.place + 1
  pub own : slice_get (history_of new) answer.place ≡ Some (next_of old tenant command)
  pub reply : Some answer.reply
      ≡ reply_to (openings_of old) (entries (take answer.place (history_of new)))
      (Some (next_entry old.pass tenant command))
  pub proposals : (answer.proposals ≡ (seat_of new).state.proposals)
      × (answer.proposals ≤ (seat_of new).size.workers + 1)
