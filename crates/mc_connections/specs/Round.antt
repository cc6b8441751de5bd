-- What a round is, in which a worker serves the connections of its queue; this project's profile.
use Rattle.std.specs.Prelude.{◌≡◌, ◌⊎◌, ℕ, ◌+◌, ◌-◌, ◌^◌, ◌<◌, ◌≤◌, ◌==◌, ◌&&◌, not, Bool, None, List, [], ◌∷◌, ◌++◌, min, true}
use Rattle.mio.specs.Event.{event_token, is_error, is_read_closed}
use Rattle.mio.specs.declared.event.event.Event.{Event}
use Rattle.fair_queue.specs.Turns.{IsIdle}
use Rattle.mc_connections.specs.InQueue.{HasLetWait, HasServedNext}
use Rattle.mc_connections.specs.Serving.{tenant_at}
use Rattle.mc_connections.specs.Tallying.{CountsForTenant}
use Rattle.mc_connections.specs.Waiting.{EndsRound, IsNoted, IsRoundOver, LetsWait, TakesTurn}
use Rattle.mc_connections.specs.Working.{Standing, standing}
use Rattle.mc_connections.specs.declared.closing.TheConstants.{FIRST_TOKEN}
use Rattle.mc_connections.specs.declared.connections.Connections.{Connections}
use Rattle.mc_connections.specs.declared.connections.TheConstants.{MOST_OF_ALL}
use Rattle.mc_connections.specs.declared.ready_queue.ReadyQueue.{ReadyQueue}
use Rattle.mc_connections.specs.declared.tallies.OneTally.{OneTally}
use Rattle.mc_connections.specs.declared.waiting.Waiting.{Waiting}
use Rattle.uc_worker.specs.declared.worker.Worker.{Worker}

-- a worker and its connections, which of these wait, and the tallies that they are counted in
pub record Queued : Type 0 where
  pub standing : Standing
  pub waiting : Waiting
  pub tallies : List OneTally

-- those of a worker and its queue
abbrev pub queued_at : Worker → ReadyQueue → Queued
queued_at worker ready = record {
  standing = standing worker ready.connections;
  waiting = ready.waiting;
  tallies = ready.tallies.all.items;
}

-- nobody waits to be served
abbrev pub NoConnectionWaits : ReadyQueue → Type 0
NoConnectionWaits ready = IsIdle ready.waiting.queue

-- the event's token is a connection's key, and neither the waker's nor a closing stream's
abbrev pub IsOfConnection : Event → Type 0
IsOfConnection event = (event_token event).0 < FIRST_TOKEN

-- the event is the waker's: the worker was woken
abbrev pub is_wake : Event → Bool
is_wake event = (event_token event).0 == 2 ^ 64 - 1

-- a read that fills less than its buffer is the last one for the event: the peer hasn't closed, nor
-- has the stream failed
abbrev pub short_of : Event → Bool
short_of event = not (is_read_closed event) && not (is_error event)

-- the event tells that the peer has closed or that the stream has failed
abbrev pub TellsEnd : Event → Type 0
TellsEnd event = (is_read_closed event ≡ true) ⊎ (is_error event ≡ true)

-- if the event is of a connection that one, and no other, came to wait, in its tenant's flow, and
-- nothing has changed of what is spent; and otherwise all is as it was
abbrev pub NotesEvent : Connections → Event → Waiting → Waiting → Type 0
NotesEvent connections event old new =
    IsOfConnection event
    × LetsWait (tenant_at connections (event_token event).0) (event_token event).0
    (short_of event) old new
    × (new.spent ≡ old.spent) × (new.spent_in_round ≡ old.spent_in_round)
    ⊎ ¬ (IsOfConnection event) × (new ≡ old)

-- the connections for which there are these events came to wait, one after another
pub data HaveCome (connections : Connections) (first : Waiting) : List Event → Waiting →
    Type 0 where
  none_came : HaveCome connections first [] first
  one_came : (earlier : List Event) (event : Event) (between last : Waiting) →
      HaveCome connections first earlier between → NotesEvent connections event between last →
      HaveCome connections first (earlier ++ event ∷ []) last

-- The round wasn't over, and the connection whose turn it is, and no other, was taken out and
-- served: what this has cost is charged to the round, it waits on if it has more to do, and it is
-- counted in its tenant's tally.
pub record ServesNext (until : Bool) (before after : Queued) : Type 0 where
  pub key : ℕ
  pub goes_on : ¬ (IsRoundOver before.waiting)
  pub taken : Waiting
  pub turn : TakesTurn key before.waiting taken
  pub noted : IsNoted key None before.waiting taken
  pub served : HasServedNext until key before.standing after.standing after.waiting
  pub waits : HasLetWait until key before.standing after.standing taken after.waiting
  pub tallies : CountsForTenant key before.standing after.standing before.tallies after.tallies
  pub round : after.waiting.spent_in_round
      ≡ min (before.waiting.spent_in_round + after.waiting.spent) (2 ^ 64 - 1)

-- this many connections were served, one after another, each as the next one then
pub data ServeInTurn (until : Bool) (first : Queued) : ℕ → Queued → Type 0 where
  none_served : ServeInTurn until first 0 first
  one_served : (count : ℕ) (between last : Queued) → ServeInTurn until first count between →
      ServesNext until between last → ServeInTurn until first (count + 1) last

-- The connections for which there are these events came to wait; and then, with nothing spent yet
-- in this round, connections were served, each as the next one, until the round was over, nobody
-- waited, or as many were served as may be in a round.
pub record MakesRound (until : Bool) (events : List Event) (before after : Queued) : Type 0 where
  pub noted : Waiting
  pub come : HaveCome before.standing.connections before.waiting events noted
  pub count : ℕ
  pub last : Queued
  pub served :
      ServeInTurn until (record before { waiting = record noted { spent_in_round = 0 } }) count last
  pub most : count ≤ MOST_OF_ALL
  pub over : EndsRound last.waiting after.waiting
      ⊎ (count ≡ MOST_OF_ALL) × (after.waiting ≡ last.waiting)
  pub same : (after.standing ≡ last.standing) × (after.tallies ≡ last.tallies)
