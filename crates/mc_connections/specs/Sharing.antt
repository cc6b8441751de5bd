-- What the serves of a round cost each flow while another one waits, and where a round ends; this
-- project's profile, by the turns of flows (surplus round-robin) that `fair_queue` has.
use Rattle.std.specs.Prelude.{◌≡◌, ◌≢◌, ℕ, ◌+◌, ◌*◌, ◌<◌, ◌≤◌, Bool, List, [], ◌∷◌, ◌++◌, All, length, cond, nat_eq}
use Rattle.mio.specs.declared.event.event.Event.{Event}
use Rattle.fair_queue.specs.Turns.{IsFair, IsIdle, TurnGoesOn, flow_at}
use Rattle.mc_connections.specs.Round.{MakesRound, Queued, ServeInTurn, ServesNext}
use Rattle.mc_connections.specs.declared.waiting.TheConstants.{ROUND}

-- a serve of a connection: the flow in which it waited, and what this has cost
pub record OneServe : Type 0 where
  pub flow : ℕ
  pub cost : ℕ

-- these serves, one after another, lead from one state of a worker and its queue to another
abbrev pub ServesLead : Bool → Queued → List OneServe → Queued → Type 0
ServesLead until before [] after = after ≡ before
ServesLead until before (serve ∷ serves) after =
    (between : Queued) × (next : ServesNext until before between)
    × (next.turn.flow ≡ serve.flow) × (between.waiting.spent ≡ serve.cost)
    × ServesLead until between serves after

-- what the serves of a flow have cost
abbrev pub cost_in : ℕ → List OneServe → ℕ
cost_in flow [] = 0
cost_in flow (serve ∷ serves) = cond (nat_eq serve.flow flow) serve.cost 0 + cost_in flow serves

-- the serve is of another flow than this, and costs no more than that
abbrev pub IsOfAnother : ℕ → ℕ → OneServe → Type 0
IsOfAnother waiting most serve = (serve.flow ≢ waiting) × (serve.cost ≤ most)

-- While a connection waits in a flow and none of that flow is served, the serves of each other flow
-- cost a quantum at most, and twice what the dearest serve does: once since a turn goes on until
-- its quantum is used up, and once for the latest serve, which is charged before the next one.
abbrev pub OthersTakeOneTurnEach : Type 0
OthersTakeOneTurnEach =
    (until : Bool) (before after : Queued) (serves : List OneServe) (waiting other most : ℕ) →
    IsFair before.waiting.queue → waiting < length before.waiting.queue.flows →
    0 < length (flow_at before.waiting.queue waiting).ready →
    other < length before.waiting.queue.flows → other ≢ waiting →
    ServesLead until before serves after → before.waiting.spent ≤ most →
    All (IsOfAnother waiting most) serves →
    cost_in other serves ≤ before.waiting.queue.quantum + (most + most)

-- how many of these serves are of a flow
abbrev pub serves_in : ℕ → List OneServe → ℕ
serves_in flow [] = 0
serves_in flow (serve ∷ serves) = cond (nat_eq serve.flow flow) 1 0 + serves_in flow serves

-- the serve costs no more than that
abbrev pub CostsNoMore : ℕ → OneServe → Type 0
CostsNoMore most serve = serve.cost ≤ most

-- a round for these events, with these serves
pub record IsRoundOf (until : Bool) (events : List Event) (before : Queued)
    (serves : List OneServe) (after : Queued) : Type 0 where
  pub round : MakesRound until events before after
  pub leads : ServesLead until
      (record before { waiting = record round.noted { spent_in_round = 0 } }) serves round.last

-- Rounds followed one another, with these serves in all, and at the end of each somebody waited.
-- Between two rounds arrivals may be admitted and the worker may catch up; who waits, and what is
-- spent, is then as it was.
pub data RoundsLead (until : Bool) (first : Queued) : List OneServe → Queued → Type 0 where
  no_round : RoundsLead until first [] first
  one_round : (serves more : List OneServe) (events : List Event) (between begun last : Queued) →
      RoundsLead until first serves between → begun.waiting ≡ between.waiting →
      IsRoundOf until events begun more last → ¬ (IsIdle last.waiting.queue) →
      RoundsLead until first (serves ++ more) last

-- While a connection waits behind `ahead` others of its flow, over as many rounds as that takes, the
-- serves of each other flow cost a quantum at most and what the dearest serve does, for each of
-- these others and once for the connection itself; and what the dearest does once more, since the
-- latest is charged before the next one. That is while at most `ahead` of its flow are served.
abbrev pub OthersTakeOneTurnPerConnection : Type 0
OthersTakeOneTurnPerConnection =
    (until : Bool) (first last : Queued) (serves : List OneServe) (waiting other ahead most : ℕ) →
    IsFair first.waiting.queue → waiting < length first.waiting.queue.flows →
    ahead < length (flow_at first.waiting.queue waiting).ready →
    other < length first.waiting.queue.flows → other ≢ waiting →
    RoundsLead until first serves last → first.waiting.spent ≤ most →
    All (CostsNoMore most) serves → serves_in waiting serves ≤ ahead →
    cost_in other serves ≤ (ahead + 1) * (first.waiting.queue.quantum + most) + most

-- those that were served one after another in a round are such serves
abbrev pub RoundsAreServes : Type 0
RoundsAreServes = (until : Bool) (before after : Queued) (count : ℕ) →
    ServeInTurn until before count after →
    (serves : List OneServe) × (length serves ≡ count) × ServesLead until before serves after

-- once as much is spent in a round as a round is to spend, only the flow that has its turn is
-- served, and only while its turn goes on
abbrev pub OnlyTheTurnGoesOn : Type 0
OnlyTheTurnGoesOn = (until : Bool) (before after : Queued) (next : ServesNext until before after) →
    IsFair before.waiting.queue → ROUND ≤ before.waiting.spent_in_round →
    (next.turn.flow ≡ before.waiting.queue.turn)
    × TurnGoesOn before.waiting.spent (flow_at before.waiting.queue before.waiting.queue.turn)
