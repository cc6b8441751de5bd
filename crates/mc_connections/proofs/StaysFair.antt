-- A queue that is fair stays so, whatever comes and whoever is served.
use Rattle.std.proofs.Common.{◌<◌, ℕ, Bool, List, arith, length, subst, sym, ⊎_elim}
use Rattle.fair_queue.specs.Turns.{Charges, GivesFirst, IsFair, IsPushed, QueueState}
use Rattle.mio.specs.Event.{event_token}
use Rattle.mio.specs.declared.event.event.Event.{Event}
use Rattle.mc_connections.specs.Round.{HaveCome, MakesRound, NotesEvent, Queued, ServeInTurn, ServesNext, none_came, none_served, one_came, one_served}
use Rattle.mc_connections.specs.Serving.{tenant_at}
use Rattle.mc_connections.specs.Waiting.{EndsRound}
use Rattle.mc_connections.specs.declared.connections.Connections.{Connections}
use Rattle.mc_connections.specs.declared.waiting.Waiting.{Waiting}
use Rattle.mc_connections.proofs.Sharing.{CameOrStayed, came_to_wait, waited_on}

-- What each change of a queue leaves.
pub record StaysFair : Type 0 where
  pub comes : (flow key : ℕ) (old new : QueueState) → flow < length old.flows → IsPushed flow key old new → IsFair old → IsFair new
  pub charged : (spent : ℕ) (old new : QueueState) → Charges spent old new → IsFair old → IsFair new
  pub given : (flow key : ℕ) (old new : QueueState) → GivesFirst flow key old new → IsFair old → IsFair new

pub some : (state : QueueState) → IsFair state → 0 < length state.flows
some state fair = omega (arith, fair.turn)

after_coming : StaysFair → (old new : QueueState) → CameOrStayed old new → IsFair old → IsFair new
after_coming stays old new came fair =
    ⊎_elim (λ pushed. stays.comes pushed.0 pushed.1 old new pushed.2 pushed.3 fair) (λ same. subst IsFair (sym same) fair) came

pub after_serve : StaysFair → (until : Bool) (before after : Queued) → ServesNext until before after → IsFair before.waiting.queue → IsFair after.waiting.queue
after_serve stays until before after next fair =
    let charged = stays.charged before.waiting.spent before.waiting.queue next.turn.between next.turn.charged fair in
    let given = stays.given next.turn.flow next.key next.turn.between next.taken.queue next.turn.given charged in
    after_coming stays next.taken.queue after.waiting.queue
    (waited_on next.waits.state (tenant_at after.standing.connections next.key) next.key next.taken after.waiting (some next.taken.queue given) next.waits.waits) given

pub after_event : StaysFair → (connections : Connections) (event : Event) (old new : Waiting) → NotesEvent connections event old new → IsFair old.queue → IsFair new.queue
after_event stays connections event old new notes fair =
    ⊎_elim
    (λ waits. after_coming stays old.queue new.queue (came_to_wait (tenant_at connections (event_token event).0) (event_token event).0 old new (some old.queue fair) waits.1.0) fair)
    (λ same. subst (λ (it : Waiting). IsFair it.queue) (sym same.1) fair)
    notes

after_events : StaysFair → (connections : Connections) (first last : Waiting) (events : List Event) → HaveCome connections first events last → IsFair first.queue → IsFair last.queue
after_events stays connections first _ _ none_came fair = fair
after_events stays connections first _ _ (one_came earlier event between last come notes) fair =
    after_event stays connections event between last notes (after_events stays connections first between earlier come fair)

after_serves : StaysFair → (until : Bool) (first last : Queued) (count : ℕ) → ServeInTurn until first count last → IsFair first.waiting.queue → IsFair last.waiting.queue
after_serves stays until first _ _ none_served fair = fair
after_serves stays until first _ _ (one_served fewer between last served next) fair =
    after_serve stays until between last next (after_serves stays until first between fewer served fair)

after_end : StaysFair → (old new : Waiting) → EndsRound old new → IsFair old.queue → IsFair new.queue
after_end stays old new ends fair =
    ⊎_elim (λ over. subst (λ (it : Waiting). IsFair it.queue) (sym over.1) fair) (λ idle. stays.charged old.spent old.queue new.queue idle.0 fair) ends

pub after_round : StaysFair → (until : Bool) (events : List Event) (before after : Queued) → MakesRound until events before after → IsFair before.waiting.queue → IsFair after.waiting.queue
after_round stays until events before after round fair =
    let noted = after_events stays before.standing.connections before.waiting round.noted events round.come fair in
    let last = after_serves stays until _ round.last round.count round.served noted in
    ⊎_elim
    (λ ends. after_end stays round.last.waiting after.waiting ends last)
    (λ most. subst (λ (it : Waiting). IsFair it.queue) (sym most.1) last)
    round.over
