-- A run of the log is lifted to one of the core event by event, and then each worker replays.
use Rattle.std.proofs.Common.{◌≡◌, ◌≢◌, ℕ, zero, suc, ◌+◌, ◌<◌, ◌≤◌, List, [], ◌∷◌, ◌++◌, length, length-append, length-set, replicate, append_assoc, append-nil, slice_get, slice_set, Option, Some, None, refl, sym, ap, ◌∙◌, subst, arith}
use Rattle.std.specs.Prelude.{filter_map}
use Rattle.std.specs.Option.{option_and_then, option_map, option_map_or}
use Rattle.std.proofs.lemmas.List.{length-replicate}
use Rattle.std.proofs.lemmas.List.Elements.{filter_map-append}
use Rattle.std.proofs.lemmas.Option.{slice_get_within}
use Rattle.std.proofs.Math.Decide.{ℕ_discrete}
use Rattle.std.proofs.Math.Logic.{dite}
use Rattle.lists.proofs.Public.{at_longer, last_at, set_elsewhere, set_here}
use Rattle.mc_model.specs.declared.command.Command.{Command}
use Rattle.mc_model.specs.declared.id.Ticket.{Ticket}
use Rattle.mc_model.specs.declared.request.Entry.{Entry}
use Rattle.mc_model.specs.declared.settings.Limits.{Limits}
use Rattle.mc_model.specs.declared.shown.LogSize.{LogSize}
use Rattle.mc_model.specs.declared.shown.Phase.TheVariants.{Stopped}
use Rattle.mc_model.specs.declared.shown.ShownState.{ShownState}
use Rattle.mc_model.specs.declared.shown.WorkerState.{WorkerState}
use Rattle.mc_model.specs.Lawful.{IsWorker, LeadOn, ShownEvent, Step, announced_by, announces, looks, next, proposes, reads, stops, turn}
use Rattle.mc_model.specs.Legal.{ticket_of}
use Rattle.mc_model.specs.Log.{own_command}
use Rattle.mc_model.specs.Replay.{TakeEffect, reply_from, with_command}
use Rattle.mc_model.specs.Settings.{Configuration}
use Rattle.mc_model.specs.Shown.{announce, look, new_worker, propose, read, stop}
use Rattle.mc_model.specs.State.{TableState}
use Rattle.uc_core.specs.Core.{CoreState, ReplayState, core_size, entry_under}
use Rattle.uc_core.specs.Run.{Given, Runs, given_by, replayed_by}
use Rattle.uc_core.specs.Step.{CoreStep, entry_at, with_entry}
use Rattle.uc_core.specs.declared.event.Event.{Event}
use Rattle.uc_core.specs.declared.event.Event.TheVariants.{Announce, Look, Propose, Read, Replay, Stop}
use Rattle.uc_laws.specs.CoreRun.{CanReplay, RunsAsCore, core_over, entry_by, log_event, log_size}

-- one run of the core follows another
runs_then : (one two three : CoreState) (events more : List Event) (given later : List Given) → Runs one events two given → Runs two more three later →
    Runs one (events ++ more) three (given ++ later)
runs_then one two three [] more given later none runs =
    subst (λ (z : CoreState × List Given). Runs z.0 more three (z.1 ++ later)) (λ i. (none.0 i, sym none.1 i)) runs
runs_then one two three (event ∷ events) more given later first runs = (
  first.0,
  first.1,
  first.2 ++ later,
  first.3,
  runs_then first.0 two three events more first.2 later first.4 runs,
  ap (λ (l : List Given). l ++ later) first.5 ∙ append_assoc (given_by one event first.1) first.2 later,
)

-- the tables after an entry
abbrev effects : ℕ → Option Entry → List TableState → List TableState
effects tenant entry [] = []
effects tenant entry (table ∷ tables) = with_command table (own_command tenant entry) ∷ effects (tenant + 1) entry tables

effect_at : (tenant : ℕ) (entry : Option Entry) (tables : List TableState) (i : ℕ) → slice_get (effects tenant entry tables) i
    ≡ option_map (λ (table : TableState). with_command table (own_command (tenant + i) entry)) (slice_get tables i)
effect_at tenant entry [] i = refl
effect_at tenant entry (table ∷ tables) zero =
    ap (λ (k : ℕ). Some (with_command table (own_command k entry))) (omega arith)
effect_at tenant entry (table ∷ tables) (suc i) = let same : tenant + 1 + i ≡ tenant + suc i = omega arith in
    effect_at (tenant + 1) entry tables i
    ∙ ap (λ (k : ℕ). option_map (λ (it : TableState). with_command it (own_command k entry)) (slice_get tables i)) same

takes_effect : (entry : Option Entry) (tables : List TableState) → TakeEffect entry tables (effects 0 entry tables)
takes_effect entry tables tenant = let same : 0 + tenant ≡ tenant = omega arith in effect_at 0 entry tables tenant
    ∙ ap (λ (k : ℕ). option_map (λ (table : TableState). with_command table (own_command k entry)) (slice_get tables tenant)) same

-- an element inside a list
at_inside : {X : Type 0} (xs : List X) (k : ℕ) → k < length xs → (x : X) × (slice_get xs k ≡ Some x)
at_inside [] k inside = absurd (omega (arith, inside))
at_inside (x ∷ xs) zero inside = (x, refl)
at_inside (x ∷ xs) (suc k) inside = at_inside xs k (omega (arith, inside))

at_replicate : {X : Type 0} (n : ℕ) (x : X) (k : ℕ) → k < n → slice_get (replicate n x) k ≡ Some x
at_replicate zero x k inside = absurd (omega (arith, inside))
at_replicate (suc n) x zero inside = refl
at_replicate (suc n) x (suc k) inside = at_replicate n x k (omega (arith, inside))

abbrev sized_as : ℕ → ℕ → LogSize
sized_as workers places = record { workers = workers; places = places }

-- the entries of a worker's first commands
abbrev numbered : (Ticket → ℕ × Command) → ℕ → ℕ → List Entry
numbered said number zero = []
numbered said number (suc n) = numbered said number n ++ entry_by said (ticket_of number n) ∷ []

numbered_long : (said : Ticket → ℕ × Command) (number n : ℕ) → length (numbered said number n) ≡ n
numbered_long said number zero = refl
numbered_long said number (suc n) = let before = numbered_long said number n in
    let long = length-append (numbered said number n) (entry_by said (ticket_of number n) ∷ []) in omega (arith, before, long)

numbered_at : (said : Ticket → ℕ × Command) (number n k : ℕ) → k < n → slice_get (numbered said number n) k ≡ Some (entry_by said (ticket_of number k))
numbered_at said number zero k below = absurd (omega (arith, below))
numbered_at said number (suc n) k below = let last = entry_by said (ticket_of number n) in dite (ℕ_discrete k n)
    (λ same. subst (λ (z : ℕ). slice_get (numbered said number n ++ last ∷ []) z ≡ Some (entry_by said (ticket_of number z))) (sym same)
    (ap (λ (z : ℕ). slice_get (numbered said number n ++ last ∷ []) z) (sym (numbered_long said number n)) ∙ last_at (numbered said number n) last))
    (λ apart. at_longer (numbered said number n) (last ∷ []) k (entry_by said (ticket_of number k))
    (numbered_at said number n k (omega (arith, below, apart))))

-- what a core keeps of the announcements
record Holds (settings : Configuration) (said : Ticket → ℕ × Command) (core : CoreState) : Type 0 where
  sized : core_size core ≡ log_size settings
  tenants : core.openings ≡ settings.tenants
  entries : (number : ℕ) → slice_get core.entries number
      ≡ option_map (λ (worker : WorkerState). numbered said number worker.announced) (slice_get core.shown.workers number)

-- one event of the log as one of the core
record Lifts (settings : Configuration) (said : Ticket → ℕ × Command) (old : CoreState) (event : ShownEvent) (shown : ShownState) : Type 0 where
  it : Event
  new : CoreState
  step : CoreStep old it new None
  same : (events : List Event) → filter_map log_event (it ∷ events) ≡ event ∷ filter_map log_event events
  shows : new.shown ≡ shown
  holds : Holds settings said new
  replays : new.replays ≡ old.replays

-- a run of the log
record Lifted (settings : Configuration) (said : Ticket → ℕ × Command) (old : CoreState) (run : List ShownEvent) (log : ShownState) : Type 0 where
  events : List Event
  new : CoreState
  runs : Runs old events new []
  same : filter_map log_event events ≡ run
  shows : new.shown ≡ log
  holds : Holds settings said new
  replays : new.replays ≡ old.replays

module _ (settings : Configuration) (said : Ticket → ℕ × Command) where
  -- the core with another shown state
  abbrev showing : CoreState → ShownState → CoreState
  showing old shown = record old { shown = shown }

  sized_on : (old : CoreState) (shown : ShownState) (number : ℕ) (worker : WorkerState) → core_size old ≡ log_size settings →
      shown.workers ≡ slice_set old.shown.workers number worker → core_size (showing old shown) ≡ log_size settings
  sized_on old shown number worker sized moved =
      ap (λ (n : ℕ). sized_as n old.places) (ap length moved ∙ length-set old.shown.workers number worker) ∙ sized

  -- an event by which its worker announces nothing
  holds_on : (old : CoreState) (shown : ShownState) (number : ℕ) (worker new : WorkerState) → Holds settings said old → IsWorker old.shown number worker →
      shown.workers ≡ slice_set old.shown.workers number new → new.announced ≡ worker.announced → Holds settings said (showing old shown)
  holds_on old shown number worker new holds at moved same = record {
    sized = sized_on old shown number new holds.sized moved;
    tenants = holds.tenants;
    entries = λ other. dite (ℕ_discrete other number)
        (λ it. subst (λ (n : ℕ). slice_get old.entries n
        ≡ option_map (λ (w : WorkerState). numbered said n w.announced) (slice_get shown.workers n)) (sym it)
        (holds.entries number ∙ (ap (option_map (λ (w : WorkerState). numbered said number w.announced)) at
        ∙ (ap (λ (n : ℕ). Some (numbered said number n)) (sym same)
        ∙ sym (ap (option_map (λ (w : WorkerState). numbered said number w.announced)) (ap (λ (l : List WorkerState). slice_get l number) moved
        ∙ set_here old.shown.workers number new (slice_get_within old.shown.workers number worker at)))))))
        (λ apart. holds.entries other ∙ sym (ap (option_map (λ (w : WorkerState). numbered said other w.announced))
        (ap (λ (l : List WorkerState). slice_get l other) moved ∙ set_elsewhere old.shown.workers number other new apart)));
  }

  -- an announcement
  one_more : (number n : ℕ) → numbered said number (n + 1) ≡ numbered said number n ++ entry_by said (ticket_of number n) ∷ []
  one_more number n = let same : n + 1 ≡ suc n = omega arith in ap (numbered said number) same

  abbrev announced : CoreState → ShownState → ℕ → CoreState
  announced old shown number = record old {
    shown = shown;
    entries = with_entry old.entries (entry_by said (ticket_of number (announced_by old.shown number)));
  }

  holds_announced : (old : CoreState) (shown : ShownState) (number : ℕ) (worker : WorkerState) → Holds settings said old → IsWorker old.shown number worker →
      shown.workers ≡ slice_set old.shown.workers number (announce worker) → Holds settings said (announced old shown number)
  holds_announced old shown number worker holds at moved = record {
    sized = sized_on old shown number (announce worker) holds.sized moved;
    tenants = holds.tenants;
    entries = λ other. dite (ℕ_discrete other number)
        (λ it. subst (λ (n : ℕ). slice_get (with_entry old.entries entry) n
        ≡ option_map (λ (w : WorkerState). numbered said n w.announced) (slice_get shown.workers n)) (sym it) here)
        (λ apart. set_elsewhere old.entries number other its apart ∙ (holds.entries other
        ∙ sym (ap (option_map (λ (w : WorkerState). numbered said other w.announced))
        (ap (λ (l : List WorkerState). slice_get l other) moved ∙ set_elsewhere old.shown.workers number other (announce worker) apart))));
  }
    where
      entry : Entry
      entry = entry_by said (ticket_of number (announced_by old.shown number))

      its : List Entry
      its = option_map_or (λ (list : List Entry). list ++ entry ∷ []) (slice_get old.entries number) (entry ∷ [])

      was : slice_get old.entries number ≡ Some (numbered said number worker.announced)
      was = holds.entries number ∙ ap (option_map (λ (w : WorkerState). numbered said number w.announced)) at

      many : announced_by old.shown number ≡ worker.announced
      many = ap (λ (o : Option WorkerState). option_map_or (λ (w : WorkerState). w.announced) o 0) at

      its_now : its ≡ numbered said number (worker.announced + 1)
      its_now = ap (λ (o : Option (List Entry)). option_map_or (λ (list : List Entry). list ++ entry ∷ []) o (entry ∷ [])) was
          ∙ (ap (λ (n : ℕ). numbered said number worker.announced ++ entry_by said (ticket_of number n) ∷ []) many
          ∙ sym (one_more number worker.announced))

      here : slice_get (slice_set old.entries number its) number
          ≡ option_map (λ (w : WorkerState). numbered said number w.announced) (slice_get shown.workers number)
      here = set_here old.entries number its (slice_get_within old.entries number (numbered said number worker.announced) was)
          ∙ (ap (λ (l : List Entry). Some l) its_now
          ∙ sym (ap (option_map (λ (w : WorkerState). numbered said number w.announced)) (ap (λ (l : List WorkerState). slice_get l number) moved
          ∙ set_here old.shown.workers number (announce worker) (slice_get_within old.shown.workers number worker at))))

  read_announced : (number : ℕ) (found : Option Ticket) (worker : WorkerState) → (read number found worker).announced ≡ worker.announced
  read_announced number None worker = refl
  read_announced number (Some ticket) worker = refl

  module _ (known : (ticket : Ticket) → (said ticket).0 < length settings.tenants) where
    at_size : (old : CoreState) (event : ShownEvent) (shown : ShownState) → core_size old ≡ log_size settings →
        Step (log_size settings) old.shown event shown → Step (core_size old) old.shown event shown
    at_size old event shown sized = subst (λ (z : LogSize). Step z old.shown event shown) (sym sized)

    lift : (old : CoreState) (event : ShownEvent) (shown : ShownState) → Holds settings said old → Step (log_size settings) old.shown event shown → Lifts settings said old event shown
    lift old (announces number) shown holds step = let ticket = ticket_of number (announced_by old.shown number) in record {
      it = Announce number (said ticket).0 (said ticket).1;
      new = announced old shown number;
      step = (
        subst (λ (l : List Limits). (said ticket).0 < length l) (sym holds.tenants) (known ticket),
        at_size old (announces number) shown holds.sized step,
        refl,
        refl,
      );
      same = λ events. refl;
      shows = refl;
      holds = holds_announced old shown number step.0 holds step.1 (ap (λ (s : ShownState). s.workers) step.4);
      replays = refl;
    }
    lift old (reads number) shown holds step = record {
      it = Read number;
      new = showing old shown;
      step = (at_size old (reads number) shown holds.sized step, refl, refl);
      same = λ events. refl;
      shows = refl;
      holds = holds_on old shown number step.0 (read number (next old.shown step.0) step.0) holds step.1 (ap (λ (s : ShownState). s.workers) step.4)
          (read_announced number (next old.shown step.0) step.0);
      replays = refl;
    }
    lift old (looks number) shown holds step = record {
      it = Look number;
      new = showing old shown;
      step = (at_size old (looks number) shown holds.sized step, refl, refl);
      same = λ events. refl;
      shows = refl;
      holds = holds_on old shown number step.0 (look (turn (log_size settings) step.0) (announced_by old.shown (turn (log_size settings) step.0)) step.0)
          holds step.1 (ap (λ (s : ShownState). s.workers) step.5) refl;
      replays = refl;
    }
    lift old (proposes number) shown holds step = record {
      it = Propose number;
      new = showing old shown;
      step = (at_size old (proposes number) shown holds.sized step, refl, refl);
      same = λ events. refl;
      shows = refl;
      holds = holds_on old shown number step.0 (propose number (next old.shown step.0) step.0) holds step.1 (ap (λ (s : ShownState). s.workers) step.3) refl;
      replays = refl;
    }
    lift old (stops number) shown holds step = record {
      it = Stop number;
      new = showing old shown;
      step = (at_size old (stops number) shown holds.sized step, refl, refl);
      same = λ events. refl;
      shows = refl;
      holds = holds_on old shown number step.0 (stop step.0) holds step.1 (ap (λ (s : ShownState). s.workers) step.3) refl;
      replays = refl;
    }

    lift_all : (run : List ShownEvent) (old : CoreState) (log : ShownState) → Holds settings said old → LeadOn (log_size settings) old.shown run log → Lifted settings said old run log
    lift_all [] old log holds lead =
        record { events = []; new = old; runs = (refl, refl); same = refl; shows = sym lead; holds = holds; replays = refl }
    lift_all (event ∷ run) old log holds lead =
        let first = lift old event lead.0 holds lead.1 in
        let rest = lift_all run first.new log first.holds (subst (λ (s : ShownState). LeadOn (log_size settings) s run log) (sym first.shows) lead.2) in
        record {
          events = first.it ∷ rest.events;
          new = rest.new;
          runs = (first.new, None, [], first.step, rest.runs, refl);
          same = first.same rest.events ∙ ap (λ (l : List ShownEvent). event ∷ l) rest.same;
          shows = rest.shows;
          holds = rest.holds;
          replays = rest.replays ∙ first.replays;
        }

-- A worker replays so many more places, and changes nothing else.
record Replayed (old : CoreState) (number more : ℕ) (was : ReplayState) : Type 0 where
  events : List Event
  new : CoreState
  given : List Given
  runs : Runs old events new given
  same : filter_map log_event events ≡ []
  shows : new.shown ≡ old.shown
  entries : new.entries ≡ old.entries
  now : ReplayState
  at : slice_get new.replays number ≡ Some now
  many : now.replayed ≡ was.replayed + more
  others : (other : ℕ) → other ≢ number → slice_get new.replays other ≡ slice_get old.replays other

replay_more : (more : ℕ) (old : CoreState) (number : ℕ) (worker : WorkerState) (was : ReplayState) → IsWorker old.shown number worker →
    worker.phase ≢ Stopped → slice_get old.replays number ≡ Some was → was.replayed + more ≤ length worker.learned → Replayed old number more was
replay_more zero old number worker was there running at room = record {
  events = [];
  new = old;
  given = [];
  runs = (refl, refl);
  same = refl;
  shows = refl;
  entries = refl;
  now = was;
  at = at;
  many = omega arith;
  others = λ other apart. refl;
}
replay_more (suc more) old number worker was there running at room =
    let entry = entry_at old was.replayed in let tables = effects 0 entry was.tables in
    let mid_replay : ReplayState = record { replayed = was.replayed + 1; tables = tables } in
    let mid : CoreState = record old { replays = slice_set old.replays number mid_replay } in
    let inside = slice_get_within old.replays number was at in
    let here : slice_get mid.replays number ≡ Some mid_replay = set_here old.replays number mid_replay inside in
    let rest = replay_more more mid number worker mid_replay there running here (omega (arith, room)) in
    let reply = reply_from number was.tables entry in
    let its : rest.now.replayed ≡ was.replayed + 1 + more = rest.many in record {
      events = Replay number ∷ rest.events;
      new = rest.new;
      given = given_by old (Replay number) reply ++ rest.given;
      runs = (
        mid,
        reply,
        rest.given,
        (worker, there, running, was, at, omega (arith, room), tables, takes_effect entry was.tables, refl, refl),
        rest.runs,
        refl,
      );
      same = rest.same;
      shows = rest.shows;
      entries = rest.entries;
      now = rest.now;
      at = rest.at;
      many = omega (arith, its);
      others = λ other apart. rest.others other apart ∙ set_elsewhere old.replays number other mid_replay apart;
    }

-- The first workers replay, one after another.
record AllReplayed (old : CoreState) (first : ℕ) (replayed : ℕ → ℕ) : Type 0 where
  events : List Event
  new : CoreState
  given : List Given
  runs : Runs old events new given
  same : filter_map log_event events ≡ []
  shows : new.shown ≡ old.shown
  entries : new.entries ≡ old.entries
  done : (number : ℕ) → number < first → replayed_by new number ≡ replayed number
  left : (number : ℕ) → first ≤ number → slice_get new.replays number ≡ slice_get old.replays number

module _ (workers : ℕ) (tables : List TableState) (replayed : ℕ → ℕ) (old : CoreState) (wide : length old.shown.workers ≡ workers)
    (fresh : old.replays ≡ replicate workers (record { replayed = 0; tables = tables })) (can : CanReplay old.shown replayed) where
  replay_all : (first : ℕ) → first ≤ workers → AllReplayed old first replayed
  replay_all zero few = record {
    events = [];
    new = old;
    given = [];
    runs = (refl, refl);
    same = refl;
    shows = refl;
    entries = refl;
    done = λ number below. absurd (omega (arith, below));
    left = λ number above. refl;
  }
  replay_all (suc first) few =
      let before = replay_all first (omega (arith, few)) in
      let new_replay : ReplayState = record { replayed = 0; tables = tables } in
      let worker = at_inside old.shown.workers first (omega (arith, few, wide)) in
      let at : slice_get before.new.replays first ≡ Some new_replay = before.left first (omega arith)
      ∙ (ap (λ (l : List ReplayState). slice_get l first) fresh ∙ at_replicate workers new_replay first (omega (arith, few))) in
      let there : IsWorker before.new.shown first worker.0 = ap (λ (s : ShownState). slice_get s.workers first) before.shows ∙ worker.1 in
      let own = can first worker.0 worker.1 in let room = own.1 in
      let more = replay_more (replayed first) before.new first worker.0 new_replay there own.0 at (omega (arith, room)) in
      let many : more.now.replayed ≡ 0 + replayed first = more.many in let now : more.now.replayed ≡ replayed first = omega (arith, many) in record {
        events = before.events ++ more.events;
        new = more.new;
        given = before.given ++ more.given;
        runs = runs_then old before.new more.new before.events more.events before.given more.given before.runs more.runs;
        same = filter_map-append log_event before.events more.events ∙ (λ i. before.same i ++ more.same i);
        shows = more.shows ∙ before.shows;
        entries = more.entries ∙ before.entries;
        done = λ number below. dite (ℕ_discrete number first)
            (λ it. ap (λ (n : ℕ). replayed_by more.new n) it
            ∙ (ap (λ (o : Option ReplayState). option_map_or (λ (r : ReplayState). r.replayed) o 0) more.at ∙ (now ∙ ap replayed (sym it))))
            (λ apart. ap (λ (o : Option ReplayState). option_map_or (λ (r : ReplayState). r.replayed) o 0) (more.others number apart)
            ∙ before.done number (omega (arith, below, apart)));
        left = λ number above. more.others number (λ same. omega (arith, above, same)) ∙ before.left number (omega (arith, above));
      }

-- before any event nothing is announced
none_yet : (said : Ticket → ℕ × Command) (number n at : ℕ) → slice_get {X = List Entry} (replicate n []) at
    ≡ option_map (λ (worker : WorkerState). numbered said number worker.announced) (slice_get (replicate n new_worker) at)
none_yet said number zero at = refl
none_yet said number (suc n) zero = refl
none_yet said number (suc n) (suc at) = none_yet said number n at

entry_there : (settings : Configuration) (said : Ticket → ℕ × Command) (number k : ℕ) (lifted new : CoreState) → Holds settings said lifted →
    new.entries ≡ lifted.entries → k < announced_by lifted.shown number →
    (o : Option WorkerState) → slice_get lifted.shown.workers number ≡ o →
    entry_under new (ticket_of number k) ≡ Some (entry_by said (ticket_of number k))
entry_there settings said number k lifted new holds same below None is =
    let none : announced_by lifted.shown number ≡ 0 = ap (λ (o : Option WorkerState). option_map_or (λ (w : WorkerState). w.announced) o 0) is in
    absurd (omega (arith, below, none))
entry_there settings said number k lifted new holds same below (Some worker) is =
    let many : announced_by lifted.shown number ≡ worker.announced =
    ap (λ (o : Option WorkerState). option_map_or (λ (w : WorkerState). w.announced) o 0) is in
    let inside : k < worker.announced = omega (arith, below, many) in
    ap (λ (o : Option (List Entry)). option_and_then (λ (announced : List Entry). slice_get announced k) o)
    (ap (λ (l : List (List Entry)). slice_get l number) same ∙ (holds.entries number
    ∙ ap (option_map (λ (w : WorkerState). numbered said number w.announced)) is))
    ∙ numbered_at said number worker.announced k inside

pub runs_as_core : RunsAsCore
runs_as_core settings tables run log said replayed lead known can =
    let opening = core_over settings tables in
    let lifted = lift_all settings said known run opening log holds lead in
    let wide : length lifted.new.shown.workers ≡ settings.workers = ap (λ (z : LogSize). z.workers) lifted.holds.sized in
    let again = replay_all settings.workers tables replayed lifted.new wide lifted.replays
    (subst (λ (s : ShownState). CanReplay s replayed) (sym lifted.shows) can) settings.workers (omega arith) in
    let shown : again.new.shown ≡ log = again.shows ∙ lifted.shows in record {
      events = lifted.events ++ again.events;
      core = again.new;
      given = again.given;
      runs = runs_then opening lifted.new again.new lifted.events again.events [] again.given lifted.runs again.runs;
      same = filter_map-append log_event lifted.events again.events ∙ ((λ i. lifted.same i ++ again.same i) ∙ append-nil run);
      shown = shown;
      entries = λ number k below. entry_there settings said number k lifted.new again.new lifted.holds again.entries
          (subst (λ (s : ShownState). k < announced_by s number) (sym lifted.shows) below) (slice_get lifted.new.shown.workers number) refl;
      replays = λ number inside. again.done number inside;
    }
  where
    holds : Holds settings said (core_over settings tables)
    holds = record {
      sized = ap (λ (n : ℕ). sized_as n settings.places) (length-replicate settings.workers new_worker);
      tenants = refl;
      entries = λ number. none_yet said number settings.workers number;
    }
