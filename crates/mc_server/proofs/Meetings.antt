-- Workers that have met, later on.
use Rattle.std.proofs.Common.{◌≡◌, ◌⊎◌, ◌∙◌, ◌≤◌, ◌<◌, ℕ, ◌+◌, List, [], ◌∷◌, ◌++◌, Some, All, Contains, get_or, length, map, slice_get, ap, refl, zero, suc, sym, subst, inl, inr, arith, ⊎_elim}
use Rattle.std.proofs.lemmas.List.Elements.{All-cons, All-contains, All-head, All-nil, All-tail, Contains-append_right}
use Rattle.std.proofs.lemmas.Option.{none-some, same_Some, slice_get-get_or}
use Rattle.std.proofs.Math.Decide.{dec_le}
use Rattle.std.specs.List.{AllZip}
use Rattle.mc_model.specs.declared.id.Ticket.{Ticket}
use Rattle.mc_model.specs.declared.shown.LogSize.{LogSize}
use Rattle.mc_model.specs.declared.shown.Phase.{Phase}
use Rattle.mc_model.specs.declared.shown.Phase.TheVariants.{Idle, Pending, Looked, Stopped}
use Rattle.lists.specs.Lists.{BeginsWith}
use Rattle.mc_model.specs.Legal.{IsLegal, count}
use Rattle.mc_model.specs.Settings.{Configuration}
use Rattle.mc_server.specs.Listeners.{CountsFrom}
use Rattle.mc_server.specs.Crew.{AgreesWith, AreWorkersOf, HasMet, HaveClosed, HaveMet, MeetsAnother, WasAnnounced, number_of, tickets_of}
use Rattle.uc_worker.specs.Going.{CatchesUp}
use Rattle.uc_worker.specs.Worker.{IsUpToDate, announced_of, history_of, seat_of}
use Rattle.uc_worker.specs.Cited.{Sighting}
use Rattle.uc_log.specs.declared.log.Log.{Log}
use Rattle.uc_worker.specs.contracts.laws.WorkerGoesOn.TheImpl.{continues_self-value, continues_through-value}
use Rattle.uc_worker.specs.Steps.{Rests}
use Rattle.lists.proofs.Public.{begins_longer, begins_self, begins_through, begins_whole}
use Rattle.uc_worker.specs.declared.worker.Worker.{Worker}
use Rattle.uc_worker.specs.AllWorkers.{AreOfLog, AreOnOneRun}
use Rattle.uc_worker.specs.TurningOver.{IsAsBefore, IsUpToDateAt}

-- a worker that goes on without announcing, and its phase between two calls
pub catches_self : (worker : Worker) → CatchesUp worker worker
catches_self worker = record { continues = continues_self-value.it worker; announced = refl }

pub catches_through : (first second third : Worker) → CatchesUp first second → CatchesUp second third → CatchesUp first third
catches_through first second third one two =
    record { continues = continues_through-value.it first second third one.continues two.continues; announced = two.announced ∙ one.announced }

same_count : (old new : Worker) → CatchesUp old new → (seat_of new).state.announced ≡ (seat_of old).state.announced
same_count old new on = sym new.pass.count ∙ ap length on.announced ∙ old.pass.count

rests_either : (phase : Phase) → Rests phase → (phase ≡ Idle) ⊎ (phase ≡ Pending)
rests_either Idle rests = inl refl
rests_either Pending rests = inr refl
rests_either Looked rests = absurd (rests.0 refl)
rests_either Stopped rests = absurd (rests.1 refl)

-- a history that is as long as the learned list has its tickets
tickets_are : (history : List Sighting) (learned : List Ticket) →
    ((place : ℕ) (seen : Sighting) → slice_get history place ≡ Some seen → slice_get learned place ≡ Some seen.ticket) → length history ≡ length learned →
    map (λ (seen : Sighting). seen.ticket) history ≡ learned
tickets_are [] [] follows long = refl
tickets_are [] (y ∷ ys) follows long = absurd (omega arith)
tickets_are (x ∷ xs) [] follows long = absurd (omega arith)
tickets_are (x ∷ xs) (y ∷ ys) follows long =
    let first : y ≡ x.ticket = same_Some y x.ticket (follows 0 x refl) in
    let rest = tickets_are xs ys (λ place seen at. follows (suc place) seen at) (omega arith) in
    λ i. sym first i ∷ rest i

pub tickets_learned : (worker : Worker) → IsUpToDate worker → tickets_of worker ≡ (seat_of worker).state.learned
tickets_learned worker whole = tickets_are (history_of worker) (seat_of worker).state.learned worker.follows.tickets whole

-- a worker that is up to date has each command once in its history, and all of its own except for
-- at most one, which is pending
pub once_each : (worker : Worker) → IsUpToDate worker → IsLegal (tickets_of worker)
once_each worker whole = subst IsLegal (sym (tickets_learned worker whole)) worker.pass.desk.law.legal

own_commands : (worker : Worker) → IsUpToDate worker → (seat_of worker).state.announced ≤ count (number_of worker) (tickets_of worker) + 1
own_commands worker whole =
    let law = worker.pass.desk.law in
    let counted = ap (count (number_of worker)) (tickets_learned worker whole) in
    ⊎_elim
    (λ (idle : (seat_of worker).state.phase ≡ Idle). let all = law.idle idle in omega arith)
    (λ (pending : (seat_of worker).state.phase ≡ Pending). let all = law.pending pending in omega arith)
    (rests_either (seat_of worker).state.phase worker.rests)

-- two whose histories are equal have met
pub has_met : (one other later : Worker) → other.log.now ≡ one.log.now → CatchesUp other later → history_of one ≡ history_of later → IsUpToDate later → HasMet one other
has_met one other later of is equal whole =
    let own = own_commands later whole in
    let counted : count (number_of later) (tickets_of later) ≡ count (number_of other) (tickets_of one) =
    λ i. count (is.continues.same.1 i) (map (λ (seen : Sighting). seen.ticket) (sym equal i)) in
    record {
      log = of;
      front = subst (λ history. BeginsWith history (history_of other)) (sym equal) is.continues.history;
      commands = omega (arith, own, counted, same_count other later is);
    }

-- one more has met the worker, while that one went on
meets_still : (old one new other after : Worker) → CatchesUp one new → MeetsAnother old one other after → MeetsAnother old new other after
meets_still old one new other after step met = record {
  later = met.later;
  whole = met.whole;
  most = met.most;
  front = begins_through (history_of new) (history_of one) (history_of after) step.continues.history met.front;
}

pub one_more_met : (old one new : Worker) (others met : List Worker) (other after : Worker) → AllZip (MeetsAnother old one) others met → CatchesUp one new → MeetsAnother old new other after
    → AllZip (MeetsAnother old new) (others ++ other ∷ []) (met ++ after ∷ [])
one_more_met old one new [] [] other after before step now = (now, tt)
one_more_met old one new [] (y ∷ ys) other after before step now = absurd before
one_more_met old one new (x ∷ xs) [] other after before step now = absurd before
one_more_met old one new (x ∷ xs) (y ∷ ys) other after before step now =
    (meets_still old one new x y step before.0, one_more_met old one new xs ys other after before.1 step now)

-- the other's history is the worker's then
pub meets : (old one new other after : Worker) → CatchesUp old one → CatchesUp one new → CatchesUp other after → history_of new ≡ history_of after → IsUpToDate after → MeetsAnother old new other after
meets old one new other after before step later equal whole = record {
  later = later;
  whole = whole;
  most = subst (λ history. BeginsWith history (history_of old)) equal (catches_through old one new before step).continues.history;
  front = subst (λ history. BeginsWith (history_of new) history) equal (begins_self (history_of new));
}

-- workers later on, after a round in which they met one
pub all_later_self : (workers : List Worker) → AllZip CatchesUp workers workers
all_later_self [] = tt
all_later_self (x ∷ xs) = (catches_self x, all_later_self xs)

pub all_later_on : (old new : Worker) (workers between after : List Worker) → AllZip CatchesUp workers between → AllZip (MeetsAnother old new) between after → AllZip CatchesUp workers after
all_later_on old new [] [] [] later met = tt
all_later_on old new [] [] (z ∷ zs) later met = absurd met
all_later_on old new [] (y ∷ ys) after later met = absurd later
all_later_on old new (x ∷ xs) [] after later met = absurd later
all_later_on old new (x ∷ xs) (y ∷ ys) [] later met = absurd met
all_later_on old new (x ∷ xs) (y ∷ ys) (z ∷ zs) later met = (catches_through x y z later.0 met.0.later, all_later_on old new xs ys zs later.1 met.1)

pub all_of : (log : Log) (old new : Worker) (workers after : List Worker) → AllZip (MeetsAnother old new) workers after → AreOfLog log workers → AreOfLog log after
all_of log old new [] [] met of = of
all_of log old new [] (y ∷ ys) met of = absurd met
all_of log old new (x ∷ xs) [] met of = absurd met
all_of log old new (x ∷ xs) (y ∷ ys) met of =
    let P = λ (worker : Worker). worker.log.now ≡ log in
    All-cons P y ys (ap (λ lent. lent.now) met.0.later.continues.log ∙ All-head P x xs of) (all_of log old new xs ys met.1 (All-tail P x xs of))

-- a worker that met the one in a round in which that one learned nothing more
agrees_after : (old one worker between after : Worker) → length (history_of one) ≡ length (history_of old) → CatchesUp worker between → MeetsAnother old one between after → AgreesWith one worker after
agrees_after old one worker between after still later met =
    let few = begins_longer (history_of one) (history_of after) met.front in
    let most = begins_longer (history_of after) (history_of old) met.most in
    record {
      later = catches_through worker between after later met.later;
      whole = met.whole;
      equal = sym (begins_whole (history_of one) (history_of after) met.front (omega arith));
    }

-- the same for all, after a round in which the worker learned nothing more
pub all_agree : (old one : Worker) (workers between after : List Worker) → length (history_of one) ≡ length (history_of old) → AllZip CatchesUp workers between
    → AllZip (MeetsAnother old one) between after → AllZip (AgreesWith one) workers after
all_agree old one [] [] [] still later met = tt
all_agree old one [] [] (z ∷ zs) still later met = absurd met
all_agree old one [] (y ∷ ys) after still later met = absurd later
all_agree old one (x ∷ xs) [] after still later met = absurd later
all_agree old one (x ∷ xs) (y ∷ ys) [] still later met = absurd met
all_agree old one (x ∷ xs) (y ∷ ys) (z ∷ zs) still later met =
    (agrees_after old one x y z still later.0 met.0, all_agree old one xs ys zs still later.1 met.1)

all_met : (one : Worker) (workers after : List Worker) → AreOfLog one.log.now workers → AllZip (AgreesWith one) workers after → All (HasMet one) workers
all_met one [] [] of come = All-nil (HasMet one)
all_met one [] (y ∷ ys) of come = absurd come
all_met one (x ∷ xs) [] of come = absurd come
all_met one (x ∷ xs) (y ∷ ys) of come =
    let P = λ (worker : Worker). worker.log.now ≡ one.log.now in
    All-cons (HasMet one) x xs (has_met one x y (All-head P x xs of) come.0.later come.0.equal come.0.whole) (all_met one xs ys (All-tail P x xs of) come.1)

-- a worker whose history is the one's has announced each command of its own there
own_announced : (one worker after : Worker) (place : ℕ) (ticket : Ticket) → AgreesWith one worker after → slice_get (tickets_of one) place ≡ Some ticket → ticket.worker ≡ number_of worker
    → ticket.number < length (announced_of worker)
own_announced one worker after place ticket come at whose =
    let same : tickets_of one ≡ (seat_of after).state.learned = ap (map (λ (seen : Sighting). seen.ticket)) come.equal ∙ tickets_learned after come.whole in
    let there = subst (λ (tickets : List Ticket). slice_get tickets place ≡ Some ticket) same at in
    let below : ticket.number < (seat_of after).state.announced = after.pass.desk.law.own place ticket there (whose ∙ sym come.later.continues.same.1) in
    let count : length (announced_of worker) ≡ (seat_of worker).state.announced = worker.pass.count in
    omega (arith, below, count, same_count worker after come.later)

-- of workers under numbers that go up by one, one has announced it
was_announced : (one : Worker) (place : ℕ) (ticket : Ticket) → slice_get (tickets_of one) place ≡ Some ticket → (first : ℕ) (workers after : List Worker) → AllZip (AgreesWith one) workers after
    → CountsFrom first (map number_of workers) → first ≤ ticket.worker → ticket.worker < first + length workers → WasAnnounced workers ticket
was_announced one place ticket at first [] after come numbers least below = absurd (omega arith)
was_announced one place ticket at first (x ∷ xs) [] come numbers least below = absurd come
was_announced one place ticket at first (x ∷ xs) (y ∷ ys) come numbers least below =
    by_turn (λ (later : suc first ≤ ticket.worker). was_announced one place ticket at (first + 1) xs ys come.1 numbers.1 (omega arith) (omega arith)) (dec_le (suc first) ticket.worker)
  where
    by_turn : (suc first ≤ ticket.worker → WasAnnounced xs ticket) → Dec (suc first ≤ ticket.worker) → WasAnnounced (x ∷ xs) ticket
    by_turn others (yes later) =
        let found = others later in
        record { worker = found.worker; among = Contains-append_right (x ∷ []) xs found.worker found.among; whose = found.whose; announced = found.announced }
    by_turn others (no here) =
        let turn : ticket.worker ≡ first = omega arith in
        let whose : ticket.worker ≡ number_of x = turn ∙ sym numbers.0 in
        record { worker = x; among = (0, omega arith, refl); whose = sym whose; announced = own_announced one x y place ticket come.0 at whose }

-- Workers of a log whose histories are one worker's have met.
pub have_met : (settings : Configuration) (log : Log) (workers after : List Worker) (first one : Worker) (number : ℕ) → AreWorkersOf settings log workers → Contains workers first
    → CatchesUp first one → IsUpToDate one → AllZip (AgreesWith one) workers after → length (history_of one) ≡ number → HaveMet workers number
have_met settings log workers after first one number all among later whole come long =
    let of_one : one.log.now ≡ log = ap (λ lent. lent.now) later.continues.log ∙ All-contains (λ (worker : Worker). worker.log.now ≡ log) workers first all.of among in
    let size : (seat_of one).size.workers ≡ settings.workers =
    ap (λ (size : LogSize). size.workers) one.of.1 ∙ ap (λ (log : Log). log.settings.workers) of_one ∙ ap (λ (settings : Configuration). settings.workers) all.opened in
    record {
      first = first;
      among = among;
      one = one;
      later = later;
      met = all_met one workers after (subst (λ log. AreOfLog log workers) (sym of_one) all.of) come;
      whole = whole;
      once = once_each one whole;
      announced = λ place other inside.
          let at = slice_get-get_or (tickets_of one) place other inside in
          let ticket = get_or (tickets_of one) place other in
          let learned = subst (λ (tickets : List Ticket). slice_get tickets place ≡ Some ticket) (tickets_learned one whole) at in
          let below = one.pass.desk.law.inside place ticket learned in
          was_announced one place ticket at 0 workers after come all.numbers (omega arith) (omega (arith, below.0, size, all.many));
      long = long;
    }

-- workers that agree with the one still do once they have found the run of all
still_agree : (one : Worker) (workers met found : List Worker) → AllZip (AgreesWith one) workers met → AllZip IsAsBefore met found →
    AllZip (AgreesWith one) workers found
still_agree one [] [] [] agree before = tt
still_agree one [] [] (z ∷ zs) agree before = absurd before
still_agree one [] (y ∷ ys) found agree before = absurd agree
still_agree one (x ∷ xs) [] found agree before = absurd agree
still_agree one (x ∷ xs) (y ∷ ys) [] agree before = absurd before
still_agree one (x ∷ xs) (y ∷ ys) (z ∷ zs) agree before = (
  record {
    later = catches_through x y z agree.0.later before.0.caught_up;
    whole = ap (length {A = Sighting}) before.0.history ∙ (agree.0.whole ∙ sym (ap (length {A = Ticket}) before.0.learned));
    equal = agree.0.equal ∙ sym before.0.history;
  },
  still_agree one xs ys zs agree.1 before.1,
)

later_of : (one : Worker) (workers after : List Worker) → AllZip (AgreesWith one) workers after → AllZip CatchesUp workers after
later_of one [] [] agree = tt
later_of one [] (y ∷ ys) agree = absurd agree
later_of one (x ∷ xs) [] agree = absurd agree
later_of one (x ∷ xs) (y ∷ ys) agree = (agree.0.later, later_of one xs ys agree.1)

up_to_date_of : (one : Worker) (used : ℕ) (workers after : List Worker) → length (history_of one) ≡ used → AllZip (AgreesWith one) workers after → All (IsUpToDateAt used) after
up_to_date_of one used [] [] long agree = All-nil (IsUpToDateAt used)
up_to_date_of one used [] (y ∷ ys) long agree = absurd agree
up_to_date_of one used (x ∷ xs) [] long agree = absurd agree
up_to_date_of one used (x ∷ xs) (y ∷ ys) long agree =
    All-cons (IsUpToDateAt used) y ys (agree.0.whole, sym (ap (length {A = Sighting}) agree.0.equal) ∙ long) (up_to_date_of one used xs ys long agree.1)

history_at : (one : Worker) (workers after : List Worker) → AllZip (AgreesWith one) workers after → (place : ℕ) (worker : Worker) → slice_get after place ≡ Some worker →
    history_of one ≡ history_of worker
history_at one [] [] agree place worker at = absurd (none-some worker at)
history_at one [] (y ∷ ys) agree place worker at = absurd agree
history_at one (x ∷ xs) [] agree place worker at = absurd agree
history_at one (x ∷ xs) (y ∷ ys) agree zero worker at = agree.0.equal ∙ ap history_of (same_Some y worker at)
history_at one (x ∷ xs) (y ∷ ys) agree (suc place) worker at = history_at one xs ys agree.1 place worker at

pub agree_of : (log : Log) (one : Worker) (workers after : List Worker) → AllZip (AgreesWith one) workers after → AreOfLog log workers → AreOfLog log after
agree_of log one [] [] agree of = of
agree_of log one [] (y ∷ ys) agree of = absurd agree
agree_of log one (x ∷ xs) [] agree of = absurd agree
agree_of log one (x ∷ xs) (y ∷ ys) agree of =
    let P = λ (worker : Worker). worker.log.now ≡ log in
    All-cons P y ys (ap (λ lent. lent.now) agree.0.later.continues.log ∙ All-head P x xs of) (agree_of log one xs ys agree.1 (All-tail P x xs of))

-- Workers that agree with the one, and have found the run of all, have closed their log.
pub have_closed : (one : Worker) (workers met found : List Worker) (used : ℕ) → AllZip (AgreesWith one) workers met → AllZip IsAsBefore met found →
    AreOnOneRun found → length (history_of one) ≡ used → HaveClosed workers used
have_closed one workers met found used agree before run long =
    let now = still_agree one workers met found agree before in record {
      closed = found;
      later = later_of one workers found now;
      up_to_date = up_to_date_of one used workers found long now;
      same = λ i j first second at there. sym (history_at one workers found now i first at) ∙ history_at one workers found now j second there;
      run = run;
    }
