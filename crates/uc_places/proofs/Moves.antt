-- Each operation of a worker's seat on a word keeps the invariant, and is its event.
use Rattle.std.proofs.Common.{◌≡◌, ◌≢◌, ◌⊎◌, ℕ, zero, suc, ◌+◌, ◌%◌, ◌^◌, ◌<◌, ◌==◌, Bool, List, [], ◌∷◌, ◌++◌, length, map, get_or, set, sym, refl, ap, ◌∙◌, subst, inl, inr, ⊎_elim, arith, eq-eqb, ne_eqb, slice_get, unwrap_or, Option, Some, None}
use Rattle.std.proofs.lemmas.List.Sums.{count_by-le-length}
use Rattle.std.proofs.lemmas.Option.{none-some, same_Some, slice_get_within}
use mathlib.Core.Option.{none, some, some-injective, some-ne-none}
use Rattle.std.proofs.Math.Decide.{ℕ_discrete}
use lib.ListN.{get_elem?}
use lib.Seq.{set-get_or}
use prog.Atomic.{either}
use Rattle.atomic_table.specs.Table.{State, step, keeps, stepped, Allows}
use Rattle.atomic_table.proofs.Lists as table_lists
use Rattle.mc_model.specs.declared.id.Ticket.{Ticket}
use Rattle.mc_model.specs.declared.shown.LogSize.{LogSize}
use Rattle.mc_model.specs.declared.shown.Phase.TheVariants.{Idle, Pending, Looked}
use Rattle.mc_model.specs.declared.shown.ShownState.{ShownState}
use Rattle.mc_model.specs.declared.shown.WorkerState.{WorkerState}
use Rattle.lists.specs.Lists.{BeginsWith}
use Rattle.mc_model.specs.Helping.{LogLaw}
use Rattle.mc_model.specs.Lawful.{HasRoom, IsReached, IsWorker, ShownEvent, Step, announced_by, announces, decided_with, looks, next, proposes, reads, turn, with_worker}
use Rattle.mc_model.specs.Shown.{announce, look, new_log, new_worker, proposal, propose, read}
use Rattle.lists.proofs.Public.{at_seam, begins_same, begins_self, begins_through, nothing_next, set_elsewhere, set_here}
use Rattle.model_lemmas.proofs.Waiting.{is_lawful}
use Rattle.uc_places.specs.declared.view.Call.{Call}
use Rattle.uc_places.specs.declared.view.Call.TheVariants.{Announce, Look, Propose, Read}
use Rattle.uc_places.specs.declared.view.Kind.{Kind}
use Rattle.uc_places.specs.declared.view.Kind.TheVariants.{Spare, Seated, Spent}
use Rattle.uc_places.specs.declared.view.Part.{Part}
use Rattle.uc_places.specs.declared.view.View.{View}
use Rattle.uc_places.specs.Rule.{Fits, HasSeat, IsKept, IsOneOf, IsSeatFor, Knows, OthersLead, Plays, PlaysAll, taker}
use Rattle.uc_places.specs.Run.{AreOneRun, HasMade, event_in, event_of, part_of, witnessed_by}
use Rattle.uc_places.specs.Told.{AnnounceTells, Happens, IsTicketOf, LookTells, MeetTells, ProposeTells, ReadTells, SeatState, WitnessTells, keeping, moved_on}
use Rattle.uc_places.specs.Words.{Shows, found_in, place_word, said_word}
use Rattle.uc_places.proofs.Followed.{none_lead, one_more, others_lead_on}
use Rattle.uc_places.proofs.Runs.{as_witnessed, events_again, made_else, made_on, reached, taken}
use Rattle.uc_places.proofs.Wording.{announced_in, found, same_counts, shows_count, shows_place, shows_same, ticket_found}

abbrev pub TableState : Type 0
TableState = State Unit View

-- the state of the log after an event of one worker, which may decide a place
abbrev pub after : ShownState → List Ticket → ℕ → WorkerState → ShownState
after log decided number worker = record { decided = decided; workers = set log.workers number worker }

pub at_within : (views : List View) (id : ℕ) (view : View) → get_elem? views id ≡ some view → id < length views
at_within [] id view at = absurd (some-ne-none view (sym at))
at_within (first ∷ views) zero view at = omega arith
at_within (first ∷ views) (suc id) view at = let within = at_within views id view at in omega (arith, within)

-- a worker has its seat still, once a seat has another view that is the same workers'
pub seat_still : (views : List View) (id : ℕ) (old new : View) → get_elem? views id ≡ some old → (there number : ℕ) →
    (IsSeatFor number old old.kind → IsSeatFor number new new.kind) → HasSeat views there number → HasSeat (set views id new) there number
seat_still views id old new at there number stays has = by_place (ℕ_discrete there id)
  where
    by_place : Dec (there ≡ id) → HasSeat (set views id new) there number
    by_place (yes here) =
        let same : has.view ≡ old = some-injective has.view old (sym has.there ∙ (ap (get_elem? views) here ∙ at)) in
        record {
          view = new;
          there = ap (get_elem? (set views id new)) here ∙ table_lists.set_here views id new (at_within views id old at);
          shows = stays (subst (λ (view : View). IsSeatFor number view view.kind) same has.shows);
        }
    by_place (no apart) = record {
      view = has.view;
      there = table_lists.set_else views id there new apart ∙ has.there;
      shows = has.shows;
    }

-- a seat is a worker's as its parts say
pub seated_for : (number : ℕ) (view : View) → view.kind ≡ Seated → IsOneOf number (part_of view ∷ view.joined) → IsSeatFor number view view.kind
seated_for number view is one = subst (IsSeatFor number view) (sym is) one

pub shown_for : (number : ℕ) (view : View) → view.kind ≡ Seated → IsSeatFor number view view.kind → IsOneOf number (part_of view ∷ view.joined)
shown_for number view is shows = subst (IsSeatFor number view) is shows

-- what a worker's seat has done, if it is one of these
calls_of_one : (size : LogSize) (log : ShownState) (run : List ShownEvent) (owner : ℕ → ℕ) (id number : ℕ) (parts : List Part) →
    PlaysAll size log run owner id parts → IsOneOf number parts → (calls : List Call) × HasMade run number calls
calls_of_one size log run owner id number [] play one = absurd one
calls_of_one size log run owner id number (part ∷ parts) play one = ⊎_elim
    (λ (same : part.worker ≡ number). (part.calls, subst (λ (n : ℕ). HasMade run n part.calls) same play.1.3))
    (λ (later : IsOneOf number parts). calls_of_one size log run owner id number parts play.3 later)
    one

module _ (size : LogSize) where
  -- each worker's events are calls of its seat
  pub each_seated : (s : TableState) (kept : IsKept size s) (number : ℕ) → number < size.workers → (calls : List Call) × HasMade kept.run number calls
  each_seated s kept number inside = let has = kept.seated number inside in
      by_kind has.view.kind (kept.fits (kept.owner number) has.view has.there).1 has.shows
    where
      by_kind : (kind : Kind) → Knows size kept.log kept.run kept.owner (kept.owner number) (kept.seated number inside).view kind →
          IsSeatFor number (kept.seated number inside).view kind → (calls : List Call) × HasMade kept.run number calls
      by_kind Spare knows shows = ([], (knows number shows inside).3)
      by_kind Seated knows shows = calls_of_one size kept.log kept.run kept.owner (kept.owner number) number
          (part_of (kept.seated number inside).view ∷ (kept.seated number inside).view.joined) knows.0 shows
      by_kind Spent knows shows = absurd shows

  -- the invariant's state is reachable
  pub is_reached : (s : TableState) (kept : IsKept size s) → IsReached size kept.log
  is_reached s kept = reached size kept.run kept.log kept.leads

  pub law : (s : TableState) (kept : IsKept size s) → LogLaw size kept.log
  law s kept = is_lawful size kept.log (is_reached s kept)

  -- what the invariant says of a worker's seat
  pub seated : (s : TableState) (kept : IsKept size s) (id : ℕ) (view : View) → get_elem? s.views id ≡ some view → view.kind ≡ Seated →
      (kept.owner view.worker ≡ id) × IsWorker kept.log view.worker view.state × BeginsWith kept.log.decided view.told
      × OthersLead size view.worker view.last kept.log × HasMade kept.run view.worker view.calls
      × PlaysAll size kept.log kept.run kept.owner id (part_of view ∷ view.joined) × BeginsWith kept.run (witnessed_by view)
  seated s kept id view at is = let its = subst (Knows size kept.log kept.run kept.owner id view) is (kept.fits id view at).1 in
      let play = its.0.1 in (play.0, play.1, its.1, play.2, play.3, its.0, its.2)

  -- another seat keeps what the invariant says of it
  module _ (old new : ShownState) (run : List ShownEvent) (event : ShownEvent) (owner : ℕ → ℕ) (number id other : ℕ) (state : WorkerState)
      (takes : taker event ≡ number) (is : Step size old event new) (mine : owner number ≡ id) (apart : other ≢ id)
      (moved : new.workers ≡ set old.workers number state) (longer : BeginsWith new.decided old.decided) where
    abbrev later : List ShownEvent
    later = run ++ event ∷ []

    plays_on : (worker : ℕ) (theirs : WorkerState) (last : ShownState) (calls : List Call) → Plays size old run owner other worker theirs last calls →
        Plays size new later owner other worker theirs last calls
    plays_on worker theirs last calls plays =
        -- a worker whose seat is the other one isn't the one that took the event
        let not_taker : worker ≢ number = (λ same. apart (sym plays.0 ∙ (ap owner same ∙ mine))) in
        let not_its : taker event ≢ worker = (λ same. not_taker (sym same ∙ takes)) in (
          plays.0,
          ap (λ (l : List WorkerState). slice_get l worker) moved ∙ (set_elsewhere old.workers number worker state not_taker ∙ plays.1),
          others_lead_on size worker last old new event plays.2 is not_its,
          made_else run worker calls event not_its plays.3,
        )

    all_play_on : (parts : List Part) → PlaysAll size old run owner other parts → PlaysAll size new later owner other parts
    all_play_on [] play = tt
    all_play_on (part ∷ parts) play =
        (play.0, plays_on part.worker part.state part.last part.calls play.1, play.2, all_play_on parts play.3)

    others : (view : View) (kind : Kind) → Knows size old run owner other view kind → Knows size new later owner other view kind
    others view Spare knows = λ worker low high. plays_on worker new_worker (new_log size) [] (knows worker low high)
    others view Seated knows = (
      all_play_on (part_of view ∷ view.joined) knows.0,
      begins_through new.decided old.decided view.told longer knows.1,
      begins_through later run (witnessed_by view) (event ∷ [], refl) knows.2,
    )
    others view Spent knows = tt

  -- an event of a worker, by its seat, keeps the invariant if the words then show the new state
  steps : (s : TableState) (kept : IsKept size s) (id : ℕ) (view : View) (call : Call) (decided : List Ticket) (state : WorkerState)
      (words : List ℕ) →
      get_elem? s.views id ≡ some view → view.kind ≡ Seated → view.joined ≡ [] →
      Step size kept.log (event_of view.worker call) (after kept.log decided view.worker state) → BeginsWith decided kept.log.decided →
      Shows size words (after kept.log decided view.worker state) →
      IsKept size record { words = words; homes = s.homes; views = set s.views id (moved_on view call state (after kept.log decided view.worker state)) }
  steps s kept id view call decided state words at is alone step longer shows =
      let new : ShownState = after kept.log decided view.worker state in let mine = seated s kept id view at is in
      let event = event_of view.worker call in let later : List ShownEvent = kept.run ++ event ∷ [] in
      let moved = moved_on view call state new in record {
        small = kept.small;
        run = later;
        log = new;
        leads = one_more size kept.run (new_log size) kept.log new event kept.leads step;
        shows = shows;
        owner = kept.owner;
        fits = λ other some_view there. ⊎_elim
            (λ (same : (other ≡ id) × (moved ≡ some_view)). subst
            (λ (z : ℕ × View). Fits size new later kept.owner z.0 z.1) (λ i. (sym same.0 i, same.1 i)) (
              (kept.fits id view at).0,
              subst (Knows size new later kept.owner id moved) (sym is) (
                subst (λ (parts : List Part). PlaysAll size new later kept.owner id (part_of moved ∷ parts)) (sym alone) (
                  mine.5.0,
                  (
                    mine.0,
                    set_here kept.log.workers view.worker state (slice_get_within kept.log.workers view.worker view.state mine.1),
                    none_lead size view.worker new,
                    made_on kept.run view.worker view.calls call mine.4,
                  ),
                  tt,
                  tt,
                ),
                begins_through decided kept.log.decided view.told longer mine.2,
                begins_through later kept.run (witnessed_by view) (event ∷ [], refl) mine.6,
              ),
            ))
            (λ (apart : (other ≢ id) × (get_elem? s.views other ≡ some some_view)). let fits = kept.fits other some_view apart.1 in (
              fits.0,
              others kept.log new kept.run event kept.owner view.worker id other state (taken view.worker call) step mine.0 apart.0 refl longer
                  some_view some_view.kind fits.1,
            ))
            (table_lists.at_set s.views id other moved some_view there);
        seated = λ number inside. seat_still s.views id view moved at (kept.owner number) number
            (λ shows. seated_for number moved is (shown_for number view is shows)) (kept.seated number inside);
      }

  happens : (s : TableState) (kept : IsKept size s) (id : ℕ) (view : View) (event : ShownEvent) (decided : List Ticket) (state : WorkerState) →
      get_elem? s.views id ≡ some view → view.kind ≡ Seated → Step size kept.log event (after kept.log decided view.worker state) →
      Happens size event view state (after kept.log decided view.worker state)
  happens s kept id view event decided state at is step = let mine = seated s kept id view at is in let was = is_reached s kept in (
    kept.log,
    mine.3,
    was,
    step,
    ((event ∷ was.0), (kept.log, was.1, step)),
    mine.1,
    set_here kept.log.workers view.worker state (slice_get_within kept.log.workers view.worker view.state mine.1),
  )

-- the view's size is the invariant's
at_size : (size : LogSize) (slots id : ℕ) (me : SeatState) → me.0.kind ≡ Seated → (word : ℕ) (f : ℕ → ℕ) (tells : ℕ → SeatState → Type 0) →
    Allows (IsKept me.0.size) slots id me word f tells → Allows (IsKept size) slots id me word f tells
at_size size slots id me is word f tells body s kept long at fits =
    let same = (kept.fits id me.0 at).0 (λ q. cc) in let done = body s (subst (λ (z : LogSize). IsKept z s) (sym same) kept) long at fits in
    (done.0, done.1, done.2, subst (λ (z : LogSize). IsKept z (stepped s word (f (get_or s.words word 0)) id me.1 done.0 done.1)) same done.3, done.4)

module _ (slots id : ℕ) (me : SeatState) (is : me.0.kind ≡ Seated) where
  -- a load changes no word
  loads : (s : TableState) (word : ℕ) (view : View) → IsKept me.0.size record { words = s.words; homes = s.homes; views = set s.views id view } →
      IsKept me.0.size record { words = set s.words word (get_or s.words word 0); homes = s.homes; views = set s.views id view }
  loads s word view = subst (λ (words : List ℕ). IsKept me.0.size record { words = words; homes = s.homes; views = set s.views id view })
      (sym (set-get_or s.words word 0))

  -- the workers whose seat it is are as it shows them
  all_play : (size : LogSize) (log : ShownState) (run : List ShownEvent) (owner : ℕ → ℕ) (parts : List Part) → PlaysAll size log run owner id parts →
      (place : ℕ) (part : Part) → slice_get parts place ≡ Some part → (part.size ≡ size) × Plays size log run owner id part.worker part.state part.last part.calls
  all_play size log run owner [] play place part at = absurd (none-some part at)
  all_play size log run owner (first ∷ parts) play zero part at = let same : first ≡ part = same_Some _ _ at in
      subst (λ (p : Part). (p.size ≡ size) × Plays size log run owner id p.worker p.state p.last p.calls) same (play.0, play.1)
  all_play size log run owner (first ∷ parts) play (suc place) part at = all_play size log run owner parts play.3 place part at

  pub one_run : (size : LogSize) (s : TableState) (kept : IsKept size s) → get_elem? s.views id ≡ some me.0 →
      AreOneRun size (part_of me.0 ∷ me.0.joined) kept.log
  one_run size s kept at = let mine = seated size s kept id me.0 at is in
      let play = all_play size kept.log kept.run kept.owner (part_of me.0 ∷ me.0.joined) mine.5 in record {
        run = kept.run;
        lead = kept.leads;
        sized = λ place part there. (play place part there).0;
        shown = λ place part there. (play place part there).1.1;
        own = λ place part there. (play place part there).1.3;
        each = each_seated size s kept;
      }

  pub meets_word : (size : LogSize) → Allows (IsKept size) slots id me 0 (λ n. n) (MeetTells (step slots 0 0 0 none) me)
  meets_word size = at_size size slots id me is 0 (λ n. n) (MeetTells (step slots 0 0 0 none) me) body
    where
      body : Allows (IsKept me.0.size) slots id me 0 (λ n. n) (MeetTells (step slots 0 0 0 none) me)
      body s kept long at _ = (
        me.0,
        keeps,
        tt,
        loads s 0 me.0 (subst (λ (views : List View). IsKept me.0.size record { words = s.words; homes = s.homes; views = views })
            (sym (table_lists.set_again s.views id me.0 at)) kept),
        (refl, (kept.log, one_run me.0.size s kept at)),
      )

  -- a seat that keeps the run
  kept_by : (size : LogSize) (s : TableState) (kept : IsKept size s) → get_elem? s.views id ≡ some me.0 →
      IsKept size record { words = s.words; homes = s.homes; views = set s.views id (keeping me.0 (map as_witnessed kept.run)) }
  kept_by size s kept at = let events = map as_witnessed kept.run in let new = keeping me.0 events in
      let mine = seated size s kept id me.0 at is in record {
        small = kept.small;
        run = kept.run;
        log = kept.log;
        leads = kept.leads;
        shows = kept.shows;
        owner = kept.owner;
        fits = λ other some_view there. ⊎_elim
            (λ (same : (other ≡ id) × (new ≡ some_view)). subst
            (λ (z : ℕ × View). Fits size kept.log kept.run kept.owner z.0 z.1) (λ i. (sym same.0 i, same.1 i)) (
              (kept.fits id me.0 at).0,
              subst (Knows size kept.log kept.run kept.owner id new) (sym is) (mine.5, mine.2, begins_same kept.run (map event_in events) (sym (events_again kept.run))),
            ))
            (λ (apart : (other ≢ id) × (get_elem? s.views other ≡ some some_view)). kept.fits other some_view apart.1)
            (table_lists.at_set s.views id other new some_view there);
        seated = λ number inside. seat_still s.views id me.0 new at (kept.owner number) number
            (λ shows. seated_for number new is (shown_for number me.0 is shows)) (kept.seated number inside);
      }

  pub witnesses_word : (size : LogSize) → Allows (IsKept size) slots id me 0 (λ n. n) (WitnessTells (step slots 0 0 0 none) me)
  unfolding one_run
  witnesses_word size = at_size size slots id me is 0 (λ n. n) (WitnessTells (step slots 0 0 0 none) me) body
    where
      body : Allows (IsKept me.0.size) slots id me 0 (λ n. n) (WitnessTells (step slots 0 0 0 none) me)
      body s kept long at _ = let events = map as_witnessed kept.run in let new = keeping me.0 events in
          let again = events_again kept.run in (
            new,
            keeps,
            tt,
            loads s 0 new (kept_by me.0.size s kept at),
            (
              refl,
              subst (λ (run : List ShownEvent). BeginsWith run (witnessed_by me.0)) (sym again) (seated me.0.size s kept id me.0 at is).6,
              (kept.log, one_run me.0.size s kept at, sym again),
            ),
          )

module _ (slots id : ℕ) (me : SeatState) (is : me.0.kind ≡ Seated) (alone : me.0.joined ≡ []) where
  pub announces_word : (size : LogSize) → me.0.state.phase ≡ Idle → HasRoom me.0.size me.0.state →
      Allows (IsKept size) slots id me (1 + me.0.worker) (λ n. (n + 1) % 2 ^ 64) (AnnounceTells (step slots (1 + me.0.worker) 1 0 none) me)
  announces_word size phase room = at_size size slots id me is (1 + me.0.worker) (λ n. (n + 1) % 2 ^ 64)
      (AnnounceTells (step slots (1 + me.0.worker) 1 0 none) me) body
    where
      body : Allows (IsKept me.0.size) slots id me (1 + me.0.worker) (λ n. (n + 1) % 2 ^ 64)
          (AnnounceTells (step slots (1 + me.0.worker) 1 0 none) me)
      body s kept long at _ =
          let view = me.0 in let number = view.worker in let old = view.state in let new = announce old in
          let mine = seated view.size s kept id view at is in let law = law view.size s kept in
          let inside : number < view.size.workers = (let within = slice_get_within kept.log.workers number old mine.1 in
          let many = law.many in omega arith) in
          let n : ℕ = get_or s.words (1 + number) 0 in let n' : ℕ = (n + 1) % 18446744073709551616 in
          let same : n ≡ old.announced = kept.shows.counts number inside ∙ ap announced_in mine.1 in
          let small = kept.small.2 in let own = (law.each number old mine.1).idle phase in
          let few = count_by-le-length (λ (some : Ticket). some.worker == number) old.learned in
          let now : old.announced + 1 ≡ n' = omega arith in
          let event : Step view.size kept.log (announces number) (with_worker kept.log number new) = (old, mine.1, phase, room, refl) in (
            moved_on view Announce new (with_worker kept.log number new),
            keeps,
            tt,
            steps view.size s kept id view Announce kept.log.decided new (set s.words (1 + number) n') at is alone event (begins_self kept.log.decided)
                (shows_count view.size s.words kept.log number old new n' inside kept.shows mine.1 now),
            (refl, same, omega arith, happens view.size s kept id view (announces number) kept.log.decided new at is event),
          )

  read_announced : (number : ℕ) (worker : WorkerState) (stands : Option Ticket) → (read number stands worker).announced ≡ worker.announced
  read_announced number worker None = refl
  read_announced number worker (Some ticket) = refl

  -- an element of a prefix stands at the same place of the list
  at_longer : (list more : List Ticket) (place : ℕ) (ticket : Ticket) → slice_get list place ≡ Some ticket →
      slice_get (list ++ more) place ≡ Some ticket
  at_longer [] more place ticket at = absurd (let no = at in cc)
  at_longer (x ∷ list) more zero ticket at = at
  at_longer (x ∷ list) more (suc place) ticket at = at_longer list more place ticket at

  pub reads_word : (size : LogSize) → (me.0.state.phase ≡ Idle) ⊎ (me.0.state.phase ≡ Pending) → HasRoom me.0.size me.0.state →
      Allows (IsKept size) slots id me (1 + me.0.size.workers + length me.0.state.learned) (λ n. n)
      (ReadTells (step slots (1 + me.0.size.workers + length me.0.state.learned) 0 0 none) me)
  reads_word size phase room = at_size size slots id me is word (λ n. n) (ReadTells (step slots word 0 0 none) me) body
    where
      word : ℕ
      word = 1 + me.0.size.workers + length me.0.state.learned

      body : Allows (IsKept me.0.size) slots id me (1 + me.0.size.workers + length me.0.state.learned) (λ n. n)
          (ReadTells (step slots (1 + me.0.size.workers + length me.0.state.learned) 0 0 none) me)
      body s kept long at _ =
          let view = me.0 in let number = view.worker in let old = view.state in let mine = seated view.size s kept id view at is in
          let law = law view.size s kept in
          let place : ℕ = length old.learned in let i : ℕ = 1 + view.size.workers + place in
          let n : ℕ = get_or s.words i 0 in let there = next kept.log old in
          let same : n ≡ place_word there = kept.shows.places place room in
          let saw : found_in n ≡ there = ap found_in same ∙ found view.size kept.log law place kept.small in
          let new = read number (found_in n) old in
          let event : Step view.size kept.log (reads number) (with_worker kept.log number new) =
          (old, mine.1, phase, room, ap (λ (o : Option Ticket). with_worker kept.log number (read number o old)) saw) in (
            moved_on view Read new (with_worker kept.log number new),
            keeps,
            tt,
            loads slots id me is s i (moved_on view Read new (with_worker kept.log number new))
                (steps view.size s kept id view Read kept.log.decided new s.words at is alone event (begins_self kept.log.decided)
                (shows_same view.size s.words kept.log number old new kept.shows mine.1 (read_announced number old (found_in n)))),
            (
              refl,
              subst (IsTicketOf view.size) (sym same) (ticket_found view.size kept.log law place kept.small),
              (λ ticket told. saw ∙ (ap (λ (list : List Ticket). slice_get list place) mine.2.1 ∙ at_longer view.told mine.2.0 place ticket told)),
              sym saw,
              happens view.size s kept id view (reads number) kept.log.decided new at is event,
            ),
          )

  pub looks_word : (size : LogSize) → me.0.state.phase ≡ Pending → HasRoom me.0.size me.0.state → me.0.state.mark ≢ None →
      Allows (IsKept size) slots id me (1 + turn me.0.size me.0.state) (λ n. n) (LookTells (step slots (1 + turn me.0.size me.0.state) 0 0 none) me)
  looks_word size phase room marked = at_size size slots id me is (1 + turn me.0.size me.0.state) (λ n. n)
      (LookTells (step slots (1 + turn me.0.size me.0.state) 0 0 none) me) body
    where
      body : Allows (IsKept me.0.size) slots id me (1 + turn me.0.size me.0.state) (λ n. n)
          (LookTells (step slots (1 + turn me.0.size me.0.state) 0 0 none) me)
      body s kept long at _ =
          let view = me.0 in let number = view.worker in let old = view.state in let mine = seated view.size s kept id view at is in
          let i : ℕ = 1 + turn view.size old in
          let some_worker = kept.small.0 in let inside : turn view.size old < view.size.workers = omega arith in
          let n : ℕ = get_or s.words i 0 in let saw : n ≡ announced_by kept.log (turn view.size old) = kept.shows.counts (turn view.size old) inside in
          let new = look (turn view.size old) n old in
          let event : Step view.size kept.log (looks number) (with_worker kept.log number new) =
          (old, mine.1, phase, room, marked, ap (λ (many : ℕ). with_worker kept.log number (look (turn view.size old) many old)) saw) in (
            moved_on view Look new (with_worker kept.log number new),
            keeps,
            tt,
            loads slots id me is s i (moved_on view Look new (with_worker kept.log number new))
                (steps view.size s kept id view Look kept.log.decided new s.words at is alone event (begins_self kept.log.decided)
                (shows_same view.size s.words kept.log number old new kept.shows mine.1 refl)),
            (
              refl,
              saw ∙ same_counts kept.log number (turn view.size old) old new mine.1 refl,
              happens view.size s kept id view (looks number) kept.log.decided new at is event,
            ),
          )

  pub proposes_word : (size : LogSize) → me.0.state.phase ≡ Looked →
      Allows (IsKept size) slots id me (1 + me.0.size.workers + length me.0.state.learned) (λ n. either (n == 0)
      (said_word (proposal me.0.worker me.0.state)) n)
      (ProposeTells (step slots (1 + me.0.size.workers + length me.0.state.learned) 0 (said_word (proposal me.0.worker me.0.state)) none) me)
  proposes_word size phase = at_size size slots id me is word (λ n. either (n == 0) (said_word (proposal me.0.worker me.0.state)) n)
      (ProposeTells (step slots word 0 (said_word (proposal me.0.worker me.0.state)) none) me) body
    where
      word : ℕ
      word = 1 + me.0.size.workers + length me.0.state.learned

      body : Allows (IsKept me.0.size) slots id me (1 + me.0.size.workers + length me.0.state.learned) (λ n. either (n == 0)
          (said_word (proposal me.0.worker me.0.state)) n)
          (ProposeTells (step slots (1 + me.0.size.workers + length me.0.state.learned) 0 (said_word (proposal me.0.worker me.0.state)) none) me)
      body s kept long at _ =
          let view = me.0 in let number = view.worker in let old = view.state in let mine = seated view.size s kept id view at is in
          let law = law view.size s kept in
          let place : ℕ = length old.learned in let i : ℕ = 1 + view.size.workers + place in
          let n : ℕ = get_or s.words i 0 in let ticket = proposal number old in let own = law.each number old mine.1 in
          let room = (own.looked phase).1 in
          let same : n ≡ place_word (next kept.log old) = kept.shows.places place room in
          let saw : found_in n ≡ next kept.log old = ap found_in same ∙ found view.size kept.log law place kept.small in
          let new = propose number (found_in n) old in
          let decided = decided_with ticket kept.log.decided (next kept.log old) in
          let event : Step view.size kept.log (proposes number) (after kept.log decided number new) =
          (old, mine.1, phase, ap (λ (o : Option Ticket). after kept.log decided number (propose number o old)) saw) in
          let now = happens view.size s kept id view (proposes number) decided new at is event in (
            moved_on view Propose new (after kept.log decided number new),
            keeps,
            tt,
            steps view.size s kept id view Propose decided new (set s.words i (either (n == 0) (said_word ticket) n)) at is alone event
                (grows kept.log.decided (next kept.log old) ticket)
                (placed view.size s.words kept.log number old new ticket n (next kept.log old) refl same room kept.shows mine.1 own.begins refl),
            (
              refl,
              subst (IsTicketOf view.size) (sym same) (ticket_found view.size kept.log law place kept.small),
              stands kept.log.decided old.learned ticket (next kept.log old) refl own.begins
                  ∙ ap (λ (o : Option Ticket). Some (unwrap_or o ticket)) (sym saw),
              ((is_lawful view.size (after kept.log decided number new) now.4).each number new now.6).proposals,
              now,
            ),
          )
        where
          grows : (list : List Ticket) (stands : Option Ticket) (ticket : Ticket) → BeginsWith (decided_with ticket list stands) list
          grows list None ticket = (ticket ∷ [], refl)
          grows list (Some there) ticket = begins_self list

          -- what stands at the next place after a proposal
          stands : (list front : List Ticket) (ticket : Ticket) (there : Option Ticket) → slice_get list (length front) ≡ there →
              BeginsWith list front →
              slice_get (decided_with ticket list there) (length front) ≡ Some (unwrap_or there ticket)
          stands list front ticket None at begins = let all = nothing_next list front begins at in
              ap (λ (place : ℕ). slice_get (list ++ ticket ∷ []) place) (sym (ap length all)) ∙ at_seam list ticket []
          stands list front ticket (Some there) at begins = at

          -- the words after a compare-exchange of the worker's next place
          placed : (size : LogSize) (words : List ℕ) (log : ShownState) (number : ℕ) (old new : WorkerState) (ticket : Ticket) (n : ℕ)
              (there : Option Ticket) →
              next log old ≡ there → n ≡ place_word there → HasRoom size old → Shows size words log → IsWorker log number old →
              BeginsWith log.decided old.learned → new.announced ≡ old.announced →
              Shows size (set words (1 + size.workers + length old.learned) (either (n == 0) (said_word ticket) n))
              (after log (decided_with ticket log.decided there) number new)
          placed size words log number old new ticket n None is same room shows at begins kept =
              let all : log.decided ≡ old.learned = nothing_next log.decided old.learned begins is in
              let put : said_word ticket ≡ either (n == 0) (said_word ticket) n = sym (ap (λ (b : Bool). either b (said_word ticket) n)
              (eq-eqb n 0 same)) in
              let long : length log.decided ≡ length old.learned = ap length all in
              subst (λ (z : ℕ × ℕ). Shows size (set words (1 + size.workers + z.0) z.1) (after log (log.decided ++ ticket ∷ []) number new))
              (λ j. (long j, put j))
              (shows_place size words log number old new ticket (omega arith) shows at kept)
          placed size words log number old new ticket n (Some there) is same room shows at begins kept =
              let i : ℕ = 1 + size.workers + length old.learned in
              let left : get_or words i 0 ≡ either (n == 0) (said_word ticket) n = shows.places (length old.learned) room
              ∙ (ap place_word is ∙ (sym same ∙ sym (ap (λ (b : Bool). either b (said_word ticket) n) (ne_eqb n 0 (λ none. omega arith))))) in
              subst (λ (z : ℕ). Shows size (set words i z) (with_worker log number new)) left
              (subst (λ (some : List ℕ). Shows size some (with_worker log number new)) (sym (set-get_or words i 0))
              (shows_same size words log number old new shows at kept))

-- one of two beginnings of a list begins with the other
compared : (a b r q : List Ticket) → a ++ r ≡ b ++ q → BeginsWith a b ⊎ BeginsWith b a
compared [] b r q e = inr (b, refl)
compared (x ∷ a) [] r q e = inl (x ∷ a, refl)
compared (x ∷ a) (y ∷ b) r q e = let same : x ≡ y = cc in let rest : a ++ r ≡ b ++ q = cc in
    ⊎_elim (λ (h : BeginsWith a b). inl (h.0, λ i. same i ∷ h.1 i)) (λ (h : BeginsWith b a). inr (h.0, λ i. sym same i ∷ h.1 i))
    (compared a b r q rest)

-- of two workers one has learned what the other has
pub both_begin : (size : LogSize) (one other : Part) (log : ShownState) → AreOneRun size (one ∷ other ∷ []) log →
    BeginsWith one.state.learned other.state.learned ⊎ BeginsWith other.state.learned one.state.learned
both_begin size one other log all = let law = is_lawful size log (reached size all.run log all.lead) in
    let first = (law.each one.worker one.state (all.shown 0 one refl)).begins in
    let second = (law.each other.worker other.state (all.shown 1 other refl)).begins in
    compared one.state.learned other.state.learned first.0 second.0 (sym first.1 ∙ second.1)

-- the operations at a word by another name
module _ (slots id : ℕ) (me : SeatState) (is : me.0.kind ≡ Seated) (alone : me.0.joined ≡ []) (size : LogSize) (i : ℕ) where
  pub announces_at : i ≡ 1 + me.0.worker → me.0.state.phase ≡ Idle → HasRoom me.0.size me.0.state →
      Allows (IsKept size) slots id me i (λ n. (n + 1) % 2 ^ 64) (AnnounceTells (step slots i 1 0 none) me)
  announces_at e phase room =
      subst (λ (z : ℕ). Allows (IsKept size) slots id me z (λ n. (n + 1) % 2 ^ 64) (AnnounceTells (step slots z 1 0 none) me)) (sym e)
      (announces_word slots id me is alone size phase room)

  pub reads_at : i ≡ 1 + me.0.size.workers + length me.0.state.learned → (me.0.state.phase ≡ Idle) ⊎ (me.0.state.phase ≡ Pending) →
      HasRoom me.0.size me.0.state →
      Allows (IsKept size) slots id me i (λ n. n) (ReadTells (step slots i 0 0 none) me)
  reads_at e phase room =
      subst (λ (z : ℕ). Allows (IsKept size) slots id me z (λ n. n) (ReadTells (step slots z 0 0 none) me)) (sym e)
      (reads_word slots id me is alone size phase room)

  pub looks_at_word : i ≡ 1 + turn me.0.size me.0.state → me.0.state.phase ≡ Pending → HasRoom me.0.size me.0.state → me.0.state.mark ≢ None →
      Allows (IsKept size) slots id me i (λ n. n) (LookTells (step slots i 0 0 none) me)
  looks_at_word e phase room marked =
      subst (λ (z : ℕ). Allows (IsKept size) slots id me z (λ n. n) (LookTells (step slots z 0 0 none) me)) (sym e)
      (looks_word slots id me is alone size phase room marked)

  pub proposes_at : (c : ℕ) → i ≡ 1 + me.0.size.workers + length me.0.state.learned → c ≡ said_word (proposal me.0.worker me.0.state) →
      me.0.state.phase ≡ Looked →
      Allows (IsKept size) slots id me i (λ n. either (n == 0) c n) (ProposeTells (step slots i 0 c none) me)
  proposes_at c e said phase =
      subst (λ (z : ℕ × ℕ). Allows (IsKept size) slots id me z.0 (λ n. either (n == 0) z.1 n) (ProposeTells (step slots z.0 0 z.1 none) me))
      (λ j. (sym e j, sym said j)) (proposes_word slots id me is alone size phase)
