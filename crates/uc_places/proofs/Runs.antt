-- A run goes on by an event, which is its worker's own and no other's.
use Rattle.std.proofs.Common.{◌≡◌, ◌≢◌, ℕ, zero, suc, Bool, true, false, if◌then◌else◌, List, [], ◌∷◌, ◌++◌, map, refl, sym, ap, ◌∙◌, subst, append-nil, eq-eqb, ne_eqb, arith, ◌<◌, slice_get, None, Some}
use Rattle.std.proofs.lemmas.List.{map-append}
use Rattle.std.proofs.lemmas.Option.{none-some, same_Some, slice_get_within}
use Rattle.std.proofs.lemmas.List.Elements.{filter-append}
use Rattle.mc_model.specs.declared.shown.LogSize.{LogSize}
use Rattle.mc_model.specs.declared.shown.ShownState.{ShownState}
use Rattle.mc_model.specs.declared.shown.WorkerState.{WorkerState}
use Rattle.mc_model.specs.Lawful.{IsReached, IsWorker, LeadOn, ShownEvent, Step, announces, looks, proposes, reads, stops}
use Rattle.mc_model.specs.Shown.{new_log}
use Rattle.model_lemmas.proofs.Waiting.{is_lawful}
use Rattle.uc_places.specs.declared.view.Call.{Call}
use Rattle.uc_places.specs.declared.view.Call.TheVariants.{Announce, Look, Propose, Read}
use Rattle.uc_places.specs.declared.view.Part.{Part}
use Rattle.uc_places.specs.declared.view.Witnessed.{Witnessed}
use Rattle.uc_places.specs.OneRun.{EachEventIsACall, NothingButCalls}
use Rattle.uc_places.specs.Rule.{AreOfOthers, taker}
use Rattle.uc_places.specs.Run.{AreAmong, AreOneRun, HasMade, event_in, event_of, is_of, own_events}

-- another's event isn't the worker's; a call's is
not_its : (number : ℕ) (event : ShownEvent) → taker event ≢ number → is_of number event ≡ false
not_its number (announces worker) apart = ne_eqb worker number apart
not_its number (reads worker) apart = ne_eqb worker number apart
not_its number (looks worker) apart = ne_eqb worker number apart
not_its number (proposes worker) apart = ne_eqb worker number apart
not_its number (stops worker) apart = ne_eqb worker number apart

its : (number : ℕ) (call : Call) → is_of number (event_of number call) ≡ true
its number Announce = eq-eqb number number refl
its number Read = eq-eqb number number refl
its number Look = eq-eqb number number refl
its number Propose = eq-eqb number number refl

pub taken : (number : ℕ) (call : Call) → taker (event_of number call) ≡ number
taken number Announce = refl
taken number Read = refl
taken number Look = refl
taken number Propose = refl

-- one more event in front, by whether it is the worker's
pub in_front : (number : ℕ) (event : ShownEvent) (events : List ShownEvent) (own : Bool) → is_of number event ≡ own →
    own_events number (event ∷ events) ≡ (if own then event ∷ own_events number events else own_events number events)
in_front number event events own is =
    ap (λ (b : Bool). if b then event ∷ own_events number events else own_events number events) is

pub own_first : (number : ℕ) (call : Call) (events : List ShownEvent) →
    own_events number (event_of number call ∷ events) ≡ event_of number call ∷ own_events number events
own_first number call events = in_front number (event_of number call) events true (its number call)

-- none of others' events is the worker's
pub none_its : (number : ℕ) (events : List ShownEvent) → AreOfOthers number events → own_events number events ≡ []
none_its number [] others = refl
none_its number (event ∷ events) others = in_front number event events false (not_its number event others.0) ∙ none_its number events others.1

-- a worker's call comes last, or another's
pub made_on : (run : List ShownEvent) (number : ℕ) (calls : List Call) (call : Call) → HasMade run number calls →
    HasMade (run ++ event_of number call ∷ []) number (calls ++ call ∷ [])
made_on run number calls call made = filter-append (is_of number) run (event_of number call ∷ [])
    ∙ ((λ i. made i ++ own_first number call [] i) ∙ sym (map-append (event_of number) calls (call ∷ [])))

pub made_else : (run : List ShownEvent) (number : ℕ) (calls : List Call) (event : ShownEvent) → taker event ≢ number → HasMade run number calls →
    HasMade (run ++ event ∷ []) number calls
made_else run number calls event apart made = filter-append (is_of number) run (event ∷ [])
    ∙ ((λ i. made i ++ in_front number event [] false (not_its number event apart) i) ∙ append-nil (map (event_of number) calls))

-- a run leads to a reachable state
pub reached : (size : LogSize) (run : List ShownEvent) (log : ShownState) → LeadOn size (new_log size) run log → IsReached size log
reached size run log lead = on run (new_log size) log ([], refl) lead
  where
    on : (run : List ShownEvent) (from log : ShownState) → IsReached size from → LeadOn size from run log → IsReached size log
    on [] from log there same = subst (IsReached size) (sym same) there
    on (event ∷ run) from log there lead = on run lead.0 log ((event ∷ there.0), (from, there.1, lead.1)) lead.2

-- the first two of a list may be turned
pub among_turned : (one other : Part) (rest : List Part) → AreAmong (one ∷ other ∷ rest) (other ∷ one ∷ rest)
among_turned one other rest zero part at = (1, at)
among_turned one other rest (suc zero) part at = (0, at)
among_turned one other rest (suc (suc place)) part at = (suc (suc place), at)

-- of one run's workers some may be named
pub among_run : (size : LogSize) (parts all : List Part) (log : ShownState) → AreAmong parts all → AreOneRun size all log → AreOneRun size parts log
among_run size parts all log among run = record {
  run = run.run;
  lead = run.lead;
  sized = λ place part at. let there = among place part at in run.sized there.0 part there.1;
  shown = λ place part at. let there = among place part at in run.shown there.0 part there.1;
  own = λ place part at. let there = among place part at in run.own there.0 part there.1;
  each = run.each;
}

-- of two workers either may be named first
pub turned : (size other_size : LogSize) (one other : Part) (log : ShownState) → other.size ≡ other_size → AreOneRun size (one ∷ other ∷ []) log →
    AreOneRun other_size (other ∷ one ∷ []) log
turned size other_size one other log named all =
    subst (λ (z : LogSize). AreOneRun z (other ∷ one ∷ []) log) (sym (all.sized 1 other refl) ∙ named)
    (among_run size (other ∷ one ∷ []) (one ∷ other ∷ []) log (among_turned other one []) all)

-- an event as a seat keeps it
abbrev pub as_witnessed : ShownEvent → Witnessed
as_witnessed (announces number) = record { worker = number; call = Some Announce }
as_witnessed (reads number) = record { worker = number; call = Some Read }
as_witnessed (looks number) = record { worker = number; call = Some Look }
as_witnessed (proposes number) = record { worker = number; call = Some Propose }
as_witnessed (stops number) = record { worker = number; call = None }

event_again : (event : ShownEvent) → event_in (as_witnessed event) ≡ event
event_again (announces number) = refl
event_again (reads number) = refl
event_again (looks number) = refl
event_again (proposes number) = refl
event_again (stops number) = refl

pub events_again : (run : List ShownEvent) → map event_in (map as_witnessed run) ≡ run
events_again [] = refl
events_again (event ∷ run) = λ i. event_again event i ∷ events_again run i

-- an event is its taker's, who is a worker of the log
pub own_taker : (event : ShownEvent) → is_of (taker event) event ≡ true
own_taker (announces number) = eq-eqb number number refl
own_taker (reads number) = eq-eqb number number refl
own_taker (looks number) = eq-eqb number number refl
own_taker (proposes number) = eq-eqb number number refl
own_taker (stops number) = eq-eqb number number refl

module _ (size : LogSize) where
  inside : (old : ShownState) (number : ℕ) (worker : WorkerState) → IsReached size old → IsWorker old number worker → number < size.workers
  inside old number worker there at = let within = slice_get_within old.workers number worker at in
      let many = (is_lawful size old there).many in omega arith

  taker_inside : (old new : ShownState) (event : ShownEvent) → IsReached size old → Step size old event new → taker event < size.workers
  taker_inside old new (announces number) there step = inside old number step.0 there step.1
  taker_inside old new (reads number) there step = inside old number step.0 there step.1
  taker_inside old new (looks number) there step = inside old number step.0 there step.1
  taker_inside old new (proposes number) there step = inside old number step.0 there step.1
  taker_inside old new (stops number) there step = inside old number step.0 there step.1

  takers_inside : (run : List ShownEvent) (from log : ShownState) (at : ℕ) (event : ShownEvent) → IsReached size from → LeadOn size from run log →
      slice_get run at ≡ Some event → taker event < size.workers
  takers_inside [] from log at event there lead is = absurd (none-some event is)
  takers_inside (first ∷ run) from log zero event there lead is =
      subst (λ (e : ShownEvent). taker e < size.workers) (same_Some _ _ is) (taker_inside from lead.0 first there lead.1)
  takers_inside (first ∷ run) from log (suc at) event there lead is =
      takers_inside run lead.0 log at event ((first ∷ there.0), (from, there.1, lead.1)) lead.2 is

-- a worker's event of a run is one of its own
among_own : (number : ℕ) (run : List ShownEvent) (at : ℕ) (event : ShownEvent) → is_of number event ≡ true → slice_get run at ≡ Some event →
    (own : ℕ) × (slice_get (own_events number run) own ≡ Some event)
among_own number [] at event its is = absurd (none-some event is)
among_own number (first ∷ run) zero event its is =
    (0, ap (λ (l : List ShownEvent). slice_get l 0) (in_front number first run true (ap (is_of number) (same_Some _ _ is) ∙ its)) ∙ is)
among_own number (first ∷ run) (suc at) event its is = by_test (is_of number first) refl (among_own number run at event its is)
  where
    by_test : (own : Bool) → is_of number first ≡ own → (k : ℕ) × (slice_get (own_events number run) k ≡ Some event) →
        (k : ℕ) × (slice_get (own_events number (first ∷ run)) k ≡ Some event)
    by_test true own later = (suc later.0, ap (λ (l : List ShownEvent). slice_get l (suc later.0)) (in_front number first run true own) ∙ later.1)
    by_test false own later = (later.0, ap (λ (l : List ShownEvent). slice_get l later.0) (in_front number first run false own) ∙ later.1)

pub each_is_a_call : EachEventIsACall
each_is_a_call size parts log one all at event is =
    let seat = all (taker event) (takers_inside size one.run (new_log size) log at event ([], refl) one.lead is) in
    let call = among_own seat.1.worker one.run at event (ap (λ (n : ℕ). is_of n event) seat.3 ∙ own_taker event) is in (
      seat.0,
      call.0,
      seat.1,
      seat.2,
      ap (λ (l : List ShownEvent). slice_get l call.0) (sym (one.own seat.0 seat.1 seat.2)) ∙ call.1,
    )

-- what is among the events of calls is the event of one
called : (number : ℕ) (calls : List Call) (at : ℕ) (event : ShownEvent) → slice_get (map (event_of number) calls) at ≡ Some event →
    (call : Call) × (event ≡ event_of number call)
called number [] at event is = absurd (none-some event is)
called number (call ∷ calls) zero event is = (call, sym (same_Some _ _ is))
called number (call ∷ calls) (suc at) event is = called number calls at event is

pub nothing_but_calls : NothingButCalls
nothing_but_calls size parts log one at event is =
    let inside = takers_inside size one.run (new_log size) log at event ([], refl) one.lead is in
    let own = among_own (taker event) one.run at event (own_taker event) is in let each = one.each (taker event) inside in
    let call = called (taker event) each.0 own.0 event (ap (λ (l : List ShownEvent). slice_get l own.0) (sym each.1) ∙ own.1) in
    (taker event, call.0, inside, call.1)
