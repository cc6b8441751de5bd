-- One seat's calls, with the others' events between them, are one run.
use Rattle.std.proofs.Common.{◌≡◌, ◌≢◌, ℕ, zero, suc, ◌<◌, List, [], ◌∷◌, ◌++◌, Option, Some, None, refl, sym, ap, ◌∙◌, subst, arith, slice_get}
use Rattle.std.proofs.lemmas.List.Elements.{filter-append}
use Rattle.mc_model.specs.declared.id.Ticket.{Ticket}
use Rattle.mc_model.specs.declared.shown.LogSize.{LogSize}
use Rattle.mc_model.specs.declared.shown.ShownState.{ShownState}
use Rattle.mc_model.specs.declared.shown.WorkerState.{WorkerState}
use Rattle.lists.specs.Lists.{BeginsWith}
use Rattle.mc_model.specs.Lawful.{IsWorker, LeadOn, ShownEvent, Step, announces, decided_with, looks, next, proposes, reads, stops}
use Rattle.mc_model.specs.Shown.{new_log, new_worker, proposal}
use Rattle.lists.proofs.Public.{begins_self, begins_through, set_elsewhere}
use Rattle.uc_places.specs.declared.desk.Desk.{Desk}
use Rattle.uc_places.specs.declared.view.Call.{Call}
use Rattle.uc_places.specs.declared.view.View.{View}
use Rattle.uc_places.specs.Calls.{known, last_of, desk_size, state_of, worker_of}
use Rattle.uc_places.specs.OneRun.{CallsLead, CallsLieOnOneRun, OthersLeaveIt}
use Rattle.uc_places.specs.Rule.{AreOfOthers, OthersLead, taker}
use Rattle.uc_places.specs.Run.{HasMade, event_of, is_of, own_events}
use Rattle.uc_places.specs.Told.{Happens}
use Rattle.uc_places.proofs.Runs.{none_its, own_first}

-- one list of events leads on from the other
lead_on : (size : LogSize) (front back : List ShownEvent) (old here new : ShownState) → LeadOn size old front here → LeadOn size here back new →
    LeadOn size old (front ++ back) new
lead_on size [] back old here new one other = subst (λ (z : ShownState). LeadOn size z back new) one other
lead_on size (event ∷ front) back old here new one other = (one.0, one.1, lead_on size front back one.0 here new one.2 other)

-- events lead from one desk's last state to another's, and these calls are the worker's own among
-- them
abbrev Lie : LogSize → ℕ → Desk → List Call → Desk → Type 0
Lie size number old calls new = (events : List ShownEvent) × LeadOn size (last_of old) events (last_of new) × HasMade events number calls
    × IsWorker (last_of new) number (state_of new)

-- the others' events, the call, and what comes after it
one_call : (size : LogSize) (number : ℕ) (old next new : Desk) (call : Call) (calls : List Call) (view : View) (state : WorkerState) →
    view.worker ≡ number → view.last ≡ last_of old →
    Happens size (event_of number call) view state (last_of next) → Lie size number next calls new → Lie size number old (call ∷ calls) new
one_call size number old next new call calls view state whose from happens later =
    let event = event_of number call in
    let others : OthersLead size number (last_of old) happens.0 =
    subst (λ (z : ℕ × ShownState). OthersLead size z.0 z.1 happens.0) (λ i. (whose i, from i)) happens.1 in (
      others.0 ++ event ∷ later.0,
      lead_on size others.0 (event ∷ later.0) (last_of old) happens.0 (last_of new) others.2 (last_of next, happens.3, later.1),
      filter-append (is_of number) others.0 (event ∷ later.0)
          ∙ (ap (λ (l : List ShownEvent). l ++ own_events number (event ∷ later.0)) (none_its number others.0 others.1)
          ∙ (own_first number call later.0 ∙ ap (λ (l : List ShownEvent). event ∷ l) later.2)),
      later.3,
    )

lie : (size : LogSize) (number : ℕ) (old new : Desk) (calls : List Call) → desk_size old ≡ size → worker_of old ≡ number →
    IsWorker (last_of old) number (state_of old) → CallsLead old calls new → Lie size number old calls new
lie size number old new [] sized whose at still = (
  [],
  still.last,
  refl,
  subst (λ (z : ShownState × WorkerState). IsWorker z.0 number z.1) (λ i. (sym still.last i, sym still.state i)) at,
)
lie size number old new (call ∷ calls) sized whose at lead =
    let here = lead.0 in let next = lead.1 in let state = lead.2 in let still = lead.3 in let makes = lead.4 in
    let now = makes.2 in
    let here_size : desk_size here ≡ size = still.size ∙ sized in
    let here_worker : worker_of here ≡ number = still.worker ∙ whose in
    let happens : Happens size (event_of number call) (known here) state (last_of next) =
    subst (λ (z : LogSize × ℕ). Happens z.0 (event_of z.1 call) (known here) state (last_of next)) (λ i. (here_size i, here_worker i)) makes.3 in
    let shown : IsWorker (last_of next) number (state_of next) =
    subst (λ (z : ℕ × WorkerState). IsWorker (last_of next) z.0 z.1) (λ i. (here_worker i, sym (ap (λ (v : View). v.state) now) i)) happens.6 in
    one_call size number old next new call calls (known here) state here_worker still.last happens
    (lie size number next new calls (ap (λ (v : View). v.size) now ∙ here_size) (ap (λ (v : View). v.worker) now ∙ here_worker) shown lead.5)

-- a new worker is there before any event
is_new : (many number : ℕ) → number < many → slice_get (new_log (record { workers = many; places = 0 })).workers number ≡ Some new_worker
is_new zero number inside = absurd (omega (arith, inside))
is_new (suc many) zero inside = refl
is_new (suc many) (suc number) inside = is_new many number (omega (arith, inside))

pub calls_lie : CallsLieOnOneRun
calls_lie size number first last calls inside is lead =
    let at : IsWorker (last_of first) number (state_of first) =
    subst (λ (v : View). IsWorker v.last number v.state) (sym is) (is_new size.workers number inside) in
    let run = lie size number first last calls (ap (λ (v : View). v.size) is) (ap (λ (v : View). v.worker) is) at lead in
    let from : last_of first ≡ new_log size = ap (λ (v : View). v.last) is in
    record { events = run.0; lead = subst (λ (z : ShownState). LeadOn size z run.0 (last_of last)) from run.1; own = run.2; shown = run.3 }

-- the log begins with what it was
longer : (decided : List Ticket) (proposed : Ticket) (found : Option Ticket) → BeginsWith (decided_with proposed decided found) decided
longer decided proposed None = (proposed ∷ [], refl)
longer decided proposed (Some ticket) = begins_self decided

-- an event of another worker leaves this one, and all that is decided
leaves : (size : LogSize) (number : ℕ) (event : ShownEvent) (old new : ShownState) → taker event ≢ number → Step size old event new →
    (slice_get new.workers number ≡ slice_get old.workers number) × BeginsWith new.decided old.decided
leaves size number (announces worker) old new apart step = (
  ap (λ (s : ShownState). slice_get s.workers number) step.4 ∙ set_elsewhere old.workers worker number _ (λ same. apart (sym same)),
  subst (λ (s : ShownState). BeginsWith s.decided old.decided) (sym step.4) (begins_self old.decided),
)
leaves size number (reads worker) old new apart step = (
  ap (λ (s : ShownState). slice_get s.workers number) step.4 ∙ set_elsewhere old.workers worker number _ (λ same. apart (sym same)),
  subst (λ (s : ShownState). BeginsWith s.decided old.decided) (sym step.4) (begins_self old.decided),
)
leaves size number (looks worker) old new apart step = (
  ap (λ (s : ShownState). slice_get s.workers number) step.5 ∙ set_elsewhere old.workers worker number _ (λ same. apart (sym same)),
  subst (λ (s : ShownState). BeginsWith s.decided old.decided) (sym step.5) (begins_self old.decided),
)
leaves size number (proposes worker) old new apart step = (
  ap (λ (s : ShownState). slice_get s.workers number) step.3 ∙ set_elsewhere old.workers worker number _ (λ same. apart (sym same)),
  subst (λ (s : ShownState). BeginsWith s.decided old.decided) (sym step.3) (longer old.decided (proposal worker step.0) (next old step.0)),
)
leaves size number (stops worker) old new apart step = (
  ap (λ (s : ShownState). slice_get s.workers number) step.3 ∙ set_elsewhere old.workers worker number _ (λ same. apart (sym same)),
  subst (λ (s : ShownState). BeginsWith s.decided old.decided) (sym step.3) (begins_self old.decided),
)

leave : (size : LogSize) (number : ℕ) (events : List ShownEvent) (old new : ShownState) → AreOfOthers number events → LeadOn size old events new →
    (slice_get new.workers number ≡ slice_get old.workers number) × BeginsWith new.decided old.decided
leave size number [] old new others same = (
  ap (λ (s : ShownState). slice_get s.workers number) same,
  subst (λ (s : ShownState). BeginsWith s.decided old.decided) (sym same) (begins_self old.decided),
)
leave size number (event ∷ events) old new others lead =
    let one = leaves size number event old lead.0 others.0 lead.1 in
    let more = leave size number events lead.0 new others.1 lead.2 in
    (more.0 ∙ one.0, begins_through new.decided lead.0.decided old.decided more.1 one.1)

pub others_leave : OthersLeaveIt
others_leave size number old new lead = leave size number lead.0 old new lead.1 lead.2
