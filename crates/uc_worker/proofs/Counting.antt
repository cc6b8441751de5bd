-- How many events of the log a worker takes.
use Rattle.std.proofs.Common.{◌≡◌, ℕ, ◌+◌, ◌*◌, ◌≤◌, Bool, false, not, is_some, true≢false, List, [], ◌∷◌, ◌++◌, length, length-append, Option, Some, None, sym, refl, ap, ◌∙◌, arith}
use Rattle.mc_model.specs.declared.id.Ticket.{Ticket}
use Rattle.mc_model.specs.declared.shown.WorkerState.{WorkerState}
use Rattle.mc_model.specs.Shown.{announce, look, propose, read}
use Rattle.uc_places.specs.declared.desk.Desk.{Desk}
use Rattle.uc_places.specs.declared.view.Call.{Call}
use Rattle.uc_places.specs.declared.view.Call.TheVariants.{Announce, Look, Propose, Read}
use Rattle.uc_places.specs.declared.view.View.{View}
use Rattle.uc_places.specs.Calls.{Makes, calls_of, known, state_of, worker_of}
use Rattle.uc_places.specs.OneRun.{CallsLead, IsStill}
use Rattle.uc_places.specs.Told.{told_list}
use Rattle.uc_worker.specs.Counting.{TakesFew}
use Rattle.uc_worker.proofs.Learning.{learns_more, learns_proposed, state_is}

pub still_self : (desk : Desk) → IsStill desk desk
still_self desk = record { size = refl; worker = refl; state = refl; last = refl; calls = refl }

still_through : (one two three : Desk) → IsStill one two → IsStill two three → IsStill one three
still_through one two three first second = record {
  size = second.size ∙ first.size;
  worker = second.worker ∙ first.worker;
  state = second.state ∙ first.state;
  last = second.last ∙ first.last;
  calls = second.calls ∙ first.calls;
}

lead_on : (old mid new : Desk) (calls : List Call) (call : Call) (state : WorkerState) → CallsLead old calls mid → Makes mid new call state →
    CallsLead old (calls ++ call ∷ []) new
lead_on old mid new [] call state still made = (mid, new, state, still, made, still_self new)
lead_on old mid new (c ∷ calls) call state lead made =
    (lead.0, lead.1, lead.2, lead.3, lead.4, lead_on lead.1 mid new calls call state lead.5 made)

lead_still : (one two three : Desk) (calls : List Call) → IsStill one two → CallsLead two calls three → CallsLead one calls three
lead_still one two three [] still lead = still_through one two three still lead
lead_still one two three (e ∷ calls) still lead =
    (lead.0, lead.1, lead.2, still_through one two lead.0 still lead.3, lead.4, lead.5)

lead_through : (one two three : Desk) (first second : List Call) → CallsLead one first two → CallsLead two second three →
    CallsLead one (first ++ second) three
lead_through one two three [] second still lead = lead_still one two three second still lead
lead_through one two three (e ∷ first) second lead rest =
    (lead.0, lead.1, lead.2, lead.3, lead.4, lead_through lead.1 two three first second lead.5 rest)

pub takes_none : (desk : Desk) → TakesFew 0 desk desk
takes_none desk = record { calls = []; lead = still_self desk; few = omega arith }

pub takes_more : (few more : ℕ) (old new : Desk) → few ≤ more → TakesFew few old new → TakesFew more old new
takes_more few more old new less takes = record { calls = takes.calls; lead = takes.lead; few = (let f = takes.few in omega arith) }

pub takes_through : (first second : ℕ) (one two three : Desk) → TakesFew first one two → TakesFew second two three → TakesFew (first + second) one three
takes_through first second one two three front back = record {
  calls = front.calls ++ back.calls;
  lead = lead_through one two three front.calls back.calls front.lead back.lead;
  few = let long = length-append front.calls back.calls in let f = front.few in let b = back.few in omega arith;
}

-- one more event
takes_event : (few more : ℕ) (one old new : Desk) (call : Call) (state : WorkerState) → TakesFew few one old → Makes old new call state →
    few + 1 + 2 * length (state_of old).learned ≤ 2 * length (state_of new).learned + more → TakesFew more one new
takes_event few more one old new call state takes made enough = record {
  calls = takes.calls ++ call ∷ [];
  lead = lead_on one old new takes.calls call state takes.lead made;
  few = let long = length-append takes.calls (call ∷ []) in let f = takes.few in omega arith;
}

-- a look and the proposal after it; a read by which a place is learned, and any other
pub takes_proposed : (one old middle new : Desk) (helped found : ℕ) (ticket : Ticket) → TakesFew 0 one old →
    Makes old middle Look (look helped found (state_of old)) →
    Makes middle new Propose (propose (worker_of middle) (Some ticket) (state_of middle)) → TakesFew 0 one new
takes_proposed one old middle new helped found ticket takes looked proposed =
    let same = ap (λ (s : WorkerState). length s.learned) (state_is (known old) (known middle) _ _ _ looked.2) in
    let longer = learns_more (known middle) (known new) ticket (learns_proposed middle new ticket proposed) in
    takes_event 1 0 one middle new Propose _
    (takes_event 0 1 one old middle Look _ takes looked (omega arith))
    proposed (omega arith)

-- one call more
pub calls_more : (old new : Desk) (call : Call) (state : WorkerState) → Makes old new call state →
    length (calls_of new) ≡ length (calls_of old) + 1
calls_more old new call state made = ap (λ (v : View). length v.calls) made.2 ∙ length-append (calls_of old) (call ∷ [])

pub takes_learned : (one old new : Desk) (state : WorkerState) → TakesFew 0 one old → Makes old new Read state →
    length (state_of new).learned ≡ length (state_of old).learned + 1 → TakesFew 0 one new
takes_learned one old new state takes made longer =
    takes_event 0 0 one old new Read state takes made (omega arith)

pub takes_read : (one old new : Desk) (found : Option Ticket) → TakesFew 0 one old →
    Makes old new Read (read (worker_of old) found (state_of old)) → TakesFew 1 one new
takes_read one old new found takes made =
    takes_event 0 1 one old new Read _ takes made (let longer = longer found made in omega arith)
  where
    longer : (found : Option Ticket) → Makes old new Read (read (worker_of old) found (state_of old)) →
        length (state_of old).learned ≤ length (state_of new).learned
    longer None made = let same = ap (λ (s : WorkerState). length s.learned) (state_is (known old) (known new) _ _ _ made.2) in omega arith
    longer (Some ticket) made = let same = ap (λ (s : WorkerState). length s.learned) (state_is (known old) (known new) _ _ _ made.2) in
        let long = length-append (state_of old).learned (ticket ∷ []) in omega arith

-- an announcement, and what comes after it
pub takes_announced : (old middle new : Desk) → Makes old middle Announce (announce (state_of old)) → TakesFew 1 middle new →
    TakesFew 2 old new
takes_announced old middle new made takes =
    let same = ap (λ (s : WorkerState). length s.learned) (state_is (known old) (known middle) _ _ _ made.2) in
    takes_through 1 1 old middle new
    (takes_event 0 1 old old middle Announce _ (takes_none old) made (omega arith)) takes

-- a seat that takes no event: one that shares its list with another, or with which a list is shared
pub takes_still : (old new : Desk) → IsStill old new → TakesFew 0 old new
takes_still old new still =
    record { calls = []; lead = still; few = let long = ap (λ (s : WorkerState). length s.learned) still.state in omega arith }

pub still_telling : (old new : Desk) → known new ≡ known old → IsStill old new
still_telling old new same = record {
  size = ap (λ (v : View). v.size) same;
  worker = ap (λ (v : View). v.worker) same;
  state = ap (λ (v : View). v.state) same;
  last = ap (λ (v : View). v.last) same;
  calls = ap (λ (v : View). v.calls) same;
}

pub still_told : (old new : Desk) (list : List Ticket) → known new ≡ told_list (known old) list → IsStill old new
still_told old new list told = record {
  size = ap (λ (v : View). v.size) told;
  worker = ap (λ (v : View). v.worker) told;
  state = ap (λ (v : View). v.state) told;
  last = ap (λ (v : View). v.last) told;
  calls = ap (λ (v : View). v.calls) told;
}

pub takes_telling : (old new : Desk) → known new ≡ known old → TakesFew 0 old new
takes_telling old new same = takes_still old new (still_telling old new same)

pub takes_told : (old middle new : Desk) (list : List Ticket) → known middle ≡ told_list (known old) list → TakesFew 0 middle new → TakesFew 0 old new
takes_told old middle new list told takes = takes_through 0 0 old middle new (takes_still old middle (still_told old middle list told)) takes

-- no event is taken where nothing is learned
pub takes_nothing : (old new : Desk) → TakesFew 0 old new → length (state_of new).learned ≡ length (state_of old).learned → IsStill old new
takes_nothing old new takes same = by_calls takes.calls takes.lead takes.few
  where
    by_calls : (calls : List Call) → CallsLead old calls new →
        length calls + 2 * length (state_of old).learned ≤ 2 * length (state_of new).learned + 0 → IsStill old new
    by_calls [] still few = still
    by_calls (call ∷ calls) lead few = absurd (omega arith)

-- a place that wasn't found empty
pub some_of : (found : Option Ticket) (empty : Bool) → is_some found ≡ not empty → empty ≡ false → (ticket : Ticket) × (found ≡ Some ticket)
some_of None empty is false_is = absurd (true≢false (sym (is ∙ ap not false_is)))
some_of (Some ticket) empty is false_is = (ticket, refl)
