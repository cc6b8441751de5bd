-- Between two moments of a run at which a worker has made the same calls, it has made these.
use Rattle.std.proofs.Common.{◌≡◌, ℕ, Bool, true, false, true≢false, slice_set, List, [], ◌∷◌, ◌++◌, length, length-append, append-nil, refl, sym, ap, ◌∙◌, subst, arith}
use Rattle.std.proofs.lemmas.List.Elements.{filter-append}
use Rattle.std.proofs.lemmas.Option.{same_Some}
use Rattle.mc_model.specs.declared.shown.LogSize.{LogSize}
use Rattle.mc_model.specs.declared.shown.ShownState.{ShownState}
use Rattle.mc_model.specs.declared.shown.WorkerState.{WorkerState}
use Rattle.mc_model.specs.Lawful.{IsWorker, LeadOn, ShownEvent, Step, announced_by, announces, decided_with, looks, next, proposes, reads, stops, turn, with_worker}
use Rattle.mc_model.specs.Shown.{announce, look, new_log, proposal, propose, read, stop}
use Rattle.uc_places.specs.OneRun.{RunsBetween}
use Rattle.uc_places.specs.Rule.{AreOfOthers}
use Rattle.uc_places.specs.Run.{is_of, own_events}
use Rattle.uc_places.proofs.OwnEvents.{others_leave}
use Rattle.uc_places.proofs.Runs.{in_front, own_taker}

-- from one state an event leads to one state, and so do events
step_once : (size : LogSize) (old : ShownState) (event : ShownEvent) (new other : ShownState) → Step size old event new → Step size old event other →
    new ≡ other
step_once size old (announces number) new other one two =
    one.4 ∙ (ap (λ (w : WorkerState). with_worker old number (announce w)) (same_Some _ _ (sym one.1 ∙ two.1)) ∙ sym two.4)
step_once size old (reads number) new other one two =
    one.4 ∙ (ap (λ (w : WorkerState). with_worker old number (read number (next old w) w)) (same_Some _ _ (sym one.1 ∙ two.1)) ∙ sym two.4)
step_once size old (looks number) new other one two =
    one.5 ∙ (ap (λ (w : WorkerState). with_worker old number (look (turn size w) (announced_by old (turn size w)) w)) (same_Some _ _ (sym one.1 ∙ two.1))
    ∙ sym two.5)
step_once size old (proposes number) new other one two =
    one.3 ∙ (ap (λ (w : WorkerState). made w) (same_Some _ _ (sym one.1 ∙ two.1)) ∙ sym two.3)
  where
    made : WorkerState → ShownState
    made w = record {
      decided = decided_with (proposal number w) old.decided (next old w);
      workers = slice_set old.workers number (propose number (next old w) w);
    }
step_once size old (stops number) new other one two =
    one.3 ∙ (ap (λ (w : WorkerState). with_worker old number (stop w)) (same_Some _ _ (sym one.1 ∙ two.1)) ∙ sym two.3)

module _ (size : LogSize) where
  lead_once : (run : List ShownEvent) (old new other : ShownState) → LeadOn size old run new → LeadOn size old run other → new ≡ other
  lead_once [] old new other one two = one ∙ sym two
  lead_once (event ∷ run) old new other one two = lead_once run one.0 new other one.2
      (subst (λ (z : ShownState). LeadOn size z run other) (step_once size old event two.0 one.0 two.1 one.1) two.2)

  -- the events of a run in two parts
  in_two : (front back : List ShownEvent) (old new : ShownState) → LeadOn size old (front ++ back) new →
      (mid : ShownState) × LeadOn size old front mid × LeadOn size mid back new
  in_two [] back old new lead = (old, refl, lead)
  in_two (event ∷ front) back old new lead = let rest = in_two front back lead.0 new lead.2 in (rest.0, (lead.0, lead.1, rest.1), rest.2)

-- where none is the worker's, all are others'
all_others : (number : ℕ) (events : List ShownEvent) → own_events number events ≡ [] → AreOfOthers number events
all_others number [] none = tt
all_others number (event ∷ events) none = by_test (all_others number events) (is_of number event) refl
  where
    by_test : (own_events number events ≡ [] → AreOfOthers number events) → (own : Bool) → is_of number event ≡ own →
        AreOfOthers number (event ∷ events)
    by_test later true is = absurd (omega (arith, ap length (sym (in_front number event events true is) ∙ none)))
    by_test later false is = (
      (λ same. true≢false (sym (own_taker event) ∙ (ap (λ (n : ℕ). is_of n event) same ∙ is))),
      later (sym (in_front number event events false is) ∙ none),
    )

nothing_in : (events : List ShownEvent) → length events ≡ 0 → events ≡ []
nothing_in [] none = refl
nothing_in (event ∷ events) none = absurd (omega (arith, none))

pub runs_between : RunsBetween
runs_between size number calls state early here late log end made begins lead goes_on ends all at =
    let a = begins.0 in let b = goes_on.0 in
    let its_here : own_events number here ≡ own_events number early ++ own_events number a =
    ap (own_events number) begins.1 ∙ filter-append (is_of number) early a in
    let its_late : own_events number late ≡ own_events number here ++ own_events number b =
    ap (own_events number) goes_on.1 ∙ filter-append (is_of number) here b in
    let long_here = ap length its_here ∙ length-append (own_events number early) (own_events number a) in
    let long_late = ap length its_late ∙ length-append (own_events number here) (own_events number b) in
    let same = ap length (all ∙ sym made) in
    let none_a = nothing_in (own_events number a) (omega (arith, long_here, long_late, same)) in
    let none_b = nothing_in (own_events number b) (omega (arith, long_here, long_late, same)) in
    let path = in_two size here b (new_log size) end (subst (λ (run : List ShownEvent). LeadOn size (new_log size) run end) goes_on.1 ends) in
    let mid : path.0 ≡ log = lead_once size here (new_log size) path.0 log path.1 lead in (
      its_here ∙ (ap (λ (l : List ShownEvent). own_events number early ++ l) none_a ∙ (append-nil (own_events number early) ∙ made)),
      subst (λ (z : ShownState). IsWorker z number state) mid
          (sym (others_leave size number path.0 end (b, all_others number b none_b, path.2)).0 ∙ at),
    )
