-- A worker that waits for a command is helped from its mark on, and has proposed at most once at
-- each place since. So it has proposed at most as often as there are workers while it waits, and at
-- most once more when it has learned its command.
use Rattle.std.proofs.Common.{◌≡◌, ◌≢◌, ◌⊎◌, ℕ, ◌+◌, ◌-◌, ◌<◌, ◌≤◌, List, [], ◌∷◌, ◌++◌, length, length-append, take, take_all, sym, refl, ap, ◌∙◌, subst, inl, inr, ⊎_elim, arith, le_refl, unwrap_or, Option, Some, None}
use Rattle.std.proofs.Math.Decide.{dec_le}
use Rattle.std.proofs.lemmas.Option.{none-some, same_Some, slice_get_within}
use Rattle.mc_model.specs.declared.id.Ticket.{Ticket}
use Rattle.mc_model.specs.declared.shown.LogSize.{LogSize}
use Rattle.mc_model.specs.declared.shown.Phase.{Phase}
use Rattle.mc_model.specs.declared.shown.Phase.TheVariants.{Idle, Pending, Looked}
use Rattle.mc_model.specs.declared.shown.ShownState.{ShownState}
use Rattle.mc_model.specs.declared.shown.WorkerState.{WorkerState}
use Rattle.mc_model.specs.Helping.{HelpingLaw, LogLaw, Waits}
use Rattle.mc_model.specs.Lawful.{IsReached, IsWorker, Leads, ShownEvent, Step, announced_by, announces, decided_with, looks, next, proposes, reads, stops, turn, with_worker}
use Rattle.mc_model.specs.Legal.{count}
use Rattle.mc_model.specs.Shown.{announce, learn, look, marked, new_log, new_worker, proposal, propose, read, stop}
use Rattle.model_lemmas.proofs.Helped.{Helps, helps_keeps, is_helped}
use Rattle.lists.proofs.Public.{at_replicated, at_set, begins_longer, nothing_next}
use Rattle.model_lemmas.proofs.StateLaws.{IsSound, after, announced_is, is_sound, learned_few}
use Rattle.model_lemmas.proofs.Tickets.{count_begins, count_known}
use Rattle.model_lemmas.proofs.Turns.{turn_after}

-- what is known of a worker that waits, by its mark
abbrev pub IsWaiting : LogSize → ShownState → ℕ → WorkerState → Type 0
IsWaiting size state number worker = (worker.mark ≡ None → worker.proposals ≡ 0)
    × ((mark : ℕ) → worker.mark ≡ Some mark → Helps size state number (worker.announced - 1) mark × (worker.proposals + mark ≤ length worker.learned))

-- what is known of a state on top of `IsSound`
pub record IsHelpful (size : LogSize) (state : ShownState) : Type 0 where
  pub waits : (number : ℕ) (worker : WorkerState) → IsWorker state number worker → Waits number worker → IsWaiting size state number worker
  pub proposals : (number : ℕ) (worker : WorkerState) → IsWorker state number worker → worker.proposals ≤ size.workers + 1

-- whatever is helped in the old state is helped in the new
abbrev StayHelped : LogSize → ShownState → ShownState → Type 0
StayHelped size old new = (number command from : ℕ) → Helps size old number command from → Helps size new number command from

module _ (size : LogSize) where
  -- a worker that waits has proposed at most as often as there are workers
  pub few_proposals : (state : ShownState) (number : ℕ) (worker : WorkerState) → IsSound size state → IsWorker state number worker → Waits number worker →
      IsWaiting size state number worker → worker.proposals ≤ size.workers
  few_proposals state number worker sound is still waiting = by_mark worker.mark refl
    where
      by_size : (mark : ℕ) → worker.mark ≡ Some mark → Dec (worker.proposals ≤ size.workers) → worker.proposals ≤ size.workers
      by_size mark marked (yes few) = few
      by_size mark marked (no more) =
          let helps = (waiting.1 mark marked).0 in let room = (waiting.1 mark marked).1 in
          let many = sound.many in let inside = slice_get_within state.workers number worker is in
          let turn = turn_after mark size.workers number (omega arith) in let above = turn.1 in let near = turn.2 in
          let begins = (sound.each number worker is).begins in let few = begins_longer state.decided worker.learned begins in
          let stands = helps.decided turn.0 turn.1 (omega arith) turn.3 in
          let known = count_known number (turn.0 + 1) state.decided worker.learned begins (omega arith) in omega arith

      by_mark : (mark : Option ℕ) → worker.mark ≡ mark → worker.proposals ≤ size.workers
      by_mark None unmarked = let none = waiting.0 unmarked in omega arith
      by_mark (Some mark) marked = by_size mark marked (dec_le worker.proposals size.workers)

  -- a worker that waits as it did in the old state
  still_waiting : (old new : ShownState) (number : ℕ) (worker : WorkerState) → IsHelpful size old → IsWorker old number worker → StayHelped size old new →
      Waits number worker → IsWaiting size new number worker
  still_waiting old new number worker helpful is stay still = let waiting = helpful.waits number worker is still in
      (waiting.0, λ mark at. let marked = waiting.1 mark at in (stay number (worker.announced - 1) mark marked.0, marked.1))

  -- one worker's event keeps what is known, where whatever was helped is helped and it is known of
  -- that worker
  after_helpful : (state : ShownState) (decided : List Ticket) (number : ℕ) (new : WorkerState) → IsHelpful size state →
      StayHelped size state (after state decided number new) → (Waits number new → IsWaiting size (after state decided number new) number new) →
      new.proposals ≤ size.workers + 1 → IsHelpful size (after state decided number new)
  after_helpful state decided number new helpful stay own few = record {
    waits = λ other worker there still. ⊎_elim
        (λ (here : (other ≡ number) × (new ≡ worker)).
        subst (λ (z : ℕ × WorkerState). Waits z.0 z.1 → IsWaiting size (after state decided number new) z.0 z.1) (λ i. (sym here.0 i, here.1 i)) own still)
        (λ (apart : (other ≢ number) × IsWorker state other worker).
        still_waiting state (after state decided number new) other worker helpful apart.1 stay still)
        (at_set state.workers number other new worker there);
    proposals = λ other worker there. ⊎_elim
        (λ (here : (other ≡ number) × (new ≡ worker)). subst (λ (some : WorkerState). some.proposals ≤ size.workers + 1) here.1 few)
        (λ (apart : (other ≢ number) × IsWorker state other worker). helpful.proposals other worker apart.1)
        (at_set state.workers number other new worker there);
  }

  -- a pending worker that finds its next place empty is helped from there on
  empty_helps : (state : ShownState) (number : ℕ) (worker : WorkerState) → IsSound size state → IsWorker state number worker → worker.phase ≡ Pending →
      next state worker ≡ None → Helps size state number (worker.announced - 1) (length worker.learned)
  empty_helps state number worker sound is pending empty =
      let own = sound.each number worker is in let but_one = own.pending pending in let same = announced_is state number worker is in
      let all : state.decided ≡ worker.learned = nothing_next state.decided worker.learned own.begins empty in let long = ap length all in
      let known : count number worker.learned ≡ worker.announced - 1 = omega arith in record {
        announced = omega arith;
        here = omega arith;
        before = ap (λ (tickets : List Ticket). count number (take (length worker.learned) tickets)) all
            ∙ (ap (count number) (take_all (length worker.learned) worker.learned (le_refl (length worker.learned))) ∙ known);
        decided = λ place above below _. absurd (omega arith);
        looks = λ other some there _ above _. let few = learned_few size state other some sound there in absurd (omega arith);
      }

  -- it takes its mark there, unless it has one
  marked_waiting : (new : ShownState) (number : ℕ) (worker : WorkerState) (mark : Option ℕ) → worker.mark ≡ mark → IsWaiting size new number worker →
      Helps size new number (worker.announced - 1) (length worker.learned) →
      IsWaiting size new number (record worker { mark = marked Pending mark (length worker.learned) })
  marked_waiting new number worker None unmarked waiting helps = (
    (λ none. absurd (none-some (length worker.learned) (sym none))),
    (λ mark is. let same = same_Some (length worker.learned) mark is in let none = waiting.0 unmarked in
        (subst (Helps size new number (worker.announced - 1)) same helps, omega arith)),
  )
  marked_waiting new number worker (Some place) is waiting helps = (
    (λ none. absurd (none-some place (sym none))),
    (λ mark same. waiting.1 mark (is ∙ same)),
  )

  -- a worker that learns a ticket and still waits
  learns_waiting : (old new : ShownState) (number : ℕ) (worker : WorkerState) (phase : Phase) (ticket : Ticket) (found : Option Ticket) (proposals : ℕ) →
      (Waits number worker → IsWaiting size old number worker) → StayHelped size old new → proposals ≤ worker.proposals + 1 →
      (worker.mark ≡ None → proposals ≡ worker.proposals) → count number (worker.learned ++ ticket ∷ []) < worker.announced →
      IsWaiting size new number (record (learn number phase ticket worker) { look = found; proposals = proposals })
  learns_waiting old new number worker phase ticket found proposals waits stay one_more same still =
      let least = count_begins number (worker.learned ++ ticket ∷ []) worker.learned (ticket ∷ [], refl) in let waiting = waits (omega arith) in
      let long = length-append worker.learned (ticket ∷ []) in (
        (λ unmarked. same unmarked ∙ waiting.0 unmarked),
        (λ mark is. let marked = waiting.1 mark is in let room = marked.1 in (stay number (worker.announced - 1) mark marked.0, omega arith)),
      )

  -- the events that learn: a read, which may take the mark, and a proposal, of which there is one
  -- more
  reads_helpful : (state : ShownState) (number : ℕ) (worker : WorkerState) → IsSound size state → IsHelpful size state → IsWorker state number worker →
      (worker.phase ≡ Idle) ⊎ (worker.phase ≡ Pending) → StayHelped size state (with_worker state number (read number (next state worker) worker)) →
      IsHelpful size (with_worker state number (read number (next state worker) worker))
  reads_helpful state number worker sound helpful is at stay = by_next (next state worker) refl stay
    where
      unread : next state worker ≡ None → (new : ShownState) → StayHelped size state new → (worker.phase ≡ Idle) ⊎ (worker.phase ≡ Pending) →
          Waits number worker → IsWaiting size new number (read number None worker)
      unread empty new stay (inl idle) still = let all = (sound.each number worker is).idle idle in absurd (omega arith)
      unread empty new stay (inr pending) still =
          subst (λ (phase : Phase). IsWaiting size new number (record worker { mark = marked phase worker.mark (length worker.learned) })) (sym pending)
          (marked_waiting new number worker worker.mark refl (still_waiting state new number worker helpful is stay still)
          (stay number (worker.announced - 1) (length worker.learned) (empty_helps state number worker sound is pending empty)))

      by_next : (found : Option Ticket) → next state worker ≡ found → StayHelped size state (with_worker state number (read number found worker)) →
          IsHelpful size (with_worker state number (read number found worker))
      by_next None empty stay = after_helpful state state.decided number (read number None worker) helpful stay
          (unread empty (with_worker state number (read number None worker)) stay at) (helpful.proposals number worker is)
      by_next (Some ticket) there stay = after_helpful state state.decided number (read number (Some ticket) worker) helpful stay
          (learns_waiting state (with_worker state number (read number (Some ticket) worker)) number worker worker.phase ticket worker.look worker.proposals
          (helpful.waits number worker is) stay (omega arith) (λ _. refl))
          (helpful.proposals number worker is)

  proposes_helpful : (state : ShownState) (number : ℕ) (worker : WorkerState) (decided : List Ticket) (found : Option Ticket) →
      IsSound size state → IsHelpful size state → IsWorker state number worker → worker.phase ≡ Looked →
      StayHelped size state (after state decided number (propose number found worker)) →
      IsHelpful size (after state decided number (propose number found worker))
  proposes_helpful state number worker decided found sound helpful is at stay =
      let looked = (sound.each number worker is).looked at in let but_one = looked.0 in let still : Waits number worker = omega arith in
      let few = few_proposals state number worker sound is still (helpful.waits number worker is still) in
      after_helpful state decided number (propose number found worker) helpful stay
      (learns_waiting state (after state decided number (propose number found worker)) number worker Pending (unwrap_or found (proposal number worker)) None
      (worker.proposals + 1) (helpful.waits number worker is) stay (le_refl (worker.proposals + 1)) (λ unmarked. absurd (looked.2 unmarked)))
      (omega arith)

  -- every step keeps it
  pub helpful_keeps : (old new : ShownState) (event : ShownEvent) → IsSound size old → IsHelpful size old → Step size old event new → IsHelpful size new
  helpful_keeps old new event sound helpful step = by_event event step (λ number command from. helps_keeps size old new event number command from sound step)
    where
      -- the new state as the step writes it
      as_written : (written : ShownState) → new ≡ written → StayHelped size old new → (StayHelped size old written → IsHelpful size written) → IsHelpful size new
      as_written written same stay made = subst (IsHelpful size) (sym same) (made (subst (StayHelped size old) same stay))

      by_event : (event : ShownEvent) → Step size old event new → StayHelped size old new → IsHelpful size new
      by_event (announces number) step stay = as_written (with_worker old number (announce step.0)) step.4 stay
          (λ there. after_helpful old old.decided number (announce step.0) helpful there
          (λ _. ((λ _. refl), λ mark is. absurd (none-some mark is))) (omega arith))
      by_event (reads number) step stay = as_written (with_worker old number (read number (next old step.0) step.0)) step.4 stay
          (reads_helpful old number step.0 sound helpful step.1 step.2)
      by_event (looks number) step stay =
          let worker = step.0 in let new = look (turn size worker) (announced_by old (turn size worker)) worker in
          as_written (with_worker old number new) step.5 stay
          (λ there. after_helpful old old.decided number new helpful there
          (still_waiting old (with_worker old number new) number worker helpful step.1 there) (helpful.proposals number worker step.1))
      by_event (proposes number) step stay =
          let worker = step.0 in let decided = decided_with (proposal number worker) old.decided (next old worker) in
          as_written (after old decided number (propose number (next old worker) worker)) step.3 stay
          (proposes_helpful old number worker decided (next old worker) sound helpful step.1 step.2)
      by_event (stops number) step stay =
          let worker = step.0 in as_written (with_worker old number (stop worker)) step.3 stay
          (λ there. after_helpful old old.decided number (stop worker) helpful there
          (still_waiting old (with_worker old number (stop worker)) number worker helpful step.1 there) (helpful.proposals number worker step.1))

  helpful_opens : IsHelpful size (new_log size)
  helpful_opens = record {
    waits = λ number worker is still. absurd (let none = ap (λ (some : WorkerState). some.announced) (is_new number worker is) in omega arith);
    proposals = λ number worker is. let none = ap (λ (some : WorkerState). some.proposals) (is_new number worker is) in omega arith;
  }
    where
      is_new : (number : ℕ) (worker : WorkerState) → IsWorker (new_log size) number worker → new_worker ≡ worker
      is_new number worker is = at_replicated size.workers number new_worker worker is

  -- every state that events lead to
  pub is_helpful : (events : List ShownEvent) (state : ShownState) → Leads size events state → IsHelpful size state
  is_helpful [] state is = subst (IsHelpful size) (sym is) helpful_opens
  is_helpful (event ∷ events) state leads =
      helpful_keeps leads.0 state event (is_sound size events leads.0 leads.1) (is_helpful events leads.0 leads.1) leads.2

-- the laws of every state that events lead to
pub is_lawful : (size : LogSize) (state : ShownState) → IsReached size state → LogLaw size state
is_lawful size state reached =
    let sound = is_sound size reached.0 state reached.1 in let helpful = is_helpful size reached.0 state reached.1 in record {
      many = sound.many;
      few = sound.few;
      legal = sound.legal;
      announced = sound.announced;
      each = λ number worker is. let own = sound.each number worker is in record {
        begins = own.begins;
        idle = own.idle;
        pending = own.pending;
        looked = own.looked;
        looks = own.looks;
        proposals = helpful.proposals number worker is;
      };
    }

pub is_helping : (size : LogSize) (state : ShownState) → IsReached size state → HelpingLaw size state
is_helping size state reached number worker is still =
    let sound = is_sound size reached.0 state reached.1 in let waiting = (is_helpful size reached.0 state reached.1).waits number worker is still in
    (waiting.0, λ mark at. let marked = waiting.1 mark at in (is_helped size state number (worker.announced - 1) mark sound marked.0, marked.1))
