-- The words that show a state, and how they change with it.
use Rattle.std.proofs.Common.{◌≡◌, ◌≢◌, ℕ, zero, suc, ◌+◌, ◌-◌, ◌*◌, ◌/◌, ◌%◌, ◌<◌, ◌≤◌, ◌==◌, List, [], ◌∷◌, ◌++◌, length, take, get_or, set, sym, refl, ap, ◌∙◌, subst, arith, add-one, length-set, get_or-set_other, get_or-set_same, length-take, slice_get, Option, Some, None}
use Rattle.std.proofs.lemmas.List.Sums.{count_by-le-length}
use Rattle.std.proofs.lemmas.Option.{slice_get_within}
use Rattle.std.proofs.Math.Decide.{ℕ_discrete}
use Rattle.std.proofs.Math.Logic.{dite}
use Rattle.std.specs.Option.{option_map_or}
use Rattle.mc_model.specs.declared.id.TheConstants.{WORKERS}
use Rattle.mc_model.specs.declared.id.Ticket.{Ticket}
use Rattle.mc_model.specs.declared.shown.LogSize.{LogSize}
use Rattle.mc_model.specs.declared.shown.ShownState.{ShownState}
use Rattle.mc_model.specs.declared.shown.WorkerState.{WorkerState}
use Rattle.mc_model.specs.Helping.{LogLaw}
use Rattle.mc_model.specs.Lawful.{IsWorker, announced_by, with_worker}
use Rattle.mc_model.specs.Legal.{ticket_of}
use Rattle.lists.proofs.Public.{at_seam, set_elsewhere, set_here}
use Rattle.uc_places.specs.Rule.{IsSmall}
use Rattle.uc_places.specs.Told.{IsTicketOf}
use Rattle.uc_places.specs.Words.{Shows, found_in, place_word, said_ticket, said_word}

-- how many commands a worker has announced, once its shown state is known
abbrev pub announced_in : Option WorkerState → ℕ
announced_in found = option_map_or (λ (worker : WorkerState). worker.announced) found 0

-- the word of a ticket encodes that ticket
pub decoded : (ticket : Ticket) → ticket.worker < 256 → said_ticket (said_word ticket) ≡ ticket
decoded ticket below = let worker : (said_word ticket - 1) % 256 ≡ ticket.worker = omega arith in
    let number : (said_word ticket - 1) / 256 ≡ ticket.number = omega arith in λ i. ticket_of (worker i) (number i)

-- a place's word encodes what stands there
pub found_of : (stands : Option Ticket) → ((ticket : Ticket) → stands ≡ Some ticket → ticket.worker < 256) → found_in (place_word stands) ≡ stands
found_of None below = refl
found_of (Some ticket) below = let n : ℕ = ticket.number * 256 + ticket.worker in
    ap found_in (add-one n) ∙ (ap (λ (k : ℕ). Some (said_ticket k)) (sym (add-one n))
    ∙ ap (λ (y : Ticket). Some y) (decoded ticket (below ticket refl)))

module _ (size : LogSize) (log : ShownState) (law : LogLaw size log) where
  -- only a worker of the log has announced a command
  pub worker_below : (number some : ℕ) → some < announced_by log number → number < size.workers
  worker_below number some less = by_found (slice_get log.workers number) refl
    where
      by_found : (found : Option WorkerState) → slice_get log.workers number ≡ found → number < size.workers
      by_found None at = let none : announced_by log number ≡ 0 = ap announced_in at in absurd (omega arith)
      by_found (Some worker) at = let inside = slice_get_within log.workers number worker at in let many = law.many in omega arith

  -- a ticket that stands in the log is small
  pub ticket_small : (place : ℕ) (ticket : Ticket) → slice_get log.decided place ≡ Some ticket →
      (ticket.worker < size.workers) × (ticket.number < size.places)
  ticket_small place ticket at = let announced = law.announced place ticket at in let legal = law.legal place ticket at in
      let inside = slice_get_within log.decided place ticket at in let few = law.few in
      let least = count_by-le-length (λ (some : Ticket). some.worker == ticket.worker) (take place log.decided) in
      let long = length-take place log.decided in
      (worker_below ticket.worker ticket.number announced, omega arith)

  pub found : (place : ℕ) → IsSmall size → found_in (place_word (slice_get log.decided place)) ≡ slice_get log.decided place
  found place small = found_of (slice_get log.decided place) (λ ticket at. let below = (ticket_small place ticket at).0 in
      let few = small.1 in omega arith)

  pub ticket_found : (place : ℕ) → IsSmall size → IsTicketOf size (place_word (slice_get log.decided place))
  ticket_found place small = by_found (slice_get log.decided place) refl
    where
      by_found : (stands : Option Ticket) → slice_get log.decided place ≡ stands → IsTicketOf size (place_word stands)
      by_found None at some = absurd (some refl)
      by_found (Some ticket) at some = let both = ticket_small place ticket at in let below = both.0 in let few = small.1 in
          let same = decoded ticket (omega arith) in
          subst (λ (y : Ticket). (y.worker < size.workers) × (y.number < size.places) × (said_word ticket ≡ said_word y)
          × (size.workers ≤ WORKERS)) (sym same) (both.0, both.1, refl, small.1)

-- where a worker is set, its count is that of its new state, and all others' are as they were
counts_here : (log : ShownState) (number : ℕ) (old new : WorkerState) → IsWorker log number old →
    announced_by (with_worker log number new) number ≡ new.announced
counts_here log number old new is = ap announced_in (set_here log.workers number new (slice_get_within log.workers number old is))

counts_elsewhere : (log : ShownState) (number other : ℕ) (new : WorkerState) → other ≢ number →
    announced_by (with_worker log number new) other ≡ announced_by log other
counts_elsewhere log number other new apart = ap announced_in (set_elsewhere log.workers number other new apart)

-- a worker that has announced as many as before changes no count
pub same_counts : (log : ShownState) (number other : ℕ) (old new : WorkerState) → IsWorker log number old → new.announced ≡ old.announced →
    announced_by log other ≡ announced_by (with_worker log number new) other
same_counts log number other old new is same = dite (ℕ_discrete other number)
    (λ here. ap (announced_by log) here ∙ (ap announced_in is ∙ (sym same ∙ (sym (counts_here log number old new is)
    ∙ ap (announced_by (with_worker log number new)) (sym here)))))
    (λ apart. sym (counts_elsewhere log number other new apart))

-- a worker's count rises by one
pub shows_count : (size : LogSize) (words : List ℕ) (log : ShownState) (number : ℕ) (old new : WorkerState) (count : ℕ) → number < size.workers →
    Shows size words log →
    IsWorker log number old → new.announced ≡ count → Shows size (set words (1 + number) count) (with_worker log number new)
shows_count size words log number old new count below shows is raised = record {
  wide = length-set words (1 + number) count ∙ shows.wide;
  first = get_or-set_other words (1 + number) 0 count 0 (λ same. omega arith) ∙ shows.first;
  counts = λ other inside. dite (ℕ_discrete other number)
      (λ here. let wide = shows.wide in ap (λ (i : ℕ). get_or (set words (1 + number) count) (1 + i) 0) here
      ∙ (get_or-set_same words (1 + number) count 0 (omega arith)
      ∙ (sym raised ∙ (sym (counts_here log number old new is) ∙ ap (announced_by (with_worker log number new)) (sym here)))))
      (λ apart. get_or-set_other words (1 + number) (1 + other) count 0 (λ same. apart (omega arith))
      ∙ (shows.counts other inside ∙ sym (counts_elsewhere log number other new apart)));
  places = λ place inside. get_or-set_other words (1 + number) (1 + size.workers + place) count 0 (λ same. omega arith) ∙ shows.places place inside;
}

-- no word changes
pub shows_same : (size : LogSize) (words : List ℕ) (log : ShownState) (number : ℕ) (old new : WorkerState) → Shows size words log →
    IsWorker log number old →
    new.announced ≡ old.announced → Shows size words (with_worker log number new)
shows_same size words log number old new shows is same = record {
  wide = shows.wide;
  first = shows.first;
  counts = λ other inside. shows.counts other inside ∙ same_counts log number other old new is same;
  places = shows.places;
}

-- the first empty place is decided
pub shows_place : (size : LogSize) (words : List ℕ) (log : ShownState) (number : ℕ) (old new : WorkerState) (ticket : Ticket) →
    length log.decided < size.places →
    Shows size words log → IsWorker log number old → new.announced ≡ old.announced →
    Shows size (set words (1 + size.workers + length log.decided) (said_word ticket))
    (record { decided = log.decided ++ ticket ∷ []; workers = set log.workers number new })
shows_place size words log number old new ticket room shows is same = let word : ℕ = 1 + size.workers + length log.decided in record {
  wide = length-set words word (said_word ticket) ∙ shows.wide;
  first = get_or-set_other words word 0 (said_word ticket) 0 (λ h. omega arith) ∙ shows.first;
  counts = λ other inside. get_or-set_other words word (1 + other) (said_word ticket) 0 (λ h. omega arith)
      ∙ (shows.counts other inside ∙ same_counts log number other old new is same);
  places = λ place inside. dite (ℕ_discrete place (length log.decided))
      (λ here. let wide = shows.wide in ap (λ (i : ℕ). get_or (set words word (said_word ticket)) (1 + size.workers + i) 0) here
      ∙ (get_or-set_same words word (said_word ticket) 0 (omega arith)
      ∙ (sym (ap place_word (at_seam log.decided ticket [])) ∙ ap (λ (i : ℕ). place_word (slice_get (log.decided ++ ticket ∷ []) i)) (sym here))))
      (λ apart. get_or-set_other words word (1 + size.workers + place) (said_word ticket) 0 (λ h. apart (omega arith))
      ∙ (shows.places place inside ∙ ap place_word (sym (pushed_elsewhere log.decided ticket place apart))));
}
  where
    pushed_elsewhere : (list : List Ticket) (last : Ticket) (place : ℕ) → place ≢ length list →
        slice_get (list ++ last ∷ []) place ≡ slice_get list place
    pushed_elsewhere [] last zero apart = absurd (apart refl)
    pushed_elsewhere [] last (suc place) apart = refl
    pushed_elsewhere (x ∷ list) last zero apart = refl
    pushed_elsewhere (x ∷ list) last (suc place) apart = pushed_elsewhere list last place (λ same. apart (ap suc same))
