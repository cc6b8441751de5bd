-- Worked runs of two workers that announce at once near a log's end, tried on the definitions.
use Rattle.std.proofs.Common.{◌≡◌, ◌+◌, ◌<◌, ◌≤◌, List, [], ◌∷◌, length, Some, None, inr, refl, ap, arith}
use Rattle.std.proofs.lemmas.Option.{same_Some}
use Rattle.mc_model.specs.declared.id.Ticket.{Ticket}
use Rattle.mc_model.specs.declared.shown.LogSize.{LogSize}
use Rattle.mc_model.specs.declared.shown.ShownState.{ShownState}
use Rattle.mc_model.specs.declared.shown.WorkerState.{WorkerState}
use Rattle.mc_model.specs.Lawful.{Leads, announced_by, announces, looks, proposes, reads}
use Rattle.mc_model.specs.Legal.{count, ticket_of}
use Rattle.mc_model.specs.Shown.{announce, look, new_log, new_worker, propose, read}
use Rattle.mc_laws.specs.Places.{LeadLeavingPlaces}

abbrev with : List Ticket → WorkerState → WorkerState → ShownState
with decided zero one = record { decided = decided; workers = zero ∷ one ∷ [] }

-- Both workers announce a command. Worker 1 finds the first place empty, helps worker 0 there, whose
-- turn it is, and then has its own turn.
abbrev waiting : WorkerState
waiting = announce new_worker

abbrev marked : WorkerState
marked = read 1 None waiting

abbrev helping : WorkerState
helping = look 0 1 marked

abbrev helped : WorkerState
helped = propose 1 None helping

abbrev looking : WorkerState
looking = look 1 1 helped

abbrev done : WorkerState
done = propose 1 None looking

abbrev log_with_one : List Ticket
log_with_one = ticket_of 0 0 ∷ []

abbrev log_with_both : List Ticket
log_with_both = ticket_of 0 0 ∷ ticket_of 1 0 ∷ []

-- In a log of two places each leaves two places as it announces, and both commands are decided.
abbrev two_places : LogSize
two_places = record { workers = 2; places = 2 }

-- who has learned nothing leaves all places
none_learned : (worker : WorkerState) → Some new_worker ≡ Some worker → length worker.learned + 2 ≤ 2
none_learned worker is = let none : 0 ≡ length worker.learned = ap (λ (some : WorkerState). length some.learned) (same_Some new_worker worker is) in omega arith

both_are_decided :
    LeadLeavingPlaces two_places
    (proposes 1 ∷ looks 1 ∷ proposes 1 ∷ looks 1 ∷ reads 1 ∷ announces 1 ∷ announces 0 ∷ [])
    (with log_with_both waiting done)
both_are_decided = (
  with log_with_one waiting looking,
  (
    with log_with_one waiting helped,
    (
      with [] waiting helping,
      (
        with [] waiting marked,
        (
          with [] waiting waiting,
          (
            with [] waiting new_worker,
            (new_log two_places, refl, (new_worker, refl, refl, omega arith, refl), none_learned),
            (new_worker, refl, refl, omega arith, refl),
            none_learned,
          ),
          (waiting, refl, inr refl, omega arith, refl),
          tt,
        ),
        (marked, refl, refl, omega arith, (λ same. cc), refl),
        tt,
      ),
      (helping, refl, refl, refl),
      tt,
    ),
    (helped, refl, refl, omega arith, (λ same. cc), refl),
    tt,
  ),
  (looking, refl, refl, refl),
  tt,
)

-- In a log of one place they leave one place fewer than there are workers. The log is full then,
-- and worker 1's command isn't decided.
abbrev one_place : LogSize
one_place = record { workers = 2; places = 1 }

one_is_decided :
    Leads one_place (proposes 1 ∷ looks 1 ∷ reads 1 ∷ announces 1 ∷ announces 0 ∷ [])
    (with log_with_one waiting helped)
one_is_decided = (
  with [] waiting helping,
  (
    with [] waiting marked,
    (
      with [] waiting waiting,
      (
        with [] waiting new_worker,
        (new_log one_place, refl, (new_worker, refl, refl, omega arith, refl)),
        (new_worker, refl, refl, omega arith, refl),
      ),
      (waiting, refl, inr refl, omega arith, refl),
    ),
    (marked, refl, refl, omega arith, (λ same. cc), refl),
  ),
  (helping, refl, refl, refl),
)

the_log_is_full : length log_with_one ≡ one_place.places
the_log_is_full = refl

the_other_is_not : count 1 log_with_one < announced_by (with log_with_one waiting helped) 1
the_other_is_not = omega arith
