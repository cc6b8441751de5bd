-- Worked runs of the shared log, tried on the definitions themselves.
use Rattle.std.proofs.Common.{◌≡◌, List, [], ◌∷◌, Some, None, inr, refl, arith}
use Rattle.mc_model.specs.declared.id.Ticket.{Ticket}
use Rattle.mc_model.specs.declared.shown.Phase.TheVariants.{Idle, Stopped}
use Rattle.mc_model.specs.declared.shown.LogSize.{LogSize}
use Rattle.mc_model.specs.declared.shown.ShownState.{ShownState}
use Rattle.mc_model.specs.declared.shown.WorkerState.{WorkerState}
use Rattle.mc_model.specs.Lawful.{LeadOn, announces, looks, proposes, reads, stops}
use Rattle.mc_model.specs.Legal.{ticket_of}
use Rattle.mc_model.specs.Shown.{announce, look, new_log, new_worker, propose, proposal, read, stop}

abbrev size : LogSize
size = record { workers = 2; places = 8 }

-- Worker 0 announces a command and stops for good. Worker 1 announces one, finds the first place
-- empty, helps worker 0 there, since it is that one's turn, and then has its own turn.
abbrev waiting : WorkerState
waiting = announce new_worker

abbrev marked : WorkerState
marked = read 1 None waiting

abbrev helping : WorkerState
helping = look 0 1 marked

abbrev helped : WorkerState
helped = propose 1 None helping

abbrev looking : WorkerState
looking = look 1 1 helped

abbrev done : WorkerState
done = propose 1 None looking

abbrev with : List Ticket → WorkerState → WorkerState → ShownState
with decided zero one = record { decided = decided; workers = zero ∷ one ∷ [] }

help_goes_first : proposal 1 helping ≡ ticket_of 0 0
help_goes_first = refl

then_its_own : proposal 1 looking ≡ ticket_of 1 0
then_its_own = refl

abbrev log_with_one : List Ticket
log_with_one = ticket_of 0 0 ∷ []

abbrev log_with_both : List Ticket
log_with_both = ticket_of 0 0 ∷ ticket_of 1 0 ∷ []

helped_after_stop :
    LeadOn size (new_log size)
    (announces 0 ∷ stops 0 ∷ announces 1 ∷ reads 1 ∷ looks 1 ∷ proposes 1 ∷ looks 1 ∷ proposes 1 ∷ [])
    (with log_with_both (stop waiting) done)
helped_after_stop = (
  with [] waiting new_worker,
  (new_worker, refl, refl, omega arith, refl),
  (
    with [] (stop waiting) new_worker,
    (waiting, refl, (λ same. cc), refl),
    (
      with [] (stop waiting) waiting,
      (new_worker, refl, refl, omega arith, refl),
      (
        with [] (stop waiting) marked,
        (waiting, refl, inr refl, omega arith, refl),
        (
          with [] (stop waiting) helping,
          (marked, refl, refl, omega arith, (λ same. cc), refl),
          (
            with log_with_one (stop waiting) helped,
            (helping, refl, refl, refl),
            (
              with log_with_one (stop waiting) looking,
              (helped, refl, refl, omega arith, (λ same. cc), refl),
              (
                with log_with_both (stop waiting) done,
                (looking, refl, refl, refl),
                refl,
              ),
            ),
          ),
        ),
      ),
    ),
  ),
)

-- what is shown of the two at the end, field by field
it_has_stopped : stop waiting ≡ record { phase = Stopped; announced = 1; learned = []; mark = None; look = None; proposals = 0 }
it_has_stopped = refl

it_is_idle_with_two_proposals : done ≡ record { phase = Idle; announced = 1; learned = log_with_both; mark = Some 0; look = None; proposals = 2 }
it_is_idle_with_two_proposals = refl
