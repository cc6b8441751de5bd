-- A worked run of the core, tried on the definitions themselves, and what the theorem's words say
-- of small logs: what they hold of, and what they don't.
use Rattle.std.proofs.Common.{◌≡◌, ℕ, zero, suc, List, [], ◌∷◌, length, Some, None, false, inr, refl, ap, arith}
use Rattle.std.proofs.lemmas.Option.{same_Some}
use Rattle.mc_model.specs.declared.command.Command.{Command}
use Rattle.mc_model.specs.declared.command.Command.TheVariants.{Flush, Get}
use Rattle.mc_model.specs.declared.id.Ticket.{Ticket}
use Rattle.mc_model.specs.declared.reply.Reply.TheVariants.{Ok, Values}
use Rattle.mc_model.specs.declared.request.Entry.{Entry}
use Rattle.mc_model.specs.declared.settings.Limits.{Limits}
use Rattle.mc_model.specs.declared.shown.WorkerState.{WorkerState}
use Rattle.mc_model.specs.Legal.{IsLegal, StandsBefore, ticket_of}
use Rattle.mc_model.specs.Replay.{TakeEffect, empty_tables}
use Rattle.mc_model.specs.Settings.{Configuration}
use Rattle.mc_model.specs.Shown.{announce, look, new_worker, propose, read, stop}
use Rattle.mc_model.specs.State.{TableState}
use Rattle.uc_core.specs.Core.{CoreState, ReplayState}
use Rattle.uc_core.specs.Headline.{Answered, LogsAgree}
use Rattle.uc_core.specs.Run.{Given, IsRun}
use Rattle.uc_core.specs.declared.event.Event.TheVariants.{Announce, Look, Propose, Read, Replay, Stop}

abbrev ticket : Ticket
ticket = ticket_of 0 0

abbrev other : Ticket
other = ticket_of 1 0

-- the same ticket at two places isn't legal, nor is a later number before an earlier one
twice_is_not_legal : IsLegal (ticket ∷ ticket ∷ []) → ⊥
twice_is_not_legal legal = let wrong : 1 ≡ 0 = legal 1 ticket refl in omega (arith, wrong)

out_of_order_is_not_legal : IsLegal (ticket_of 0 1 ∷ ticket ∷ []) → ⊥
out_of_order_is_not_legal legal = let wrong : 0 ≡ 1 = legal 0 (ticket_of 0 1) refl in omega (arith, wrong)

-- what stands at a place doesn't stand before it
not_before_its_own_place : StandsBefore 1 ticket (other ∷ ticket ∷ []) → ⊥
not_before_its_own_place (zero, before, at) = let wrong : 1 ≡ 0 = ap (λ (it : Ticket). it.worker) (same_Some other ticket at) in omega (arith, wrong)
not_before_its_own_place (suc place, before, at) = omega (arith, before)

-- Two workers and two tenants with quotas of their own.
module _ (limits others : Limits) where
  abbrev settings : Configuration
  settings = record { workers = 2; places = 4; tenants = limits ∷ others ∷ [] }

  abbrev flush : Entry
  flush = record { ticket = ticket; tenant = 0; command = Flush }

  abbrev retrieval : Entry
  retrieval = record { ticket = other; tenant = 1; command = Get [] false }

  abbrev tables : List TableState
  tables = empty_tables (limits ∷ others ∷ [])

  abbrev replayed : ℕ → ReplayState
  replayed many = record { replayed = many; tables = tables }

  -- the core with these decided places, workers, entries and replays
  abbrev core : List Ticket → WorkerState → WorkerState → List Entry → List Entry → ℕ → ℕ → CoreState
  core decided zero_is one_is of_zero of_one by_zero by_one = record {
    places = 4;
    openings = limits ∷ others ∷ [];
    shown = record { decided = decided; workers = zero_is ∷ one_is ∷ [] };
    entries = of_zero ∷ of_one ∷ [];
    replays = replayed by_zero ∷ replayed by_one ∷ [];
  }

  flush_takes_effect : TakeEffect (Some flush) tables tables
  flush_takes_effect zero = refl
  flush_takes_effect (suc zero) = refl
  flush_takes_effect (suc (suc tenant)) = refl

  retrieval_takes_effect : TakeEffect (Some retrieval) tables tables
  retrieval_takes_effect zero = refl
  retrieval_takes_effect (suc zero) = refl
  retrieval_takes_effect (suc (suc tenant)) = refl

  -- Worker 0 announces a flush of tenant 0. Worker 1 announces a get of tenant 1, helps worker 0
  -- first, and replays both places: it answers its own alone. Then worker 0 learns its place by a
  -- read, replays it, is answered, and stops.
  abbrev waiting : WorkerState
  waiting = announce new_worker

  abbrev marked : WorkerState
  marked = read 1 None waiting

  abbrev helping : WorkerState
  helping = look 0 1 marked

  abbrev helped : WorkerState
  helped = propose 1 None helping

  abbrev looking : WorkerState
  looking = look 1 1 helped

  abbrev done : WorkerState
  done = propose 1 None looking

  abbrev learned : WorkerState
  learned = read 0 (Some ticket) waiting

  abbrev one_flush : List Entry
  one_flush = flush ∷ []

  abbrev one_get : List Entry
  one_get = retrieval ∷ []

  abbrev both : List Ticket
  both = ticket ∷ other ∷ []

  abbrev last : CoreState
  last = core both (stop learned) done one_flush one_get 1 2

  abbrev answers : List Given
  answers = (1, 1, Values []) ∷ (0, 0, Ok) ∷ []

  two_are_answered :
      IsRun settings
      (Announce 0 0 Flush ∷ Announce 1 1 (Get [] false) ∷ Read 1 ∷ Look 1 ∷ Propose 1 ∷ Look 1 ∷ Propose 1 ∷ Replay 1 ∷ Replay 1 ∷ Read 0 ∷ Replay 0 ∷ Stop 0 ∷ [])
      last answers
  two_are_answered = (
    core [] waiting new_worker one_flush [] 0 0,
    None,
    answers,
    (omega arith, (new_worker, refl, refl, omega arith, refl), refl, refl),
    (
      core [] waiting waiting one_flush one_get 0 0,
      None,
      answers,
      (omega arith, (new_worker, refl, refl, omega arith, refl), refl, refl),
      (
        core [] waiting marked one_flush one_get 0 0,
        None,
        answers,
        ((waiting, refl, inr refl, omega arith, refl), refl, refl),
        (
          core [] waiting helping one_flush one_get 0 0,
          None,
          answers,
          ((marked, refl, refl, omega arith, (λ same. cc), refl), refl, refl),
          (
            core (ticket ∷ []) waiting helped one_flush one_get 0 0,
            None,
            answers,
            ((helping, refl, refl, refl), refl, refl),
            (
              core (ticket ∷ []) waiting looking one_flush one_get 0 0,
              None,
              answers,
              ((helped, refl, refl, omega arith, (λ same. cc), refl), refl, refl),
              (
                core both waiting done one_flush one_get 0 0,
                None,
                answers,
                ((looking, refl, refl, refl), refl, refl),
                (
                  core both waiting done one_flush one_get 0 1,
                  None,
                  answers,
                  (done, refl, (λ same. cc), replayed 0, refl, omega arith, tables, flush_takes_effect, refl, refl),
                  (
                    core both waiting done one_flush one_get 0 2,
                    Some (Values []),
                    (0, 0, Ok) ∷ [],
                    (done, refl, (λ same. cc), replayed 1, refl, omega arith, tables, retrieval_takes_effect, refl, refl),
                    (
                      core both learned done one_flush one_get 0 2,
                      None,
                      (0, 0, Ok) ∷ [],
                      ((waiting, refl, inr refl, omega arith, refl), refl, refl),
                      (
                        core both learned done one_flush one_get 1 2,
                        Some Ok,
                        [],
                        (learned, refl, (λ same. cc), replayed 0, refl, omega arith, tables, flush_takes_effect, refl, refl),
                        (
                          last,
                          None,
                          [],
                          ((learned, refl, (λ same. cc), refl), refl, refl),
                          (refl, refl),
                          refl,
                        ),
                        refl,
                      ),
                      refl,
                    ),
                    refl,
                  ),
                  refl,
                ),
                refl,
              ),
              refl,
            ),
            refl,
          ),
          refl,
        ),
        refl,
      ),
      refl,
    ),
    refl,
  )

  -- so a reply was given to tenant 0's first command, and one to tenant 1's
  first_of_tenant_0 : Answered last answers 0 0 Ok
  first_of_tenant_0 = record { at = 1; worker = 0; place = 0; entry = flush; told = refl; found = refl; whose = refl; number = refl }

  first_of_tenant_1 : Answered last answers 1 0 (Values [])
  first_of_tenant_1 = record { at = 0; worker = 1; place = 1; entry = retrieval; told = refl; found = refl; whose = refl; number = refl }

  -- Another log agrees with this one for its tenant 1 and tenant 0 here up to the first command,
  -- whatever that tenant commands later and whoever announced it; up to the second command they
  -- don't agree.
  abbrev flush_again : ℕ → Entry
  flush_again number = record { ticket = ticket_of 0 number; tenant = 1; command = Flush }

  abbrev elsewhere : CoreState
  elsewhere = record {
    places = 9;
    openings = others ∷ limits ∷ [];
    shown = record { decided = ticket_of 0 0 ∷ ticket_of 0 1 ∷ []; workers = new_worker ∷ [] };
    entries = (flush_again 0 ∷ flush_again 1 ∷ []) ∷ [];
    replays = [];
  }

  logs_agree : LogsAgree last elsewhere 0 1 0
  logs_agree = record { limits = refl; commands = refl }

  logs_agree_no_further : LogsAgree last elsewhere 0 1 1 → ⊥
  logs_agree_no_further agree =
      let wrong : 1 ≡ 2 = ap (λ (commands : List Command). length commands) agree.commands in omega (arith, wrong)
