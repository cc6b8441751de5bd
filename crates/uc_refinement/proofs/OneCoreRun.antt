-- What all workers of a log have done is one run of the core, with what each has put under its tickets.
use Rattle.std.proofs.Common.{◌≡◌, ◌≢◌, ℕ, suc, ◌<◌, ◌≤◌, List, [], ◌∷◌, length, None, Option, Some, slice_get, refl, sym, ap, subst, ◌∙◌, arith}
use Rattle.std.proofs.lemmas.Option.{none-some, same_Some, slice_get-map, slice_get_within}
use Rattle.std.specs.Option.{option_and_then, option_map, option_map_or}
use Rattle.lists.specs.Lists.{BeginsWith}
use Rattle.lists.proofs.Public.{at_longer, beyond}
use Rattle.mc_model.specs.declared.command.Command.{Command}
use Rattle.mc_model.specs.declared.command.Command.TheVariants.{Flush}
use Rattle.mc_model.specs.declared.id.Ticket.{Ticket}
use Rattle.mc_model.specs.declared.request.Entry.{Entry}
use Rattle.mc_model.specs.declared.shown.LogSize.{LogSize}
use Rattle.mc_model.specs.declared.shown.Phase.TheVariants.{Stopped}
use Rattle.mc_model.specs.declared.shown.ShownState.{ShownState}
use Rattle.mc_model.specs.declared.shown.WorkerState.{WorkerState}
use Rattle.mc_model.specs.Lawful.{LeadOn, announced_by}
use Rattle.mc_model.specs.Legal.{ticket_of}
use Rattle.mc_model.specs.Shown.{new_log}
use Rattle.mc_model.specs.State.{TableState}
use Rattle.uc_cells.specs.Sighting.{Sighting, entries}
use Rattle.uc_core.specs.Core.{entry_under, log_of}
use Rattle.uc_log.specs.declared.log.Log.{Log}
use Rattle.uc_laws.specs.CoreRun.{CanReplay, IsCoreRun, RunsAsCore, entry_by, log_size}
use Rattle.uc_worker.specs.declared.worker.Worker.{Worker}
use Rattle.uc_refinement.specs.Refinement.{AllDoOneCoreRun, AreAllOf, HaveReplayed, put_under, places_replayed_by, said_under}
use Rattle.uc_worker.specs.AllWorkers.{AreOnOneRun, own_part}
use Rattle.uc_worker.specs.Histories.{AreDecided, HoldsCommand}
use Rattle.uc_worker.specs.TurningOver.{HaveOneHistory}
use Rattle.uc_worker.specs.Worker.{announced_of, history_of}
use Rattle.uc_refinement.proofs.PartsOfOneRun.{lawful, made_at, shown_at, sized}

-- whose cell the ticket's is
owner_of : (workers : List Worker) (ticket : Ticket) (seen : Sighting) → put_under workers ticket ≡ Some seen →
    (worker : Worker) × (slice_get workers ticket.worker ≡ Some worker) × (slice_get (announced_of worker) ticket.number ≡ Some seen)
owner_of workers ticket seen put = by_worker (slice_get workers ticket.worker) refl
  where
    by_worker : (found : Option Worker) → slice_get workers ticket.worker ≡ found →
        (worker : Worker) × (slice_get workers ticket.worker ≡ Some worker) × (slice_get (announced_of worker) ticket.number ≡ Some seen)
    by_worker None is =
        absurd (none-some seen (sym (ap (option_and_then (λ (worker : Worker). slice_get (announced_of worker) ticket.number)) is) ∙ put))
    by_worker (Some worker) is =
        (worker, is, sym (ap (option_and_then (λ (owner : Worker). slice_get (announced_of owner) ticket.number)) is) ∙ put)

-- the command that a cell holds
entry_of : (tenants : ℕ) (seen : Sighting) → HoldsCommand tenants seen → (entry : Entry) × (seen.entry ≡ Some entry)
entry_of tenants seen holds = by_entry seen.entry refl
  where
    by_entry : (found : Option Entry) → seen.entry ≡ found → (entry : Entry) × (seen.entry ≡ Some entry)
    by_entry None is = absurd (holds.some is)
    by_entry (Some entry) is = (entry, is)

-- what is said under a ticket whose cell holds a command
said_at : (workers : List Worker) (ticket : Ticket) (seen : Sighting) (entry : Entry) → put_under workers ticket ≡ Some seen → seen.entry ≡ Some entry →
    said_under workers ticket ≡ (entry.tenant, entry.command)
said_at workers ticket seen entry put there =
    ap (λ (found : Option Sighting). option_map_or (λ (e : Entry). (e.tenant, e.command)) (option_and_then (λ (s : Sighting). s.entry) found) (0, Flush)) put
    ∙ ap (λ (found : Option Entry). option_map_or (λ (e : Entry). (e.tenant, e.command)) found (0, Flush)) there

-- a list that has an entry of each place of a history begins with the history's entries
begins_entries : (list : List (Option Entry)) (history : List Sighting) →
    ((place : ℕ) (seen : Sighting) → slice_get history place ≡ Some seen → slice_get list place ≡ Some seen.entry) → BeginsWith list (entries history)
begins_entries list [] each = (list, refl)
begins_entries [] (seen ∷ history) each = absurd (none-some _ (each 0 seen refl))
begins_entries (entry ∷ list) (seen ∷ history) each =
    let rest = begins_entries list history (λ place later at. each (suc place) later at) in
    let same : entry ≡ seen.entry = same_Some entry seen.entry (each 0 seen refl) in
    (rest.0, λ i. same i ∷ rest.1 i)

module _ (tables : List TableState) (log : Log) (workers : List Worker) (all : AreAllOf log workers) (one : AreOnOneRun workers) where
  lead : LeadOn (log_size log.settings) (new_log (log_size log.settings)) one.2.run one.1
  lead = subst (λ (z : LogSize). LeadOn z (new_log z) one.2.run one.1) (sized log workers all one) one.2.lead

  -- each cell of the workers holds a command of one of the log's tenants
  holds : (ticket : Ticket) (seen : Sighting) → put_under workers ticket ≡ Some seen → HoldsCommand (length log.settings.tenants) seen
  holds ticket seen put =
      let owner = owner_of workers ticket seen put in
      subst (λ (l : Log). HoldsCommand (length l.settings.tenants) seen) (all.of ticket.worker owner.0 owner.1) (owner.0.own.command ticket.number seen owner.2)

  known : (ticket : Ticket) → (said_under workers ticket).0 < length log.settings.tenants
  known ticket = by_put (put_under workers ticket) refl
    where
      by_put : (found : Option Sighting) → put_under workers ticket ≡ found → (said_under workers ticket).0 < length log.settings.tenants
      by_put None is =
          let said : said_under workers ticket ≡ (0, Flush) =
          ap (λ (found : Option Sighting). option_map_or (λ (e : Entry). (e.tenant, e.command)) (option_and_then (λ (s : Sighting). s.entry) found) (0, Flush)) is in
          subst (λ (it : ℕ × Command). it.0 < length log.settings.tenants) (sym said) (let least = log.lawful.tenants.0 in omega (arith, least))
      by_put (Some seen) is =
          let held = holds ticket seen is in
          let entry = entry_of (length log.settings.tenants) seen held in
          subst (λ (said : ℕ × Command). said.0 < length log.settings.tenants) (sym (said_at workers ticket seen entry.0 is entry.1)) (held.its entry.0 entry.1).1

  can : CanReplay one.1 (places_replayed_by workers)
  can number state at =
      let within = slice_get_within one.1.workers number state at in
      let wide : one.0.workers ≡ log.settings.workers = ap (λ (z : LogSize). z.workers) (sized log workers all one) in
      let many = (lawful log workers all one).many in
      by_worker (slice_get workers number) refl (omega (arith, within, many, wide, all.many))
    where
      by_worker : (found : Option Worker) → slice_get workers number ≡ found → number < length workers → (state.phase ≢ Stopped) × (places_replayed_by workers number ≤ length state.learned)
      by_worker None is inside = absurd (let out = beyond workers number is in omega (arith, out, inside))
      by_worker (Some worker) is inside =
          let same : (own_part worker).state ≡ state = same_Some _ _ (sym (shown_at log workers all one number worker is) ∙ at) in
          let count : places_replayed_by workers number ≡ length (history_of worker) =
          ap (λ (found : Option Worker). option_map_or (λ (worker : Worker). length (history_of worker)) found 0) is in
          let short : length (history_of worker) ≤ length (own_part worker).state.learned = worker.short in (
            subst (λ (s : WorkerState). s.phase ≢ Stopped) same worker.rests.1,
            subst (λ (s : WorkerState). places_replayed_by workers number ≤ length s.learned) same (omega (arith, count, short)),
          )

  own_at : (number place : ℕ) (worker : Worker) (seen : Sighting) → slice_get workers number ≡ Some worker → slice_get (history_of worker) place ≡ Some seen →
      seen.ticket.worker ≡ number → put_under workers seen.ticket ≡ Some seen
  own_at number place worker seen at here mine =
      ap (option_and_then (λ (w : Worker). slice_get (announced_of w) seen.ticket.number)) (ap (slice_get workers) mine ∙ at)
      ∙ worker.own.as_put place seen here (mine ∙ sym (all.numbers number worker at))

  decided_at : (number : ℕ) (worker : Worker) → slice_get workers number ≡ Some worker → AreDecided one.1 (history_of worker)
  decided_at number worker at place seen here =
      let begins = ((lawful log workers all one).each number (own_part worker).state (shown_at log workers all one number worker at)).begins in
      ap (λ (list : List Ticket). slice_get list place) begins.1
      ∙ at_longer (own_part worker).state.learned begins.0 place seen.ticket (worker.follows.tickets place seen here)

  -- a worker whose history is that of all has seen what was put
  put_at : HaveOneHistory workers → (number place : ℕ) (worker : Worker) (seen : Sighting) → slice_get workers number ≡ Some worker →
      slice_get (history_of worker) place ≡ Some seen → put_under workers seen.ticket ≡ Some seen
  put_at same number place worker seen at here =
      let below = (worker.pass.desk.law.inside place seen.ticket (worker.follows.tickets place seen here)).0 in
      let wide = ap (λ (z : LogSize). z.workers) worker.of.1 in
      let its = ap (λ (l : Log). l.settings.workers) (all.of number worker at) in
      by_owner (slice_get workers seen.ticket.worker) refl (omega (arith, below, wide, its, all.many))
    where
      by_owner : (found : Option Worker) → slice_get workers seen.ticket.worker ≡ found → seen.ticket.worker < length workers → put_under workers seen.ticket ≡ Some seen
      by_owner None is inside = absurd (let out = beyond workers seen.ticket.worker is in omega (arith, out, inside))
      by_owner (Some owner) is inside = own_at seen.ticket.worker place owner seen is
          (ap (λ (list : List Sighting). slice_get list place) (same seen.ticket.worker number owner worker is at) ∙ here) refl

  module _ (it : IsCoreRun log.settings tables one.2.run one.1 (said_under workers) (places_replayed_by workers)) where
    -- under each ticket stands what its worker has put there
    entry_at : (ticket : Ticket) (seen : Sighting) → put_under workers ticket ≡ Some seen → entry_under it.core ticket ≡ seen.entry
    entry_at ticket seen put =
        let owner = owner_of workers ticket seen put in
        let held = holds ticket seen put in
        let entry = entry_of (length log.settings.tenants) seen held in
        let inside = slice_get_within (announced_of owner.0) ticket.number seen owner.2 in
        let count : announced_by one.1 ticket.worker ≡ (own_part owner.0).state.announced =
        ap (λ (found : Option WorkerState). option_map_or (λ (w : WorkerState). w.announced) found 0) (shown_at log workers all one ticket.worker owner.0 owner.1) in
        let below : ticket.number < announced_by one.1 ticket.worker = omega (arith, inside, owner.0.pass.count, count) in
        let number : (own_part owner.0).worker ≡ ticket.worker = all.numbers ticket.worker owner.0 owner.1 in
        let own : seen.ticket ≡ ticket = owner.0.pass.tickets ticket.number seen owner.2 ∙ (λ i. ticket_of (number i) ticket.number) in
        let said = said_at workers ticket seen entry.0 put entry.1 in
        let same : entry_by (said_under workers) ticket ≡ entry.0 =
        λ i. record { ticket = sym ((held.its entry.0 entry.1).0 ∙ own) i; tenant = (said i).0; command = (said i).1 } in
        it.entries ticket.worker ticket.number below ∙ (ap (λ (e : Entry). Some e) same ∙ sym entry.1)

    replayed_at : HaveOneHistory workers → HaveReplayed workers it.core
    replayed_at same number worker at = begins_entries (log_of it.core) (history_of worker) (λ place seen here.
        slice_get-map (entry_under it.core) it.core.shown.decided place
        ∙ (ap (λ (state : ShownState). option_map (entry_under it.core) (slice_get state.decided place)) it.shown
        ∙ (ap (option_map (entry_under it.core)) (decided_at number worker at place seen here)
        ∙ ap (λ (entry : Option Entry). Some entry) (entry_at seen.ticket seen (put_at same number place worker seen at here)))))

pub all_do_one_core_run : RunsAsCore → AllDoOneCoreRun
all_do_one_core_run law tables log workers all one = record {
  run = one.2.run;
  log = one.1;
  core = core;
  made = made_at log workers all one;
  shown = shown_at log workers all one;
  as_put = own_at tables log workers all one;
  entries = entry_at tables log workers all one core;
  decided = decided_at tables log workers all one;
  replayed = replayed_at tables log workers all one core;
}
  where
    core : IsCoreRun log.settings tables one.2.run one.1 (said_under workers) (places_replayed_by workers)
    core = law log.settings tables one.2.run one.1 (said_under workers) (places_replayed_by workers)
        (lead tables log workers all one) (known tables log workers all one) (can tables log workers all one)

pub log_is : (law : RunsAsCore) (tables : List TableState) (log : Log) (workers : List Worker) (all : AreAllOf log workers) (one : AreOnOneRun workers) →
    (all_do_one_core_run law tables log workers all one).log ≡ one.1
unfolding all_do_one_core_run
log_is law tables log workers all one = refl
