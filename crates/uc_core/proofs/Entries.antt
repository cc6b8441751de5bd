-- The entries that workers have announced, and the log that they make: each announced ticket has
-- its entry, and an announcement adds one.
use Rattle.std.proofs.Common.{◌≡◌, ◌≢◌, ℕ, ◌+◌, ◌<◌, List, [], ◌∷◌, ◌++◌, length, map, Option, Some, None, slice_get, slice_set, ⊎_elim, refl, sym, ap, subst, ◌∙◌, arith, length-append}
use Rattle.std.proofs.lemmas.Bool.{cases_eq}
use Rattle.std.proofs.lemmas.List.{map-append}
use Rattle.std.proofs.lemmas.Option.{option_and_then_some, same_Some, slice_get-map, slice_get_within}
use Rattle.std.specs.Option.{option_and_then, option_map, option_map_or}
use Rattle.mc_model.specs.declared.id.Ticket.{Ticket}
use Rattle.mc_model.specs.declared.request.Entry.{Entry}
use Rattle.mc_model.specs.declared.settings.Limits.{Limits}
use Rattle.mc_model.specs.declared.shown.ShownState.{ShownState}
use Rattle.mc_model.specs.declared.shown.WorkerState.{WorkerState}
use Rattle.lists.specs.Lists.{BeginsWith}
use Rattle.mc_model.specs.Lawful.{announced_by}
use Rattle.mc_model.specs.Legal.{ticket_of}
use Rattle.uc_core.specs.Core.{CoreState, entry_under, log_of}
use Rattle.uc_core.specs.Step.{entry_at, with_entry}
use Rattle.lists.proofs.Public.{at_pushed, set_elsewhere, set_here}
use Rattle.uc_core.proofs.Lookups.{at_longer, map-agree, there}

-- a worker's entries: as many as it has announced, each under its own ticket and of a known tenant
pub record EntriesLaw (core : CoreState) (number : ℕ) (announced : List Entry) : Type 0 where
  pub many : length announced ≡ announced_by core.shown number
  pub tickets : (k : ℕ) (entry : Entry) → slice_get announced k ≡ Some entry → entry.ticket ≡ ticket_of number k
  pub tenants : (k : ℕ) (entry : Entry) → slice_get announced k ≡ Some entry → entry.tenant < length core.openings

-- so of every worker
abbrev pub AreEntries : CoreState → Type 0
AreEntries core = (number : ℕ) (announced : List Entry) → slice_get core.entries number ≡ Some announced → EntriesLaw core number announced

-- a ticket's entry is there, under that ticket and of a known tenant
abbrev pub HasEntry : CoreState → Ticket → Type 0
HasEntry core ticket = (entry : Entry) × (entry_under core ticket ≡ Some entry) × (entry.ticket ≡ ticket) × (entry.tenant < length core.openings)

abbrev EntryIn : CoreState → Ticket → Entry → Type 0
EntryIn core ticket entry = (announced : List Entry) × (slice_get core.entries ticket.worker ≡ Some announced) × (slice_get announced ticket.number ≡ Some entry)

parts_of : (core : CoreState) (ticket : Ticket) (entry : Entry) → entry_under core ticket ≡ Some entry → EntryIn core ticket entry
parts_of core ticket entry at =
    option_and_then_some (λ (announced : List Entry). slice_get announced ticket.number) (slice_get core.entries ticket.worker) entry at
    (λ announced is here. (announced, is, here))

from_parts : (core : CoreState) (ticket : Ticket) (entry : Entry) (announced : List Entry) →
    slice_get core.entries ticket.worker ≡ Some announced → slice_get announced ticket.number ≡ Some entry → entry_under core ticket ≡ Some entry
from_parts core ticket entry announced is here = ap (option_and_then (λ (list : List Entry). slice_get list ticket.number)) is ∙ here

-- a worker that has announced something exists
pub exists : (core : CoreState) (ticket : Ticket) → ticket.number < announced_by core.shown ticket.worker → ticket.worker < length core.shown.workers
exists core ticket below = within (slice_get core.shown.workers ticket.worker) refl below
  where
    within : (found : Option WorkerState) → slice_get core.shown.workers ticket.worker ≡ found →
        ticket.number < option_map_or (λ (worker : WorkerState). worker.announced) found 0 → ticket.worker < length core.shown.workers
    within None at below = absurd (omega (arith, below))
    within (Some worker) at below = slice_get_within core.shown.workers ticket.worker worker at

-- what is announced has its entry
pub has_entry : (core : CoreState) (ticket : Ticket) → length core.entries ≡ length core.shown.workers → AreEntries core →
    ticket.number < announced_by core.shown ticket.worker → HasEntry core ticket
has_entry core ticket listed entries below =
    let list = there core.entries ticket.worker (omega (arith, listed, exists core ticket below)) in
    let law = entries ticket.worker list.0 list.1 in
    let found = there list.0 ticket.number (omega (arith, law.many, below)) in
    (found.0, from_parts core ticket found.0 list.0 list.1 found.1, law.tickets ticket.number found.0 found.1, law.tenants ticket.number found.0 found.1)

-- each entry that was found is found again
abbrev pub KeepsEntries : CoreState → CoreState → Type 0
KeepsEntries old new = (ticket : Ticket) (entry : Entry) → entry_under old ticket ≡ Some entry → entry_under new ticket ≡ Some entry

-- where the decided places stand and have their entries, the log goes on from what it was
pub log-begins : (old new : CoreState) → ((place : ℕ) (ticket : Ticket) → slice_get old.shown.decided place ≡ Some ticket → HasEntry old ticket) →
    BeginsWith new.shown.decided old.shown.decided → KeepsEntries old new → BeginsWith (log_of new) (log_of old)
log-begins old new has begins keeps = (
  map (entry_under new) begins.0,
  ap (map (entry_under new)) begins.1 ∙ map-append (entry_under new) old.shown.decided begins.0
      ∙ ap (λ (front : List (Option Entry)). front ++ map (entry_under new) begins.0)
      (map-agree (entry_under new) (entry_under old) old.shown.decided
      (λ place ticket at. let entry = has place ticket at in keeps ticket entry.0 entry.1 ∙ sym entry.1)),
)

-- the log's place has the entry that stands there
pub log-at : (core : CoreState) (place : ℕ) → place < length core.shown.decided → slice_get (log_of core) place ≡ Some (entry_at core place)
log-at core place inside =
    let ticket = there core.shown.decided place inside in
    slice_get-map (entry_under core) core.shown.decided place ∙ ap (option_map (entry_under core)) ticket.1
    ∙ ap Some (sym (ap (option_and_then (entry_under core)) ticket.1))

-- without an announcement all entries stay
pub entries_stay : (old new : CoreState) → AreEntries old → new.openings ≡ old.openings → new.entries ≡ old.entries →
    ((number : ℕ) → announced_by new.shown number ≡ announced_by old.shown number) → AreEntries new
entries_stay old new entries openings same silent number announced at =
    let law = entries number announced (ap (λ (lists : List (List Entry)). slice_get lists number) (sym same) ∙ at) in record {
      many = law.many ∙ sym (silent number);
      tickets = law.tickets;
      tenants = λ k entry is. subst (λ (known : List Limits). entry.tenant < length known) (sym openings) (law.tenants k entry is);
    }

-- an announcement: the worker's list gets one more entry
module _ (old : CoreState) (shown : ShownState) (list : List Entry) (entry : Entry) (at : slice_get old.entries entry.ticket.worker ≡ Some list) where
  abbrev announced_core : CoreState
  announced_core = record old { shown = shown; entries = with_entry old.entries entry }

  is_listed : with_entry old.entries entry ≡ slice_set old.entries entry.ticket.worker (list ++ entry ∷ [])
  is_listed = ap (λ found. slice_set old.entries entry.ticket.worker (option_map_or (λ (announced : List Entry). announced ++ entry ∷ []) found (entry ∷ []))) at

  listed_here : slice_get (with_entry old.entries entry) entry.ticket.worker ≡ Some (list ++ entry ∷ [])
  listed_here = ap (λ (lists : List (List Entry)). slice_get lists entry.ticket.worker) is_listed
      ∙ set_here old.entries entry.ticket.worker (list ++ entry ∷ []) (slice_get_within old.entries entry.ticket.worker list at)

  listed_elsewhere : (other : ℕ) → other ≢ entry.ticket.worker → slice_get (with_entry old.entries entry) other ≡ slice_get old.entries other
  listed_elsewhere other apart = set_elsewhere old.entries entry.ticket.worker other _ apart

  pub announcement-keeps : KeepsEntries old announced_core
  announcement-keeps ticket found is =
      let parts = parts_of old ticket found is in
      ⊎_elim
      (λ (here : ticket.worker ≡ entry.ticket.worker).
      let same : list ≡ parts.0 = same_Some list parts.0 (sym at ∙ ap (slice_get old.entries) (sym here) ∙ parts.1) in
      from_parts announced_core ticket found (list ++ entry ∷ []) (ap (slice_get (with_entry old.entries entry)) here ∙ listed_here)
      (at_longer list (entry ∷ []) ticket.number found (ap (λ (known : List Entry). slice_get known ticket.number) same ∙ parts.2)))
      (λ apart. from_parts announced_core ticket found parts.0 (listed_elsewhere ticket.worker apart ∙ parts.1) parts.2)
      (cases_eq ticket.worker entry.ticket.worker)

  module _ (entries : AreEntries old) (known : entry.tenant < length old.openings)
      (next : entry.ticket.number ≡ announced_by old.shown entry.ticket.worker)
      (raised : announced_by shown entry.ticket.worker ≡ announced_by old.shown entry.ticket.worker + 1)
      (others : (other : ℕ) → other ≢ entry.ticket.worker → announced_by shown other ≡ announced_by old.shown other) where
    its_entries : EntriesLaw announced_core entry.ticket.worker (list ++ entry ∷ [])
    its_entries = let law = entries entry.ticket.worker list at in record {
      many = omega (arith, length-append list (entry ∷ []), law.many, raised);
      tickets = λ k found is. ⊎_elim
          (λ before. law.tickets k found before)
          (λ (last : (k ≡ length list) × (entry ≡ found)).
          ap (λ (e : Entry). e.ticket) (sym last.1) ∙ ap (ticket_of entry.ticket.worker) (next ∙ sym law.many ∙ sym last.0))
          (at_pushed list entry found k is);
      tenants = λ k found is. ⊎_elim
          (λ before. law.tenants k found before)
          (λ last. subst (λ (e : Entry). e.tenant < length old.openings) last.1 known)
          (at_pushed list entry found k is);
    }

    pub announcement-entries : AreEntries announced_core
    announcement-entries number announced is = ⊎_elim
        (λ (here : number ≡ entry.ticket.worker).
        let same : list ++ entry ∷ [] ≡ announced = same_Some _ announced (sym listed_here ∙ ap (slice_get (with_entry old.entries entry)) (sym here) ∙ is) in
        subst (λ (it : ℕ × List Entry). EntriesLaw announced_core it.0 it.1) (λ i. (sym here i, same i)) its_entries)
        (λ apart.
        let law = entries number announced (sym (listed_elsewhere number apart) ∙ is) in
        record { many = law.many ∙ sym (others number apart); tickets = law.tickets; tenants = law.tenants })
        (cases_eq number entry.ticket.worker)
