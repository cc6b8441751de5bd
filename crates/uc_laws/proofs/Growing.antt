-- The log of a core goes on from what it was, event by event.
use Rattle.std.proofs.Common.{◌≡◌, ℕ, zero, suc, ◌<◌, ◌≤◌, List, [], ◌∷◌, ◌++◌, length, map, take, Option, Some, None, slice_get, slice_set, ⊎_elim, refl, sym, ap, ap₂, subst, ◌∙◌, arith}
use Rattle.std.proofs.lemmas.Bool.{cases_eq}
use Rattle.std.proofs.lemmas.List.{length-map, map-append, take-append-le}
use Rattle.std.proofs.lemmas.Option.{option_and_then_some, slice_get-map, slice_get_within}
use Rattle.std.specs.Option.{option_and_then, option_map, option_map_or}
use Rattle.lists.proofs.Public.{at_longer, begins_same, begins_self, begins_through, set_elsewhere, set_here}
use Rattle.lists.specs.Lists.{BeginsWith}
use Rattle.mc_model.specs.declared.id.Ticket.{Ticket}
use Rattle.mc_model.specs.declared.reply.Reply.{Reply}
use Rattle.mc_model.specs.declared.request.Entry.{Entry}
use Rattle.mc_model.specs.declared.shown.LogSize.{LogSize}
use Rattle.mc_model.specs.declared.shown.ShownState.{ShownState}
use Rattle.mc_model.specs.Lawful.{ShownEvent, Step, announces, decided_with, looks, next, proposes, reads, stops}
use Rattle.mc_model.specs.Shown.{proposal}
use Rattle.uc_core.specs.Core.{CoreState, core_size, entry_under, log_of}
use Rattle.uc_core.specs.Step.{CoreStep, announced_entry, entry_at, with_entry}
use Rattle.uc_core.specs.declared.event.Event.{Event}
use Rattle.uc_core.specs.declared.event.Event.TheVariants.{Announce, Look, Propose, Read, Replay, Stop}

-- within a list there is an element
pub there : {X : Type 0} (xs : List X) (k : ℕ) → k < length xs → (x : X) × (slice_get xs k ≡ Some x)
there [] k inside = absurd (omega (arith, inside))
there (x ∷ xs) zero inside = (x, refl)
there (x ∷ xs) (suc k) inside = there xs k (omega (arith, inside))

-- two functions that agree on the elements of a list
pub map-agree : {X Y : Type 0} (f g : X → Y) (xs : List X) → ((k : ℕ) (x : X) → slice_get xs k ≡ Some x → f x ≡ g x) → map f xs ≡ map g xs
map-agree f g [] agree = refl
map-agree f g (x ∷ xs) agree = ap₂ (λ first rest. first ∷ rest) (agree 0 x refl) (map-agree f g xs (λ k. agree (suc k)))

pub take-begins : {X : Type 0} (list front : List X) (n : ℕ) → BeginsWith list front → n ≤ length front → take n list ≡ take n front
take-begins list front n begins few = ap (take n) begins.1 ∙ take-append-le n front begins.0 few

-- what stands in a list stands where the list goes on
pub stands_on : {X : Type 0} (list front : List X) → BeginsWith list front → (k : ℕ) (x : X) → slice_get front k ≡ Some x → slice_get list k ≡ Some x
stands_on {X} list front begins k x at = ap (λ (it : List X). slice_get it k) begins.1 ∙ at_longer front begins.0 k x at

-- what is decided stays decided
decided_goes_on : (ticket : Ticket) (decided : List Ticket) (found : Option Ticket) → BeginsWith (decided_with ticket decided found) decided
decided_goes_on ticket decided (Some known) = begins_self decided
decided_goes_on ticket decided None = (ticket ∷ [], refl)

stays_decided : (size : LogSize) (old new : ShownState) (event : ShownEvent) → Step size old event new → BeginsWith new.decided old.decided
stays_decided size old new (announces number) step = begins_same new.decided old.decided (ap (λ (it : ShownState). it.decided) step.4)
stays_decided size old new (reads number) step = begins_same new.decided old.decided (ap (λ (it : ShownState). it.decided) step.4)
stays_decided size old new (looks number) step = begins_same new.decided old.decided (ap (λ (it : ShownState). it.decided) step.5)
stays_decided size old new (proposes number) step =
    subst (λ (list : List Ticket). BeginsWith list old.decided) (sym (ap (λ (it : ShownState). it.decided) step.3))
    (decided_goes_on (proposal number step.0) old.decided (next old step.0))
stays_decided size old new (stops number) step = begins_same new.decided old.decided (ap (λ (it : ShownState). it.decided) step.3)

-- each entry that was found is found again
abbrev KeepsEntries : CoreState → CoreState → Type 0
KeepsEntries old new = (ticket : Ticket) (entry : Entry) → entry_under old ticket ≡ Some entry → entry_under new ticket ≡ Some entry

-- an announcement adds an entry at the end of its worker's
found_in : (entries : List (List Entry)) (ticket : Ticket) (announced : List Entry) (found : Entry) → slice_get entries ticket.worker ≡ Some announced →
    slice_get announced ticket.number ≡ Some found →
    option_and_then (λ (list : List Entry). slice_get list ticket.number) (slice_get entries ticket.worker) ≡ Some found
found_in entries ticket announced found at here = ap (option_and_then (λ (list : List Entry). slice_get list ticket.number)) at ∙ here

listed : (entries : List (List Entry)) (entry : Entry) (worker : ℕ) (announced : List Entry) → worker ≡ entry.ticket.worker →
    slice_get entries worker ≡ Some announced → slice_get (with_entry entries entry) worker ≡ Some (announced ++ entry ∷ [])
listed entries entry worker announced mine at =
    let its : slice_get entries entry.ticket.worker ≡ Some announced = ap (slice_get entries) (sym mine) ∙ at in
    ap (slice_get (with_entry entries entry)) mine
    ∙ ap (λ (found : Option (List Entry)).
    slice_get (slice_set entries entry.ticket.worker (option_map_or (λ (list : List Entry). list ++ entry ∷ []) found (entry ∷ []))) entry.ticket.worker) its
    ∙ set_here entries entry.ticket.worker (announced ++ entry ∷ []) (slice_get_within entries entry.ticket.worker announced its)

announced_keeps : (old : CoreState) (entry : Entry) → KeepsEntries old (record old { entries = with_entry old.entries entry })
announced_keeps old entry ticket found is =
    option_and_then_some (λ (list : List Entry). slice_get list ticket.number) (slice_get old.entries ticket.worker) found is (λ announced at here. ⊎_elim
    (λ (mine : ticket.worker ≡ entry.ticket.worker).
    found_in (with_entry old.entries entry) ticket (announced ++ entry ∷ []) found (listed old.entries entry ticket.worker announced mine at)
    (at_longer announced (entry ∷ []) ticket.number found here))
    (λ apart.
    found_in (with_entry old.entries entry) ticket announced found (set_elsewhere old.entries entry.ticket.worker ticket.worker _ apart ∙ at) here)
    (cases_eq ticket.worker entry.ticket.worker))

-- a core that another goes on from
pub record Grows (old new : CoreState) : Type 0 where
  pub openings : new.openings ≡ old.openings
  pub decided : BeginsWith new.shown.decided old.shown.decided
  pub log : BeginsWith (log_of new) (log_of old)

pub grows_self : (core : CoreState) → Grows core core
grows_self core = record { openings = refl; decided = begins_self core.shown.decided; log = begins_self (log_of core) }

pub grows_through : (old between new : CoreState) → Grows old between → Grows between new → Grows old new
grows_through old between new first second = record {
  openings = second.openings ∙ first.openings;
  decided = begins_through new.shown.decided between.shown.decided old.shown.decided second.decided first.decided;
  log = begins_through (log_of new) (log_of between) (log_of old) second.log first.log;
}

-- each decided ticket has its entry
abbrev pub HasEntries : CoreState → Type 0
HasEntries core = (place : ℕ) (ticket : Ticket) → slice_get core.shown.decided place ≡ Some ticket → (entry : Entry) × (entry_under core ticket ≡ Some entry)

keeping : (old new : CoreState) → HasEntries old → new.openings ≡ old.openings → BeginsWith new.shown.decided old.shown.decided → KeepsEntries old new →
    Grows old new
keeping old new has openings begins keeps = record {
  openings = openings;
  decided = begins;
  log = (
    map (entry_under new) begins.0,
    ap (map (entry_under new)) begins.1 ∙ map-append (entry_under new) old.shown.decided begins.0
        ∙ ap (λ (front : List (Option Entry)). front ++ map (entry_under new) begins.0)
        (map-agree (entry_under new) (entry_under old) old.shown.decided
        (λ place ticket at. let entry = has place ticket at in keeps ticket entry.0 entry.1 ∙ sym entry.1)),
  );
}

pub grows : (old new : CoreState) (event : Event) (reply : Option Reply) → HasEntries old → CoreStep old event new reply → Grows old new
grows old new (Announce number tenant command) reply has step =
    keeping old new has (ap (λ (core : CoreState). core.openings) step.2) (stays_decided (core_size old) old.shown new.shown (announces number) step.1)
    (λ ticket found is. ap (λ (core : CoreState). entry_under core ticket) step.2 ∙ announced_keeps old (announced_entry old number tenant command) ticket found is)
grows old new (Read number) reply has step =
    keeping old new has (ap (λ (core : CoreState). core.openings) step.1) (stays_decided (core_size old) old.shown new.shown (reads number) step.0)
    (λ ticket found is. ap (λ (core : CoreState). entry_under core ticket) step.1 ∙ is)
grows old new (Look number) reply has step =
    keeping old new has (ap (λ (core : CoreState). core.openings) step.1) (stays_decided (core_size old) old.shown new.shown (looks number) step.0)
    (λ ticket found is. ap (λ (core : CoreState). entry_under core ticket) step.1 ∙ is)
grows old new (Propose number) reply has step =
    keeping old new has (ap (λ (core : CoreState). core.openings) step.1) (stays_decided (core_size old) old.shown new.shown (proposes number) step.0)
    (λ ticket found is. ap (λ (core : CoreState). entry_under core ticket) step.1 ∙ is)
grows old new (Stop number) reply has step =
    keeping old new has (ap (λ (core : CoreState). core.openings) step.1) (stays_decided (core_size old) old.shown new.shown (stops number) step.0)
    (λ ticket found is. ap (λ (core : CoreState). entry_under core ticket) step.1 ∙ is)
grows old new (Replay number) reply has step =
    keeping old new has (ap (λ (core : CoreState). core.openings) step.8) (begins_same new.shown.decided old.shown.decided (ap (λ (core : CoreState). core.shown.decided) step.8))
    (λ ticket found is. ap (λ (core : CoreState). entry_under core ticket) step.8 ∙ is)

-- the log's place has the entry that stands there
pub log_at : (core : CoreState) (place : ℕ) → place < length core.shown.decided → slice_get (log_of core) place ≡ Some (entry_at core place)
log_at core place inside =
    let ticket = there core.shown.decided place inside in
    slice_get-map (entry_under core) core.shown.decided place ∙ ap (option_map (entry_under core)) ticket.1
    ∙ ap Some (sym (ap (option_and_then (entry_under core)) ticket.1))

pub log_long : (core : CoreState) → length (log_of core) ≡ length core.shown.decided
log_long core = length-map core.shown.decided (entry_under core)
