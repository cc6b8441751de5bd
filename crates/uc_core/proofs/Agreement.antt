-- What the core's law says of the log, of the workers' replicas and of their tables: the theorem's
-- clauses on the state of the core.
use Rattle.std.proofs.Common.{◌≡◌, ℕ, suc, ◌<◌, List, map, take, Option, Some, None, slice_get, ⊎_elim, refl, sym, ap, ap₂, subst, ◌∙◌, arith, take-take, ◌&&◌, if◌then◌else◌, eq-eqb}
use Rattle.std.proofs.lemmas.Bool.{cases_order}
use Rattle.std.proofs.lemmas.List.{take-map}
use Rattle.std.proofs.lemmas.Simd.{map-map}
use Rattle.std.specs.Option.{option_and_then, option_map}
use Rattle.mc_model.specs.declared.id.Ticket.{Ticket}
use Rattle.mc_model.specs.declared.request.Entry.{Entry}
use Rattle.mc_model.specs.declared.shown.WorkerState.{WorkerState}
use Rattle.mc_model.specs.Legal.{IsLegal, count}
use Rattle.mc_model.specs.History.{state_from}
use Rattle.mc_model.specs.Log.{PlaceSighting, own, entries_seen, entry_for, entry_seen}
use Rattle.mc_model.specs.Replay.{EachStands, empty_tables}
use Rattle.uc_core.specs.Core.{CoreState, ReplayState, entry_under, log_of}
use Rattle.uc_core.specs.Headline.{HasReplica, LogIsSound, ReplicasAgree, StandsOnce, TablesStand, replica_of}
use Rattle.uc_core.proofs.CoreLaws.{CoreLaw, stands_with_entry}
use Rattle.lists.proofs.Public.{take_more}
use Rattle.uc_core.proofs.Lookups.{map-agree, same_by_places}
use Rattle.uc_core.proofs.Replays.{take-begins}
use Rattle.model_lemmas.proofs.Tickets.{count_front, count_own}

-- a ticket that stands earlier in a legal list would be counted before the later place
not_before : (tickets : List Ticket) (ticket : Ticket) (one other : ℕ) → IsLegal tickets →
    slice_get tickets one ≡ Some ticket → slice_get tickets other ≡ Some ticket → one < other → ⊥
not_before tickets ticket one other legal at there below =
    let earlier = legal one ticket at in
    let later = legal other ticket there in
    let grown = ap (count ticket.worker) (take_more tickets one ticket at) ∙ count_own ticket.worker (take one tickets) ticket refl in
    let front = count_front ticket.worker (suc one) (take other tickets) in
    let same = ap (count ticket.worker) (take-take (suc one) other tickets (omega arith)) in
    omega arith

stands_once : (core : CoreState) → IsLegal core.shown.decided → StandsOnce core
stands_once core legal ticket one other at there = ⊎_elim
    (λ same. same)
    (λ apart. ⊎_elim
    (λ below. absurd (not_before core.shown.decided ticket one other legal at there below))
    (λ above. absurd (not_before core.shown.decided ticket other one legal there at above))
    apart)
    (cases_order one other)

pub log_is_sound : (core : CoreState) → CoreLaw core → LogIsSound core
log_is_sound core law = record { once = stands_once core law.sound.legal; legal = law.sound.legal; announced = stands_with_entry core law }

-- what is seen of a ticket
abbrev seen : CoreState → Ticket → PlaceSighting
seen core ticket = record { ticket = ticket; entry = entry_under core ticket }

-- an entry counts for its own ticket
own_entry : (entry : Entry) (ticket : Ticket) → entry.ticket ≡ ticket → entry_for ticket entry ≡ Some entry
own_entry entry ticket own =
    let worker = eq-eqb entry.ticket.worker ticket.worker (ap (λ (it : Ticket). it.worker) own) in
    let number = eq-eqb entry.ticket.number ticket.number (ap (λ (it : Ticket). it.number) own) in
    ap₂ (λ a b. if a && b then Some entry else None) worker number

module _ (core : CoreState) (law : CoreLaw core) where
  -- a worker's replica is seen at the first places of the log
  replica_is : (number : ℕ) (worker : WorkerState) (replay : ReplayState) → HasReplica core number worker replay →
      replica_of core worker replay ≡ take replay.replayed (map (seen core) core.shown.decided)
  replica_is number worker replay has =
      let begins = (law.sound.each number worker has.0).begins in
      take-map (seen core) replay.replayed worker.learned
      ∙ ap (map (seen core)) (sym (take-begins core.shown.decided worker.learned replay.replayed begins (law.replays number worker replay has).few))
      ∙ sym (take-map (seen core) replay.replayed core.shown.decided)

  pub replicas_agree : ReplicasAgree core
  replicas_agree = record {
    prefixes = λ one other v w r s has there fewer.
        replica_is one v r has ∙ sym (take-take r.replayed s.replayed (map (seen core) core.shown.decided) fewer)
        ∙ ap (take r.replayed) (sym (replica_is other w s there));
    tables = λ one other v w r s has there same. same_by_places r.tables s.tables (λ tenant.
        (law.replays one v r has).stands tenant
        ∙ ap (λ n. option_map (λ opening. state_from opening (own tenant (take n (log_of core)))) (slice_get (empty_tables core.openings) tenant)) same
        ∙ sym ((law.replays other w s there).stands tenant));
  }

  -- each sighting's entry counts, so that the replica's entries are those of the log
  counts : (place : ℕ) (ticket : Ticket) → slice_get core.shown.decided place ≡ Some ticket → entry_seen (seen core ticket) ≡ entry_under core ticket
  counts place ticket at =
      let found = stands_with_entry core law place ticket at in
      ap (option_and_then (entry_for ticket)) found.1 ∙ own_entry found.0 ticket found.2 ∙ sym found.1

  pub tables_stand : TablesStand core
  tables_stand number worker replay has =
      let its = law.replays number worker replay has in
      let same = ap entries_seen (replica_is number worker replay has)
      ∙ sym (take-map entry_seen replay.replayed (map (seen core) core.shown.decided))
      ∙ ap (take replay.replayed) (map-map entry_seen (seen core) core.shown.decided ∙ map-agree _ (entry_under core) core.shown.decided counts) in
      (its.few, subst (λ (log : List (Option Entry)). EachStands (empty_tables core.openings) log replay.tables) (sym same) its.stands)
