-- The reply to a worker's own command that was decided.
use Rattle.std.proofs.Common.{◌≡◌, ℕ, ◌+◌, ◌-◌, ◌<◌, Bool, if◌then◌else◌, List, [], ◌∷◌, ◌++◌, length, take, slice_get, Option, Some, None, refl, sym, ap, ◌∙◌, arith, eq-eqb}
use Rattle.std.specs.Option.{option_map}
use Rattle.std.proofs.lemmas.Option.{none-some, same_Some}
use Rattle.mc_model.specs.declared.id.Ticket.{Ticket}
use Rattle.mc_model.specs.declared.reply.Reply.{Reply}
use Rattle.mc_model.specs.declared.request.Entry.{Entry}
use Rattle.mc_model.specs.History.{answer_from}
use Rattle.mc_model.specs.Log.{own}
use Rattle.mc_model.specs.Replay.{answer_to, reply_to}
use Rattle.mc_model.specs.State.{TableState}
use Rattle.uc_cells.specs.Sighting.{Sighting, entries, sighting}
use Rattle.uc_log.specs.declared.pass.Pass.{Pass}
use Rattle.uc_log.specs.Passes.{own_sightings, state}
use Rattle.uc_worker.specs.Worker.{entry_or, last_entry}
use Rattle.lists.proofs.Public.{beyond, last_at, take_front}

-- what was seen is what was put
pub seen_is : (learned : List Ticket) (own : List Sighting) (place worker : ℕ) (entry : Entry) (row : ℕ) (seen : Sighting) →
    slice_get learned place ≡ Some entry.ticket → entry.ticket.worker ≡ worker →
    slice_get own entry.ticket.number ≡ Some (sighting entry.ticket (Some entry) row) → slice_get learned place ≡ Some seen.ticket →
    (seen.ticket.worker ≡ worker → slice_get own seen.ticket.number ≡ Some seen) → seen ≡ sighting entry.ticket (Some entry) row
seen_is learned own place worker entry row seen last mine put at found =
    let same : seen.ticket ≡ entry.ticket = same_Some seen.ticket entry.ticket (sym at ∙ last) in
    same_Some seen (sighting entry.ticket (Some entry) row) (sym (found (ap (λ (t : Ticket). t.worker) same ∙ mine))
    ∙ (ap (λ (t : Ticket). slice_get own t.number) same ∙ put))

own_answer : (worker : ℕ) (openings : List TableState) (log : List (Option Entry)) (entry : Entry) → entry.ticket.worker ≡ worker →
    answer_to worker openings log (Some entry) ≡ reply_to openings log (Some entry)
own_answer worker openings log entry mine = ap (λ (own : Bool). if own then reply_to openings log (Some entry) else None) (eq-eqb entry.ticket.worker worker mine)

-- the reply is that after the history before
pub reply_is : (worker place : ℕ) (openings : List TableState) (history new : List Sighting) (entry : Entry) (row : ℕ) (seen : Sighting) (reply : Option Reply) →
    seen ≡ sighting entry.ticket (Some entry) row → entry.ticket.worker ≡ worker → new ≡ history ++ seen ∷ [] → length history ≡ place →
    reply ≡ answer_to worker openings (entries history) seen.entry → reply ≡ reply_to openings (entries (take place new)) (Some entry)
reply_is worker place openings history new entry row seen reply is mine pushed here answered =
    let front : take place new ≡ history = ap (take place) pushed ∙ (ap (λ (k : ℕ). take k (history ++ seen ∷ [])) (sym here) ∙ take_front history (seen ∷ [])) in
    answered ∙ (ap (λ (s : Sighting). answer_to worker openings (entries history) s.entry) is
    ∙ (own_answer worker openings (entries history) entry mine ∙ ap (λ (list : List Sighting). reply_to openings (entries list) (Some entry)) (sym front)))

-- and its sighting stands at the place
pub stands_last : (history new : List Sighting) (seen its : Sighting) (place : ℕ) → new ≡ history ++ seen ∷ [] → length history ≡ place → seen ≡ its →
    slice_get new place ≡ Some its
stands_last history new seen its place pushed here is = (λ i. slice_get (pushed i) (sym here i)) ∙ (last_at history seen ∙ ap (λ (s : Sighting). Some s) is)

-- the entry that was put last
pub last_is : (pass : Pass) (number : ℕ) (entry : Entry) (row : ℕ) → slice_get (own_sightings pass) number ≡ Some (sighting entry.ticket (Some entry) row) →
    (state pass).announced ≡ number + 1 → last_entry pass ≡ entry
last_is pass number entry row put announced = let last : (state pass).announced - 1 ≡ number = omega arith in
    ap entry_or (ap (slice_get (own_sightings pass)) last ∙ put)

-- a tenant that is known gets a reply
pub reply_stands : (openings : List TableState) (log : List (Option Entry)) (entry : Entry) → entry.tenant < length openings →
    None ≡ reply_to openings log (Some entry) → ⊥
reply_stands openings log entry known none = by_table (slice_get openings entry.tenant) refl
  where
    replied : TableState → Reply
    replied opening = answer_from opening (own entry.tenant log) entry.command

    by_table : (found : Option TableState) → slice_get openings entry.tenant ≡ found → ⊥
    by_table None is = let out = beyond openings entry.tenant is in omega arith
    by_table (Some opening) is = none-some (replied opening) (none ∙ ap (option_map replied) is)
