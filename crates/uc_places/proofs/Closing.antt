-- The seats that an opening gives, and what the words are when they are closed.
use Rattle.std.proofs.Common.{◌≡◌, ℕ, zero, suc, ◌+◌, List, [], ◌∷◌, ◌++◌, ⊎_elim, length, length-append, Result, Ok, Err, IfOk, sym, ap, ◌∙◌, subst, arith, slice_get, slice_index, Some}
use Rattle.std.proofs.lemmas.List.{map-append}
use Rattle.std.proofs.lemmas.Option.{none-some}
use Rattle.atomic_table.specs.Seated.{TableId}
use Rattle.atomic_table.specs.Table.{Final, Seen}
use Rattle.mc_model.specs.declared.shown.LogSize.{LogSize}
use Rattle.mc_model.specs.declared.shown.ShownState.{ShownState}
use Rattle.mc_model.specs.Lawful.{IsReached}
use Rattle.lists.proofs.Public.{at_pushed}
use Rattle.uc_places.specs.declared.seats.Idle.{Idle}
use Rattle.uc_places.specs.declared.seats.Seat.{Seat}
use Rattle.uc_places.specs.declared.view.Kind.TheVariants.{Seated}
use Rattle.uc_places.specs.declared.view.Part.{Part}
use Rattle.uc_places.specs.declared.view.View.{View}
use Rattle.uc_places.specs.Calls.{known}
use Rattle.uc_places.specs.Desk.{Spells}
use Rattle.uc_places.specs.End.{IsPartOf, parts_of}
use Rattle.uc_places.specs.Rule.{IsKept}
use Rattle.uc_places.specs.Run.{AreAmong, AreOneRun, all_parts, part_of}
use Rattle.uc_places.specs.Seats.{desk_of}
use Rattle.uc_places.specs.Told.{new_seat}
use Rattle.uc_places.proofs.Moves.{TableState, each_seated, is_reached, law, one_run, seated}
use Rattle.uc_places.proofs.Wording.{ticket_small}

-- one more seat at the end
pub snoc_seats : (size : LogSize) (id : TableId) (old new : List Idle) (number : ℕ) (seat : Idle) → new ≡ old ++ seat ∷ [] → length old ≡ number →
    ((worker : ℕ) (x : Idle) → slice_get old worker ≡ Some x → (x.desk.seat.table_id ≡ id) × (x.desk.seat.me.0 ≡ new_seat size worker)) →
    (seat.desk.seat.table_id ≡ id) × (seat.desk.seat.me.0 ≡ new_seat size number) →
    (worker : ℕ) (x : Idle) → slice_get new worker ≡ Some x → (x.desk.seat.table_id ≡ id) × (x.desk.seat.me.0 ≡ new_seat size worker)
snoc_seats size id old new number seat pushed long before last worker x at = ⊎_elim (λ (h : slice_get old worker ≡ Some x). before worker x h)
    (λ (h : (worker ≡ length old) × (seat ≡ x)). subst (λ (z : ℕ × Idle). (z.1.desk.seat.table_id ≡ id)
    × (z.1.desk.seat.me.0 ≡ new_seat size z.0)) (λ j. (sym (h.0 ∙ long) j, h.1 j)) last)
    (at_pushed old seat x worker (ap (λ (l : List Idle). slice_get l worker) (sym pushed) ∙ at))

pub snoc_length : (old new : List Idle) (number : ℕ) (seat : Idle) → new ≡ old ++ seat ∷ [] → length old ≡ number → length new ≡ number + 1
snoc_length old new number seat pushed long = ap length pushed ∙ (length-append old (seat ∷ []) ∙ ap (λ (k : ℕ). k + 1) long)

-- at the end the words encode the log
spells : (size : LogSize) (s : TableState) (kept : IsKept size s) (words : List ℕ) → s.words ≡ words →
    Spells words (1 + size.workers) size.places kept.log.decided
spells size s kept words same = let law = law size s kept in let few = kept.small.1 in record {
  few = law.few;
  at = λ place room. ap (λ (some : List ℕ). slice_index some (1 + size.workers + place)) (sym same) ∙ kept.shows.places place room;
  small = λ place ticket at. let below = (ticket_small size kept.log law place ticket at).0 in omega arith;
}

-- what the words are at the end: they encode the log of a reachable state, which a seat that stays
-- open shows
pub closes : (size : LogSize) (id : ℕ) (view : View) (words : List ℕ) (slots : List Unit) → view.kind ≡ Seated →
    Final (Seen (IsKept size) id view) words slots →
    (log : ShownState) × IsReached size log × Spells words (1 + size.workers) size.places log.decided × IsPartOf size log view
    × AreOneRun size (all_parts view) log
closes size id view words slots is final =
    let s = final.0 in let kept = final.1.0 in let at = final.1.1 in let law = law size s kept in
    let mine = seated size s kept id view at is in let few = kept.small.1 in (
      kept.log,
      is_reached size s kept,
      spells size s kept words final.2,
      (mine.1, mine.3),
      one_run 0 id (view, []) is size s kept at,
    )

-- the same, if no seat is left
pub closes_bare : (size : LogSize) (words : List ℕ) (slots : List Unit) → Final (IsKept size) words slots →
    (log : ShownState) × IsReached size log × Spells words (1 + size.workers) size.places log.decided × AreOneRun size [] log
closes_bare size words slots final = let kept = final.1 in (
  kept.log,
  is_reached size final.0 kept,
  spells size final.0 kept words final.2,
  record {
    run = kept.run;
    lead = kept.leads;
    sized = λ place part at. absurd (none-some part at);
    shown = λ place part at. absurd (none-some part at);
    own = λ place part at. absurd (none-some part at);
    each = each_seated size final.0 kept;
  },
)

-- one more seat is joined into those before
pub among_pushed : (seats : List Seat) (seat : Seat) (old new : List Part) → AreAmong (parts_of seats) old →
    AreAmong (part_of (known (desk_of seat)) ∷ old) new → AreAmong (parts_of (seats ++ seat ∷ [])) new
among_pushed seats seat old new before all place part at = let own : Part = part_of (known (desk_of seat)) in
    ⊎_elim (λ (h : slice_get (parts_of seats) place ≡ Some part). let there = before place part h in all (suc there.0) part there.1)
    (λ (h : (place ≡ length (parts_of seats)) × (own ≡ part)). all 0 part (ap (λ (p : Part). Some p) h.1))
    (at_pushed (parts_of seats) own part place
    (ap (λ (l : List Part). slice_get l place) (sym (map-append (λ (s : Seat). part_of (known (desk_of s))) seats (seat ∷ []))) ∙ at))

-- a seat alone
pub among_first : (one : Part) (rest : List Part) → AreAmong (one ∷ []) (one ∷ rest)
among_first one rest zero part at = (0, at)
among_first one rest (suc place) part at = absurd (none-some part at)

pub if_ok : {A E : Type 0} (r : Result A E) (P Q : A → Type 0) → ((v : A) → P v → Q v) → IfOk r P → IfOk r Q
if_ok (Ok v) P Q f h = f v h
if_ok (Err e) P Q f h = h
