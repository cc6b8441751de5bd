-- What is noted of a connection for which events have come.
use Rattle.std.proofs.Common.{◌≡◌, ◌≢◌, ◌⊎◌, ◌≤◌, ◌∙◌, ◌∷◌, ◌&&◌, ℕ, zero, suc, Bool, true, false, not, List, [], Option, Some, None, length, slice_get, slice_set, inl, inr, ⊎_elim, ap, refl, subst, sym, arith}
use Rattle.std.proofs.lemmas.Option.{none-some, same_Some}
use Rattle.std.specs.Prelude.{unwrap_or}
use Rattle.lists.proofs.Public.{at_pushed}
use Rattle.mio.specs.Event.{event_token, is_error, is_read_closed}
use Rattle.mio.specs.declared.event.event.Event.{Event}
use Rattle.mc_connections.specs.Round.{HaveCome, IsOfConnection, NotesEvent, TellsEnd, none_came, one_came, short_of}
use Rattle.mc_connections.specs.Waiting.{short_at, short_with}
use Rattle.mc_connections.specs.declared.connections.Connections.{Connections}
use Rattle.mc_connections.specs.declared.waiting.Waiting.{Waiting}

abbrev at : List (Option Bool) → ℕ → Option Bool
at items key = unwrap_or (slice_get items key) None

-- no short read is the last one, or nothing is noted under such a key
abbrev IsTold : List (Option Bool) → ℕ → Type 0
IsTold items key = (at items key ≡ Some false) ⊎ (length items ≤ key)

no_longer : (items : List (Option Bool)) (place : ℕ) (noted : Option Bool) → length (slice_set items place noted) ≡ length items
no_longer [] place noted = refl
no_longer (x ∷ items) zero noted = refl
no_longer (x ∷ items) (suc place) noted = ap suc (no_longer items place noted)

false_stays : (items : List (Option Bool)) (key place : ℕ) (short : Bool) → at items key ≡ Some false →
    at (slice_set items place (Some (short_with (at items place) short))) key ≡ Some false
false_stays [] key place short is = absurd (none-some false is)
false_stays (x ∷ items) zero zero short is = ap (λ (noted : Option Bool). Some (short_with noted short)) is
false_stays (x ∷ items) zero (suc place) short is = is
false_stays (x ∷ items) (suc key) zero short is = is
false_stays (x ∷ items) (suc key) (suc place) short is = false_stays items key place short is

pub with_false : (noted : Option Bool) → short_with noted false ≡ false
with_false None = refl
with_false (Some true) = refl
with_false (Some false) = refl

told_now : (items : List (Option Bool)) (place : ℕ) → IsTold (slice_set items place (Some (short_with (at items place) false))) place
told_now [] place = inr (omega arith)
told_now (x ∷ items) zero = inl (ap (λ (short : Bool). Some short) (with_false x))
told_now (x ∷ items) (suc place) = ⊎_elim (λ told. inl told) (λ out. inr (omega (arith, out))) (told_now items place)

told_stays : (items : List (Option Bool)) (key place : ℕ) (short : Bool) → IsTold items key →
    IsTold (slice_set items place (Some (short_with (at items place) short))) key
told_stays items key place short told = ⊎_elim
    (λ is. inl (false_stays items key place short is))
    (λ out. let same = no_longer items place (Some (short_with (at items place) short)) in inr (omega (arith, out, same)))
    told

past_end : (items : List (Option Bool)) (key : ℕ) → length items ≤ key → at items key ≡ None
past_end [] key out = refl
past_end (x ∷ items) zero out = absurd (omega (arith, out))
past_end (x ∷ items) (suc key) out = past_end items key (omega (arith, out))

not_short : (items : List (Option Bool)) (key : ℕ) → IsTold items key → at items key ≢ Some true
not_short items key told short = ⊎_elim
    (λ is. let no : false ≡ true = same_Some false true (sym is ∙ short) in cc)
    (λ out. none-some true (sym (past_end items key out) ∙ short))
    told

-- an event changes what is noted so, or not at all
module _ (connections : Connections) (event : Event) (old new : Waiting) (P : List (Option Bool) → Type 0) (notes : NotesEvent connections event old new)
    (set : P (slice_set old.waits.items (event_token event).0 (Some (short_with (at old.waits.items (event_token event).0) (short_of event))))) (kept : P old.waits.items) where
  by_event : P new.waits.items
  by_event = ⊎_elim
      (λ lets. subst P (sym lets.1.1) set)
      (λ other. subst (λ (waiting : Waiting). P waiting.waits.items) (sym other.1) kept)
      notes

pub false_stays_noted : (connections : Connections) (first last : Waiting) (events : List Event) (key : ℕ) → HaveCome connections first events last →
    short_at first key ≡ Some false → short_at last key ≡ Some false
false_stays_noted connections first _ _ key none_came is = is
false_stays_noted connections first _ _ key (one_came earlier event between last come notes) is =
    let so_far = false_stays_noted connections first between earlier key come is in
    by_event connections event between last (λ items. at items key ≡ Some false) notes (false_stays between.waits.items key (event_token event).0 (short_of event) so_far) so_far

tells_no_short : (closed failed : Bool) → (closed ≡ true) ⊎ (failed ≡ true) → (not closed && not failed) ≡ false
tells_no_short true failed tells = refl
tells_no_short false true tells = refl
tells_no_short false false tells = ⊎_elim (λ no. cc) (λ no. cc) tells

told : (connections : Connections) (first last : Waiting) (events : List Event) (place : ℕ) (event : Event) → HaveCome connections first events last →
    slice_get events place ≡ Some event → IsOfConnection event → TellsEnd event → IsTold last.waits.items (event_token event).0
told connections first _ _ place event none_came here of tells = absurd (none-some event here)
told connections first _ _ place event (one_came earlier latest between last come notes) here of tells = ⊎_elim
    (λ before.
    let so_far = told connections first between earlier place event come before of tells in
    by_event connections latest between last (λ items. IsTold items (event_token event).0) notes
    (told_stays between.waits.items (event_token event).0 (event_token latest).0 (short_of latest) so_far) so_far)
    (λ now. by_latest (now.1))
    (at_pushed earlier latest event place here)
  where
    by_latest : latest ≡ event → IsTold last.waits.items (event_token event).0
    by_latest is = ⊎_elim
        (λ lets. let short : short_of latest ≡ false = ap short_of is ∙ tells_no_short (is_read_closed event) (is_error event) tells in
        subst (λ (one : Event). IsTold last.waits.items (event_token one).0) is
        (subst (λ (items : List (Option Bool)). IsTold items (event_token latest).0) (sym lets.1.1)
        (subst (λ (last_short : Bool). IsTold (slice_set between.waits.items (event_token latest).0 (Some (short_with (at between.waits.items (event_token latest).0) last_short))) (event_token latest).0) (sym short)
        (told_now between.waits.items (event_token latest).0))))
        (λ other. absurd (other.0 (subst IsOfConnection (sym is) of)))
        notes

pub ends_are_told : (connections : Connections) (first last : Waiting) (events : List Event) (place : ℕ) (event : Event) → HaveCome connections first events last →
    slice_get events place ≡ Some event → IsOfConnection event → TellsEnd event → short_at last (event_token event).0 ≢ Some true
ends_are_told connections first last events place event come here of tells =
    not_short last.waits.items (event_token event).0 (told connections first last events place event come here of tells)
