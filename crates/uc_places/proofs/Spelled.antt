-- The list that the words of the places encode.
use Rattle.std.proofs.Common.{◌≡◌, ◌≢◌, ℕ, zero, suc, ◌+◌, ◌<◌, List, [], ◌∷◌, ◌++◌, take, take_all, get_or, sym, refl, ap, ◌∙◌, subst, arith, add-one, slice_get, slice_index, Option, Some, None}
use mathlib.Core.Option.{some, some-injective, some-ne-none}
use lib.ListN.{get_elem?}
use Rattle.mc_model.specs.declared.id.TheConstants.{WORKERS}
use Rattle.mc_model.specs.declared.id.Ticket.{Ticket}
use Rattle.lists.proofs.Public.{beyond, take_more}
use Rattle.uc_places.specs.Desk.{AreTickets, Spells}
use Rattle.uc_places.specs.Words.{place_word, said_ticket, said_word}
use Rattle.uc_places.proofs.Wording.{decoded}

pub get_is : (list : List ℕ) (i x : ℕ) → get_elem? list i ≡ some x → get_or list i 0 ≡ x
get_is [] i x e = absurd (some-ne-none x (sym e))
get_is (y ∷ list) zero x e = some-injective y x e
get_is (y ∷ list) (suc i) x e = get_is list i x e

module _ (words : List ℕ) (first places : ℕ) (tickets : List Ticket) (spells : Spells words first places tickets) where
  -- a place's ticket is the next one of the list
  pub spelled_step : (place found : ℕ) → place < places → get_elem? words (first + place) ≡ some found → found ≢ 0 → (ticket : Ticket) →
      ticket ≡ said_ticket found →
      take place tickets ++ ticket ∷ [] ≡ take (place + 1) tickets
  spelled_step place found room at ne ticket is = by_found (slice_get tickets place) refl
    where
      by_found : (there : Option Ticket) → slice_get tickets place ≡ there → take place tickets ++ ticket ∷ [] ≡ take (place + 1) tickets
      by_found None e = absurd (ne (sym (get_is words (first + place) found at) ∙ (spells.at place room ∙ ap place_word e)))
      by_found (Some y) e =
          let same : found ≡ said_word y = sym (get_is words (first + place) found at) ∙ (spells.at place room ∙ ap place_word e) in
          let small = spells.small place y e in
          let t : ticket ≡ y = is ∙ (ap said_ticket same ∙ decoded y (omega arith)) in
          ap (λ (z : Ticket). take place tickets ++ z ∷ []) t ∙ (sym (take_more tickets place y e)
          ∙ ap (λ (k : ℕ). take k tickets) (sym (add-one place)))

  -- at an empty place the list ends
  pub spelled_end : (place found : ℕ) → place < places → get_elem? words (first + place) ≡ some found → found ≡ 0 → take place tickets ≡ tickets
  spelled_end place found room at none_there = by_found (slice_get tickets place) refl
    where
      by_found : (there : Option Ticket) → slice_get tickets place ≡ there → take place tickets ≡ tickets
      by_found None e = take_all place tickets (beyond tickets place e)
      by_found (Some y) e = let same : found ≡ said_word y = sym (get_is words (first + place) found at) ∙ (spells.at place room
          ∙ ap place_word e) in absurd (omega arith)

  pub spelled_all : take places tickets ≡ tickets
  spelled_all = take_all places tickets spells.few

  -- each word other than 0 is that of a worker's ticket
  pub spelled_tickets : AreTickets words first places
  spelled_tickets place room ne = by_found (slice_get tickets place) refl
    where
      by_found : (there : Option Ticket) → slice_get tickets place ≡ there → (said_ticket (slice_index words (first + place))).worker < WORKERS
      by_found None e = absurd (ne (spells.at place room ∙ ap place_word e))
      by_found (Some y) e = let small = spells.small place y e in
          subst (λ (z : Ticket). z.worker < WORKERS) (sym (ap said_ticket (spells.at place room ∙ ap place_word e) ∙ decoded y (omega arith))) small
