-- What an event makes of one worker's fields.
use Rattle.std.proofs.Common.{◌≡◌, ◌≢◌, ℕ, ◌+◌, ◌≤◌, ◌==◌, List, [], ◌∷◌, ◌++◌, length, take, replicate, ⊎_elim, Option, Some, None, Bool, true, false, if◌then◌else◌, refl, sym, ap, ◌∙◌, subst, arith, slice_get, slice_set}
use Rattle.std.specs.Option.{option_map}
use Rattle.std.proofs.lemmas.List.{take_more}
use Rattle.std.proofs.lemmas.List.Sums.{count_by-le-length}
use Rattle.std.proofs.lemmas.Option.{get_or_from_slice_get, none-some, same_Some, slice_get-map, slice_get_within}
use Rattle.mc_model.specs.declared.command.Command.{Command}
use Rattle.mc_model.specs.declared.id.Ticket.{Ticket}
use Rattle.mc_model.specs.declared.request.Entry.{Entry}
use Rattle.mc_model.specs.declared.settings.Limits.{Limits}
use Rattle.mc_model.specs.Effect.{is_acceptance}
use Rattle.mc_model.specs.Legal.{count}
use Rattle.mc_model.specs.Log.{own_command}
use Rattle.mc_model.specs.Replay.{TakeEffect, empty_tables, with_command}
use Rattle.mc_model.specs.State.{TableState, empty_table, next_reply}
use Rattle.uc_core.specs.Kept.{AreCounts}
use Rattle.lists.proofs.Public.{at_replicated, at_set}
use Rattle.model_lemmas.proofs.Tickets.{count_other, count_own}

-- what stands at a place comes next
pub take-next : {X : Type 0} (xs : List X) (n : ℕ) (x : X) → slice_get xs n ≡ Some x → take (n + 1) xs ≡ take n xs ++ x ∷ []
take-next xs n x is = take_more xs n x (slice_get_within xs n x is) ∙ ap (λ z. take n xs ++ z ∷ []) (get_or_from_slice_get xs n x x is)

-- one more command raises a table's latest unique by one at most
raised : (b : Bool) (n m : ℕ) → n ≤ m → n + (if b then 1 else 0) ≤ m + 1
raised true n m few = omega (arith, few)
raised false n m few = omega (arith, few)

with_command-few : (state : TableState) (command : Option Command) (n : ℕ) → state.last_unique ≤ n → (with_command state command).last_unique ≤ n + 1
with_command-few state None n few = omega (arith, few)
with_command-few state (Some command) n few = raised (is_acceptance (next_reply state command)) state.last_unique n few

abbrev pub UniquesFew : List TableState → ℕ → Type 0
UniquesFew tables n = (tenant : ℕ) (state : TableState) → slice_get tables tenant ≡ Some state → state.last_unique ≤ n

one_table : (command : Option Command) (found : Option TableState) (n : ℕ) → ((state : TableState) → found ≡ Some state → state.last_unique ≤ n) →
    (state : TableState) → option_map (λ state. with_command state command) found ≡ Some state → state.last_unique ≤ n + 1
one_table command None n few state is = absurd (none-some state is)
one_table command (Some old) n few state is =
    subst (λ (s : TableState). s.last_unique ≤ n + 1) (same_Some _ _ is) (with_command-few old command n (few old refl))

pub UniquesFew-taken : (found : Option Entry) (old new : List TableState) (n : ℕ) → TakeEffect found old new → UniquesFew old n → UniquesFew new (n + 1)
UniquesFew-taken found old new n takes few tenant state is =
    one_table (own_command tenant found) (slice_get old tenant) n (few tenant) state (sym (takes tenant) ∙ is)

none_yet : (found : Option Limits) (n : ℕ) (state : TableState) → option_map empty_table found ≡ Some state → state.last_unique ≤ n
none_yet None n state is = absurd (none-some state is)
none_yet (Some limits) n state is = subst (λ (s : TableState). s.last_unique ≤ n) (same_Some _ _ is) (omega arith)

pub UniquesFew-empty : (openings : List Limits) (tables : List TableState) (n : ℕ) → tables ≡ empty_tables openings → UniquesFew tables n
UniquesFew-empty openings tables n are tenant state is =
    none_yet (slice_get openings tenant) n state
    (sym (slice_get-map empty_table openings tenant) ∙ ap (λ (ts : List TableState). slice_get ts tenant) (sym are) ∙ is)

-- before any ticket each count is 0
pub AreCounts-none : (workers : ℕ) (tickets : List Ticket) (counts : List ℕ) → counts ≡ replicate workers 0 → AreCounts (take 0 tickets) counts
AreCounts-none workers tickets counts are number many at =
    sym (at_replicated workers number 0 many (ap (λ (them : List ℕ). slice_get them number) (sym are) ∙ at)) ∙ none tickets
  where
    none : (some : List Ticket) → 0 ≡ count number (take 0 some)
    none [] = refl
    none (ticket ∷ some) = refl

-- no count is above the number of tickets
pub AreCounts-few : (tickets : List Ticket) (counts : List ℕ) (number many : ℕ) → AreCounts tickets counts → slice_get counts number ≡ Some many →
    many ≤ length tickets
AreCounts-few tickets counts number many are at =
    omega (arith, are number many at, count_by-le-length (λ (ticket : Ticket). ticket.worker == number) tickets)

-- one more ticket raises its worker's count by one, where that is kept
pub AreCounts-raised : (tickets : List Ticket) (counts : List ℕ) (ticket : Ticket) (many : ℕ) → AreCounts tickets counts →
    slice_get counts ticket.worker ≡ Some many → AreCounts (tickets ++ ticket ∷ []) (slice_set counts ticket.worker (many + 1))
AreCounts-raised tickets counts ticket many are at number found is = ⊎_elim
    (λ (here : (number ≡ ticket.worker) × (many + 1 ≡ found)).
    let own = count_own number tickets ticket (sym here.0) in
    let was = are number many (ap (slice_get counts) here.0 ∙ at) in omega (arith, own, was, here.1))
    (λ (apart : (number ≢ ticket.worker) × (slice_get counts number ≡ Some found)).
    are number found apart.1 ∙ sym (count_other number tickets ticket (λ same. apart.0 (sym same))))
    (at_set counts ticket.worker number (many + 1) found is)

pub AreCounts-unkept : (tickets : List Ticket) (counts : List ℕ) (ticket : Ticket) → AreCounts tickets counts →
    slice_get counts ticket.worker ≡ None → AreCounts (tickets ++ ticket ∷ []) counts
AreCounts-unkept tickets counts ticket are none number found is =
    are number found is
    ∙ sym (count_other number tickets ticket (λ same. none-some found (sym none ∙ ap (slice_get counts) same ∙ is)))
