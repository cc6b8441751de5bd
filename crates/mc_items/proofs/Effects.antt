-- What one entry does to a list of tables.
use Rattle.std.proofs.Common.{◌≡◌, ◌≢◌, ℕ, zero, suc, ◌<◌, List, [], ◌∷◌, length, get_or, Option, Some, None, Bool, true, false, true≢false, refl, sym, ap, ◌∙◌, arith, slice_get, slice_set, ◌==◌, if◌then◌else◌}
use Rattle.std.proofs.lemmas.Bool.Decides.{nat_tests}
use Rattle.std.proofs.lemmas.Iterator.Adapters.{option_map_id}
use Rattle.std.proofs.lemmas.Option.{slice_get_read}
use Rattle.std.specs.Option.{option_map}
use Rattle.mc_model.specs.State.{TableState, next_reply, next_state}
use Rattle.mc_model.specs.declared.request.Entry.{Entry}
use Rattle.mc_model.specs.Replay.{EachStands, TakeEffect, reply_to, with_command}
use Rattle.model_lemmas.proofs.Replays.{reply_to-table}
use Rattle.mc_model.specs.declared.reply.Reply.{Reply}
use Rattle.mc_items.specs.Asker.{answer_for, is_own, reply_for}

-- what was set at a place is read there
get_set_same : {X : Type 0} (xs : List X) (i : ℕ) (x : X) → i < length xs → slice_get (slice_set xs i x) i ≡ Some x
get_set_same [] i x lt = absurd (omega (arith, lt))
get_set_same (y ∷ xs) zero x lt = refl
get_set_same (y ∷ xs) (suc i) x lt = get_set_same xs i x (omega (arith, lt))

-- at any other place it is what it was
get_set_other : {X : Type 0} (xs : List X) (i k : ℕ) (x : X) → i ≢ k → slice_get (slice_set xs i x) k ≡ slice_get xs k
get_set_other [] i k x differ = refl
get_set_other (y ∷ xs) zero zero x differ = absurd (differ refl)
get_set_other (y ∷ xs) zero (suc k) x differ = refl
get_set_other (y ∷ xs) (suc i) zero x differ = refl
get_set_other (y ∷ xs) (suc i) (suc k) x differ = get_set_other xs i k x (λ same. differ (ap suc same))

-- the entry's own table changes, and no other
pub TakeEffect-set : (tables : List TableState) (place : ℕ) (state next : TableState) (entry : Entry) →
    place ≡ entry.tenant → place < length tables → state ≡ get_or tables place state → next ≡ next_state state entry.command →
    TakeEffect (Some entry) tables (slice_set tables place next)
TakeEffect-set tables place state next entry own inside at is tenant = elim (entry.tenant == tenant) as
    (λ b. (entry.tenant == tenant) ≡ b → slice_get (slice_set tables place next) tenant ≡ option_map (λ state. with_command state (if b then Some entry.command else None)) (slice_get tables tenant)) [
      | true ↦ λ same.
          let here : place ≡ tenant = grind (arith, nat_tests) in
          ap (slice_get (slice_set tables place next)) (sym here) ∙ get_set_same tables place next inside ∙ ap Some is
          ∙ sym (ap (option_map (λ state. next_state state entry.command)) (ap (slice_get tables) (sym here) ∙ slice_get_read tables (length tables) place state refl inside at))
      | false ↦ λ apart.
          let elsewhere : place ≢ tenant = grind (arith, nat_tests) in
          get_set_other tables place tenant next elsewhere ∙ sym (option_map_id (slice_get tables tenant))
    ] refl

-- the asker's own entry is answered by its tenant's table
module _ (asker : Option ℕ) (entry : Entry) (tables : List TableState) (own : is_own asker entry ≡ true) where
  abbrev reply_of : Option Reply
  reply_of = option_map (λ (table : TableState). next_reply table entry.command) (slice_get tables entry.tenant)

  pub reply_for-own : reply_for asker tables (Some entry) ≡ reply_of
  reply_for-own = by_asker asker own
    where
      by_asker : (some : Option ℕ) → is_own some entry ≡ true → reply_for some tables (Some entry) ≡ reply_of
      by_asker None is = absurd (true≢false (sym is))
      by_asker (Some worker) is = ap (λ (b : Bool). if b then reply_of else None) is

  pub answer_for-own : (openings : List TableState) (log : List (Option Entry)) → EachStands openings log tables →
      answer_for asker openings log (Some entry) ≡ reply_of
  answer_for-own openings log stands = by_asker asker own
    where
      by_asker : (some : Option ℕ) → is_own some entry ≡ true → answer_for some openings log (Some entry) ≡ reply_of
      by_asker None is = absurd (true≢false (sym is))
      by_asker (Some worker) is = ap (λ (b : Bool). if b then reply_to openings log (Some entry) else None) is ∙ reply_to-table openings log tables entry stands

  pub own_reply : (place : ℕ) (state : TableState) (reply : Reply) → place ≡ entry.tenant → place < length tables → state ≡ get_or tables place state →
      reply ≡ next_reply state entry.command → Some reply ≡ reply_of
  own_reply place state reply here inside at is = ap Some is
      ∙ sym (ap (option_map (λ (table : TableState). next_reply table entry.command)) (ap (slice_get tables) (sym here) ∙ slice_get_read tables (length tables) place state refl inside at))
