-- What an entry that is nobody's does to a list of tables, and what they stand for after a
-- sighting.
use Rattle.std.proofs.Common.{◌≡◌, ◌≤◌, List, [], ◌∷◌, ◌++◌, length, Option, Some, None, true, false, refl, sym, ap, subst, ◌∙◌, arith, slice_get, ◌==◌, if◌then◌else◌}
use Rattle.std.proofs.lemmas.Bool.Decides.{nat_tests}
use Rattle.std.proofs.lemmas.Iterator.Adapters.{option_map_id}
use Rattle.std.proofs.lemmas.List.{map-append}
use Rattle.std.proofs.lemmas.Option.{slice_get_past}
use Rattle.std.specs.Option.{option_map}
use Rattle.mc_model.specs.State.{TableState, next_state}
use Rattle.mc_model.specs.declared.request.Entry.{Entry}
use Rattle.uc_cells.specs.Sighting.{Sighting, entries}
use Rattle.mc_replica.proofs.Places.{same_by_places}
use Rattle.mc_model.specs.Replay.{EachStands, IsNobodys, TakeEffect, with_command}
use Rattle.model_lemmas.proofs.Replays.{EachStands-length, EachStands-push}

-- without an entry, and with an entry of a tenant without a table, all stay
TakeEffect-none : (tables : List TableState) → TakeEffect None tables tables
TakeEffect-none tables tenant = sym (option_map_id (slice_get tables tenant))

TakeEffect-unknown : (tables : List TableState) (entry : Entry) → length tables ≤ entry.tenant → TakeEffect (Some entry) tables tables
TakeEffect-unknown tables entry unknown tenant = elim (entry.tenant == tenant) as
    (λ b. (entry.tenant == tenant) ≡ b → slice_get tables tenant ≡ option_map (λ state. with_command state (if b then Some entry.command else None)) (slice_get tables tenant)) [
      | true ↦ λ same.
          let past : length tables ≤ tenant = grind (arith, nat_tests) in
          slice_get_past tables tenant past ∙ sym (ap (option_map (λ state. next_state state entry.command)) (slice_get_past tables tenant past))
      | false ↦ λ apart. sym (option_map_id (slice_get tables tenant))
    ] refl

-- an entry that is nobody's leaves all tables
pub TakeEffect-nobody : (openings : List TableState) (log : List (Option Entry)) (entry : Option Entry) (old new : List TableState) → EachStands openings log old →
    TakeEffect entry old new → IsNobodys openings entry → new ≡ old
TakeEffect-nobody openings log None old new stands takes nobody = same_by_places new old (λ tenant. takes tenant ∙ sym (TakeEffect-none old tenant))
TakeEffect-nobody openings log (Some entry) old new stands takes unknown =
    let past : length old ≤ entry.tenant = omega (arith, unknown, EachStands-length openings log old stands) in
    same_by_places new old (λ tenant. takes tenant ∙ sym (TakeEffect-unknown old entry past tenant))

-- tables that take the effect of a sighting's entry stand for one more place
entries-push : (history : List Sighting) (seen : Sighting) → entries (history ++ seen ∷ []) ≡ entries history ++ seen.entry ∷ []
entries-push history seen = map-append (λ (one : Sighting). one.entry) history (seen ∷ [])

pub EachStands-seen : (openings : List TableState) (history : List Sighting) (seen : Sighting) (found : Option Entry) (old new : List TableState) → found ≡ seen.entry →
    EachStands openings (entries history) old → TakeEffect found old new → EachStands openings (entries (history ++ seen ∷ [])) new
EachStands-seen openings history seen found old new is stands takes =
    subst (λ log. EachStands openings log new) (ap (λ entry. entries history ++ entry ∷ []) is ∙ sym (entries-push history seen))
    (EachStands-push openings (entries history) found old new stands takes)

-- as many tables as before
pub tables-stay : (openings : List TableState) (log later : List (Option Entry)) (old new : List TableState) → EachStands openings log old → EachStands openings later new → length new ≡ length old
tables-stay openings log later old new stands stands_later = EachStands-length openings later new stands_later ∙ sym (EachStands-length openings log old stands)

-- tables after one log that were opened over the same tables are the same
pub one_list : (openings : List TableState) (log : List (Option Entry)) (tables others : List TableState) →
    EachStands openings log tables → EachStands openings log others → tables ≡ others
one_list openings log tables others stands stands_too = same_by_places tables others (λ tenant. stands tenant ∙ sym (stands_too tenant))

-- so it is of one history
pub tables_agree : (openings openings2 : List TableState) (history history2 : List Sighting) (tables tables2 : List TableState) →
    openings ≡ openings2 → history ≡ history2 →
    EachStands openings (entries history) tables → EachStands openings2 (entries history2) tables2 → tables ≡ tables2
tables_agree openings openings2 history history2 tables tables2 same seen stands stands2 =
    one_list openings (entries history) tables tables2 stands
    (subst (λ (both : List TableState × List Sighting). EachStands both.0 (entries both.1) tables2) (λ i. (sym same i, sym seen i)) stands2)
