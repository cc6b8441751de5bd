-- Tables after no place and after one more.
use Rattle.std.specs.Prelude.{◌≡◌, ℕ, suc, ◌+◌, ◌-◌, ◌^◌, ◌≤◌, is_some, List, [], ◌∷◌, ◌++◌, length, Option, Some, None, slice_get, refl}
use Rattle.std.specs.Option.{option_map, option_to_list}
use Rattle.std.proofs.Common.{ap, sym, ◌∙◌, true≢false, arith}
use Rattle.std.proofs.lemmas.List.{append-nil}
use Rattle.std.proofs.lemmas.Option.{none-some, same_Some, slice_get-map}
use Rattle.mc_model.specs.declared.command.Command.{Command}
use Rattle.mc_model.specs.declared.request.Entry.{Entry}
use Rattle.mc_model.specs.declared.settings.Limits.{Limits}
use Rattle.mc_model.specs.History.{answer_from, state_from}
use Rattle.model_lemmas.proofs.Histories.{state_from-none, state_from-push, uniques-le}
use Rattle.mc_model.specs.Log.{own, own_command}
use Rattle.model_lemmas.proofs.Logs.{own-few, own-push}
use Rattle.mc_model.specs.State.{TableState, empty_table, next_reply}
use Rattle.mc_model.specs.Replay.{EachStands, HaveRoom, TakeEffect, empty_tables, reply_to, with_command}

-- The opening tables are those after an empty log, and tables that take the effect of one more
-- entry are those after one more place.
opened : (found : Option TableState) (tenant : ℕ) → found ≡ option_map (λ opening. state_from opening (own tenant [])) found
opened None tenant = refl
opened (Some opening) tenant = ap Some (sym (state_from-none opening))

pub HaveRoom-empty : (limits : List Limits) (places : ℕ) → places ≤ 2 ^ 64 - 1 → HaveRoom (empty_tables limits) places
HaveRoom-empty limits places few tenant state at =
    let none : state.last_unique ≡ 0 = fresh (slice_get limits tenant) (sym (slice_get-map empty_table limits tenant) ∙ at) in
    omega (arith, none, few)
  where
    fresh : (found : Option Limits) → option_map empty_table found ≡ Some state → state.last_unique ≡ 0
    fresh None is = absurd (none-some state is)
    fresh (Some opening) is = sym (ap (λ (s : TableState). s.last_unique) (same_Some _ _ is))

pub EachStands-none : (openings : List TableState) → EachStands openings [] openings
EachStands-none openings tenant = opened (slice_get openings tenant) tenant

one_more : (opening : TableState) (list : List Command) (command : Option Command) →
    with_command (state_from opening list) command ≡ state_from opening (list ++ option_to_list command)
one_more opening list None = ap (state_from opening) (sym (append-nil list))
one_more opening list (Some command) = sym (state_from-push opening list command)

taken : (log : List (Option Entry)) (entry : Option Entry) (tenant : ℕ) (found : Option TableState) →
    option_map (λ state. with_command state (own_command tenant entry)) (option_map (λ opening. state_from opening (own tenant log)) found)
    ≡ option_map (λ opening. state_from opening (own tenant (log ++ entry ∷ []))) found
taken log entry tenant None = refl
taken log entry tenant (Some opening) =
    ap Some (one_more opening (own tenant log) (own_command tenant entry) ∙ ap (state_from opening) (sym (own-push tenant log entry)))

pub EachStands-push : (openings : List TableState) (log : List (Option Entry)) (entry : Option Entry) (old new : List TableState) →
    EachStands openings log old → TakeEffect entry old new → EachStands openings (log ++ entry ∷ []) new
EachStands-push openings log entry old new stands takes tenant =
    takes tenant ∙ ap (option_map (λ state. with_command state (own_command tenant entry))) (stands tenant) ∙ taken log entry tenant (slice_get openings tenant)

-- There are as many tables as openings, and a tenant's table answers its commands.
same_length : {X Y : Type 0} (xs : List X) (ys : List Y) → ((k : ℕ) → is_some (slice_get xs k) ≡ is_some (slice_get ys k)) → length xs ≡ length ys
same_length [] [] same = refl
same_length [] (y ∷ ys) same = absurd (true≢false (sym (same 0)))
same_length (x ∷ xs) [] same = absurd (true≢false (same 0))
same_length (x ∷ xs) (y ∷ ys) same = ap suc (same_length xs ys (λ k. same (suc k)))

is_mapped : {X Y : Type 0} (f : X → Y) (found : Option X) → is_some (option_map f found) ≡ is_some found
is_mapped f None = refl
is_mapped f (Some x) = refl

pub EachStands-length : (openings : List TableState) (log : List (Option Entry)) (tables : List TableState) → EachStands openings log tables → length tables ≡ length openings
EachStands-length openings log tables stands =
    same_length tables openings (λ tenant. ap (λ (found : Option TableState). is_some found) (stands tenant) ∙ is_mapped _ (slice_get openings tenant))

answered : (list : List Command) (command : Command) (found : Option TableState) →
    option_map (λ opening. answer_from opening list command) found ≡ option_map (λ table. next_reply table command) (option_map (λ opening. state_from opening list) found)
answered list command None = refl
answered list command (Some opening) = refl

pub reply_to-table : (openings : List TableState) (log : List (Option Entry)) (tables : List TableState) (entry : Entry) → EachStands openings log tables →
    reply_to openings log (Some entry) ≡ option_map (λ table. next_reply table entry.command) (slice_get tables entry.tenant)
reply_to-table openings log tables entry stands =
    answered (own entry.tenant log) entry.command (slice_get openings entry.tenant) ∙ sym (ap (option_map (λ table. next_reply table entry.command)) (stands entry.tenant))

-- Since its opening a table has had at most as many changes as the log has places.
few_changes : (list : List Command) (found : Option TableState) (state : TableState) → Some state ≡ option_map (λ opening. state_from opening list) found →
    (opening : TableState) × (found ≡ Some opening) × (state.last_unique ≤ opening.last_unique + length list)
few_changes list None state is = absurd (none-some state (sym is))
few_changes list (Some opening) state is =
    let same : state.last_unique ≡ (state_from opening list).last_unique = ap (λ (s : TableState). s.last_unique) (same_Some _ _ is) in
    (opening, refl, omega (arith, same, uniques-le opening list))

pub uniques-few : (openings : List TableState) (log : List (Option Entry)) (tables : List TableState) → EachStands openings log tables →
    (tenant : ℕ) (state : TableState) → slice_get tables tenant ≡ Some state →
    (opening : TableState) × (slice_get openings tenant ≡ Some opening) × (state.last_unique ≤ opening.last_unique + length log)
uniques-few openings log tables stands tenant state at =
    let few = few_changes (own tenant log) (slice_get openings tenant) state (sym at ∙ stands tenant) in
    (few.0, few.1, omega (arith, few.2, own-few tenant log))
