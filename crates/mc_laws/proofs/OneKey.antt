-- What is answered on a key, by what is under it.
use Rattle.std.proofs.Common.{◌≡◌, ◌≢◌, ◌↔◌, ℕ, ◌+◌, ◌<◌, ◌⊎◌, inl, inr, ⊎_elim, ◌≤◌, if◌then◌else◌, subst, Bool, true, false, List, [], ◌∷◌, ◌++◌, Option, Some, None, refl, sym, ◌∙◌, ap, append_assoc, arith}
use Rattle.std.proofs.lemmas.Bool.{both_ways, cond-true, eqb-true, le-leb, leb-true}
use Rattle.std.proofs.lemmas.Bool.Decides.{nat_tests}
use Rattle.std.proofs.lemmas.List.{length-append}
use Rattle.std.proofs.lemmas.List.Elements.{filter_map-append}
use Rattle.std.specs.FinMap as map
use Rattle.std.specs.FinMap.{get-empty}
use Rattle.std.specs.List.{filter_map}
use Rattle.std.specs.Prelude.{IsSomeAnd, length, nat_le, ◌==◌}
use Rattle.mc_model.specs.declared.command.Command.{Command}
use Rattle.mc_model.specs.declared.command.Command.TheVariants.{Store, Cas, Delete, Get}
use Rattle.mc_model.specs.declared.command.Verb.TheVariants.{Append, Prepend, Set}
use Rattle.mc_model.specs.declared.item.Data.{Data}
use Rattle.mc_model.specs.declared.item.Item.{Item}
use Rattle.mc_model.specs.declared.item.TheConstants.{DATA_BYTES}
use Rattle.mc_model.specs.declared.key.Key.{Key}
use Rattle.mc_model.specs.declared.reply.Reply.{Reply}
use Rattle.mc_model.specs.declared.reply.Reply.TheVariants.{Deleted, Exists, NotFound, NotStored, Stored, Refused, Values}
use Rattle.mc_model.specs.declared.reply.TheConstants.WireNo.{NO_ROOM, TOO_LARGE}
use Rattle.mc_model.specs.declared.reply.Value.{Value}
use Rattle.mc_model.specs.declared.settings.Limits.{Limits}
use Rattle.mc_model.specs.Effect.{Effect, effect, is_acceptance, is_refusal, joined, none_or_some, shown_at, shown_item, stored, unchanged}
use Rattle.mc_model.specs.History.{after, answer, changes}
use Rattle.mc_laws.specs.Words.{IsLetThrough, IsUntouched, effect_after}
use Rattle.mc_model.specs.Table.{Table, is_within, key_cmp}
use Rattle.mc_laws.proofs.Histories.{HasUnique, after-push, quotas, untouched_is_still_there}
use Rattle.mc_laws.proofs.Effects.{stored_there}
use Rattle.mc_laws.proofs.Puts.{get-remove_same}

-- what is to be stored is stored, or too much for the quotas
pub stored_or_refused : (limits : Limits) (table : Table) (key : Key) (item : Item) (reply : Reply) →
    ((stored limits table key item reply).reply ≡ reply) ⊎ ((stored limits table key item reply).reply ≡ Refused NO_ROOM)
stored_or_refused limits table key item reply =
    elim (is_within limits (map.insert table key item)) as (λ b.
    let done = if b then record { table = map.insert table key item; reply = reply } else unchanged table (Refused NO_ROOM) in
    (done.reply ≡ reply) ⊎ (done.reply ≡ Refused NO_ROOM)) [
      | true ↦ inl refl
      | false ↦ inr refl
    ]

-- cas acts as a set exactly over an item of the unique that it names
cas_over : (limits : Limits) (table : Table) (next : ℕ) (key : Key) (flags unique : ℕ) (block : Data) (item : Item) → map.get table key ≡ Some item → item.unique ≡ unique →
    effect limits table next (Cas key flags block unique) ≡ effect limits table next (Store Set key flags block)
cas_over limits table next key flags unique block item is same =
    let test : (item.unique == unique) ≡ true = grind (arith, nat_tests, same) in
    rw (is, test) refl

abbrev CasFinds : Limits → Table → ℕ → Key → ℕ → ℕ → Data → Type 0
CasFinds limits table next key flags unique block = IsLetThrough (effect limits table next (Cas key flags block unique)).reply

not_let_through : (reply : Reply) → (reply ≡ Exists) ⊎ (reply ≡ NotFound) → IsLetThrough reply → ⊥
not_let_through reply other given = ⊎_elim
    (λ exists. ⊎_elim (λ stored. let both = sym exists ∙ stored in cc) (λ quota. let both = sym exists ∙ quota in cc) given)
    (λ missing. ⊎_elim (λ stored. let both = sym missing ∙ stored in cc) (λ quota. let both = sym missing ∙ quota in cc) given)
    other

cas_finds : (limits : Limits) (table : Table) (next : ℕ) (key : Key) (flags unique : ℕ) (block : Data) → CasFinds limits table next key flags unique block →
    (there : Option Item) → map.get table key ≡ there → IsSomeAnd there (λ item. item.unique ≡ unique)
cas_finds limits table next key flags unique block given None is = absurd (not_let_through _ (inr (rw is refl)) given)
cas_finds limits table next key flags unique block given (Some item) is =
    elim (item.unique == unique) as (λ test. (item.unique == unique) ≡ test → item.unique ≡ unique) [
      | true ↦ λ same. eqb-true item.unique unique same
      | false ↦ λ differs. absurd (not_let_through _ (inl (rw (is, differs) refl)) given)
    ] refl

module _ (limits : Limits) (table : Table) (next : ℕ) (key : Key) (flags unique : ℕ) (block : Data) where
  -- what a cas is answered, by the test of the uniques and by what is under its key
  abbrev over_item : Bool → Reply
  over_item same = (if same then stored limits table key (record { flags = flags; block = block; unique = next }) Stored else unchanged table Exists).reply

  abbrev over : Option Item → Reply
  over there = (none_or_some there (unchanged table NotFound) (λ old. if old.unique == unique then stored limits table key (record { flags = flags; block = block; unique = next }) Stored else unchanged table Exists)).reply

  set_doesnt_exist : over_item true ≡ Exists → ⊥
  set_doesnt_exist exists = not_let_through (over_item true) (inl exists) (stored_or_refused limits table key _ Stored)

  set_is_found : over_item true ≡ NotFound → ⊥
  set_is_found missing = not_let_through (over_item true) (inr missing) (stored_or_refused limits table key _ Stored)

  -- a cas is let through, or its item has another unique, or isn't there
  pub cas_outcomes : IsLetThrough (over (map.get table key)) ⊎ ((over (map.get table key) ≡ Exists) ⊎ (over (map.get table key) ≡ NotFound))
  cas_outcomes =
      elim (map.get table key) as (λ there. IsLetThrough (over there) ⊎ ((over there ≡ Exists) ⊎ (over there ≡ NotFound))) [
        | None ↦ inr (inr refl)
        | Some item ↦ elim (item.unique == unique) as (λ b. IsLetThrough (over_item b) ⊎ ((over_item b ≡ Exists) ⊎ (over_item b ≡ NotFound))) [
          | true ↦ inl (stored_or_refused limits table key _ Stored)
          | false ↦ inr (inl refl)
        ]
      ]

  pub cas_exists : (over (map.get table key) ≡ Exists) ↔ IsSomeAnd (map.get table key) (λ old. old.unique ≢ unique)
  cas_exists =
      elim (map.get table key) as (λ there. (over there ≡ Exists) ↔ IsSomeAnd there (λ old. old.unique ≢ unique)) [
        | None ↦ (λ no. cc, λ no. absurd no)
        | Some item ↦ elim (item.unique == unique) as (λ b. (item.unique == unique) ≡ b → (over_item b ≡ Exists) ↔ (item.unique ≢ unique)) [
          | true ↦ λ same. (λ exists. absurd (set_doesnt_exist exists), λ differs. absurd (differs (eqb-true item.unique unique same)))
          | false ↦ λ apart. (λ exists. λ same. both_ways _ apart (grind (arith, nat_tests, same)), λ differs. refl)
        ] refl
      ]

  pub cas_not_found : (over (map.get table key) ≡ NotFound) ↔ (map.get table key ≡ None)
  cas_not_found =
      elim (map.get table key) as (λ there. (over there ≡ NotFound) ↔ (there ≡ None)) [
        | None ↦ (λ missing. refl, λ none. refl)
        | Some item ↦ elim (item.unique == unique) as (λ b. (over_item b ≡ NotFound) ↔ (Some item ≡ None)) [
          | true ↦ (λ missing. absurd (set_is_found missing), λ none. cc)
          | false ↦ (λ missing. cc, λ none. cc)
        ]
      ]

module _ (limits : Limits) where
  -- what is there after a command is there until another one touches the key
  pub held_until : (earlier between : List Command) (command : Command) (key : Key) (there : Option Item) → IsUntouched limits (earlier ++ command ∷ []) key between →
      map.get (effect_after limits earlier command).table key ≡ there → map.get (after limits (earlier ++ command ∷ between)) key ≡ there
  held_until earlier between command key there untouched is =
      rw (append_assoc earlier (command ∷ []) between) at (untouched_is_still_there limits (earlier ++ command ∷ []) key between untouched)
      ∙ (ap (λ table. map.get table key) (after-push limits earlier command) ∙ is)

  -- a get of one key
  pub get_held : (list : List Command) (key : Key) (uniques : Bool) (item : Item) → map.get (after limits list) key ≡ Some item →
      answer limits list (Get (key ∷ []) uniques) ≡ Values (shown_item uniques key item ∷ [])
  get_held list key uniques item is = rw is refl

  pub get_absent : (list : List Command) (key : Key) (uniques : Bool) → map.get (after limits list) key ≡ None → answer limits list (Get (key ∷ []) uniques) ≡ Values []
  get_absent list key uniques is = rw is refl

  -- a unique that is shown is there
  pub shown_is_there : (list : List Command) (key : Key) (shown : Value) (unique : ℕ) →
      answer limits list (Get (key ∷ []) true) ≡ Values (shown ∷ []) → shown.unique ≡ Some unique → HasUnique limits list key unique
  shown_is_there list key shown unique given is_unique =
      elim (map.get (after limits list) key) as (λ there. map.get (after limits list) key ≡ there → HasUnique limits list key unique) [
        | None ↦ λ is. let none = sym (get_absent list key true is) ∙ given in absurd (cc)
        | Some item ↦ λ is.
            let one = sym (get_held list key true item is) ∙ given in
            let same : shown_item true key item ≡ shown = cc in
            let its_unique : ◌≡◌ {A = Option ℕ} (Some item.unique) (Some unique) = ap (λ (v : Value). v.unique) same ∙ is_unique in
            record { item = item; held = is; its_unique = cc }
      ] refl

  pub cas_is_set : (list : List Command) (key : Key) (flags unique : ℕ) (block : Data) → HasUnique limits list key unique →
      effect_after limits list (Cas key flags block unique) ≡ effect_after limits list (Store Set key flags block)
  cas_is_set list key flags unique block has = cas_over (quotas limits list) (after limits list) (changes limits list + 1) key flags unique block has.item has.held has.its_unique

  pub cas_let_through : (list : List Command) (key : Key) (flags unique : ℕ) (block : Data) → HasUnique limits list key unique → IsLetThrough (answer limits list (Cas key flags block unique))
  cas_let_through list key flags unique block has =
      subst (λ (e : Effect). IsLetThrough e.reply) (sym (cas_is_set list key flags unique block has)) (stored_or_refused (quotas limits list) (after limits list) key _ Stored)

  pub let_through_has : (list : List Command) (key : Key) (flags unique : ℕ) (block : Data) → IsLetThrough (answer limits list (Cas key flags block unique)) → HasUnique limits list key unique
  let_through_has list key flags unique block given =
      elim (map.get (after limits list) key) as (λ there. map.get (after limits list) key ≡ there → HasUnique limits list key unique) [
        | None ↦ λ is. absurd (cas_finds (quotas limits list) (after limits list) (changes limits list + 1) key flags unique block given None is)
        | Some item ↦ λ is. record { item = item; held = is; its_unique = cas_finds (quotas limits list) (after limits list) (changes limits list + 1) key flags unique block given (Some item) is }
      ] refl

-- a get of several keys
pub gets_join : (limits : Limits) (table : Table) (next : ℕ) (keys more : List Key) (uniques : Bool) (found rest : List Value) →
    (effect limits table next (Get keys uniques)).reply ≡ Values found → (effect limits table next (Get more uniques)).reply ≡ Values rest →
    (effect limits table next (Get (keys ++ more) uniques)).reply ≡ Values (found ++ rest)
gets_join limits table next keys more uniques found rest here there =
    let left : filter_map (shown_at table uniques) keys ≡ found = cc in
    let right : filter_map (shown_at table uniques) more ≡ rest = cc in
    ap Values (filter_map-append (shown_at table uniques) keys more ∙ (λ i. left i ++ right i))

-- data that are not too long are stored, as a set stores them
joined_fits : (limits : Limits) (table : Table) (unique : ℕ) (key : Key) (flags : ℕ) (block : Data) → length block ≤ DATA_BYTES →
    joined limits table unique key flags block ≡ stored limits table key (record { flags = flags; block = block; unique = unique }) Stored
joined_fits limits table unique key flags block fits = cond-true _ _ _ (le-leb _ _ fits)

pub append_sets : (limits : Limits) (table : Table) (unique : ℕ) (key : Key) (old : Item) (flags : ℕ) (block : Data) → map.get table key ≡ Some old →
    length old.block + length block ≤ DATA_BYTES →
    effect limits table unique (Store Append key flags block) ≡ effect limits table unique (Store Set key old.flags (old.block ++ block))
append_sets limits table unique key old flags block is fits =
    rw is (joined_fits limits table unique key old.flags (old.block ++ block) (omega (arith, fits, length-append old.block block)))

pub prepend_sets : (limits : Limits) (table : Table) (unique : ℕ) (key : Key) (old : Item) (flags : ℕ) (block : Data) → map.get table key ≡ Some old →
    length old.block + length block ≤ DATA_BYTES →
    effect limits table unique (Store Prepend key flags block) ≡ effect limits table unique (Store Set key old.flags (block ++ old.block))
prepend_sets limits table unique key old flags block is fits =
    rw is (joined_fits limits table unique key old.flags (block ++ old.block) (omega (arith, fits, length-append block old.block)))

-- a join is refused exactly where the data are too long
joined_too_large : (limits : Limits) (table : Table) (unique : ℕ) (key : Key) (flags : ℕ) (block : Data) →
    ((joined limits table unique key flags block).reply ≡ Refused TOO_LARGE) ↔ (DATA_BYTES < length block)
joined_too_large limits table unique key flags block =
    elim (nat_le (length block) DATA_BYTES) as (λ b. nat_le (length block) DATA_BYTES ≡ b →
    ((if b then stored limits table key (record { flags = flags; block = block; unique = unique }) Stored else unchanged table (Refused TOO_LARGE)).reply ≡ Refused TOO_LARGE) ↔ (DATA_BYTES < length block)) [
      | true ↦ λ fits. (
        λ refused. absurd (⊎_elim (λ given. let both = sym given ∙ refused in cc) (λ quota. let both = sym quota ∙ refused in cc)
            (stored_or_refused limits table key (record { flags = flags; block = block; unique = unique }) Stored)),
        λ large. absurd (omega (arith, leb-true _ _ fits, large)),
      )
      | false ↦ λ large. (λ refused. grind (arith, nat_tests, large), λ longer. refl)
    ] refl

pub append_too_large : (limits : Limits) (table : Table) (unique : ℕ) (key : Key) (flags : ℕ) (block : Data) →
    ((effect limits table unique (Store Append key flags block)).reply ≡ Refused TOO_LARGE) ↔ IsSomeAnd (map.get table key) (λ old. DATA_BYTES < length old.block + length block)
append_too_large limits table unique key flags block =
    elim (map.get table key) as (λ there.
    ((none_or_some there (unchanged table NotStored) (λ old. joined limits table unique key old.flags (old.block ++ block))).reply ≡ Refused TOO_LARGE)
    ↔ IsSomeAnd there (λ old. DATA_BYTES < length old.block + length block)) [
      | None ↦ (λ no. cc, λ no. absurd no)
      | Some old ↦
          let exact = joined_too_large limits table unique key old.flags (old.block ++ block) in
          (λ refused. omega (arith, exact.0 refused, length-append old.block block), λ large. exact.1 (omega (arith, large, length-append old.block block)))
    ]

pub prepend_too_large : (limits : Limits) (table : Table) (unique : ℕ) (key : Key) (flags : ℕ) (block : Data) →
    ((effect limits table unique (Store Prepend key flags block)).reply ≡ Refused TOO_LARGE) ↔ IsSomeAnd (map.get table key) (λ old. DATA_BYTES < length old.block + length block)
prepend_too_large limits table unique key flags block =
    elim (map.get table key) as (λ there.
    ((none_or_some there (unchanged table NotStored) (λ old. joined limits table unique key old.flags (block ++ old.block))).reply ≡ Refused TOO_LARGE)
    ↔ IsSomeAnd there (λ old. DATA_BYTES < length old.block + length block)) [
      | None ↦ (λ no. cc, λ no. absurd no)
      | Some old ↦
          let exact = joined_too_large limits table unique key old.flags (block ++ old.block) in
          (λ refused. omega (arith, exact.0 refused, length-append block old.block), λ large. exact.1 (omega (arith, large, length-append block old.block)))
    ]

-- what is under the key after a join that was stored
join_there : (limits : Limits) (table : Table) (unique : ℕ) (key : Key) (flags : ℕ) (block : Data) → (joined limits table unique key flags block).reply ≡ Stored →
    map.get (joined limits table unique key flags block).table key ≡ Some (record { flags = flags; block = block; unique = unique })
join_there limits table unique key flags block given =
    elim (nat_le (length block) DATA_BYTES) as (λ test. nat_le (length block) DATA_BYTES ≡ test → map.get (joined limits table unique key flags block).table key ≡ Some (record { flags = flags; block = block; unique = unique })) [
      | true ↦ λ fits. rw fits (stored_there limits table key _ Stored (ap is_refusal (rw fits at given)))
      | false ↦ λ large. let refused = rw large at given in absurd (cc)
    ] refl

pub append_there : (limits : Limits) (table : Table) (unique : ℕ) (key : Key) (old : Item) (flags : ℕ) (block : Data) → map.get table key ≡ Some old →
    (effect limits table unique (Store Append key flags block)).reply ≡ Stored →
    map.get (effect limits table unique (Store Append key flags block)).table key ≡ Some (record { flags = old.flags; block = old.block ++ block; unique = unique })
append_there limits table unique key old flags block is given = rw is (join_there limits table unique key old.flags (old.block ++ block) (rw is at given))

pub prepend_there : (limits : Limits) (table : Table) (unique : ℕ) (key : Key) (old : Item) (flags : ℕ) (block : Data) → map.get table key ≡ Some old →
    (effect limits table unique (Store Prepend key flags block)).reply ≡ Stored →
    map.get (effect limits table unique (Store Prepend key flags block)).table key ≡ Some (record { flags = old.flags; block = block ++ old.block; unique = unique })
prepend_there limits table unique key old flags block is given = rw is (join_there limits table unique key old.flags (block ++ old.block) (rw is at given))

-- nothing is under a key that a delete named
pub delete_there : (limits : Limits) (table : Table) (unique : ℕ) (key : Key) → map.get (effect limits table unique (Delete key)).table key ≡ None
delete_there limits table unique key =
    elim (map.get table key) as (λ there. map.get table key ≡ there → map.get (effect limits table unique (Delete key)).table key ≡ None) [
      | None ↦ λ is. rw is is
      | Some old ↦ λ is. rw is (get-remove_same table key)
    ] refl

-- whether it finds something or not, a delete isn't a change
pub delete_is_no_change : (limits : Limits) (table : Table) (unique : ℕ) (key : Key) → is_acceptance (effect limits table unique (Delete key)).reply ≡ false
delete_is_no_change limits table unique key =
    elim (map.get table key) as (λ there.
    is_acceptance (none_or_some there (unchanged table NotFound) (λ old. record { table = map.remove table key; reply = Deleted })).reply ≡ false) [
      | None ↦ refl
      | Some old ↦ refl
    ]

-- a table that holds nothing shows nothing
pub nothing_shown : (uniques : Bool) (keys : List Key) → filter_map (shown_at map.empty uniques) keys ≡ []
nothing_shown uniques [] = refl
nothing_shown uniques (key ∷ keys) = rw (get-empty key_cmp key) (nothing_shown uniques keys)
