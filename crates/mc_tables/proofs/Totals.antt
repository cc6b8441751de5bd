-- What a table counts for in total, and what its quotas allow.
use Rattle.std.proofs.Common.{◌≡◌, ℕ, ◌+◌, ◌-◌, ◌≤◌, ◌&&◌, true, false, Bool, cond, nat_le, length, Option, Some, None, refl, sym, ap, subst, ◌∙◌, arith}
use Rattle.std.proofs.lemmas.Option.{none-some, same_Some}
use Rattle.std.specs.FinMap as map
use Rattle.std.specs.FinMap.{len-empty, len-insert, len-remove}
use Rattle.std.specs.Option.{is_some, option_map}
use Rattle.mc_model.specs.declared.item.Item.{Item}
use Rattle.mc_model.specs.declared.key.Key.{Key}
use Rattle.mc_model.specs.declared.settings.Limits.{Limits}
use Rattle.mc_model.specs.Table.{Table, count_of, is_within, key_cmp, key_cmp_total, use_of}
use Rattle.mc_model.specs.Use.{use_under, weight_of}
use Rattle.model_lemmas.proofs.Uses.{removed, restored, use-empty, use-insert, use-remove}
use Rattle.mc_tables.specs.declared.storage.Found.{Found}
use Rattle.mc_tables.specs.Found.{found_of}

-- the totals are those of the table
abbrev pub Totals : Table → ℕ → ℕ → Type 0
Totals table used count = (used ≡ use_of table) × (count ≡ count_of table)

pub none_held : (table : Table) → table ≡ map.empty → Totals table 0 0
none_held table is = subst (λ (t : Table). Totals t 0 0) (sym is) (sym use-empty, sym (len-empty key_cmp Item))

-- what was found, as what is held
some_map : (there : Option Item) → is_some (option_map found_of there) ≡ is_some there
some_map None = refl
some_map (Some item) = refl

pub some_found : (table : Table) (key : Key) (found : Option Found) → found ≡ option_map found_of (map.get table key) → is_some found ≡ is_some (map.get table key)
some_found table key found is = ap (λ (o : Option Found). is_some o) is ∙ some_map (map.get table key)

pub weight_some : (table : Table) (key : Key) (old : Found) → Some old ≡ option_map found_of (map.get table key) → length key + old.len ≡ use_under table key
weight_some table key old is = elim (map.get table key) as (λ there. Some old ≡ option_map found_of there → length key + old.len ≡ weight_of key there) [
  | None ↦ λ none. absurd (none-some old (sym none))
  | Some item ↦ λ same. ap (λ (f : Found). length key + f.len) (same_Some _ _ same)
] is

pub weight_none : (table : Table) (key : Key) → None ≡ option_map found_of (map.get table key) → 0 ≡ use_under table key
weight_none table key is = elim (map.get table key) as (λ there. None ≡ option_map found_of there → 0 ≡ weight_of key there) [
  | None ↦ λ none. refl
  | Some item ↦ λ same. absurd (none-some _ same)
] is

pub item_found : (table : Table) (key : Key) (old : Found) → Some old ≡ option_map found_of (map.get table key) → (item : Item) × (map.get table key ≡ Some item)
item_found table key old is = elim (map.get table key) as (λ there. Some old ≡ option_map found_of there → (item : Item) × (there ≡ Some item)) [
  | None ↦ λ none. absurd (none-some old (sym none))
  | Some item ↦ λ same. (item, refl)
] is

-- what is under a key is a part of the total
pub part : (table : Table) (key : Key) (used count under : ℕ) → Totals table used count → under ≡ use_under table key → under ≤ used
part table key used count under totals is = omega (arith, use-remove table key, totals.0, is)

-- and one of the items
pub one_of : (table : Table) (key : Key) (used count : ℕ) (old : Found) → Totals table used count → Some old ≡ option_map found_of (map.get table key) → 1 ≤ count
one_of table key used count old totals is =
    let there = item_found table key old is in
    let more : count_of table ≡ count_of (map.remove table key) + 1 =
    ap count_of (restored table key there.0 there.1) ∙ len-insert key_cmp_total (map.remove table key) key there.0
    ∙ ap (λ (o : Option Item). cond (is_some o) (count_of (map.remove table key)) (count_of (map.remove table key) + 1)) (removed table key) in
    omega (arith, totals.1, more)

-- the totals after a key was removed
pub without : (table new : Table) (key : Key) (used count under : ℕ) (old : Found) → Totals table used count → Some old ≡ option_map found_of (map.get table key) →
    under ≡ use_under table key → new ≡ map.remove table key → Totals new (used - under) (count - 1)
without table new key used count under old totals is under_is new_is =
    let there = item_found table key old is in
    let less : used - under ≡ use_of (map.remove table key) = omega (arith, use-remove table key, totals.0, under_is) in
    let fewer : count - 1 ≡ count_of (map.remove table key) = omega (arith, totals.1, len-remove key_cmp_total table key, ap (λ (o : Option Item). cond (is_some o) (count_of table - 1) (count_of table)) there.1) in
    subst (λ (t : Table). Totals t (used - under) (count - 1)) (sym new_is) (less, fewer)

module _ (table : Table) (key : Key) (item : Item) (used count under added : ℕ) (found : Option Found) (totals : Totals table used count)
    (is : found ≡ option_map found_of (map.get table key)) (under_is : under ≡ use_under table key) (added_is : added ≡ length key + length item.block) where
  put_used : used - under + added ≡ use_of (map.insert table key item)
  put_used = omega (arith, use-insert table key item, part table key used count under totals under_is, totals.0, under_is, added_is)

  put_count : cond (is_some found) count (count + 1) ≡ count_of (map.insert table key item)
  put_count =
      ap (λ (b : Bool). cond b count (count + 1)) (some_found table key found is)
      ∙ ap (λ n. cond (is_some (map.get table key)) n (n + 1)) totals.1
      ∙ sym (len-insert key_cmp_total table key item)

  -- the totals after an item was put under a key
  pub with_put : (new : Table) → new ≡ map.insert table key item → Totals new (used - under + added) (cond (is_some found) count (count + 1))
  with_put new new_is = subst (λ (t : Table). Totals t (used - under + added) (cond (is_some found) count (count + 1))) (sym new_is) (put_used, put_count)

  -- and whether the quotas allow it
  pub fits_put : (limits : Limits) → (nat_le (used - under + added) limits.bytes && nat_le (cond (is_some found) count (count + 1)) limits.items) ≡ is_within limits (map.insert table key item)
  fits_put limits = λ i. nat_le (put_used i) limits.bytes && nat_le (put_count i) limits.items

  -- they don't where the bytes are too many, or the items
  pub no_room : (limits : Limits) → false ≡ nat_le (used - under + added) limits.bytes → false ≡ is_within limits (map.insert table key item)
  no_room limits full = ap (λ (b : Bool). b && nat_le (cond (is_some found) count (count + 1)) limits.items) full ∙ fits_put limits

  pub no_place : (limits : Limits) → true ≡ nat_le (used - under + added) limits.bytes → false ≡ nat_le (cond (is_some found) count (count + 1)) limits.items →
      false ≡ is_within limits (map.insert table key item)
  no_place limits room full = (λ i. room i && full i) ∙ fits_put limits

  -- and else they do
  pub all_fits : (limits : Limits) → true ≡ nat_le (used - under + added) limits.bytes → true ≡ nat_le (cond (is_some found) count (count + 1)) limits.items →
      true ≡ is_within limits (map.insert table key item)
  all_fits limits room place = (λ i. room i && place i) ∙ fits_put limits
