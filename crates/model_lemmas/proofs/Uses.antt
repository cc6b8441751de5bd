-- How use and count change when an item is put under a key or a key is removed.
use Rattle.std.specs.Prelude.{◌≡◌, ℕ, suc, ◌+◌, ◌-◌, ◌≤◌, ◌&&◌, Bool, true, false, T, List, [], ◌∷◌, Option, Some, None, cond, is_some, length, sum_by, refl}
use Rattle.std.proofs.Common.{ap, sym, subst, ◌∙◌, arith}
use Rattle.std.proofs.lemmas.Bool.{and_from, and_parts, le-leb, leb-true}
use Rattle.std.proofs.lemmas.List.Sums.{sum_by-cons}
use Rattle.std.specs.declared.cmp.Ordering.TheVariants.{Less, Equal, Greater}
use Rattle.std.specs.FinMap as map
use Rattle.std.specs.FinMap.{entries-insert, entries_sorted, get-entries, get-insert, get-remove, len-empty, len-entries, len-remove, same_map}
use Rattle.std.specs.FinMap.Entries.{by_order, find, is_sorted, length-put, put}
use Rattle.std.specs.Ordering.{is_eq}
use Rattle.mc_model.specs.declared.item.Item.{Item}
use Rattle.mc_model.specs.declared.key.Key.{Key}
use Rattle.mc_model.specs.declared.settings.Limits.{Limits}
use Rattle.mc_model.specs.Table.{Table, count_of, is_tied, is_within, key_cmp, key_cmp_exact, key_cmp_total, tied_itself, tied_keys, use_of, weight}
use Rattle.mc_model.specs.Use.{use_under, weight_of}

second : (a b : Bool) → T (a && b) → T b
second true b both = both
second false b both = absurd both

-- a put that makes the list longer shows that its key wasn't there
not_found : (is_there : Bool) (n : ℕ) → suc (suc n) ≡ cond is_there (suc n) (suc n + 1) → is_there ≡ false
not_found true n is = absurd (omega (arith, is))
not_found false n is = refl

nothing : (there : Option Item) (key : Key) → is_some there ≡ false → weight_of key there ≡ 0
nothing None key is = refl
nothing (Some item) key is = absurd (subst T is tt)

sum_put : (key : Key) (item : Item) (held : List (Key × Item)) → T (is_sorted key_cmp held) →
    sum_by weight (put key_cmp key item held) + weight_of key (find key_cmp key held) ≡ sum_by weight held + weight (key, item)
sum_put key item [] sorted = omega arith
sum_put key item (entry ∷ held) sorted =
    elim (key_cmp key entry.0) as (λ o. key_cmp key entry.0 ≡ o →
    sum_by weight (by_order o ((key, item) ∷ entry ∷ held) ((entry.0, item) ∷ held) (entry ∷ put key_cmp key item held)) + weight_of key (cond (is_eq o) (Some entry.1) (find key_cmp key held))
    ≡ sum_by weight (entry ∷ held) + weight (key, item)) [
      | Less ↦ λ less.
          let absent = not_found (is_some (cond (is_eq Less) (Some entry.1) (find key_cmp key held))) (length held) (rw less at (length-put key_cmp key_cmp_total key item (entry ∷ held) sorted)) in
          let none = nothing (cond (is_eq Less) (Some entry.1) (find key_cmp key held)) key absent in
          omega (arith, none, sum_by-cons weight (key, item) (entry ∷ held))
      | Equal ↦ λ same. omega (arith, sum_by-cons weight (entry.0, item) held, sum_by-cons weight entry held)
      | Greater ↦ λ greater.
          let rest = sum_put key item held (second _ _ sorted) in
          omega (arith, rest, sum_by-cons weight entry (put key_cmp key item held), sum_by-cons weight entry held)
    ] refl

pub use-insert : (table : Table) (key : Key) (item : Item) → use_of (map.insert table key item) + use_under table key ≡ use_of table + (length key + length item.block)
use-insert table key item =
    rw (entries-insert key_cmp_total table key item, get-entries table key) (sum_put key item (map.entries table) (entries_sorted table))

pub use-empty : use_of map.empty ≡ 0
use-empty = ap (sum_by weight) (none (map.entries map.empty) (sym (len-entries map.empty) ∙ len-empty key_cmp Item))
  where
    none : (held : List (Key × Item)) → length held ≡ 0 → held ≡ []
    none [] is = refl
    none (entry ∷ held) is = absurd (omega (arith, is))

-- putting back what was under a key restores the table
put_back : (is_it : Bool) (there here : Option Item) → (is_it ≡ true → there ≡ here) → there ≡ cond is_it here (cond is_it None there)
put_back true there here same = same refl
put_back false there here same = refl

pub restored : (table : Table) (key : Key) (item : Item) → map.get table key ≡ Some item → table ≡ map.insert (map.remove table key) key item
restored table key item is = same_map key_cmp_total key_cmp_exact _ _ (λ q.
    put_back (is_tied q key) (map.get table q) (Some item) (λ tied. ap (map.get table) (tied_keys q key tied) ∙ is)
    ∙ sym (get-insert key_cmp_total (map.remove table key) key item q ∙ ap (cond (is_tied q key) (Some item)) (get-remove key_cmp_total table key q)))

not_there : (is_it : Bool) (there : Option Item) → (is_it ≡ true → there ≡ None) → cond is_it None there ≡ there
not_there true there absent = sym (absent refl)
not_there false there absent = refl

same_without : (table : Table) (key : Key) → map.get table key ≡ None → map.remove table key ≡ table
same_without table key is = same_map key_cmp_total key_cmp_exact _ _ (λ q.
    get-remove key_cmp_total table key q ∙ not_there (is_tied q key) (map.get table q) (λ tied. ap (map.get table) (tied_keys q key tied) ∙ is))

pub removed : (table : Table) (key : Key) → map.get (map.remove table key) key ≡ None
removed table key = get-remove key_cmp_total table key key ∙ ap (λ b. cond b None (map.get table key)) (tied_itself key)

pub use-remove : (table : Table) (key : Key) → use_of (map.remove table key) + use_under table key ≡ use_of table
use-remove table key =
    elim (map.get table key) as (λ there. map.get table key ≡ there → use_of (map.remove table key) + weight_of key there ≡ use_of table) [
      | None ↦ λ is. omega (arith, ap use_of (same_without table key is))
      | Some item ↦ λ is.
          let back = use-insert (map.remove table key) key item in
          omega (arith, ap use_of (restored table key item is), ap (weight_of key) (removed table key), back)
    ] refl

-- a table within its quotas, in numbers
pub within_parts : (limits : Limits) (table : Table) → is_within limits table ≡ true → (use_of table ≤ limits.bytes) × (count_of table ≤ limits.items)
within_parts limits table within = let parts = and_parts _ _ within in (leb-true _ _ parts.0, leb-true _ _ parts.1)

pub within_from : (limits : Limits) (table : Table) → use_of table ≤ limits.bytes → count_of table ≤ limits.items → is_within limits table ≡ true
within_from limits table bytes items = and_from _ _ (le-leb _ _ bytes) (le-leb _ _ items)

-- removing a key leaves no more items
fewer : (is_there : Bool) (n : ℕ) → cond is_there (n - 1) n ≤ n
fewer true n = omega arith
fewer false n = omega arith

pub count-remove : (table : Table) (key : Key) → count_of (map.remove table key) ≤ count_of table
count-remove table key = omega (arith, len-remove key_cmp_total table key, fewer (map.contains_key table key) (count_of table))
