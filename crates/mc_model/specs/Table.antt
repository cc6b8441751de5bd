-- A tenant's table: what it holds under each key. In memcached's doc/protocol.txt an item is
-- "identified with the help of a key".
use Rattle.std.specs.Prelude.{◌≡◌, ℕ, ◌+◌, ◌&&◌, Bool, true, List, length, nat_le, sum_by, refl}
use Rattle.std.specs.Coded.{Coded, code_by, coded×, coded_ℕ, coded_list}
use Rattle.std.specs.Cmp.{Equal-is, IsTotalOrder, eq_by_cmp_equiv}
use Rattle.std.specs.Cmp.Lexicographic.{nat_list_cmp_total, slice_cmp}
use Rattle.std.specs.FinMap as map
use Rattle.std.specs.Ordering.{eq_by_cmp, nat_cmp}
use Rattle.std.specs.declared.cmp.Ordering.{Ordering}
use Rattle.mc_model.specs.declared.item.Item.{Item}
use Rattle.mc_model.specs.declared.key.Key.{Key}
use Rattle.mc_model.specs.declared.settings.Limits.{Limits}

-- keys in the order of their bytes; only the equality of keys matters to a table
abbrev pub key_cmp : Key → Key → Ordering
key_cmp = slice_cmp nat_cmp

pub key_cmp_total : IsTotalOrder key_cmp
key_cmp_total = nat_list_cmp_total

-- keys that tie are one key
pub key_cmp_exact : map.IsAntisymmetric key_cmp
key_cmp_exact = map.slice_cmp-IsAntisymmetric map.nat_cmp-IsAntisymmetric

-- the map's own test of two keys
abbrev pub is_tied : Key → Key → Bool
is_tied = eq_by_cmp key_cmp

pub tied_keys : (key other : Key) → is_tied key other ≡ true → key ≡ other
tied_keys key other tied = key_cmp_exact key other ((Equal-is (key_cmp key other)).0 tied)

pub tied_itself : (key : Key) → is_tied key key ≡ true
tied_itself = (eq_by_cmp_equiv key_cmp_total).refl

-- a finite map from keys to items
abbrev pub Table : Type 0
Table = map.FinMap key_cmp Item

-- the bytes that an item counts for: those of its key and its data
abbrev pub weight : Key × Item → ℕ
weight held = length held.0 + length held.1.block

-- the bytes of all keys and data in total
abbrev pub use_of : Table → ℕ
use_of table = sum_by weight (map.entries table)

-- the number of items
abbrev pub count_of : Table → ℕ
count_of table = map.len table

-- whether a table is within a tenant's quotas (this project's profile)
abbrev pub is_within : Limits → Table → Bool
is_within limits table = nat_le (use_of table) limits.bytes && nat_le (count_of table) limits.items

-- how a table is stored as a model's value
abbrev pub coded_item : Coded Item
coded_item =
    code_by (ℕ × (List ℕ × ℕ)) (coded× coded_ℕ (coded× (coded_list coded_ℕ) coded_ℕ))
    (λ i. (i.flags, (i.block, i.unique)))
    (λ p. record { flags = p.0; block = p.1.0; unique = p.1.1 }) (λ _. refl)

abbrev pub coded_table : Coded Table
coded_table = map.code (coded_list coded_ℕ) coded_item
