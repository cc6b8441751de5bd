-- What a table has under a key after one more item was put in.
use Rattle.std.proofs.Common.{◌≡◌, ◌≢◌, true, false, ◌⊎◌, Some, None, refl, sym, ◌∙◌, ap, inl, inr}
use Rattle.std.proofs.lemmas.Bool.{both_ways, cond-false, cond-true}
use Rattle.std.specs.FinMap as map
use Rattle.std.specs.FinMap.{get-insert, get-remove}
use Rattle.mc_model.specs.declared.item.Item.{Item}
use Rattle.mc_model.specs.declared.key.Key.{Key}
use Rattle.mc_model.specs.Table.{Table, is_tied, key_cmp_total, tied_itself, tied_keys}

untied : (key other : Key) → is_tied key other ≡ false → key ≢ other
untied key other apart same = both_ways _ apart (ap (λ k. is_tied k other) same ∙ tied_itself other)

pub get-insert_same : (table : Table) (key : Key) (item : Item) → map.get (map.insert table key item) key ≡ Some item
get-insert_same table key item =
    get-insert key_cmp_total table key item key ∙ cond-true _ _ _ (tied_itself key)

pub get-remove_same : (table : Table) (key : Key) → map.get (map.remove table key) key ≡ None
get-remove_same table key =
    get-remove key_cmp_total table key key ∙ cond-true _ _ _ (tied_itself key)

-- under a key is what was put there, or what was there before
pub put_cases : (table : Table) (under key : Key) (item : Item) →
    ((under ≡ key) × (map.get (map.insert table under item) key ≡ Some item)) ⊎ ((under ≢ key) × (map.get (map.insert table under item) key ≡ map.get table key))
put_cases table under key item =
    elim (is_tied key under) as (λ b. is_tied key under ≡ b →
    ((under ≡ key) × (map.get (map.insert table under item) key ≡ Some item)) ⊎ ((under ≢ key) × (map.get (map.insert table under item) key ≡ map.get table key))) [
      | true ↦ λ tied. inl (sym (tied_keys key under tied), get-insert key_cmp_total table under item key ∙ cond-true _ _ _ tied)
      | false ↦ λ apart. inr (λ same. untied key under apart (sym same), get-insert key_cmp_total table under item key ∙ cond-false _ _ _ apart)
    ] refl

-- the same once a key was taken out
pub taken_out_cases : (table : Table) (under key : Key) →
    ((under ≡ key) × (map.get (map.remove table under) key ≡ None)) ⊎ ((under ≢ key) × (map.get (map.remove table under) key ≡ map.get table key))
taken_out_cases table under key =
    elim (is_tied key under) as (λ b. is_tied key under ≡ b →
    ((under ≡ key) × (map.get (map.remove table under) key ≡ None)) ⊎ ((under ≢ key) × (map.get (map.remove table under) key ≡ map.get table key))) [
      | true ↦ λ tied. inl (sym (tied_keys key under tied), get-remove key_cmp_total table under key ∙ cond-true _ _ _ tied)
      | false ↦ λ apart. inr (λ same. untied key under apart (sym same), get-remove key_cmp_total table under key ∙ cond-false _ _ _ apart)
    ] refl
