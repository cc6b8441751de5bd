-- What keeps a table within its quotas.
use Rattle.std.proofs.Common.{◌≡◌, ◌≢◌, ◌↔◌, inl, inr, ⊎_elim, ℕ, ◌+◌, ◌<◌, ◌≤◌, ◌⊎◌, nat_le, if◌then◌else◌, true, false, cond, is_some, length, Option, Some, None, refl, sym, ◌∙◌, ap, arith}
use Rattle.std.proofs.lemmas.Bool.Decides.{nat_tests}
use Rattle.std.specs.FinMap as map
use Rattle.std.specs.FinMap.{len-empty, len-insert}
use Rattle.mc_model.specs.declared.item.Item.{Item}
use Rattle.mc_model.specs.declared.key.Key.{Key}
use Rattle.mc_model.specs.declared.reply.Reply.{Reply}
use Rattle.mc_model.specs.declared.reply.Reply.TheVariants.{Refused}
use Rattle.mc_model.specs.declared.reply.TheConstants.WireNo.{NO_ROOM}
use Rattle.mc_model.specs.declared.settings.Limits.{Limits}
use Rattle.mc_model.specs.Effect.{stored, unchanged}
use Rattle.mc_model.specs.Table.{Table, count_of, is_within, key_cmp, key_cmp_total, use_of}
use Rattle.model_lemmas.proofs.Uses.{count-remove, removed, restored, use-empty, use-insert, use-remove, within_from, within_parts}
use Rattle.mc_model.specs.Use.{weight_of}

-- a table with no more than one within the quotas is within them
pub less_within : (limits : Limits) (table other : Table) → use_of other ≤ use_of table → count_of other ≤ count_of table → is_within limits table ≡ true → is_within limits other ≡ true
less_within limits table other bytes items within =
    let parts = within_parts limits table within in
    within_from limits other (omega (arith, bytes, parts.0)) (omega (arith, items, parts.1))

pub empty_within : (limits : Limits) → is_within limits map.empty ≡ true
empty_within limits = within_from limits map.empty (omega (arith, use-empty)) (omega (arith, len-empty key_cmp Item))

-- what taking out leaves is no more than what was there
pub remove_less : (table : Table) (key : Key) → (use_of (map.remove table key) ≤ use_of table) × (count_of (map.remove table key) ≤ count_of table)
remove_less table key = (omega (arith, use-remove table key), count-remove table key)

pub empty_less : (table : Table) → (use_of map.empty ≤ use_of table) × (count_of map.empty ≤ count_of table)
empty_less table = (omega (arith, use-empty), omega (arith, len-empty key_cmp Item))

-- an item under a new key, one in the place of another, and one that is taken out
same_count : (there : Option Item) (n : ℕ) (old : Item) → there ≡ Some old → cond (is_some there) n (n + 1) ≡ n
same_count None n old is = absurd (cc)
same_count (Some item) n old is = refl

one_more : (there : Option Item) (n : ℕ) → there ≡ None → cond (is_some there) n (n + 1) ≡ n + 1
one_more None n is = refl
one_more (Some item) n is = absurd (cc)

pub added : (table : Table) (key : Key) (item : Item) → map.get table key ≡ None →
    (use_of (map.insert table key item) ≡ use_of table + (length key + length item.block)) × (count_of (map.insert table key item) ≡ count_of table + 1)
added table key item is = (
  omega (arith, use-insert table key item, ap (weight_of key) is),
  len-insert key_cmp_total table key item ∙ one_more (map.get table key) (count_of table) is,
)

pub replaced : (table : Table) (key : Key) (old item : Item) → map.get table key ≡ Some old →
    (use_of (map.insert table key item) + length old.block ≡ use_of table + length item.block) × (count_of (map.insert table key item) ≡ count_of table)
replaced table key old item is = (
  omega (arith, use-insert table key item, ap (weight_of key) is),
  len-insert key_cmp_total table key item ∙ same_count (map.get table key) (count_of table) old is,
)

pub taken_out : (table : Table) (key : Key) (old : Item) → map.get table key ≡ Some old →
    (use_of (map.remove table key) + (length key + length old.block) ≡ use_of table) × (count_of (map.remove table key) + 1 ≡ count_of table)
taken_out table key old is =
    let back = added (map.remove table key) key old (removed table key) in
    let same = restored table key old is in
    (sym back.0 ∙ ap use_of (sym same), sym back.1 ∙ ap count_of (sym same))

-- an item that gives way to data that are no longer
pub replaced_within : (limits : Limits) (table : Table) (key : Key) (old new : Item) → map.get table key ≡ Some old → length new.block ≤ length old.block →
    is_within limits table ≡ true → is_within limits (map.insert table key new) ≡ true
replaced_within limits table key old new is shorter =
    less_within limits table (map.insert table key new)
    (omega (arith, shorter, (replaced table key old new is).0))
    (omega (arith, (replaced table key old new is).1))

-- what isn't within the quotas exceeds them
abbrev pub ExceedsQuotas : Limits → Table → Type 0
ExceedsQuotas limits table = (limits.bytes < use_of table) ⊎ (limits.items < count_of table)

pub exceeds_from : (limits : Limits) (table : Table) → is_within limits table ≡ false → ExceedsQuotas limits table
exceeds_from limits table above =
    elim (nat_le (use_of table) limits.bytes) as (λ b. nat_le (use_of table) limits.bytes ≡ b → ExceedsQuotas limits table) [
      | true ↦ λ bytes.
          let items : nat_le (count_of table) limits.items ≡ false = rw bytes at above in
          inr (grind (arith, nat_tests, items))
      | false ↦ λ bytes. inl (grind (arith, nat_tests, bytes))
    ] refl

pub within_or_exceeds : (limits : Limits) (table : Table) → is_within limits table ≡ true → ExceedsQuotas limits table → ⊥
within_or_exceeds limits table within exceeds =
    let parts = within_parts limits table within in
    ⊎_elim (λ bytes. omega (arith, parts.0, bytes)) (λ items. omega (arith, parts.1, items)) exceeds

-- to store is refused exactly where the table would then exceed the quotas
pub stored_refused : (limits : Limits) (table : Table) (key : Key) (item : Item) (reply : Reply) → reply ≢ Refused NO_ROOM →
    ((stored limits table key item reply).reply ≡ Refused NO_ROOM) ↔ ExceedsQuotas limits (map.insert table key item)
stored_refused limits table key item reply granted =
    let next = map.insert table key item in
    elim (is_within limits next) as (λ b. is_within limits next ≡ b →
    ((if b then record { table = next; reply = reply } else unchanged table (Refused NO_ROOM)).reply ≡ Refused NO_ROOM) ↔ ExceedsQuotas limits next) [
      | true ↦ λ within. (λ refused. absurd (granted refused), λ exceeds. absurd (within_or_exceeds limits next within exceeds))
      | false ↦ λ above. (λ refused. exceeds_from limits next above, λ exceeds. refl)
    ] refl
