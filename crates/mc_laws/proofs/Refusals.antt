-- A command is refused for the quotas exactly where it would be accepted under others, and would leave a
-- table that exceeds them.
use Rattle.std.proofs.Common.{◌≡◌, ◌≢◌, ◌↔◌, ℕ, ◌+◌, ◌-◌, ◌%◌, ◌^◌, ◌++◌, length, Bool, true, false, Option, Some, None, refl, if◌then◌else◌}
use Rattle.std.proofs.lemmas.Bool.{both_ways}
use Rattle.std.specs.Prelude.{nat_le, ◌==◌, decimal}
use Rattle.std.specs.FinMap as map
use Rattle.mc_model.specs.declared.command.Command.{Command}
use Rattle.mc_model.specs.declared.command.Command.TheVariants.{Store, Cas, Get, Delete, Incr, Decr, Flush, Limit}
use Rattle.mc_model.specs.declared.command.Verb.TheVariants.{Set, Add, Replace, Append, Prepend}
use Rattle.mc_model.specs.declared.item.Data.{Data}
use Rattle.mc_model.specs.declared.item.Item.{Item}
use Rattle.mc_model.specs.declared.item.TheConstants.{DATA_BYTES}
use Rattle.mc_model.specs.declared.key.Key.{Key}
use Rattle.mc_model.specs.declared.reply.Reply.{Reply}
use Rattle.mc_model.specs.declared.reply.Reply.TheVariants.{Deleted, Number, Ok, Refused, Stored}
use Rattle.mc_model.specs.declared.reply.TheConstants.WireNo.{NO_ROOM}
use Rattle.mc_model.specs.declared.settings.Limits.{Limits}
use Rattle.mc_model.specs.Effect.{Effect, effect, is_acceptance, joined, none_or_some, renumbered, stored, unchanged}
use Rattle.mc_model.specs.Number.{numeric_value}
use Rattle.mc_model.specs.Table.{Table, is_within}
use Rattle.mc_laws.proofs.Quotas.{ExceedsQuotas, stored_refused}

-- what is done under the quotas, by what would be done under others that let it through
abbrev pub IsRefusedExactly : Limits → Effect → Effect → Type 0
IsRefusedExactly limits done would = would.reply ≢ Refused NO_ROOM → (done.reply ≡ Refused NO_ROOM) ↔ ((is_acceptance would.reply ≡ true) × ExceedsQuotas limits would.table)

exact_none_or_some : {A : Type 0} (limits : Limits) (there : Option A) (absent without : Effect) (held would : A → Effect) →
    IsRefusedExactly limits absent without → ((value : A) → IsRefusedExactly limits (held value) (would value)) →
    IsRefusedExactly limits (none_or_some there absent held) (none_or_some there without would)
exact_none_or_some limits None absent without held would none some = none
exact_none_or_some limits (Some value) absent without held would none some = some value

exact_if : (limits : Limits) (test : Bool) (done would other another : Effect) → IsRefusedExactly limits done would → IsRefusedExactly limits other another →
    IsRefusedExactly limits (if test then done else other) (if test then would else another)
exact_if limits true done would other another passed failed = passed
exact_if limits false done would other another passed failed = failed

module _ (limits wide : Limits) (table : Table) (unique : ℕ) where
  -- the quotas refuse nothing that isn't accepted under others
  exact_same : (done : Effect) → is_acceptance done.reply ≡ false → IsRefusedExactly limits done done
  exact_same done other granted = (λ refused. absurd (granted refused), λ both. absurd (both_ways _ other both.0))

  exact_kept : (reply : Reply) → is_acceptance reply ≡ false → IsRefusedExactly limits (unchanged table reply) (unchanged table reply)
  exact_kept reply other = exact_same (unchanged table reply) other

  exact_stored : (key : Key) (item : Item) (reply : Reply) → is_acceptance reply ≡ true →
      IsRefusedExactly limits (stored limits table key item reply) (stored wide table key item reply)
  exact_stored key item reply accepted =
      let next = map.insert table key item in
      elim (is_within wide next) as (λ b. IsRefusedExactly limits (stored limits table key item reply) (if b then record { table = next; reply = reply } else unchanged table (Refused NO_ROOM))) [
        | true ↦ λ granted. let exact = stored_refused limits table key item reply granted in (λ refused. (accepted, exact.0 refused), λ both. exact.1 both.1)
        | false ↦ λ granted. absurd (granted refl)
      ]

  exact_joined : (key : Key) (flags : ℕ) (block : Data) → IsRefusedExactly limits (joined limits table unique key flags block) (joined wide table unique key flags block)
  exact_joined key flags block =
      exact_if limits (nat_le (length block) DATA_BYTES) _ _ _ _ (exact_stored key (record { flags = flags; block = block; unique = unique }) Stored refl) (exact_kept _ refl)

  exact_renumbered : (key : Key) (old : Item) (next : ℕ → ℕ) → IsRefusedExactly limits (renumbered limits table unique key old next) (renumbered wide table unique key old next)
  exact_renumbered key old next =
      exact_none_or_some limits (numeric_value old.block) _ _ _ _ (exact_kept _ refl)
      (λ number. exact_stored key (record { flags = old.flags; block = decimal (next number); unique = unique }) (Number (next number)) refl)

  pub refused_exactly : (command : Command) → IsRefusedExactly limits (effect limits table unique command) (effect wide table unique command)
  refused_exactly (Store Set key flags block) = exact_stored key _ Stored refl
  refused_exactly (Store Add key flags block) = exact_none_or_some limits (map.get table key) _ _ _ _ (exact_stored key _ Stored refl) (λ old. exact_kept _ refl)
  refused_exactly (Store Replace key flags block) = exact_none_or_some limits (map.get table key) _ _ _ _ (exact_kept _ refl) (λ old. exact_stored key _ Stored refl)
  refused_exactly (Store Append key new_flags block) =
      exact_none_or_some limits (map.get table key) _ _ _ _ (exact_kept _ refl) (λ old. exact_joined key old.flags (old.block ++ block))
  refused_exactly (Store Prepend key new_flags block) =
      exact_none_or_some limits (map.get table key) _ _ _ _ (exact_kept _ refl) (λ old. exact_joined key old.flags (block ++ old.block))
  refused_exactly (Cas key flags block seen) =
      exact_none_or_some limits (map.get table key) _ _ _ _ (exact_kept _ refl) (λ old. exact_if limits (old.unique == seen) _ _ _ _ (exact_stored key _ Stored refl) (exact_kept _ refl))
  refused_exactly (Get keys uniques) = exact_kept _ refl
  refused_exactly (Delete key) =
      exact_none_or_some limits (map.get table key) _ _ _ _ (exact_kept _ refl)
      (λ old. exact_same (record { table = map.remove table key; reply = Deleted }) refl)
  refused_exactly (Incr key by) =
      exact_none_or_some limits (map.get table key) _ _ _ _ (exact_kept _ refl) (λ old. exact_renumbered key old (λ number. (number + by) % (2 ^ 64)))
  refused_exactly (Decr key by) =
      exact_none_or_some limits (map.get table key) _ _ _ _ (exact_kept _ refl) (λ old. exact_renumbered key old (λ number. number - by))
  refused_exactly Flush = exact_same (record { table = map.empty; reply = Ok }) refl
  refused_exactly (Limit new) = exact_kept _ refl
