-- What becomes of the number under a key.
use Rattle.std.proofs.Common.{◌≡◌, ℕ, Bool, true, false, decimal, if◌then◌else◌, Option, Some, None, refl, sym, ap, ◌∙◌, true≢false}
use Rattle.std.specs.FinMap as map
use Rattle.std.specs.Option.{is_some}
use Rattle.mc_model.specs.declared.item.Item.{Item}
use Rattle.mc_model.specs.declared.key.Key.{Key}
use Rattle.mc_model.specs.declared.reply.Reply.TheVariants.{Stored, NotStored, Exists, NotFound, Deleted, Ok, Number, Values, Version, Refused}
use Rattle.mc_model.specs.declared.reply.Reply.{Reply}
use Rattle.mc_model.specs.declared.reply.TheConstants.WireNo.{NO_ROOM, NOT_A_NUMBER}
use Rattle.mc_model.specs.declared.settings.Limits.{Limits}
use Rattle.mc_model.specs.Effect.{Effect, is_acceptance, is_refusal, none_or_some, renumbered, stored, unchanged}
use Rattle.mc_model.specs.Number.{numeric_value}
use Rattle.mc_model.specs.Table.{Table, is_within}
use Rattle.mc_tables.specs.declared.meter.Meter.{Meter}
use Rattle.mc_tables.specs.declared.storage.Delta.{Delta}
use Rattle.mc_tables.specs.Deltas.{number_after, renumbered_at}
use Rattle.mc_tables.specs.Meters.{IsMeterBy, IsMeterIf}

pub not_held : (limits : Limits) (table : Table) (unique : ℕ) (key : Key) (delta : Delta) → map.get table key ≡ None →
    renumbered_at limits table unique key delta ≡ unchanged table NotFound
not_held limits table unique key delta none =
    ap (λ (o : Option Item). none_or_some o (unchanged table NotFound) (λ old. renumbered limits table unique key old (number_after delta))) none

-- a reply that accepts refuses nothing
pub accepts : (reply : Reply) → is_acceptance reply ≡ true → is_refusal reply ≡ false
accepts Stored is = refl
accepts (Number number) is = refl
accepts NotStored is = absurd (true≢false (sym is))
accepts Exists is = absurd (true≢false (sym is))
accepts NotFound is = absurd (true≢false (sym is))
accepts Deleted is = refl
accepts Ok is = refl
accepts (Values values) is = refl
accepts Version is = absurd (true≢false (sym is))
accepts (Refused refusal) is = absurd (true≢false (sym is))

-- without totals an effect leaves the table
pub leaves : (meter : Option Meter) (limits : Limits) (table : Table) (effect : Effect) → IsMeterBy meter limits table effect → is_some meter ≡ false → IsMeterBy None limits table effect
leaves None limits table effect is none = is
leaves (Some meter) limits table effect is none = absurd (true≢false none)

module _ (limits : Limits) (table : Table) (unique : ℕ) (key : Key) (delta : Delta) (old : Item) (there : map.get table key ≡ Some old) where
  -- the item with the number that follows
  abbrev next_item : ℕ → Item
  next_item number = record { flags = old.flags; block = decimal (number_after delta number); unique = unique }

  held : renumbered_at limits table unique key delta ≡ renumbered limits table unique key old (number_after delta)
  held = ap (λ (o : Option Item). none_or_some o (unchanged table NotFound) (λ old. renumbered limits table unique key old (number_after delta))) there

  spelled : (number : Option ℕ) → numeric_value old.block ≡ number → renumbered_at limits table unique key delta
      ≡ none_or_some number (unchanged table (Refused NOT_A_NUMBER)) (λ number. stored limits table key (next_item number) (Number (number_after delta number)))
  spelled number is = held
      ∙ ap (λ (o : Option ℕ). none_or_some o (unchanged table (Refused NOT_A_NUMBER)) (λ number. stored limits table key (next_item number) (Number (number_after delta number)))) is

  pub not_numeric : numeric_value old.block ≡ None → renumbered_at limits table unique key delta ≡ unchanged table (Refused NOT_A_NUMBER)
  not_numeric is = spelled None is

  by_quotas : (number : ℕ) (fits : Bool) → numeric_value old.block ≡ Some number → is_within limits (map.insert table key (next_item number)) ≡ fits →
      renumbered_at limits table unique key delta ≡ (if fits
      then record { table = map.insert table key (next_item number); reply = Number (number_after delta number) }
      else unchanged table (Refused NO_ROOM))
  by_quotas number fits is within = spelled (Some number) is
      ∙ ap (λ b. if b then record { table = map.insert table key (next_item number); reply = Number (number_after delta number) } else unchanged table (Refused NO_ROOM)) within

  -- above the quotas
  pub full : (number : ℕ) → numeric_value old.block ≡ Some number → IsMeterIf None limits (map.insert table key (next_item number)) →
      renumbered_at limits table unique key delta ≡ unchanged table (Refused NO_ROOM)
  full number is meter = by_quotas number false is (sym meter.0)

  -- within them
  pub fits : (number : ℕ) (meter : Meter) → numeric_value old.block ≡ Some number → IsMeterIf (Some meter) limits (map.insert table key (next_item number)) →
      renumbered_at limits table unique key delta ≡ record { table = map.insert table key (next_item number); reply = Number (number_after delta number) }
  fits number meter is after = by_quotas number true is (sym after.0)
