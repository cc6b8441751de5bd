-- A replay that is answered by items is that of a retrieval, which changes no table.
use Rattle.std.proofs.Common.{◌≡◌, ℕ, ◌+◌, ◌-◌, ◌%◌, ◌^◌, ◌==◌, Bool, true, false, if◌then◌else◌, true≢false, List, length, ◌++◌, Option, Some, None, slice_get, eqb-true, refl, sym, ap, ◌∙◌, arith}
use Rattle.std.specs.Prelude.{nat_le, decimal}
use Rattle.std.proofs.lemmas.Option.{none-some, same_Some}
use Rattle.std.specs.FinMap as map
use Rattle.std.specs.Option.{option_map}
use Rattle.mc_model.specs.declared.command.Command.{Command}
use Rattle.mc_model.specs.declared.command.Command.TheVariants.{Store, Cas, Get, Delete, Incr, Decr, Flush, Limit}
use Rattle.mc_model.specs.declared.command.Verb.TheVariants.{Set, Add, Replace, Append, Prepend}
use Rattle.mc_model.specs.declared.item.Data.{Data}
use Rattle.mc_model.specs.declared.item.Item.{Item}
use Rattle.mc_model.specs.declared.item.TheConstants.{DATA_BYTES}
use Rattle.mc_model.specs.declared.key.Key.{Key}
use Rattle.mc_model.specs.declared.reply.Reply.{Reply}
use Rattle.mc_model.specs.declared.reply.Reply.TheVariants.{Stored, Number, Values}
use Rattle.mc_model.specs.declared.reply.Value.{Value}
use Rattle.mc_model.specs.declared.request.Entry.{Entry}
use Rattle.mc_model.specs.declared.settings.Limits.{Limits}
use Rattle.mc_model.specs.Effect.{Effect, joined, none_or_some, renumbered, stored}
use Rattle.mc_model.specs.Log.{own_command}
use Rattle.mc_model.specs.Number.{numeric_value}
use Rattle.mc_model.specs.Replay.{TakeEffect, reply_from, with_command}
use Rattle.mc_model.specs.State.{TableState, next_reply, next_state}
use Rattle.mc_model.specs.Table.{Table, is_within}
use Rattle.uc_core.proofs.Lookups.{same_by_places}

-- whether a reply shows items
abbrev shows_items : Reply → Bool
shows_items (Values values) = true
shows_items _ = false

-- an effect whose reply shows none
abbrev ShowsNone : Effect → Type 0
ShowsNone done = shows_items done.reply ≡ false

none_either_way : (test : Bool) (done other : Effect) → ShowsNone done → ShowsNone other → ShowsNone (if test then done else other)
none_either_way true done other one two = one
none_either_way false done other one two = two

none_of_both : {A : Type 0} (there : Option A) (absent : Effect) (held : A → Effect) → ShowsNone absent → ((value : A) → ShowsNone (held value)) →
    ShowsNone (none_or_some there absent held)
none_of_both None absent held without with_it = without
none_of_both (Some value) absent held without with_it = with_it value

module _ (limits : Limits) (table : Table) (unique : ℕ) (key : Key) where
  none_stored : (item : Item) (reply : Reply) → shows_items reply ≡ false → ShowsNone (stored limits table key item reply)
  none_stored item reply none = none_either_way (is_within limits (map.insert table key item)) _ _ none refl

  none_joined : (flags : ℕ) (block : Data) → ShowsNone (joined limits table unique key flags block)
  none_joined flags block = none_either_way (nat_le (length block) DATA_BYTES) _ _ (none_stored _ Stored refl) refl

  none_renumbered : (old : Item) (next : ℕ → ℕ) → ShowsNone (renumbered limits table unique key old next)
  none_renumbered old next = none_of_both (numeric_value old.block) _ _ refl (λ number. none_stored _ (Number (next number)) refl)

-- a command that is answered by items leaves the table as it is
module _ (state : TableState) where
  abbrev Keeps : Command → Type 0
  Keeps command = shows_items (next_reply state command) ≡ true → next_state state command ≡ state

  none_shown : (command : Command) → shows_items (next_reply state command) ≡ false → Keeps command
  none_shown command none shown = absurd (true≢false (sym shown ∙ none))

  keeps : (command : Command) → Keeps command
  keeps (Get keys uniques) = λ shown. ap (λ number. record state { last_unique = number }) (omega arith)
  keeps (Store Set key flags block) = none_shown (Store Set key flags block) (none_stored state.limits state.table 0 key _ Stored refl)
  keeps (Store Add key flags block) = none_shown (Store Add key flags block)
      (none_of_both (map.get state.table key) _ _ (none_stored state.limits state.table 0 key _ Stored refl) (λ old. refl))
  keeps (Store Replace key flags block) = none_shown (Store Replace key flags block)
      (none_of_both (map.get state.table key) _ _ refl (λ old. none_stored state.limits state.table 0 key _ Stored refl))
  keeps (Store Append key flags block) = none_shown (Store Append key flags block)
      (none_of_both (map.get state.table key) _ _ refl (λ old. none_joined state.limits state.table (state.last_unique + 1) key old.flags (old.block ++ block)))
  keeps (Store Prepend key flags block) = none_shown (Store Prepend key flags block)
      (none_of_both (map.get state.table key) _ _ refl (λ old. none_joined state.limits state.table (state.last_unique + 1) key old.flags (block ++ old.block)))
  keeps (Cas key flags block seen) = none_shown (Cas key flags block seen)
      (none_of_both (map.get state.table key) _ _ refl (λ old. none_either_way (old.unique == seen) _ _ (none_stored state.limits state.table 0 key _ Stored refl) refl))
  keeps (Delete key) = none_shown (Delete key) (none_of_both (map.get state.table key) _ _ refl (λ old. refl))
  keeps (Incr key by) = none_shown (Incr key by)
      (none_of_both (map.get state.table key) _ _ refl (λ old. none_renumbered state.limits state.table (state.last_unique + 1) key old (λ number. (number + by) % (2 ^ 64))))
  keeps (Decr key by) = none_shown (Decr key by)
      (none_of_both (map.get state.table key) _ _ refl (λ old. none_renumbered state.limits state.table (state.last_unique + 1) key old (λ number. number - by)))
  keeps Flush = none_shown Flush refl
  keeps (Limit new) = none_shown (Limit new) refl

kept_at : (command : Option Command) (found : Option TableState) → ((state : TableState) → found ≡ Some state → with_command state command ≡ state) →
    option_map (λ state. with_command state command) found ≡ found
kept_at command None keep = refl
kept_at command (Some state) keep = ap Some (keep state refl)

-- what the reply to an own entry says of its tenant's table
replied : (number : ℕ) (tables : List TableState) (entry : Entry) (reply : Reply) (state : TableState) →
    reply_from number tables (Some entry) ≡ Some reply → slice_get tables entry.tenant ≡ Some state → next_reply state entry.command ≡ reply
replied number tables entry reply state is at = by_test (entry.ticket.worker == number) is
  where
    by_test : (mine : Bool) → (if mine then option_map (λ (table : TableState). next_reply table entry.command) (slice_get tables entry.tenant) else None) ≡ Some reply →
        next_reply state entry.command ≡ reply
    by_test true told = same_Some _ reply (sym (ap (option_map (λ (table : TableState). next_reply table entry.command)) at) ∙ told)
    by_test false told = absurd (none-some reply told)

pub retrieval_keeps : (number : ℕ) (old new : List TableState) (found : Option Entry) (values : List Value) → reply_from number old found ≡ Some (Values values) →
    TakeEffect found old new → new ≡ old
retrieval_keeps number old new None values is takes = absurd (none-some (Values values) is)
retrieval_keeps number old new (Some entry) values is takes = same_by_places new old
    (λ tenant. takes tenant ∙ kept_at (own_command tenant (Some entry)) (slice_get old tenant) (λ state at. by_tenant tenant state at (entry.tenant == tenant) refl))
  where
    by_tenant : (tenant : ℕ) (state : TableState) → slice_get old tenant ≡ Some state → (same : Bool) → (entry.tenant == tenant) ≡ same →
        with_command state (if same then Some entry.command else None) ≡ state
    by_tenant tenant state at true same =
        let there = ap (slice_get old) (eqb-true entry.tenant tenant same) ∙ at in
        keeps state entry.command (ap shows_items (replied number old entry (Values values) state is there))
    by_tenant tenant state at false same = refl
