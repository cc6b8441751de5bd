-- Each effect has one of three shapes: nothing changes, an item goes under a key, or items are
-- taken out.
use Rattle.std.proofs.Common.{◌≡◌, ◌⊎◌, inl, inr, ℕ, ◌≤◌, ◌+◌, ◌-◌, ◌%◌, ◌^◌, Bool, true, false, if◌then◌else◌, ◌++◌, length, Option, Some, None, refl}
use Rattle.std.specs.Prelude.{nat_le, ◌==◌, decimal}
use Rattle.std.specs.FinMap as map
use Rattle.std.specs.FinMap.{get-empty}
use Rattle.mc_model.specs.declared.command.Command.{Command}
use Rattle.mc_model.specs.declared.command.Command.TheVariants.{Store, Cas, Get, Delete, Incr, Decr, Flush, Limit}
use Rattle.mc_model.specs.declared.command.Verb.TheVariants.{Set, Add, Replace, Append, Prepend}
use Rattle.mc_model.specs.declared.item.Data.{Data}
use Rattle.mc_model.specs.declared.item.Item.{Item}
use Rattle.mc_model.specs.declared.item.TheConstants.{DATA_BYTES}
use Rattle.mc_model.specs.declared.key.Key.{Key}
use Rattle.mc_model.specs.declared.reply.Reply.{Reply}
use Rattle.mc_model.specs.declared.reply.Reply.TheVariants.{Stored, NotStored, Exists, NotFound, Number, Refused}
use Rattle.mc_model.specs.declared.reply.TheConstants.WireNo.{NOT_A_NUMBER, NO_ROOM, TOO_LARGE}
use Rattle.mc_model.specs.declared.settings.Limits.{Limits}
use Rattle.mc_model.specs.Effect.{Effect, none_or_some, renumbered, effect, is_acceptance, is_refusal, joined, stored, unchanged}
use Rattle.mc_laws.specs.Words.{ActsOn}
use Rattle.mc_model.specs.Number.{numeric_value}
use Rattle.mc_model.specs.State.{limits_by}
use Rattle.mc_model.specs.Table.{Table, count_of, is_within, key_cmp, use_of}
use Rattle.mc_laws.proofs.Quotas.{empty_less, remove_less}
use Rattle.mc_laws.proofs.Puts.{get-insert_same, taken_out_cases}

-- the table stays; only a refused command acts on a key without changing it
pub record IsNothing (table : Table) (command : Command) (done : Effect) : Type 0 where
  pub same : done.table ≡ table
  pub no_change : is_acceptance done.reply ≡ false
  pub refused : (key : Key) → ActsOn key command → is_refusal done.reply ≡ true

-- an item with the change's unique goes under the one key that the command acts on, and the table
-- is within the quotas
pub record IsChange (limits : Limits) (table : Table) (unique : ℕ) (command : Command) (done : Effect) : Type 0 where
  pub under : Key
  pub item : Item
  pub put : done.table ≡ map.insert table under item
  pub within : is_within limits done.table ≡ true
  pub its_unique : item.unique ≡ unique
  pub accepted : is_acceptance done.reply ≡ true
  pub granted : is_refusal done.reply ≡ false
  pub only : (key : Key) → ActsOn key command → under ≡ key
  pub acts : ActsOn under command

-- what is under a key after items were taken out: nothing where the command acts on it, else what
-- was there
pub record IsTakenOut (table : Table) (command : Command) (done : Effect) : Type 0 where
  pub no_change : is_acceptance done.reply ≡ false
  pub granted : is_refusal done.reply ≡ false
  pub less : (use_of done.table ≤ use_of table) × (count_of done.table ≤ count_of table)
  pub left : (key : Key) →
      (ActsOn key command × (map.get done.table key ≡ None)) ⊎ ((ActsOn key command → ⊥) × (map.get done.table key ≡ map.get table key))

abbrev pub Shape : Limits → Table → ℕ → Command → Effect → Type 0
Shape limits table unique command done = IsNothing table command done ⊎ (IsChange limits table unique command done ⊎ IsTakenOut table command done)

-- a shape by the cases of what is there, and by a test
shape_none_or_some : {A : Type 0} (limits : Limits) (table : Table) (unique : ℕ) (command : Command) (there : Option A) (absent : Effect) (held : A → Effect) →
    Shape limits table unique command absent → ((value : A) → Shape limits table unique command (held value)) → Shape limits table unique command (none_or_some there absent held)
shape_none_or_some limits table unique command None absent held without with_it = without
shape_none_or_some limits table unique command (Some value) absent held without with_it = with_it value

shape_if : (limits : Limits) (table : Table) (unique : ℕ) (command : Command) (test : Bool) (done other : Effect) →
    Shape limits table unique command done → Shape limits table unique command other → Shape limits table unique command (if test then done else other)
shape_if limits table unique command true done other passed failed = passed
shape_if limits table unique command false done other passed failed = failed

module _ (limits : Limits) (table : Table) (unique : ℕ) where
  -- a refusal changes nothing
  kept : (command : Command) (reply : Reply) → is_acceptance reply ≡ false → is_refusal reply ≡ true → Shape limits table unique command (unchanged table reply)
  kept command reply no_change refused = inl (record { same = refl; no_change = no_change; refused = λ key acts. refused })

  -- an item with the change's unique is stored under the key that the command names, or is too much
  -- for the quotas
  put_under : (command : Command) (key : Key) (flags : ℕ) (block : Data) (reply : Reply) → is_acceptance reply ≡ true → is_refusal reply ≡ false →
      ((other : Key) → ActsOn other command → key ≡ other) → ActsOn key command →
      Shape limits table unique command (stored limits table key (record { flags = flags; block = block; unique = unique }) reply)
  put_under command key flags block reply accepted granted only acts =
      let item : Item = record { flags = flags; block = block; unique = unique } in
      elim (is_within limits (map.insert table key item)) as (λ b. is_within limits (map.insert table key item) ≡ b →
      Shape limits table unique command (if b then record { table = map.insert table key item; reply = reply } else unchanged table (Refused NO_ROOM))) [
        | true ↦ λ within. inr (inl (record { under = key; item = item; put = refl; within = within; its_unique = refl; accepted = accepted; granted = granted; only = only; acts = acts }))
        | false ↦ λ above. kept command (Refused NO_ROOM) refl refl
      ] refl

  -- joined data, and the number that gives way to the next
  shape_joined : (command : Command) (key : Key) (flags : ℕ) (block : Data) →
      ((other : Key) → ActsOn other command → key ≡ other) → ActsOn key command → Shape limits table unique command (joined limits table unique key flags block)
  shape_joined command key flags block only acts =
      shape_if limits table unique command (nat_le (length block) DATA_BYTES) _ _ (put_under command key flags block Stored refl refl only acts) (kept command (Refused TOO_LARGE) refl refl)

  shape_renumbered : (command : Command) (key : Key) (old : Item) (next : ℕ → ℕ) →
      ((other : Key) → ActsOn other command → key ≡ other) → ActsOn key command → Shape limits table unique command (renumbered limits table unique key old next)
  shape_renumbered command key old next only acts =
      shape_none_or_some limits table unique command (numeric_value old.block) _ _ (kept command (Refused NOT_A_NUMBER) refl refl)
      (λ number. put_under command key old.flags (decimal (next number)) (Number (next number)) refl refl only acts)

  pub shape : (command : Command) → Shape limits table unique command (effect limits table unique command)
  shape (Store Set key flags block) = put_under (Store Set key flags block) key flags block Stored refl refl (λ other acts. acts) refl
  shape (Store Add key flags block) =
      shape_none_or_some limits table unique (Store Add key flags block) (map.get table key) _ _
      (put_under (Store Add key flags block) key flags block Stored refl refl (λ other acts. acts) refl)
      (λ old. kept (Store Add key flags block) NotStored refl refl)
  shape (Store Replace key flags block) =
      shape_none_or_some limits table unique (Store Replace key flags block) (map.get table key) _ _
      (kept (Store Replace key flags block) NotStored refl refl)
      (λ old. put_under (Store Replace key flags block) key flags block Stored refl refl (λ other acts. acts) refl)
  shape (Store Append key flags block) =
      shape_none_or_some limits table unique (Store Append key flags block) (map.get table key) _ _
      (kept (Store Append key flags block) NotStored refl refl)
      (λ old. shape_joined (Store Append key flags block) key old.flags (old.block ++ block) (λ other acts. acts) refl)
  shape (Store Prepend key flags block) =
      shape_none_or_some limits table unique (Store Prepend key flags block) (map.get table key) _ _
      (kept (Store Prepend key flags block) NotStored refl refl)
      (λ old. shape_joined (Store Prepend key flags block) key old.flags (block ++ old.block) (λ other acts. acts) refl)
  shape (Cas key flags block seen) =
      shape_none_or_some limits table unique (Cas key flags block seen) (map.get table key) _ _
      (kept (Cas key flags block seen) NotFound refl refl)
      (λ old. shape_if limits table unique (Cas key flags block seen) (old.unique == seen) _ _
      (put_under (Cas key flags block seen) key flags block Stored refl refl (λ other acts. acts) refl)
      (kept (Cas key flags block seen) Exists refl refl))
  shape (Get keys uniques) = inl (record { same = refl; no_change = refl; refused = λ other acts. absurd acts })
  shape (Delete key) =
      shape_none_or_some limits table unique (Delete key) (map.get table key) _ _
      (kept (Delete key) NotFound refl refl)
      (λ old. inr (inr (record { no_change = refl; granted = refl; less = remove_less table key; left = taken_out_cases table key })))
  shape (Incr key by) =
      shape_none_or_some limits table unique (Incr key by) (map.get table key) _ _
      (kept (Incr key by) NotFound refl refl)
      (λ old. shape_renumbered (Incr key by) key old (λ number. (number + by) % (2 ^ 64)) (λ other acts. acts) refl)
  shape (Decr key by) =
      shape_none_or_some limits table unique (Decr key by) (map.get table key) _ _
      (kept (Decr key by) NotFound refl refl)
      (λ old. shape_renumbered (Decr key by) key old (λ number. number - by) (λ other acts. acts) refl)
  shape (Limit new) = inl (record { same = refl; no_change = refl; refused = λ other acts. absurd acts })
  shape Flush = inr (inr (record { no_change = refl; granted = refl; less = empty_less table; left = λ key. inl (tt, get-empty key_cmp key) }))

-- a command that is refused sets no quotas
pub refused_keeps : (limits : Limits) (table : Table) (unique : ℕ) (command : Command) → is_refusal (effect limits table unique command).reply ≡ true → limits_by limits command ≡ limits
refused_keeps limits table unique (Store verb key flags block) refused = refl
refused_keeps limits table unique (Cas key flags block seen) refused = refl
refused_keeps limits table unique (Get keys uniques) refused = refl
refused_keeps limits table unique (Delete key) refused = refl
refused_keeps limits table unique (Incr key by) refused = refl
refused_keeps limits table unique (Decr key by) refused = refl
refused_keeps limits table unique Flush refused = refl
refused_keeps limits table unique (Limit new) refused = absurd (let no : false ≡ true = refused in cc)

-- nor one that is accepted
pub accepted_keeps : (limits : Limits) (table : Table) (unique : ℕ) (command : Command) → is_acceptance (effect limits table unique command).reply ≡ true → limits_by limits command ≡ limits
accepted_keeps limits table unique (Store verb key flags block) accepted = refl
accepted_keeps limits table unique (Cas key flags block seen) accepted = refl
accepted_keeps limits table unique (Get keys uniques) accepted = refl
accepted_keeps limits table unique (Delete key) accepted = refl
accepted_keeps limits table unique (Incr key by) accepted = refl
accepted_keeps limits table unique (Decr key by) accepted = refl
accepted_keeps limits table unique Flush accepted = refl
accepted_keeps limits table unique (Limit new) accepted = absurd (let no : false ≡ true = accepted in cc)

-- what was stored is under its key
pub stored_there : (limits : Limits) (table : Table) (key : Key) (item : Item) (reply : Reply) → is_refusal (stored limits table key item reply).reply ≡ false →
    map.get (stored limits table key item reply).table key ≡ Some item
stored_there limits table key item reply =
    elim (is_within limits (map.insert table key item)) as (λ b.
    is_refusal (if b then record { table = map.insert table key item; reply = reply } else unchanged table (Refused NO_ROOM)).reply ≡ false →
    map.get (if b then record { table = map.insert table key item; reply = reply } else unchanged table (Refused NO_ROOM)).table key ≡ Some item) [
      | true ↦ λ granted. get-insert_same table key item
      | false ↦ λ granted. absurd (cc)
    ]
