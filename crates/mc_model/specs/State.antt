-- A tenant's table with its quotas and the latest unique, and the step of one more command: its
-- reply, and the state that it leaves. A command that is accepted is a change, and a change gets
-- the next unique, from 1 (this project's profile of the "unique 64-bit value" of memcached's
-- doc/protocol.txt).
use Rattle.std.specs.Prelude.{ℕ, ◌+◌, if◌then◌else◌, refl}
use Rattle.std.specs.Coded.{Coded, code_by, coded×, coded_ℕ}
use Rattle.std.specs.FinMap as map
use Rattle.mc_model.specs.declared.command.Command.{Command}
use Rattle.mc_model.specs.declared.command.Command.TheVariants.{Limit}
use Rattle.mc_model.specs.declared.reply.Reply.{Reply}
use Rattle.mc_model.specs.declared.settings.Limits.{Limits}
use Rattle.mc_model.specs.Effect.{Effect, effect, is_acceptance}
use Rattle.mc_model.specs.Table.{Table, coded_table}

-- the quotas, what is held, and the unique of the latest change, which is the number of changes
pub record TableState : Type 0 where
  pub limits : Limits
  pub table : Table
  pub last_unique : ℕ

-- a table before any command, opened with these quotas
abbrev pub empty_table : Limits → TableState
empty_table limits = record { limits = limits; table = map.empty; last_unique = 0 }

-- what an effect leaves: its table, and one more change if its reply is an acceptance
abbrev pub left_by : TableState → Effect → TableState
left_by state effect = record {
  limits = state.limits;
  table = effect.table;
  last_unique = state.last_unique + (if is_acceptance effect.reply then 1 else 0);
}

-- the effect of one more command under the quotas, where a change gets the next unique
abbrev pub next_effect : TableState → Command → Effect
next_effect state command = effect state.limits state.table (state.last_unique + 1) command

-- its reply
abbrev pub next_reply : TableState → Command → Reply
next_reply state command = (next_effect state command).reply

-- the quotas from a command on
abbrev pub limits_by : Limits → Command → Limits
limits_by limits (Limit new) = new
limits_by limits _ = limits

-- the state that it leaves
abbrev pub next_state : TableState → Command → TableState
next_state state command =
    record (left_by state (next_effect state command)) { limits = limits_by state.limits command }

-- how a state is stored as a model's value
abbrev pub coded_limits : Coded Limits
coded_limits =
    code_by (ℕ × ℕ) (coded× coded_ℕ coded_ℕ) (λ l. (l.items, l.bytes))
    (λ p. record { items = p.0; bytes = p.1 }) (λ _. refl)

abbrev pub coded_state : Coded TableState
coded_state =
    code_by (Limits × (Table × ℕ)) (coded× coded_limits (coded× coded_table coded_ℕ))
    (λ s. (s.limits, (s.table, s.last_unique)))
    (λ p. record { limits = p.0; table = p.1.0; last_unique = p.1.1 }) (λ _. refl)
