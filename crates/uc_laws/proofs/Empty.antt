-- Over empty tables the clauses on tables are the headline's: an empty table is determined by its
-- quotas.
use Rattle.std.proofs.Common.{◌≡◌, ◌↔◌, ℕ, List, Option, Some, None, take, slice_get, refl, sym, ap, ◌∙◌}
use Rattle.std.proofs.lemmas.Option.{none-some, same_Some, slice_get-map}
use Rattle.std.specs.Option.{option_map}
use Rattle.mc_model.specs.declared.reply.Reply.{Reply}
use Rattle.mc_model.specs.declared.settings.Limits.{Limits}
use Rattle.mc_model.specs.History.{answer_from}
use Rattle.mc_model.specs.Log.{own}
use Rattle.mc_model.specs.Replay.{empty_tables}
use Rattle.mc_model.specs.State.{TableState, empty_table}
use Rattle.uc_core.specs.Core.{CoreState, log_of}
use Rattle.uc_core.specs.Headline.{AnswerAlike, IsAnswer, RepliesAreAnswers}
use Rattle.uc_core.specs.Run.{Given}
use Rattle.uc_laws.specs.Over.{AnswerAlikeOver, IsAnswerOver, RepliesAreAnswersOver}

-- an empty table, and its quotas
empty_at : (openings : List Limits) (tenant : ℕ) → slice_get (empty_tables openings) tenant ≡ option_map empty_table (slice_get openings tenant)
empty_at openings tenant = slice_get-map empty_table openings tenant

limits_again : (found : Option Limits) → option_map (λ (table : TableState). table.limits) (option_map empty_table found) ≡ found
limits_again None = refl
limits_again (Some limits) = refl

same_limits : (one other : Option Limits) → option_map empty_table one ≡ option_map empty_table other → one ≡ other
same_limits one other same = sym (limits_again one) ∙ ap (option_map (λ (table : TableState). table.limits)) same ∙ limits_again other

-- an answer
of_empty : (openings : List Limits) (tenant : ℕ) (table : TableState) → slice_get (empty_tables openings) tenant ≡ Some table →
    (limits : Limits) × (slice_get openings tenant ≡ Some limits) × (table ≡ empty_table limits)
of_empty openings tenant table at = by_found (slice_get openings tenant) refl (sym (empty_at openings tenant) ∙ at)
  where
    by_found : (found : Option Limits) → slice_get openings tenant ≡ found → option_map empty_table found ≡ Some table →
        (limits : Limits) × (slice_get openings tenant ≡ Some limits) × (table ≡ empty_table limits)
    by_found None there is = absurd (none-some table is)
    by_found (Some limits) there is = (limits, there, sym (same_Some _ table is))

is_headlines : (core : CoreState) (worker place : ℕ) (reply : Reply) → IsAnswerOver (empty_tables core.openings) core worker place reply →
    IsAnswer core worker place reply
is_headlines core worker place reply is = let its = of_empty core.openings is.entry.tenant is.opening is.began in record {
  entry = is.entry;
  opening = its.0;
  stands = is.stands;
  found = is.found;
  mine = is.mine;
  limits = its.1;
  replied = is.replied ∙ ap (λ (table : TableState). answer_from table (own is.entry.tenant (take place (log_of core))) is.entry.command) its.2;
}

is_over_empty : (core : CoreState) (worker place : ℕ) (reply : Reply) → IsAnswer core worker place reply →
    IsAnswerOver (empty_tables core.openings) core worker place reply
is_over_empty core worker place reply is = record {
  entry = is.entry;
  opening = empty_table is.opening;
  stands = is.stands;
  found = is.found;
  mine = is.mine;
  began = empty_at core.openings is.entry.tenant ∙ ap (option_map empty_table) is.limits;
  replied = is.replied;
}

pub replies_alike : (core : CoreState) (given : List Given) → RepliesAreAnswersOver (empty_tables core.openings) core given ↔ RepliesAreAnswers core given
replies_alike core given = (
  λ over k worker place reply at. is_headlines core worker place reply (over k worker place reply at),
  λ headline k worker place reply at. is_over_empty core worker place reply (headline k worker place reply at),
)

-- two worlds
pub worlds_alike : (core other : CoreState) (given other_given : List Given) →
    AnswerAlikeOver (empty_tables core.openings) core given (empty_tables other.openings) other other_given ↔ AnswerAlike core given other other_given
worlds_alike core other given other_given = (
  λ over tenant other_tenant j reply other_reply agree. over tenant other_tenant j reply other_reply (record {
    opening = empty_at core.openings tenant ∙ ap (option_map empty_table) agree.limits ∙ sym (empty_at other.openings other_tenant);
    commands = agree.commands;
  }),
  λ headline tenant other_tenant j reply other_reply agree. headline tenant other_tenant j reply other_reply (record {
    limits = same_limits (slice_get core.openings tenant) (slice_get other.openings other_tenant)
        (sym (empty_at core.openings tenant) ∙ agree.opening ∙ empty_at other.openings other_tenant);
    commands = agree.commands;
  }),
)
