-- One log after another is one log: what each leaves is what the next one begins with.
use Rattle.std.proofs.Common.{◌≡◌, ◌∙◌, ◌<◌, ℕ, ◌+◌, List, [], ◌∷◌, ◌++◌, All, Option, None, Some, ap, ap₂, length, length-append, refl, slice_get, subst, sym, arith}
use Rattle.std.proofs.lemmas.List.{length-map}
use Rattle.std.proofs.lemmas.List.Elements.{All-head, filter_map-append}
use Rattle.std.specs.List.{AllZip}
use Rattle.std.specs.Option.{option_map}
use Rattle.mc_model.specs.declared.command.Command.{Command}
use Rattle.mc_model.specs.declared.request.Entry.{Entry}
use Rattle.mc_model.specs.History.{answer_from, state_from}
use Rattle.mc_model.specs.Log.{own, own_command}
use Rattle.mc_model.specs.Replay.{EachStands, empty_tables}
use Rattle.mc_model.specs.Settings.{Configuration}
use Rattle.mc_model.specs.State.{TableState, next_reply}
use Rattle.model_lemmas.proofs.Histories.{state_from-more}
use Rattle.model_lemmas.proofs.Replays.{EachStands-none}
use Rattle.mc_server.proofs.CoreRuns.{over_on}
use Rattle.mc_server.proofs.LogRuns.{all_on}
use Rattle.mc_server.proofs.NetworkRuns.{are_workers}
use Rattle.mc_server.specs.Logs.{AreOpenedOver, Closes, no_log_yet, one_more_log}
use Rattle.mc_server.specs.OneLog.{LogsAreOneLog, NextRepliesFollowFromAll, all_entries, entries_of}
use Rattle.uc_log.specs.declared.log.Log.{Log}
use Rattle.uc_refinement.specs.Refinement.{AreOver}
use Rattle.uc_worker.specs.Cited.{entries}
use Rattle.uc_worker.specs.Going.{Continues}
use Rattle.uc_worker.specs.TurningOver.{IsUpToDateAt}
use Rattle.uc_worker.specs.Worker.{history_of, openings_of}
use Rattle.uc_worker.specs.declared.worker.Worker.{Worker}

-- a table after some entries, and then after more, is the one after all of them
state_on : (tenant : ℕ) (front back : List (Option Entry)) (opening : TableState) →
    state_from (state_from opening (own tenant front)) (own tenant back) ≡ state_from opening (own tenant (front ++ back))
state_on tenant front back opening =
    sym (state_from-more opening (own tenant front) (own tenant back)) ∙ ap (state_from opening) (sym (filter_map-append (own_command tenant) front back))

module _ (tenant : ℕ) (front back : List (Option Entry)) where
  stands_on : (found : Option TableState) →
      option_map (λ opening. state_from opening (own tenant back)) (option_map (λ opening. state_from opening (own tenant front)) found)
      ≡ option_map (λ opening. state_from opening (own tenant (front ++ back))) found
  stands_on None = refl
  stands_on (Some opening) = ap (λ (state : TableState). Some state) (state_on tenant front back opening)

  answers_on : (command : Command) (found : Option TableState) →
      option_map (λ opening. answer_from opening (own tenant back) command) (option_map (λ opening. state_from opening (own tenant front)) found)
      ≡ option_map (λ opening. answer_from opening (own tenant (front ++ back)) command) found
  answers_on command None = refl
  answers_on command (Some opening) = ap (λ (state : TableState). Some (next_reply state command)) (state_on tenant front back opening)

all_stand : (openings between tables : List TableState) (front back : List (Option Entry)) → EachStands openings front between → EachStands between back tables →
    EachStands openings (front ++ back) tables
all_stand openings between tables front back first then tenant =
    then tenant ∙ ap (option_map (λ opening. state_from opening (own tenant back))) (first tenant) ∙ stands_on tenant front back (slice_get openings tenant)

-- What the first of the closed workers has is what all of them have.
by_first : (used : ℕ) (tables after : List TableState) (closed : List Worker) → 0 < length closed → AreOver tables closed → All (IsUpToDateAt used) closed →
    ((first : Worker) → slice_get closed 0 ≡ Some first → EachStands (openings_of first) (entries (history_of first)) after) →
    (length (entries_of closed) ≡ used) × EachStands tables (entries_of closed) after
by_first used tables after [] some over last stands = absurd (omega (arith, some))
by_first used tables after (first ∷ others) some over last stands = (
  length-map (history_of first) _ ∙ (All-head (IsUpToDateAt used) first others last).1,
  subst (λ (openings : List TableState). EachStands openings (entries (history_of first)) after)
      (All-head (λ (worker : Worker). openings_of worker ≡ tables) first others over) (stands first refl),
)

closed_log : (settings : Configuration) (log : Log) (used : ℕ) (tables after : List TableState) (begun served : List Worker) → 0 < settings.workers →
    AreOpenedOver settings log tables begun → AllZip Continues begun served → (closes : Closes served used after) →
    (length (entries_of closes.closes.closed) ≡ used) × EachStands tables (entries_of closes.closes.closed) after
closed_log settings log used tables after begun served some opened onward closes =
    let on : AllZip Continues served closes.closes.closed = all_on served closes.closes.closed closes.closes.later in
    let all = are_workers settings log served closes.closes.closed on (are_workers settings log begun served onward opened.all) in
    by_first used tables after closes.closes.closed (omega (arith, some, all.many))
    (over_on tables served closes.closes.closed on (over_on tables begun served onward opened.over)) closes.closes.up_to_date closes.stands

pub are_one_log : LogsAreOneLog
are_one_log settings _ _ _ _ some (no_log_yet who none) = (refl, EachStands-none (empty_tables settings.tenants))
are_one_log settings _ _ _ _ some (one_more_log earlier before used whose left after log begun served were opened onward closes) =
    let rest = are_one_log settings earlier before whose left some were in
    let last = closed_log settings log used left after begun served some opened onward closes in (
      length-append (all_entries settings earlier before whose left were) (entries_of closes.closes.closed) ∙ ap₂ (λ (one other : ℕ). one + other) rest.0 last.0,
      all_stand (empty_tables settings.tenants) left after (all_entries settings earlier before whose left were) (entries_of closes.closes.closed) rest.1 last.1,
    )

pub next_replies : NextRepliesFollowFromAll
next_replies settings logs places who tables some were front entry =
    ap (option_map (λ opening. answer_from opening (own entry.tenant front) entry.command)) ((are_one_log settings logs places who tables some were).1 entry.tenant)
    ∙ answers_on entry.tenant (all_entries settings logs places who tables were) front entry.command (slice_get (empty_tables settings.tenants) entry.tenant)
