-- Two runs over tables: a reply to the command number j of a tenant is determined by the table with
-- which the tenant began and its commands up to that one.
use Rattle.std.proofs.Common.{◌≡◌, ℕ, zero, suc, ◌+◌, List, [], ◌∷◌, ◌++◌, length, take, drop, Option, Some, None, slice_get, sym, ap, ◌∙◌, eq-eqb, if◌then◌else◌, length-append}
use Rattle.std.proofs.lemmas.List.{append_assoc, same_from_push, take_at}
use Rattle.std.proofs.lemmas.List.Elements.{filter_map-append}
use Rattle.std.proofs.lemmas.Option.{none-some, same_Some}
use Rattle.std.specs.List.{cons_option}
use Rattle.mc_model.specs.declared.command.Command.{Command}
use Rattle.mc_model.specs.declared.reply.Reply.{Reply}
use Rattle.mc_model.specs.declared.request.Entry.{Entry}
use Rattle.mc_model.specs.History.{answer_from}
use Rattle.mc_model.specs.Log.{own, own_command}
use Rattle.mc_model.specs.State.{TableState}
use Rattle.uc_core.specs.Core.{CoreState, log_of}
use Rattle.uc_core.specs.Headline.{Answered}
use Rattle.uc_core.specs.Run.{Given}
use Rattle.uc_laws.specs.Over.{AnswerAlikeOver, RepliesAreAnswersOver}

-- a list parts at a place in what stands before it, its element and the rest
parts_at : {X : Type 0} (xs : List X) (k : ℕ) (x : X) → slice_get xs k ≡ Some x → xs ≡ take k xs ++ x ∷ drop (suc k) xs
parts_at [] k x at = absurd (none-some x at)
parts_at (y ∷ xs) zero x at = ap (λ first. first ∷ xs) (same_Some y x at)
parts_at (y ∷ xs) (suc k) x at = ap (λ rest. y ∷ rest) (parts_at xs k x at)

-- the tenant's commands up to the one at a place
own_upto : (log : List (Option Entry)) (place tenant j : ℕ) (entry : Entry) → slice_get log place ≡ Some (Some entry) →
    entry.tenant ≡ tenant → length (own tenant (take place log)) ≡ j → take (j + 1) (own tenant log) ≡ own tenant (take place log) ++ entry.command ∷ []
own_upto log place tenant j entry at whose number =
    let before = own tenant (take place log) in
    let rest = own tenant (drop (suc place) log) in
    let mine : own_command tenant (Some entry) ≡ Some entry.command = ap (λ b. if b then Some entry.command else None) (eq-eqb entry.tenant tenant whose) in
    let parts : own tenant log ≡ (before ++ entry.command ∷ []) ++ rest =
    ap (own tenant) (parts_at log place (Some entry) at)
    ∙ filter_map-append (own_command tenant) (take place log) (Some entry ∷ drop (suc place) log)
    ∙ ap (λ found. before ++ cons_option found rest) mine
    ∙ sym (append_assoc before (entry.command ∷ []) rest) in
    ap (take (j + 1)) parts ∙ take_at (before ++ entry.command ∷ []) rest (j + 1) (length-append before (entry.command ∷ []) ∙ ap (λ n. n + 1) number)

-- what was answered: the tenant's first table, its commands so far and its command determine the reply
record IsTold (tables : List TableState) (core : CoreState) (tenant j : ℕ) (reply : Reply) : Type 0 where
  opening : TableState
  commands : List Command
  command : Command
  began : slice_get tables tenant ≡ Some opening
  upto : take (j + 1) (own tenant (log_of core)) ≡ commands ++ command ∷ []
  replied : reply ≡ answer_from opening commands command

told_by : (tables : List TableState) (core : CoreState) (given : List Given) (tenant j : ℕ) (reply : Reply) → RepliesAreAnswersOver tables core given →
    Answered core given tenant j reply → IsTold tables core tenant j reply
told_by tables core given tenant j reply answers answered =
    let is = answers answered.at answered.worker answered.place reply answered.told in
    let same : is.entry ≡ answered.entry = same_Some _ _ (same_Some _ _ (sym is.found ∙ answered.found)) in
    let whose : is.entry.tenant ≡ tenant = ap (λ (entry : Entry). entry.tenant) same ∙ answered.whose in record {
      opening = is.opening;
      commands = own tenant (take answered.place (log_of core));
      command = is.entry.command;
      began = ap (slice_get tables) (sym whose) ∙ is.began;
      upto = own_upto (log_of core) answered.place tenant j is.entry is.found whose answered.number;
      replied = is.replied ∙ ap (λ n. answer_from is.opening (own n (take answered.place (log_of core))) is.entry.command) whose;
    }

pub answer_alike : (tables other_tables : List TableState) (core other : CoreState) (given other_given : List Given) →
    RepliesAreAnswersOver tables core given → RepliesAreAnswersOver other_tables other other_given →
    AnswerAlikeOver tables core given other_tables other other_given
answer_alike tables other_tables core other given other_given answers other_answers tenant other_tenant j reply other_reply agree answered other_answered =
    let one = told_by tables core given tenant j reply answers answered in
    let two = told_by other_tables other other_given other_tenant j other_reply other_answers other_answered in
    let opening : one.opening ≡ two.opening = same_Some _ _ (sym one.began ∙ agree.opening ∙ two.began) in
    let commands = same_from_push one.commands two.commands one.command two.command (sym one.upto ∙ agree.commands ∙ two.upto) in
    one.replied ∙ (λ i. answer_from (opening i) (commands.0 i) (commands.1 i)) ∙ sym two.replied
