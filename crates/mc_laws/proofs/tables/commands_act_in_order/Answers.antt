use Rattle.std.proofs.Common.{ap, refl, ◌∙◌, ◌+◌, Bool, if◌then◌else◌, add-zero}
use Rattle.model_lemmas.proofs.Histories.{StandsFor-push, changes-le}
use Rattle.mc_model.specs.History.{changes}
use Rattle.mc_laws.proofs.Histories.{after-none, after-push, changes-none, changes-push}
use Rattle.mc_laws.proofs.tables.commands_act_in_order.Goals as goal

pub returns-clause-nothing : goal.returns-clause-nothing
returns-clause-nothing c = after-none

pub returns-clause-no_change : goal.returns-clause-no_change
returns-clause-no_change c = changes-none

pub returns-clause-reply : goal.returns-clause-reply
returns-clause-reply c = λ opening list command. refl

pub returns-clause-table : goal.returns-clause-table
returns-clause-table c = after-push

pub returns-clause-change : goal.returns-clause-change
returns-clause-change c = λ limits list command accepted.
    changes-push limits list command ∙ ap (λ (b : Bool). changes limits list + (if b then 1 else 0)) accepted

pub returns-clause-refusal : goal.returns-clause-refusal
returns-clause-refusal c = λ limits list command refused.
    changes-push limits list command ∙ (ap (λ (b : Bool). changes limits list + (if b then 1 else 0)) refused ∙ add-zero (changes limits list))

pub returns-clause-at_most : goal.returns-clause-at_most
returns-clause-at_most c = changes-le

pub returns-clause-stands : goal.returns-clause-stands
returns-clause-stands c = StandsFor-push
