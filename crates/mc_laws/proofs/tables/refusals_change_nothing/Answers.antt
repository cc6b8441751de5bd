use Rattle.std.proofs.Common.{ap}
use Rattle.mc_model.specs.State.{TableState}
use Rattle.mc_laws.proofs.Histories.{alike_without, refusal_is_nothing, refusal_keeps, same_answer}
use Rattle.mc_laws.proofs.tables.refusals_change_nothing.Goals as goal

pub returns-clause-table : goal.returns-clause-table
returns-clause-table c = λ limits earlier later command refused. ap (λ (s : TableState). s.table) (alike_without limits earlier later command (refusal_is_nothing limits earlier command refused) (refusal_keeps limits earlier command refused))

pub returns-clause-uniques : goal.returns-clause-uniques
returns-clause-uniques c = λ limits earlier later command refused. ap (λ (s : TableState). s.last_unique) (alike_without limits earlier later command (refusal_is_nothing limits earlier command refused) (refusal_keeps limits earlier command refused))

pub returns-clause-answers : goal.returns-clause-answers
returns-clause-answers c = λ limits earlier later command next refused. same_answer limits earlier later command next (refusal_is_nothing limits earlier command refused) (refusal_keeps limits earlier command refused)
