use Rattle.std.proofs.Common.{ap, refl}
use Rattle.mc_model.specs.declared.command.Command.TheVariants.{Get}
use Rattle.mc_model.specs.State.{TableState}
use Rattle.mc_laws.proofs.Histories.{alike_without, same_answer}
use Rattle.mc_laws.proofs.tables.get_changes_nothing.Goals as goal

pub returns-clause-table : goal.returns-clause-table
returns-clause-table c = λ limits earlier later keys uniques.
    ap (λ (s : TableState). s.table) (alike_without limits earlier later (Get keys uniques) (record { same = refl; no_change = refl; refused = λ key acts. absurd acts }) refl)

pub returns-clause-uniques : goal.returns-clause-uniques
returns-clause-uniques c = λ limits earlier later keys uniques.
    ap (λ (s : TableState). s.last_unique) (alike_without limits earlier later (Get keys uniques) (record { same = refl; no_change = refl; refused = λ key acts. absurd acts }) refl)

pub returns-clause-answers : goal.returns-clause-answers
returns-clause-answers c = λ limits earlier later keys uniques next.
    same_answer limits earlier later (Get keys uniques) next (record { same = refl; no_change = refl; refused = λ key acts. absurd acts }) refl
