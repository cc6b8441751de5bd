use Rattle.std.proofs.Common.{refl}
use Rattle.mc_model.specs.declared.command.Command.TheVariants.{Limit}
use Rattle.mc_laws.proofs.Histories.{after-push, limits_of_opening, limits_set_last, no_change}
use Rattle.mc_laws.proofs.tables.quotas_are_those_set_last.Goals as goal

pub returns-clause-opening : goal.returns-clause-opening
returns-clause-opening c = limits_of_opening

pub returns-clause-set : goal.returns-clause-set
returns-clause-set c = limits_set_last

pub returns-clause-ok : goal.returns-clause-ok
returns-clause-ok c = λ opening new list. refl

pub returns-clause-items : goal.returns-clause-items
returns-clause-items c = λ opening new list. after-push opening list (Limit new)

pub returns-clause-uniques : goal.returns-clause-uniques
returns-clause-uniques c = λ opening new list. no_change opening list (Limit new) refl
