use Rattle.std.specs.FinMap.{len-empty}
use Rattle.mc_model.specs.declared.item.Item.{Item}
use Rattle.mc_model.specs.Table.{key_cmp}
use Rattle.model_lemmas.proofs.Uses.{use-empty}
use Rattle.mc_laws.proofs.Quotas.{added, replaced, taken_out}
use Rattle.mc_laws.proofs.tables.keys_and_data_count.Goals as goal

pub returns-clause-nothing : goal.returns-clause-nothing
returns-clause-nothing c = (use-empty, len-empty key_cmp Item)

pub returns-clause-added : goal.returns-clause-added
returns-clause-added c = added

pub returns-clause-replaced : goal.returns-clause-replaced
returns-clause-replaced c = replaced

pub returns-clause-taken_out : goal.returns-clause-taken_out
returns-clause-taken_out c = taken_out
