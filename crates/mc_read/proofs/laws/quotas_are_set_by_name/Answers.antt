use Rattle.mc_read.proofs.Setting.{lawful_setting, sent_setting}
use Rattle.mc_read.proofs.laws.quotas_are_set_by_name.Goals as goal

pub returns-clause-sent : goal.returns-clause-sent
returns-clause-sent c = λ name items bytes quiet lawful some_items few_items some_bytes few_bytes. sent_setting name items bytes lawful some_items few_items some_bytes few_bytes quiet

pub returns-clause-only : goal.returns-clause-only
returns-clause-only c = lawful_setting
