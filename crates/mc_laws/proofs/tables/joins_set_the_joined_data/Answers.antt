use Rattle.std.proofs.Common.{◌+◌}
use Rattle.mc_model.specs.History.{after, changes}
use Rattle.mc_laws.proofs.OneKey.{append_sets, append_too_large, prepend_sets, prepend_too_large}
use Rattle.mc_laws.proofs.Histories.{quotas}
use Rattle.mc_laws.proofs.tables.joins_set_the_joined_data.Goals as goal

pub returns-clause-append : goal.returns-clause-append
returns-clause-append c = λ limits list key old flags block is fits. append_sets (quotas limits list) (after limits list) (changes limits list + 1) key old flags block is fits

pub returns-clause-prepend : goal.returns-clause-prepend
returns-clause-prepend c = λ limits list key old flags block is fits. prepend_sets (quotas limits list) (after limits list) (changes limits list + 1) key old flags block is fits

pub returns-clause-append_too_large : goal.returns-clause-append_too_large
returns-clause-append_too_large c = λ limits list key flags block. append_too_large (quotas limits list) (after limits list) (changes limits list + 1) key flags block

pub returns-clause-prepend_too_large : goal.returns-clause-prepend_too_large
returns-clause-prepend_too_large c = λ limits list key flags block. prepend_too_large (quotas limits list) (after limits list) (changes limits list + 1) key flags block
