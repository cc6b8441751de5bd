use Rattle.std.proofs.Common.{◌+◌, false, true}
use Rattle.mc_model.specs.History.{after, changes}
use Rattle.mc_laws.proofs.OneKey.{get_absent, get_held, gets_join}
use Rattle.mc_laws.proofs.Histories.{quotas}
use Rattle.mc_laws.proofs.tables.get_shows_what_is_held.Goals as goal

pub returns-clause-gets : goal.returns-clause-gets
returns-clause-gets c = λ limits list key item is. get_held limits list key true item is

pub returns-clause-get : goal.returns-clause-get
returns-clause-get c = λ limits list key item is. get_held limits list key false item is

pub returns-clause-absent : goal.returns-clause-absent
returns-clause-absent c = λ limits list key uniques is. get_absent limits list key uniques is

pub returns-clause-several : goal.returns-clause-several
returns-clause-several c = λ limits list keys more uniques found rest here there. gets_join (quotas limits list) (after limits list) (changes limits list + 1) keys more uniques found rest here there
