use Rattle.std.proofs.Common.{sym}
use Rattle.mc_laws.proofs.Histories.{untouched_push}
use Rattle.mc_laws.proofs.tables.commands_leave_other_keys.Goals as goal

pub returns-clause-store : goal.returns-clause-store
returns-clause-store c = λ limits list verb key other flags block apart. untouched_push limits list _ other (λ touches. apart (sym touches.0))

pub returns-clause-cas : goal.returns-clause-cas
returns-clause-cas c = λ limits list key other flags unique block apart. untouched_push limits list _ other (λ touches. apart (sym touches.0))

pub returns-clause-delete : goal.returns-clause-delete
returns-clause-delete c = λ limits list key other apart. untouched_push limits list _ other (λ touches. apart (sym touches.0))

pub returns-clause-incr : goal.returns-clause-incr
returns-clause-incr c = λ limits list key other by apart. untouched_push limits list _ other (λ touches. apart (sym touches.0))

pub returns-clause-decr : goal.returns-clause-decr
returns-clause-decr c = λ limits list key other by apart. untouched_push limits list _ other (λ touches. apart (sym touches.0))
