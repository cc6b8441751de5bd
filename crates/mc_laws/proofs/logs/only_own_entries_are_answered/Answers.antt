use Rattle.mc_laws.proofs.Entries.{others_are_not_answered, others_are_not_replied, own_is_answered, own_is_replied, own_is_the_askers}
use Rattle.mc_laws.proofs.logs.only_own_entries_are_answered.Goals as goal

pub returns-clause-own : goal.returns-clause-own
returns-clause-own c = own_is_the_askers

pub returns-clause-reply : goal.returns-clause-reply
returns-clause-reply c = λ asker tables entry. own_is_replied tables entry asker

pub returns-clause-no_reply : goal.returns-clause-no_reply
returns-clause-no_reply c = λ asker tables entry. others_are_not_replied tables entry asker

pub returns-clause-answer : goal.returns-clause-answer
returns-clause-answer c = λ asker openings log entry. own_is_answered openings entry log asker

pub returns-clause-no_answer : goal.returns-clause-no_answer
returns-clause-no_answer c = λ asker openings log entry. others_are_not_answered openings entry log asker
