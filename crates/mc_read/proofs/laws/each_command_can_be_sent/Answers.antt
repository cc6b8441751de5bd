use Rattle.mc_read.proofs.Sending.{sent_cas, sent_decr, sent_delete, sent_flush, sent_get, sent_incr, sent_store}
use Rattle.mc_read.proofs.laws.each_command_can_be_sent.Goals as goal

pub returns-clause-store : goal.returns-clause-store
returns-clause-store c = λ verb key flags block quiet lawful small short. sent_store key flags block quiet lawful small short verb

pub returns-clause-cas : goal.returns-clause-cas
returns-clause-cas c = λ key flags block unique quiet lawful small short fits. sent_cas key flags block quiet lawful small short unique fits

pub returns-clause-get : goal.returns-clause-get
returns-clause-get c = sent_get

pub returns-clause-delete : goal.returns-clause-delete
returns-clause-delete c = sent_delete

pub returns-clause-incr : goal.returns-clause-incr
returns-clause-incr c = sent_incr

pub returns-clause-decr : goal.returns-clause-decr
returns-clause-decr c = sent_decr

pub returns-clause-flush : goal.returns-clause-flush
returns-clause-flush c = sent_flush
