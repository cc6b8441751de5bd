use Rattle.mc_tables.proofs.Stands.{OnOk-StandsForMore, OnOk-StandsForMore-get, StandsForMore-next}
use Rattle.mc_tables.proofs.table.MeteredTable.apply.Goals as goal

pub returns-in-Store-clause-stands : goal.returns-in-Store-clause-stands
returns-in-Store-clause-stands g c = rw c.in-Store.is (OnOk-StandsForMore c.store.result _ c.args.self.now c.store.new.self c.store.ensures.state)

pub returns-in-Cas-clause-stands : goal.returns-in-Cas-clause-stands
returns-in-Cas-clause-stands g c = rw c.in-Cas.is (OnOk-StandsForMore c.check_and_set.result _ c.args.self.now c.check_and_set.new.self c.check_and_set.ensures.state)

pub returns-in-Get-clause-stands : goal.returns-in-Get-clause-stands
returns-in-Get-clause-stands g c = rw c.in-Get.is (OnOk-StandsForMore-get c.retrieve.result c.args.self.now c.retrieve.new.self _ _ c.retrieve.ensures.unchanged)

pub returns-in-Delete-clause-stands : goal.returns-in-Delete-clause-stands
returns-in-Delete-clause-stands g c = rw c.in-Delete.is (StandsForMore-next _ c.args.self.now c.delete.new.self c.delete.ensures.state)

pub returns-in-Incr-clause-stands : goal.returns-in-Incr-clause-stands
returns-in-Incr-clause-stands g c = rw c.in-Incr.is (OnOk-StandsForMore c.incr.result _ c.args.self.now c.incr.new.self c.incr.ensures.state)

pub returns-in-Decr-clause-stands : goal.returns-in-Decr-clause-stands
returns-in-Decr-clause-stands g c = rw c.in-Decr.is (OnOk-StandsForMore c.decr.result _ c.args.self.now c.decr.new.self c.decr.ensures.state)

pub returns-in-Flush-clause-stands : goal.returns-in-Flush-clause-stands
returns-in-Flush-clause-stands g c = rw c.in-Flush.is (StandsForMore-next _ c.args.self.now c.flush.new.self c.flush.ensures.state)

pub returns-in-Limit-clause-stands : goal.returns-in-Limit-clause-stands
returns-in-Limit-clause-stands g c = rw c.in-Limit.is (StandsForMore-next _ c.args.self.now c.set_limits.new.self c.set_limits.ensures.state)
