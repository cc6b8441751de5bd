use Rattle.mc_tables.proofs.Stands.{StandsForMore-get}
use Rattle.mc_tables.proofs.table.MeteredTable.advance.Goals as goal

pub returns-in-Get-clause-stands : goal.returns-in-Get-clause-stands
returns-in-Get-clause-stands g c = rw c.in-Get.is (StandsForMore-get c.args.self.now _ _)
