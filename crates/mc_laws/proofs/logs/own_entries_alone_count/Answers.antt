use Rattle.mc_laws.proofs.Entries.{others_put_in, own_put_in}
use Rattle.mc_laws.proofs.logs.own_entries_alone_count.Goals as goal

pub returns-clause-own : goal.returns-clause-own
returns-clause-own c = own_put_in

pub returns-clause-others : goal.returns-clause-others
returns-clause-others c = others_put_in
