use Rattle.mc_conn.proofs.Countings.{tallies_later, tallies_self, tallies_trans}
use Rattle.mc_conn.proofs.laws.counts_add_up.Goals as goal

pub returns : goal.returns
returns c = record { none = tallies_self; through = tallies_trans; fault = tallies_later }
