use Rattle.mc_laws.proofs.Histories.{have_changes}
use Rattle.mc_laws.proofs.tables.unique_counts_changes.Goals as goal

pub returns : goal.returns
returns c = have_changes
