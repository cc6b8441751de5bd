-- `Unannounced` shows it.
use Rattle.uc_laws.proofs.Unannounced.{have_no_entry}
use Rattle.uc_laws.proofs.counts.unannounced_tickets_have_no_entry.Goals as goal

pub returns : goal.returns
returns c = have_no_entry
