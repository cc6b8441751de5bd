-- Each call is passed one word less.
use Rattle.std.proofs.Common.{length}
use Rattle.mc_server.proofs.complaint.+check_names.Given as goal

abbrev pub decreases-check_names : goal.decreases-check_names
decreases-check_names l = length l.words.now
