use Rattle.std.proofs.Common.{length}
use Rattle.mc_scraping.proofs.yielding.+first_to_yield.Given as goal

abbrev pub decreases-first_to_yield : goal.decreases-first_to_yield
decreases-first_to_yield l = length l.visits.now
