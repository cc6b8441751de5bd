use Rattle.mc_scraping.proofs.Goes.{answered_last, free_first, idle_longest, new_stays}
use Rattle.mc_scraping.proofs.laws.who_was_idle_longest_gives_its_place.Goals as goal

pub returns : goal.returns
returns c = record { free = free_first; idle = idle_longest; answered = answered_last; new = new_stays }
