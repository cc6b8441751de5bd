use Rattle.mc_scraping.proofs.AllNew.{all_new}
use Rattle.mc_scraping.proofs.scraper.Scraper.place_for_new.Goals as goal

pub returns-in-New-clause-none : goal.returns-in-New-clause-none
returns-in-New-clause-none c none =
    all_new c.args.now c.args.self.now.visits.items _ c.in_ok-place.place c.in_ok-place.holder c.deref.ensures.value c.in-New.is c.in_ok-place.ensures
