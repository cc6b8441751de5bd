-- Each pass has a new seat of the words.
use Rattle.std.proofs.Common.{rules, ◌≡◌, ◌∙◌}
use Rattle.uc_log.specs.declared.log.Log.{Log}
use Rattle.uc_places.specs.Told.{new_seat}
use Rattle.uc_log.proofs.Fresh.{all_new, unused}
use Rattle.uc_log.proofs.log.Log.open.Goals as goal

pub returns-clause-passes : goal.returns-clause-passes
returns-clause-passes c =
    let log : Log = record { settings = c.in_ok-settings.settings; cells = c.in_ok-cells.cells; places = c.in_ok-places.places; sized = c.result-1.given.0; lawful = c.result-1.given.1.0 } in
    let workers : c.workers-workers.result ≡ log.settings.workers = search rules in let places : c.places-2.result ≡ log.settings.places = search rules in
    all_new log _ _ c.in_ok-passes.ensures.passes (λ number seat at. let its = c.in_ok-places.ensures.seats number seat at in (its.0, its.1 ∙ (λ i. new_seat (record { workers = workers i; places = places i }) number)))

pub returns-clause-unused : goal.returns-clause-unused
returns-clause-unused c = λ number pass at. unused _ number pass (returns-clause-passes c number pass at)
