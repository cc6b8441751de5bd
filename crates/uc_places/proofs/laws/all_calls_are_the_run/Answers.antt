-- Each event is its taker's, whose events are its seat's calls (`Runs`).
use Rattle.uc_places.proofs.Runs.{each_is_a_call, nothing_but_calls}
use Rattle.uc_places.proofs.laws.all_calls_are_the_run.Goals as goal

pub returns-clause-seats : goal.returns-clause-seats
returns-clause-seats c = each_is_a_call

pub returns-clause-calls : goal.returns-clause-calls
returns-clause-calls c = nothing_but_calls
