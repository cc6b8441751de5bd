use Rattle.std.proofs.Common.{sym, ◌∙◌}
use Rattle.mc_replica_tests.proofs.Growing.{same_more}
use Rattle.mc_replica_tests.proofs.agreeing.replay_both.Goals as goal

pub returns-clause-same : goal.returns-clause-same
returns-clause-same g c =
    let ticket = c.in_ok-seen.ensures.ticket ∙ sym c.in_ok-again.ensures.ticket in
    let row = c.in_ok-seen.ensures.row ∙ sym c.in_ok-again.ensures.row in
    rw (c.in_ok-replay.ensures.replays.history, c.in_ok-replay-2.ensures.replays.history) (same_more _ _ _ _ c.requires.long c.requires.same ticket row)
