-- Both are taken from the end of fresh passes.
use Rattle.lists.proofs.Parts.{both_last}
use Rattle.uc_log.specs.Passes.{IsUnusedPass}
use Rattle.mc_conn_tests.proofs.logs.both_passes.Goals as goal

pub returns : goal.returns
returns c = both_last (IsUnusedPass c.args.log.now) _ c.requires _ _ c.in_ok-second.second c.in_ok-first.first c.in_ok-second.ensures.items c.in_ok-first.ensures.items
