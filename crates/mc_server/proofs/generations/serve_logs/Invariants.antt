-- What serving the log of this number has come to, after all logs before it.
use Rattle.std.proofs.Common.{◌≡◌, ◌⊎◌, ◌<◌, ◌≤◌, ◌+◌, ℕ, false}
use Rattle.mc_server.specs.Logs.{IsFrontOf, ServesTo}
use Rattle.mc_server.specs.declared.generations.TheConstants.{MOST_PLACES}
use Rattle.mc_server.proofs.generations.serve_logs.Given as goal

abbrev pub invariant-loop : goal.invariant-loop
invariant-loop g l = record {
  so_far : (logs : ℕ) × ServesTo l.fn.opened.log.settings l.is_last logs l.total l.front l.served × ((l.fn.most ≡ 0) ⊎ (l.number ≡ logs + 1) × (logs < l.fn.most));
  more : l.is_last ≡ false → (l.fn.most ≡ 0) ⊎ (l.number < l.fn.most);
  total : l.is_last ≡ false → l.total ≤ MOST_PLACES;
  bound : l.total ≤ MOST_PLACES + 1048576;
  front : IsFrontOf l.fn.opened.log.settings l.front;
  begun : g.B.Begin.done l.fn.begin l.fn.state l.state;
}
