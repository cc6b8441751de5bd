-- The clients so far are of the log, and the passes that are left are unused.
use Rattle.std.proofs.Common.{◌≡◌, All}
use Rattle.uc_log.specs.Passes.{IsUnusedPass}
use Rattle.uc_worker_tests.specs.declared.clients.Client.{Client}
use Rattle.uc_worker_tests.proofs.clients.clients_of.Given as goal

abbrev pub invariant-loop-pass : goal.invariant-loop-pass
invariant-loop-pass l = All (λ (client : Client). client.log.now ≡ l.log) l.clients.items × All (IsUnusedPass l.log) l.pass-iterator.rest.items
