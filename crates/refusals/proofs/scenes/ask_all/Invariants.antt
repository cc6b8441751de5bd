-- The client works on the same log.
use Rattle.std.specs.Prelude.{◌≡◌}
use Rattle.refusals.proofs.scenes.ask_all.Given as goal

abbrev pub invariant-loop-line : goal.invariant-loop-line
invariant-loop-line g l = l.client.log ≡ l.initial.client.log
