-- The passes that are left were never used.
use Rattle.std.specs.Prelude.{◌≡◌, ℕ, Some, slice_get}
use Rattle.uc_log.specs.declared.pass.Pass.{Pass}
use Rattle.uc_log.specs.Passes.{IsNew}
use Rattle.benches.proofs.submits.jobs_of.Given as goal

abbrev pub invariant-loop-number : goal.invariant-loop-number
invariant-loop-number l = (number : ℕ) (pass : Pass) → slice_get l.passes.items number ≡ Some pass → IsNew l.log number pass
