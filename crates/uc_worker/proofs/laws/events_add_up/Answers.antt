use Rattle.std.proofs.Common.{arith, ⊎_elim}
use Rattle.uc_worker.proofs.Counting.{takes_none, takes_through}
use Rattle.uc_worker.proofs.laws.events_add_up.Goals as goal

pub returns : goal.returns
returns c = record {
  none = takes_none;
  through = takes_through;
  looks = λ desk. ⊎_elim (λ all. all) (λ less. let no : ⊥ = omega (arith, less) in absurd no);
}
