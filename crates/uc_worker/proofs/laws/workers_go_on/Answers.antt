use Rattle.std.proofs.Common.{◌∙◌, refl}
use Rattle.uc_worker.specs.contracts.laws.WorkerGoesOn.TheImpl.{continues_self-value, continues_through-value}
use Rattle.uc_worker.proofs.laws.workers_go_on.Goals as goal

pub returns : goal.returns
returns c = record {
  same = continues_self-value.it;
  through = continues_through-value.it;
  quietly = λ worker. record { continues = continues_self-value.it worker; announced = refl };
  quietly_through = λ first second third one two. record {
    continues = continues_through-value.it first second third one.continues two.continues;
    announced = two.announced ∙ one.announced;
  };
}
