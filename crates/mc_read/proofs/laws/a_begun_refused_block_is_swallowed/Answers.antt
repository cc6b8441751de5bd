use Rattle.mc_read.proofs.Begun.{begun_refusal}
use Rattle.mc_read.specs.Administering.{lines_spoken}
use Rattle.mc_read.proofs.laws.a_begun_refused_block_is_swallowed.Goals as goal

pub returns : goal.returns
returns c = λ speaker line part size refusal quiet unbroken short is begun. begun_refusal (lines_spoken speaker) line part size refusal quiet unbroken short is begun
