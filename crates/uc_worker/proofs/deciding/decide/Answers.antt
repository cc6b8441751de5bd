-- The reads, and then the looks and proposals.
use Rattle.std.proofs.Common.{sym, subst, arith}
use Rattle.uc_log.specs.declared.pass.Pass.{Pass}
use Rattle.uc_log.specs.Passes.{desk}
use Rattle.uc_worker.specs.Counting.{TakesFew}
use Rattle.uc_worker.proofs.Counting.{takes_more, takes_none, takes_through}
use Rattle.uc_worker.proofs.deciding.decide.Goals as goal
use Rattle.uc_worker.proofs.deciding.decide.Goals.{else-not-is_marked-via-then-not-is_marked+else-read_on, else-not-is_marked-via-else-not-is_marked}

pub returns-clause-takes : goal.returns-clause-takes
returns-clause-takes g c =
    let old = desk c.args.pass.now in
    let before : TakesFew 1 old (desk c.else-not-is_marked.pass) = elim c.else-not-is_marked.branch [
      | else-not-is_marked-via-then-not-is_marked+else-read_on w ↦ subst (λ (p : Pass). TakesFew 1 old (desk p)) (sym w.pass-is) w.read_on.ensures.takes
      | else-not-is_marked-via-else-not-is_marked w ↦ subst (λ (p : Pass). TakesFew 1 old (desk p)) (sym w.pass-is) (takes_more 0 1 old old (omega arith) (takes_none old))
    ] in takes_through 1 0 old (desk c.else-not-is_marked.pass) (desk c.propose_on.new.pass) before c.propose_on.ensures.takes
