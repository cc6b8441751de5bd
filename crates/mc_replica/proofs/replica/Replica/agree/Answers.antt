use Rattle.std.proofs.Common.{◌≡◌, sym, ◌∙◌}
use Rattle.mc_replica.proofs.Effects.{tables_agree}
use Rattle.mc_replica.proofs.replica.Replica.agree.Goals as goal

pub returns-clause-tables : goal.returns-clause-tables
returns-clause-tables c =
    let same : c.self.inside.history.items ≡ c.other.inside.history.items = sym c.as_mut_slice.ensures.value ∙ (c.agree_all.ensures.equal ∙ c.as_mut_slice-2.ensures.value) in
    rw (← c.self.view_is, ← c.other.view_is) (λ openings. tables_agree _ _ _ _ _ _ openings same c.self.invariant.stands c.other.invariant.stands)
