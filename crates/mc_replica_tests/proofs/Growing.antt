-- Histories of the same cells, of which each gets one more.
use Rattle.std.proofs.Common.{◌≡◌, zero, suc, List, [], ◌∷◌, ◌++◌, length, sym, ap, ◌∙◌, arith}
use Rattle.std.proofs.lemmas.Option.{none-some, same_Some}
use Rattle.mc_replica.specs.Replica.{SameCells}
use Rattle.uc_cells.specs.Sighting.{Sighting}

pub same_more : (ones others : List Sighting) (one other : Sighting) → length ones ≡ length others → SameCells ones others →
    one.ticket ≡ other.ticket → one.row ≡ other.row → SameCells (ones ++ one ∷ []) (others ++ other ∷ [])
same_more [] [] one other long same ticket row zero x y at at_other =
    let is = same_Some one x at in
    let is_other = same_Some other y at_other in (
      sym (ap (λ (s : Sighting). s.ticket) is) ∙ (ticket ∙ ap (λ (s : Sighting). s.ticket) is_other),
      sym (ap (λ (s : Sighting). s.row) is) ∙ (row ∙ ap (λ (s : Sighting). s.row) is_other),
    )
same_more [] [] one other long same ticket row (suc place) x y at at_other = absurd (none-some x at)
same_more [] (z ∷ others) one other long same ticket row place x y at at_other = absurd (omega (arith, long))
same_more (z ∷ ones) [] one other long same ticket row place x y at at_other = absurd (omega (arith, long))
same_more (z ∷ ones) (w ∷ others) one other long same ticket row zero x y at at_other = same zero x y at at_other
same_more (z ∷ ones) (w ∷ others) one other long same ticket row (suc place) x y at at_other =
    same_more ones others one other (omega (arith, long)) (λ p. same (suc p)) ticket row place x y at at_other
