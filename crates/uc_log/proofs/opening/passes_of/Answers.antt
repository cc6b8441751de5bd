-- One more seat has its pass; at the end all seats were taken.
use Rattle.std.proofs.Common.{rules, ◌≡◌, ◌∙◌, ◌∷◌, [], ◌++◌, List, length, append_assoc, ap, sym, subst}
use Rattle.uc_log.specs.Passes.{AreMadeOf}
use Rattle.uc_places.specs.declared.seats.Idle.{Idle}
use Rattle.uc_log.proofs.Fresh.{counted, made_more}
use Rattle.lists.proofs.Public.{all_taken}
use Rattle.uc_log.proofs.opening.passes_of.Goals as goal

pub loop-seat-preserved : goal.loop-seat-preserved
loop-seat-preserved c = let i = c.loop-seat.invariant in let pass = c.in_ok-open.ensures in let seat = c.in-Some.seat in
    let pushed = c.in_ok-push.ensures.items in record {
      count = counted _ _ _ c.in_ok-open.field-0 seat pushed i.count;
      made = made_more _ _ _ c.in_ok-open.field-0 seat pushed i.count i.made pass.own (pass.desk ∙ c.into_desk.ensures.desk);
      all = append_assoc c.loop-seat.yielded (seat ∷ []) c.next.new.self.rest.items
          ∙ (ap (λ (rest : List Idle). c.loop-seat.yielded ++ rest) (sym c.in-Some.ensures.steps.0) ∙ i.all);
    }

pub returns-clause-passes : goal.returns-clause-passes
returns-clause-passes c = let i = c.loop-seat.invariant in
    let none : length c.loop-seat.seat-iterator.rest.items ≡ 0 = search rules in
    subst (λ (seats : List Idle). AreMadeOf c.loop-seat.passes.items seats) (all_taken _ _ _ i.all none) i.made
