use Rattle.std.proofs.Common.{◌≡◌, ◌∙◌, ◌∷◌, [], ◌++◌, List, length, sym, ap, subst, append-nil, append_assoc}
use Rattle.std.proofs.lemmas.List.{nil_from_length}
use Rattle.std.proofs.lemmas.List.Elements.{All-head, All-rest}
use Rattle.std.specs.List.{AllZip}
use Rattle.uc_worker.specs.Cited.{Sighting}
use Rattle.mc_model.specs.declared.id.Ticket.{Ticket}
use Rattle.uc_worker.specs.declared.worker.Worker.{Worker}
use Rattle.mc_server.specs.Crew.{MeetsAnother}
use Rattle.uc_worker.specs.Worker.{IsUpToDate}
use Rattle.mc_server.proofs.Meetings.{catches_self, catches_through, meets, one_more_met}
use Rattle.mc_server.proofs.crew.meet_others.Goals as goal
use Rattle.uc_worker.specs.AllWorkers.{AreOfLog}

pub loop-other-init : goal.loop-other-init
loop-other-init c = record {
  later = catches_self c.args.one.now;
  whole = c.requires.whole;
  left = subst (AreOfLog c.args.one.now.log.now) (sym c.into_iter-other-iterator.ensures.into_iter_gives.0) c.requires.log;
  met = ([], c.into_iter-other-iterator.ensures.into_iter_gives.0, subst (AllZip (MeetsAnother c.args.one.now c.args.one.now) []) (sym {A = List Worker} c.in_ok-met.ensures.items) tt);
}

pub meet-requires : goal.meet-requires
meet-requires c =
    sym (All-head (λ (other : Worker). other.log.now ≡ c.loop-other.one.log.now) c.in-Some.other _ (subst (AreOfLog c.loop-other.one.log.now) c.in-Some.ensures.steps.0 c.loop-other.invariant.left))

pub loop-other-preserved : goal.loop-other-preserved
loop-other-preserved c =
    let before = c.loop-other.invariant in
    let step = c.meet.ensures.one in
    let others = c.meet.ensures.other in
    let equal = c.in_ok-meet.ensures.equal in
    let all = c.in_ok-meet.ensures.all in
    let whole : IsUpToDate c.meet.new.other = sym (ap (length {A = Sighting}) equal) ∙ (all.0 ∙ ap (length {A = Ticket}) all.1) in
    let same = ap (λ log. log.now) (sym step.continues.log) in
    let left = All-rest (λ (other : Worker). other.log.now ≡ c.loop-other.one.log.now) c.in-Some.other _ _ c.in-Some.ensures.steps.0 before.left in
    let now : MeetsAnother c.args.one.now c.meet.new.self c.in-Some.other c.meet.new.other = meets _ _ _ _ _ before.later step others equal whole in
    let done = before.met.0 in
    let split = append_assoc done (c.in-Some.other ∷ []) c.next.new.self.rest.items ∙ ap (λ rest. done ++ rest) (sym c.in-Some.ensures.steps.0) ∙ before.met.1 in
    let met = one_more_met c.args.one.now c.loop-other.one c.meet.new.self done c.loop-other.met.items c.in-Some.other c.meet.new.other before.met.2 step now in
    record {
      later = catches_through _ _ _ before.later step;
      whole = all.0;
      left = subst (λ log. AreOfLog log c.next.new.self.rest.items) same left;
      met = (done ++ c.in-Some.other ∷ [], split, subst (AllZip (MeetsAnother c.args.one.now c.meet.new.self) (done ++ c.in-Some.other ∷ [])) (sym {A = List Worker} c.in_ok-push.ensures.items) met);
    }

pub returns-clause-outcome : goal.returns-clause-outcome
returns-clause-outcome c =
    let met = c.loop-other.invariant.met in
    let none : c.loop-other.other-iterator.rest.items ≡ [] =
    nil_from_length c.loop-other.other-iterator.rest.items (sym c.loop-other.other-iterator.rest.ok.0 ∙ c.in-None.ensures.steps.0) in
    let all : met.0 ≡ c.args.others.items = sym (append-nil met.0) ∙ (ap (λ rest. met.0 ++ rest) (sym none) ∙ met.1) in
    (subst (λ (others : List Worker). AllZip (MeetsAnother c.args.one.now c.loop-other.one) others c.loop-other.met.items) all met.2, c.loop-other.invariant.whole)
