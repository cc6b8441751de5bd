-- The last and all others are of one log.
use Rattle.std.proofs.Common.{◌≡◌, ◌∙◌, Some, sym}
use Rattle.std.proofs.lemmas.List.Elements.{All-pop, All-weaker}
use Rattle.uc_worker.specs.declared.worker.Worker.{Worker}
use Rattle.mc_net_tests.proofs.house.tenants_of_all.Goals as goal

pub meet_others-requires : goal.meet_others-requires
meet_others-requires c =
    let P = λ (worker : Worker). worker.log.now ≡ c.args.log.now in
    let both = All-pop P _ _ (Some c.in-Some.last) c.in-Some.ensures.items c.requires in
    All-weaker P (λ (other : Worker). other.log.now ≡ c.in-Some.last.log.now) (λ other of. of ∙ sym both.1) c.pop.new.self.items both.0
