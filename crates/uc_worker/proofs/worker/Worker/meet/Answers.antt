-- Both histories follow one learned list.
use Rattle.std.proofs.Common.{◌≡◌, List, length, sym, ap, ◌∙◌, subst, ⊎_elim, rules}
use Rattle.mc_model.specs.declared.id.Ticket.{Ticket}
use Rattle.mc_replica.specs.Replica.{ReplicaState}
use Rattle.uc_log.specs.declared.log.Log.{Log}
use Rattle.uc_log.specs.declared.pass.Pass.{Pass}
use Rattle.uc_log.specs.Passes.{desk, learned}
use Rattle.uc_places.specs.OneRun.{IsStill}
use Rattle.uc_worker.specs.Histories.{Follows}
use Rattle.lists.proofs.Public.{begins_whole}
use Rattle.uc_worker.specs.Worker.{history_of}
use Rattle.uc_worker.proofs.Counting.{takes_nothing}
use Rattle.uc_worker.proofs.Following.{same_cells}
use Rattle.uc_worker.proofs.Lacking.{lacks_met}
use Rattle.uc_worker.proofs.Owning.{owns_still}
use Rattle.uc_worker.proofs.worker.Worker.meet.Goals as goal

pub agree-requires-clause-cells : goal.agree-requires-clause-cells
agree-requires-clause-cells c =
    let one = c.replay_to.new.self in let other = c.replay_to-2.new.self in let first = c.replay_to.ensures.replays in let second = c.replay_to-2.ensures.replays in
    let log : other.log.now ≡ one.log.now = (λ i. (second.log i).now) ∙ (sym c.requires ∙ sym (λ i. (first.log i).now)) in
    same_cells one.log.now one.replica.history other.replica.history (learned one.pass) (learned other.pass)
    (ap learned first.pass ∙ (c.even.ensures.learned ∙ sym (ap learned second.pass))) one.follows
    (subst (λ (l : Log). Follows l other.replica.history (learned other.pass)) log other.follows)

pub returns-clause-still : goal.returns-clause-still
returns-clause-still c = λ up other_up same.
    let self = c.args.self.now in let other = c.args.other.now in let even = c.even.ensures in
    let one = c.replay_to.new.self in let two = c.replay_to-2.new.self in
    let first = c.replay_to.ensures.replays in let second = c.replay_to-2.ensures.replays in
    let long : length (learned c.even.new.one) ≡ length (learned self.pass) =
    ⊎_elim (λ e. ap (λ (l : List Ticket). length l) e) (λ e. ap (λ (l : List Ticket). length l) e ∙ sym same) even.either in
    let other_long : length (learned c.even.new.other) ≡ length (learned other.pass) =
    ap (λ (l : List Ticket). length l) (sym even.learned) ∙ (long ∙ same) in
    let end : c.learned-end.result ≡ length (learned c.even.new.one) = c.learned-end.ensures.value in
    let whole : history_of self ≡ history_of one =
    begins_whole (history_of one) (history_of self) first.history (c.in_ok-replay_to.ensures.all ∙ end ∙ long ∙ sym up) in
    let other_whole : history_of other ≡ history_of two =
    begins_whole (history_of two) (history_of other) second.history (c.in_ok-replay_to-2.ensures.all ∙ end ∙ long ∙ same ∙ sym other_up) in (
      search rules,
      record {
        seat = subst (λ (p : Pass). IsStill (desk self.pass) (desk p)) (sym first.pass) (takes_nothing (desk self.pass) (desk c.even.new.one) even.takes.0 long);
        history = ap (λ (r : ReplicaState). r.history) c.agree.ensures.one ∙ sym whole;
      },
      record {
        seat = subst (λ (p : Pass). IsStill (desk other.pass) (desk p)) (sym second.pass) (takes_nothing (desk other.pass) (desk c.even.new.other) even.takes.1 other_long);
        history = ap (λ (r : ReplicaState). r.history) c.agree.ensures.two ∙ sym other_whole;
      },
    )

pub invariant_of-self-clause-lacks : goal.invariant_of-self-clause-lacks
invariant_of-self-clause-lacks c = let self = c.args.self.now in
    lacks_met self.log.now self.pass c.even.new.one self.replica.history self.lacks self.short c.even.ensures.one

pub invariant_of-other-clause-lacks : goal.invariant_of-other-clause-lacks
invariant_of-other-clause-lacks c = let other = c.args.other.now in
    lacks_met c.args.self.now.log.now other.pass c.even.new.other other.replica.history other.lacks other.short c.even.ensures.other

pub invariant_of-self-clause-own : goal.invariant_of-self-clause-own
invariant_of-self-clause-own c = let self = c.args.self.now in let more = c.even.ensures.one in
    owns_still (length self.log.now.settings.tenants) self.pass c.even.new.one self.replica.history more.advances.same.1 more.own self.own

pub invariant_of-other-clause-own : goal.invariant_of-other-clause-own
invariant_of-other-clause-own c = let other = c.args.other.now in let more = c.even.ensures.other in
    owns_still (length other.log.now.settings.tenants) other.pass c.even.new.other other.replica.history more.advances.same.1 more.own other.own
