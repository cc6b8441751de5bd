-- What was seen of the next place stands at the end then.
use Rattle.std.proofs.Common.{◌≡◌, ◌<◌, length, sym, ap, ◌∙◌, subst, arith}
use Rattle.uc_log.specs.declared.pass.Pass.{Pass}
use Rattle.uc_log.specs.Passes.{learned, own_sightings, seat, worker}
use Rattle.uc_worker.specs.Histories.{Follows, KnowsItsOwn, LacksAtMostOne}
use Rattle.uc_worker.proofs.Following.{follows_replayed, short_replayed}
use Rattle.uc_worker.proofs.Lacking.{lacks_replayed}
use Rattle.uc_worker.proofs.Owning.{owns_replayed}
use Rattle.uc_worker.proofs.worker.Worker.replay_to.Goals as goal

pub invariant_of-self-in-loop-place-clause-follows : goal.invariant_of-self-in-loop-place-clause-follows
invariant_of-self-in-loop-place-clause-follows g c =
    let worker = c.loop-place.self in let log = worker.log.now in let new = c.advance.new.self.history in
    subst (λ (p : Pass). Follows log new (learned p)) (sym c.seen.ensures.same) (follows_replayed c.advance.result log worker.replica.history new (learned worker.pass)
    c.in_ok-seen.seen c.loop-place.place c.advance.ensures.history c.advance.ensures.unchanged (λ same i. (same i).history) worker.follows c.loop-place.invariant.here
    c.in_ok-seen.ensures.ticket c.in_ok-seen.ensures.row)

pub invariant_of-self-in-loop-place-clause-short : goal.invariant_of-self-in-loop-place-clause-short
invariant_of-self-in-loop-place-clause-short g c =
    let same : length (learned c.seen.new.pass) ≡ length (learned c.args.self.now.pass)
    = ap (λ (p : Pass). length (learned p)) (c.seen.ensures.same ∙ c.loop-place.invariant.replays.pass) in
    let below : c.loop-place.place < length (learned c.seen.new.pass) = omega (arith, same, c.requires.learned, c.loop-place-test.true) in
    short_replayed c.advance.result c.loop-place.self.replica.history c.advance.new.self.history c.in_ok-seen.seen c.loop-place.place _
    c.advance.ensures.history c.advance.ensures.unchanged (λ same i. (same i).history) c.loop-place.invariant.here below

pub invariant_of-self-in-loop-place-clause-lacks : goal.invariant_of-self-in-loop-place-clause-lacks
invariant_of-self-in-loop-place-clause-lacks g c =
    let worker = c.loop-place.self in let new = c.advance.new.self.history in
    subst (λ (p : Pass). LacksAtMostOne (seat p) new) (sym c.seen.ensures.same) (lacks_replayed c.advance.result (seat worker.pass) worker.replica.history new
    c.in_ok-seen.seen c.advance.ensures.history c.advance.ensures.unchanged (λ same i. (same i).history) worker.short worker.lacks)

pub invariant_of-self-in-loop-place-clause-own : goal.invariant_of-self-in-loop-place-clause-own
invariant_of-self-in-loop-place-clause-own g c =
    let self = c.loop-place.self in let new = c.advance.new.self.history in let tenants = length self.log.now.settings.tenants in
    subst (λ (p : Pass). KnowsItsOwn tenants (worker p) (own_sightings p) new) (sym c.seen.ensures.same) (owns_replayed c.advance.result tenants (worker self.pass)
    (own_sightings self.pass) self.replica.history new c.in_ok-seen.seen c.advance.ensures.history c.advance.ensures.unchanged (λ same i. (same i).history)
    c.in_ok-seen.ensures.own self.own)
