-- Everything before is replayed, and then what was put is seen at the last place.
use Rattle.std.proofs.Common.{◌≡◌, ℕ, ◌-◌, ◌<◌, List, length, take, slice_get, Some, sym, ap, ◌∙◌, subst, arith}
use Rattle.mc_model.specs.Replay.{reply_to}
use Rattle.mc_model.specs.State.{TableState}
use Rattle.uc_cells.specs.Sighting.{entries}
use Rattle.uc_log.specs.declared.pass.Pass.{Pass}
use Rattle.uc_log.specs.Passes.{learned, own_sightings, row_of, seat, worker}
use Rattle.uc_worker.specs.Histories.{Follows, KnowsItsOwn, LacksAtMostOne}
use Rattle.uc_worker.specs.Worker.{last_entry, sighting_of}
use Rattle.uc_worker.proofs.Following.{follows_replayed, short_replayed}
use Rattle.uc_worker.proofs.Lacking.{lacks_replayed}
use Rattle.uc_worker.proofs.Owning.{owns_replayed}
use Rattle.uc_worker.proofs.Replies.{reply_is, reply_stands, seen_is, stands_last}
use Rattle.uc_worker.proofs.worker.Worker.reply_last.Goals as goal

pub invariant_of-self-2-clause-follows : goal.invariant_of-self-2-clause-follows
invariant_of-self-2-clause-follows g c =
    let self = c.replay_to.new.self in let log = self.log.now in let new = c.replay.new.self.history in
    subst (λ (p : Pass). Follows log new (learned p)) (sym c.seen.ensures.same) (follows_replayed c.replay.result log self.replica.history new (learned self.pass)
    c.in_ok-seen.seen (c.learned-place.result - 1) c.replay.ensures.replays.history c.replay.ensures.replays.unchanged (λ same i. (same i).history) self.follows c.in_ok-replay_to.ensures.all
    c.in_ok-seen.ensures.ticket c.in_ok-seen.ensures.row)

pub invariant_of-self-2-clause-short : goal.invariant_of-self-2-clause-short
invariant_of-self-2-clause-short g c =
    let same : length (learned c.seen.new.pass) ≡ length (learned c.args.self.now.pass)
    = ap (λ (p : Pass). length (learned p)) (c.seen.ensures.same ∙ c.replay_to.ensures.replays.pass) in
    let below : c.learned-place.result - 1 < length (learned c.seen.new.pass) = omega (arith, same, c.requires.behind, c.learned-place.ensures.value) in
    short_replayed c.replay.result c.replay_to.new.self.replica.history c.replay.new.self.history c.in_ok-seen.seen (c.learned-place.result - 1) _
    c.replay.ensures.replays.history c.replay.ensures.replays.unchanged (λ same i. (same i).history) c.in_ok-replay_to.ensures.all below

pub returns-clause-stands : goal.returns-clause-stands
returns-clause-stands g c =
    let pass = c.args.self.now.pass in let log = c.args.self.now.log.now in let seen = c.in_ok-seen.seen in let same = c.replay_to.ensures.replays.pass in
    let replica = c.replay_to.new.self.replica in
    let last : c.learned-place.result - 1 ≡ length (learned pass) - 1 = ap (λ (n : ℕ). n - 1) c.learned-place.ensures.value in
    let here : length replica.history ≡ length (learned pass) - 1 = c.in_ok-replay_to.ensures.all ∙ last in
    let ticket : slice_get (learned pass) (length (learned pass) - 1) ≡ Some seen.ticket =
    (λ i. slice_get (learned (sym same i)) (sym last i)) ∙ c.in_ok-seen.ensures.ticket in
    let found : seen.ticket.worker ≡ worker pass → slice_get (own_sightings pass) seen.ticket.number ≡ Some seen =
    subst (λ (p : Pass). seen.ticket.worker ≡ worker p → slice_get (own_sightings p) seen.ticket.number ≡ Some seen) same c.in_ok-seen.ensures.own in
    let entry = last_entry pass in
    let is = seen_is (learned pass) (own_sightings pass) _ (worker pass) entry (row_of log entry.ticket) seen c.requires.last c.requires.own c.requires.put
    ticket found in
    stands_last replica.history _ seen (sighting_of log entry) _ c.in_ok-reply.ensures.replays.history here is

pub returns-clause-reply : goal.returns-clause-reply
returns-clause-reply g c =
    let pass = c.args.self.now.pass in let log = c.args.self.now.log.now in let seen = c.in_ok-seen.seen in let same = c.replay_to.ensures.replays.pass in
    let replica = c.replay_to.new.self.replica in
    let last : c.learned-place.result - 1 ≡ length (learned pass) - 1 = ap (λ (n : ℕ). n - 1) c.learned-place.ensures.value in
    let here : length replica.history ≡ length (learned pass) - 1 = c.in_ok-replay_to.ensures.all ∙ last in
    let ticket : slice_get (learned pass) (length (learned pass) - 1) ≡ Some seen.ticket =
    (λ i. slice_get (learned (sym same i)) (sym last i)) ∙ c.in_ok-seen.ensures.ticket in
    let found : seen.ticket.worker ≡ worker pass → slice_get (own_sightings pass) seen.ticket.number ≡ Some seen =
    subst (λ (p : Pass). seen.ticket.worker ≡ worker p → slice_get (own_sightings p) seen.ticket.number ≡ Some seen) same c.in_ok-seen.ensures.own in
    let entry = last_entry pass in
    let is = seen_is (learned pass) (own_sightings pass) _ (worker pass) entry (row_of log entry.ticket) seen c.requires.last c.requires.own c.requires.put
    ticket found in
    let mine : entry.ticket.worker ≡ replica.worker = c.requires.own ∙ (ap worker (sym same) ∙ sym c.replay_to.new.self.whose) in
    sym c.in-Some.is ∙ (reply_is replica.worker _ replica.openings replica.history _ entry (row_of log entry.ticket) seen _ is mine c.in_ok-reply.ensures.replays.history here
    c.in_ok-reply.ensures.reply ∙ ap (λ (openings : List TableState). reply_to openings (entries (take (length (learned pass) - 1) c.replay.new.self.history)) (Some entry)) c.replay_to.ensures.replays.openings)

pub invariant_of-self-2-clause-lacks : goal.invariant_of-self-2-clause-lacks
invariant_of-self-2-clause-lacks g c =
    let self = c.replay_to.new.self in let new = c.replay.new.self.history in
    subst (λ (p : Pass). LacksAtMostOne (seat p) new) (sym c.seen.ensures.same) (lacks_replayed c.replay.result (seat self.pass) self.replica.history new
    c.in_ok-seen.seen c.replay.ensures.replays.history c.replay.ensures.replays.unchanged (λ same i. (same i).history) self.short self.lacks)

-- the command's tenant is known, so there is a reply
pub unreachable-requires : goal.unreachable-requires
unreachable-requires g c =
    let pass = c.args.self.now.pass in let log = c.args.self.now.log.now in let seen = c.in_ok-seen.seen in let same = c.replay_to.ensures.replays.pass in
    let replica = c.replay_to.new.self.replica in
    let last : c.learned-place.result - 1 ≡ length (learned pass) - 1 = ap (λ (n : ℕ). n - 1) c.learned-place.ensures.value in
    let here : length replica.history ≡ length (learned pass) - 1 = c.in_ok-replay_to.ensures.all ∙ last in
    let ticket : slice_get (learned pass) (length (learned pass) - 1) ≡ Some seen.ticket =
    (λ i. slice_get (learned (sym same i)) (sym last i)) ∙ c.in_ok-seen.ensures.ticket in
    let found : seen.ticket.worker ≡ worker pass → slice_get (own_sightings pass) seen.ticket.number ≡ Some seen =
    subst (λ (p : Pass). seen.ticket.worker ≡ worker p → slice_get (own_sightings p) seen.ticket.number ≡ Some seen) same c.in_ok-seen.ensures.own in
    let entry = last_entry pass in
    let is = seen_is (learned pass) (own_sightings pass) _ (worker pass) entry (row_of log entry.ticket) seen c.requires.last c.requires.own c.requires.put
    ticket found in
    let mine : entry.ticket.worker ≡ replica.worker = c.requires.own ∙ (ap worker (sym same) ∙ sym c.replay_to.new.self.whose) in
    reply_stands c.args.self.now.replica.openings (entries (take (length (learned pass) - 1) c.replay.new.self.history)) entry c.requires.tenant
    (sym c.in-None.is ∙ (reply_is replica.worker _ replica.openings replica.history _ entry (row_of log entry.ticket) seen _ is mine c.in_ok-reply.ensures.replays.history here
    c.in_ok-reply.ensures.reply ∙ ap (λ (openings : List TableState). reply_to openings (entries (take (length (learned pass) - 1) c.replay.new.self.history)) (Some entry)) c.replay_to.ensures.replays.openings))

pub invariant_of-self-2-clause-own : goal.invariant_of-self-2-clause-own
invariant_of-self-2-clause-own g c =
    let self = c.replay_to.new.self in let new = c.replay.new.self.history in let tenants = length self.log.now.settings.tenants in
    subst (λ (p : Pass). KnowsItsOwn tenants (worker p) (own_sightings p) new) (sym c.seen.ensures.same) (owns_replayed c.replay.result tenants (worker self.pass)
    (own_sightings self.pass) self.replica.history new c.in_ok-seen.seen c.replay.ensures.replays.history c.replay.ensures.replays.unchanged (λ same i. (same i).history)
    c.in_ok-seen.ensures.own self.own)
