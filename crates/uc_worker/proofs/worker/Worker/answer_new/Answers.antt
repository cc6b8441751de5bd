-- What was put last is the tenant's command, and it is the last that was replayed.
use Rattle.std.proofs.Common.{◌≡◌, ℕ, ◌-◌, ◌∷◌, [], length, take, slice_get, Some, sym, ap, ◌∙◌, arith, refl, ⊎_elim}
use Rattle.mc_model.specs.declared.request.Entry.{Entry}
use Rattle.mc_model.specs.Replay.{reply_to}
use Rattle.uc_cells.specs.Sighting.{entries}
use Rattle.uc_log.specs.declared.pass.Pass.{Pass}
use Rattle.uc_log.specs.Passes.{learned, next_entry, next_sighting, next_ticket, own_sightings, row_of, seat, state}
use Rattle.uc_worker.specs.Worker.{announced_of, history_of, last_entry, openings_of, sighting_of}
use Rattle.lists.proofs.Public.{begins_same, begins_self}
use Rattle.uc_worker.proofs.Lacking.{announced_few, lacks_announced}
use Rattle.uc_worker.proofs.Owning.{either_put, holds_next, owns_either}
use Rattle.uc_worker.proofs.Replies.{last_is}
use Rattle.uc_worker.proofs.worker.Worker.answer_new.Goals as goal

pub returns-in_err-decide_new-clause-continues : goal.returns-in_err-decide_new-clause-continues
returns-in_err-decide_new-clause-continues g c = record {
  log = refl;
  openings = refl;
  same = c.decide_new.ensures.advances.same;
  history = begins_self (history_of c.args.self.now);
  announced = ⊎_elim (begins_same _ (announced_of c.args.self.now)) (λ more. (_ ∷ [], more)) c.in_err-decide_new.ensures.outcome.kept;
  learned = c.decide_new.ensures.advances.begins;
}

pub returns-clause-submits : goal.returns-clause-submits
returns-clause-submits g c =
    let worker = c.args.self.now in let old = worker.pass in let pass = c.decide_new.new.pass in let next = next_entry old c.args.tenant c.args.command in
    let new = c.reply_last.new.self in let same_pass = c.reply_last.ensures.replays.pass in
    let same : last_entry pass ≡ next = last_is pass (state old).announced next (row_of worker.log.now (next_ticket old))
    c.in_ok-decide_new.ensures.outcome.put c.in_ok-decide_new.ensures.outcome.announced in
    let long : length (learned pass) ≡ c.learned.result = ap (λ (p : Pass). length (learned p)) (sym same_pass) ∙ sym c.learned.ensures.value in
    let place : c.learned.result - 1 ≡ length (learned pass) - 1 = ap (λ (n : ℕ). n - 1) (sym long) in
    let short = worker.short in let more = c.in_ok-decide_new.ensures.outcome.more in let all = c.in_ok-reply.ensures.all in record {
      announced = ap own_sightings same_pass ∙ c.in_ok-decide_new.ensures.outcome.own;
      count = ap (λ (p : Pass). (state p).announced) same_pass ∙ c.in_ok-decide_new.ensures.outcome.announced;
      place = omega (arith, short, more, long);
      last = omega (arith, more, long, all);
      learned = ap (λ (p : Pass). length (learned p)) same_pass ∙ omega (arith, more, long);
      own = ap (λ (n : ℕ). slice_get (history_of new) n) place ∙ c.in_ok-reply.ensures.stands
          ∙ ap (λ (entry : Entry). Some (sighting_of worker.log.now entry)) same;
      reply = c.in_ok-reply.ensures.reply ∙ (λ i. reply_to (openings_of worker) (entries (take (long i - 1) (history_of new))) (Some (same i)));
      proposals = (c.proposals.ensures.value, c.proposals.ensures.few);
    }

-- all that was learned before is replayed, so the new command is the only one that may be lacking
pub invariant_of-self-clause-lacks : goal.invariant_of-self-clause-lacks
invariant_of-self-clause-lacks g c = let self = c.args.self.now in let new = c.decide_new.new.pass in
    lacks_announced (seat self.pass) (seat new) self.replica.history c.requires.all (self.pass.desk.law.idle c.requires.idle)
    c.decide_new.ensures.advances.same.1
    (announced_few c.decide_new.result self.log.now self.pass new c.args.tenant c.args.command c.decide_new.ensures.outcome) c.decide_new.ensures.advances.begins

-- the command is one of its tenant
pub invariant_of-self-clause-own : goal.invariant_of-self-clause-own
invariant_of-self-clause-own g c =
    let self = c.args.self.now in let new = c.decide_new.new.pass in let log = self.log.now in let tenants = length log.settings.tenants in
    owns_either tenants self.pass new (next_sighting log self.pass c.args.tenant c.args.command) self.replica.history c.decide_new.ensures.advances.same.1
    (either_put c.decide_new.result log self.pass new c.args.tenant c.args.command c.decide_new.ensures.outcome)
    (holds_next tenants log self.pass c.args.tenant c.args.command (omega (arith, c.requires.tenant, self.opened.1))) self.own
