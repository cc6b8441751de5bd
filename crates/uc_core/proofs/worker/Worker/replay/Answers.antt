use Rattle.std.proofs.Common.{◌≡◌, rules, sym, ap, ◌∙◌}
use Rattle.uc_core.specs.Kept.{replay_of}
use Rattle.uc_core.proofs.Retrieved.{retrieval_keeps}
use Rattle.uc_core.proofs.Workers.{UniquesFew-taken}
use Rattle.uc_core.proofs.worker.Worker.replay.Goals as goal

pub returns-in_err-reply-2-clause-unchanged : goal.returns-in_err-reply-2-clause-unchanged
returns-in_err-reply-2-clause-unchanged c =
    let items = c.in_err-reply-2.ensures.items in
    let keeps : c.take_effect.new.tables.items ≡ c.args.self.now.tables.items =
    retrieval_keeps c.args.number _ _ _ items.0 (sym c.in_ok-reply.ensures.answer ∙ items.1) c.in_ok-reply.ensures.tables in
    let same : replay_of (record c.args.self.now { tables = c.take_effect.new.tables }) ≡ replay_of c.args.self.now =
    ap (λ tables. record { replayed = c.args.self.now.replayed; tables = tables }) keeps in
    search (rules, same)

pub returns-clause-order : goal.returns-clause-order
returns-clause-order c = λ workers places decided old. record {
  learned = old.learned;
  announced = old.announced;
  idle = old.idle;
  looked = old.looked;
  proposals = old.proposals;
  counted = old.counted;
  counts = old.counts;
  uniques = UniquesFew-taken _ c.args.self.now.tables.items _ c.args.self.now.replayed c.in_ok-reply.ensures.tables old.uniques;
}
