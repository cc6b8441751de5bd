use Rattle.std.proofs.Common.{rules}
use Rattle.uc_core.proofs.Workers.{AreCounts-none, UniquesFew-empty}
use Rattle.uc_core.proofs.worker.Worker.new.Goals as goal

pub returns-clause-fresh : goal.returns-clause-fresh
returns-clause-fresh c = record {
  shown = λ decided. search rules;
  replay = search rules;
  order = λ places decided. record {
    learned = search rules;
    announced = search rules;
    idle = search rules;
    looked = search rules;
    proposals = search rules;
    counted = search rules;
    counts = AreCounts-none c.args.workers decided _ (search rules);
    uniques = UniquesFew-empty c.args.openings.now _ 0 c.in_ok-owned_tables.ensures.tables;
  };
}
