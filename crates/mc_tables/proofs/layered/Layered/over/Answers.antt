use Rattle.std.proofs.Common.{ap, ◌∙◌}
use Rattle.mc_tables.specs.Entries.{item_of_cell, laid_over, lent_key, without}
use Rattle.mc_tables.specs.Layers.{owned_table, placed}
use Rattle.mc_tables.proofs.Layering.{no_marks}
use Rattle.mc_tables.proofs.layered.Layered.over.Goals as goal

pub returns-clause-same : goal.returns-clause-same
returns-clause-same c =
    let base = c.args.base.now in
    ap (laid_over lent_key item_of_cell (without (owned_table base) (placed base) c.in_ok-marks.marks.items)) c.with_hasher.ensures.empty
    ∙ no_marks (owned_table base) (placed base) c.in_ok-marks.marks.items c.in_ok-marks.ensures.none
