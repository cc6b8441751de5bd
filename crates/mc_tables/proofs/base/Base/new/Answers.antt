use Rattle.std.proofs.Common.{ap, ◌∙◌}
use Rattle.mc_tables.specs.Entries.{owned_entries, unmarked}
use Rattle.mc_tables.proofs.Layering.{no_marks}
use Rattle.mc_tables.proofs.base.Base.new.Goals as goal

pub returns-clause-same : goal.returns-clause-same
returns-clause-same c =
    let held = c.args.items.held.entries in
    ap (λ (m : _). unmarked m.held.entries c.in_ok-marks.marks.items) c.in_ok-items.ensures.ok ∙ no_marks (owned_entries held) held c.in_ok-marks.marks.items c.in_ok-marks.ensures.none
