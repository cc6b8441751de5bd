use Rattle.std.proofs.Common.{Option, Some, sym, ap, subst, ◌∙◌}
use Rattle.std.specs.FinMap as map
use Rattle.std.specs.Option.{option_map}
use Rattle.mc_tables.specs.declared.meter.Meter.{Meter}
use Rattle.mc_tables.specs.Entries.{item_of_cell}
use Rattle.mc_tables.specs.Found.{found_of}
use Rattle.mc_tables.specs.Meters.{IsMeterIf}
use Rattle.mc_tables.proofs.layered.overwrite.Goals as goal

pub returns-clause-meter : goal.returns-clause-meter
returns-clause-meter c table totals is =
    let after = map.insert table c.args.key.now (item_of_cell c.args.item) in
    let found = ap Some c.found_in.ensures ∙ sym (ap (option_map found_of) is) in
    subst (λ (meter : Option Meter). IsMeterIf meter c.args.meter.now.limits after) c.in_ok-after.was
    (c.with.ensures table (item_of_cell c.args.item) totals found (sym c.len.ensures.len))
