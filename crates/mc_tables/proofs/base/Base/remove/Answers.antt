use Rattle.std.proofs.Common.{◌≡◌, Some, None, rules}
use Rattle.std.specs.Arc.{arc_value}
use Rattle.std.specs.FinMap as map
use Rattle.mc_tables.specs.Entries.{owned_entries, unmarked}
use Rattle.mc_tables.proofs.Layering.{marked, nothing_there, place_of}
use Rattle.mc_tables.proofs.base.Base.remove.Goals as goal

pub returns-in-Some-clause-table : goal.returns-in-Some-clause-table
returns-in-Some-clause-table c =
    let held = (arc_value c.args.self.now.items).held.entries in
    let marks = c.args.self.now.marks.items in
    let text = c.args.key.now in
    let at : place_of held text ≡ Some c.in-Some.place = search rules in
    marked (owned_entries held) held marks c.set.new.marks.items text c.in-Some.place at c.set.ensures.set

pub returns-in_default-clause-table : goal.returns-in_default-clause-table
returns-in_default-clause-table c =
    let held = (arc_value c.args.self.now.items).held.entries in
    let marks = c.args.self.now.marks.items in
    let text = c.args.key.now in
    let none : map.get (unmarked held marks) text ≡ None = search rules in
    nothing_there (unmarked held marks) text none
