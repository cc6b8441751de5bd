use Rattle.std.proofs.Common.{◌≡◌, true, false, Some, None, sym, rules}
use Rattle.std.specs.Arc.{arc_value}
use Rattle.std.specs.FinMap as map
use Rattle.mc_tables.specs.Maps.{map_table}
use Rattle.mc_tables.specs.Marks.{is_set}
use Rattle.mc_tables.proofs.Layering.{place_of, under_none, under_some}
use Rattle.mc_tables.proofs.base.Base.place.Goals as goal

pub returns-in-None-clause-item : goal.returns-in-None-clause-item
returns-in-None-clause-item c =
    let items = arc_value c.args.self.now.items in
    let text = c.args.key.now in
    let none : map.get (map_table items) text ≡ None = search rules in
    sym (under_none (map_table items) items.held.entries c.args.self.now.marks.items text none)

pub returns-then-is_set-clause-item : goal.returns-then-is_set-clause-item
returns-then-is_set-clause-item c =
    let items = arc_value c.args.self.now.items in
    let marks = c.args.self.now.marks.items in
    let text = c.args.key.now in
    let place = c.in-Some.place in
    let there : map.get (map_table items) text ≡ Some c.in-Some.item.now = search rules in
    let at : place_of items.held.entries text ≡ Some place = search rules in
    let yes : is_set marks place ≡ true = search rules in
    sym (under_some (map_table items) items.held.entries marks text place c.in-Some.item.now true there at yes)

pub returns-else-is_set-clause-item : goal.returns-else-is_set-clause-item
returns-else-is_set-clause-item c =
    let items = arc_value c.args.self.now.items in
    let marks = c.args.self.now.marks.items in
    let text = c.args.key.now in
    let place = c.in-Some.place in
    let there : map.get (map_table items) text ≡ Some c.in-Some.item.now = search rules in
    let at : place_of items.held.entries text ≡ Some place = search rules in
    let no : is_set marks place ≡ false = search rules in
    sym (under_some (map_table items) items.held.entries marks text place c.in-Some.item.now false there at no)
