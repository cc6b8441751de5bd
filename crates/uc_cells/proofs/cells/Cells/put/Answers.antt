use Rattle.std.proofs.Common.{◌≡◌, Some, rules, sym, ◌∙◌}
use Rattle.uc_cells.proofs.Entries.{counts_itself, same_unless, was_set}
use Rattle.uc_cells.proofs.cells.Cells.put.Goals as goal
use Rattle.uc_cells.proofs.cells.Cells.put.Goals.{in_default-refused-via-in-Some-refused+else-ne, in_default-refused-via-in_default-refused}

pub returns-clause-put : goal.returns-clause-put
returns-clause-put c =
    elim c.in_default-refused.branch [
      | in_default-refused-via-in-Some-refused+else-ne w ↦ let same = same_unless c.in-Some.value.now w.deref.result.now w.if-ne.ensures in search (rules, same)
      | in_default-refused-via-in_default-refused w ↦
          let set = was_set _ _ c.set_as.result c.set_as.ensures.value w.in_default-refused.ensures.variant in
          let own : c.in_ok-boxed.boxed.value ≡ c.in-Some.value.now = rw set.0 at c.in-Some.ensures.value.1 in
          let is : c.in-Some.value.now ≡ Some c.args.entry = sym own ∙ c.in_ok-boxed.ensures.ok in
          search (rules, is, counts_itself)
    ]
