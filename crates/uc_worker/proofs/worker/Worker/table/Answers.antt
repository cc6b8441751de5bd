-- There is a table for each tenant's quotas.
use Rattle.std.proofs.Common.{sym, ◌∙◌, subst, ◌<◌, ℕ}
use Rattle.model_lemmas.proofs.Replays.{EachStands-length}
use Rattle.uc_cells.specs.Sighting.{entries}
use Rattle.uc_worker.proofs.worker.Worker.table.Goals as goal

pub table-requires : goal.table-requires
table-requires c = let worker = c.args.self.now in
    subst (λ (n : ℕ). c.args.tenant < n) (sym (EachStands-length worker.replica.openings (entries worker.replica.history) worker.replica.tables c.history.ensures.stands ∙ worker.opened.1)) c.requires
