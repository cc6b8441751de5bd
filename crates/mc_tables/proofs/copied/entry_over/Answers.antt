use Rattle.std.proofs.Common.{sym}
use Rattle.mc_tables.specs.Entries.{lent_key}
use Rattle.mc_tables.proofs.Copying.{entry_at-from}
use Rattle.mc_tables.proofs.copied.entry_over.Goals as goal

pub returns-clause-first : goal.returns-clause-first
returns-clause-first c = λ key. entry_at-from lent_key c.args.over.now.entries c.args.place (c.in-Some.key.now, c.in-Some.kept.now) (sym c.in-Some.ensures.entry) key
