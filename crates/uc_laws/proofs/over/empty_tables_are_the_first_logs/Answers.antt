-- The first two by computation, the others by `Empty`.
use Rattle.std.proofs.Common.{refl}
use Rattle.uc_laws.proofs.Empty.{replies_alike, worlds_alike}
use Rattle.uc_laws.proofs.over.empty_tables_are_the_first_logs.Goals as goal

pub returns-clause-opening : goal.returns-clause-opening
returns-clause-opening c = λ settings. refl

pub returns-clause-tables : goal.returns-clause-tables
returns-clause-tables c = λ core. (λ over. over, λ headline. headline)

pub returns-clause-replies : goal.returns-clause-replies
returns-clause-replies c = replies_alike

pub returns-clause-alike : goal.returns-clause-alike
returns-clause-alike c = worlds_alike
