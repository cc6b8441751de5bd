-- By the worker's phase and its seat's law.
use Rattle.std.proofs.Common.{⊎_elim, refl}
use Rattle.uc_worker.proofs.laws.faults_leave_nothing_open.Goals as goal

pub returns-clause-settled : goal.returns-clause-settled
returns-clause-settled c = λ fault old new leaves law either.
    law.idle (⊎_elim leaves.memory (λ taken. (leaves.taken taken).1) either)

pub returns-clause-taken : goal.returns-clause-taken
returns-clause-taken c = λ old new leaves. (leaves.taken refl).0

pub returns-clause-full : goal.returns-clause-full
returns-clause-full c = λ old new leaves law more. law.pending (leaves.waits refl more)
