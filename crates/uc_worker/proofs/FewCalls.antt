-- What a seat takes, by the calls that it keeps.
use Rattle.std.proofs.Common.{◌≡◌, ℕ, ◌+◌, ◌*◌, ◌≤◌, List, [], ◌∷◌, length, ap, arith}
use Rattle.uc_places.specs.declared.desk.Desk.{Desk}
use Rattle.uc_places.specs.declared.view.Call.{Call}
use Rattle.uc_places.specs.Calls.{calls_of, state_of}
use Rattle.uc_places.specs.OneRun.{CallsLead}
use Rattle.uc_worker.specs.Counting.{TakesFew}
use Rattle.uc_worker.proofs.Counting.{calls_more}

-- what a seat has done from one moment to another is the calls that it keeps more
calls_lead : (old new : Desk) (calls : List Call) → CallsLead old calls new → length (calls_of new) ≡ length (calls_of old) + length calls
calls_lead old new [] still = let same = ap (λ (calls : List Call). length calls) still.calls in omega arith
calls_lead old new (call ∷ calls) lead =
    let same = ap (λ (calls : List Call). length calls) lead.3.calls in
    let one = calls_more lead.0 lead.1 call lead.2 lead.4 in
    let rest = calls_lead lead.1 new calls lead.5 in
    omega arith

pub few_calls : (more : ℕ) (old new : Desk) → TakesFew more old new →
    length (calls_of new) + 2 * length (state_of old).learned ≤ length (calls_of old) + 2 * length (state_of new).learned + more
few_calls more old new takes =
    let long = calls_lead old new takes.calls takes.lead in let few = takes.few in omega arith
