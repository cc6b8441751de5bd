-- At most one of a worker's own commands isn't in its history.
use Rattle.std.proofs.Common.{◌≡◌, ℕ, ◌+◌, ◌≤◌, List, [], ◌∷◌, ◌++◌, length, length-append, take, take_all, Result, Ok, Err, OnOk, OnErr, MatchResult, refl, sym, ap, ◌∙◌, subst, ⊎_elim, arith}
use Rattle.std.proofs.lemmas.List.{take-append-le, take-take}
use Rattle.mc_model.specs.declared.command.Command.{Command}
use Rattle.mc_model.specs.declared.fault.Fault.{Fault}
use Rattle.mc_model.specs.declared.id.Ticket.{Ticket}
use Rattle.lists.specs.Lists.{BeginsWith}
use Rattle.mc_model.specs.Legal.{count}
use Rattle.uc_cells.specs.Sighting.{Sighting}
use Rattle.uc_log.specs.declared.log.Log.{Log}
use Rattle.uc_log.specs.declared.pass.Pass.{Pass}
use Rattle.uc_log.specs.Passes.{learned, seat, state}
use Rattle.uc_places.specs.declared.view.View.{View}
use Rattle.uc_worker.specs.Histories.{LacksAtMostOne}
use Rattle.uc_worker.specs.Waiting.{Decides, LearnsMore, LearnsOn, LeavesUndecided}
use Rattle.model_lemmas.proofs.Tickets.{count_front}

-- nothing is announced, and more may be learned and replayed
pub lacks_later : (old new : View) (history more : List Sighting) → LacksAtMostOne old history → length history ≤ length old.state.learned →
    length history ≤ length more → new.worker ≡ old.worker → new.state.announced ≡ old.state.announced → BeginsWith new.state.learned old.state.learned →
    LacksAtMostOne new more
lacks_later old new history more lacks short longer same count_same begins =
    let front : take (length history) new.state.learned ≡ take (length history) old.state.learned =
    ap (take (length history)) begins.1 ∙ take-append-le (length history) old.state.learned begins.0 short in
    let kept : count new.worker (take (length history) new.state.learned) ≡ count old.worker (take (length history) old.state.learned) =
    λ i. count (same i) (front i) in
    let within = ap (count new.worker) (take-take (length history) (length more) new.state.learned longer) in
    let least = count_front new.worker (length history) (take (length more) new.state.learned) in omega arith

-- all that was learned is replayed, and no command is pending: one more may be announced
pub lacks_announced : (old new : View) (history : List Sighting) → length history ≡ length old.state.learned →
    count old.worker old.state.learned ≡ old.state.announced → new.worker ≡ old.worker → new.state.announced ≤ old.state.announced + 1 →
    BeginsWith new.state.learned old.state.learned → LacksAtMostOne new history
lacks_announced old new history all idle same few begins =
    let front : take (length history) new.state.learned ≡ old.state.learned =
    ap (take (length history)) begins.1 ∙ (take-append-le (length history) old.state.learned begins.0 (omega arith) ∙ take_all (length history) old.state.learned (omega arith)) in
    let kept : count new.worker (take (length history) new.state.learned) ≡ count old.worker old.state.learned = λ i. count (same i) (front i) in omega arith

-- a pass that has learned more
pub lacks_on : (log : Log) (old new : Pass) (history : List Sighting) → LacksAtMostOne (seat old) history → length history ≤ length (learned old) →
    LearnsOn log old new → LacksAtMostOne (seat new) history
lacks_on log old new history lacks short on =
    lacks_later (seat old) (seat new) history history lacks short (omega arith) on.later.same.1 on.later.announced on.later.learned

pub lacks_met : (log : Log) (old new : Pass) (history : List Sighting) → LacksAtMostOne (seat old) history → length history ≤ length (learned old) →
    LearnsMore log old new → LacksAtMostOne (seat new) history
lacks_met log old new history lacks short more =
    lacks_later (seat old) (seat new) history history lacks short (omega arith) more.advances.same.1
    (sym new.count ∙ (ap (λ (own : List Sighting). length own) more.own ∙ old.count)) more.advances.begins

-- a place is replayed, or memory ran out and nothing has changed
pub lacks_replayed : {T E R : Type 0} (result : Result T E) (view : View) (history new : List Sighting) (seen : Sighting) →
    OnOk result (new ≡ history ++ seen ∷ []) → OnErr result R → (R → new ≡ history) → length history ≤ length view.state.learned →
    LacksAtMostOne view history → LacksAtMostOne view new
lacks_replayed (Ok done) view history new seen pushed same as_old short lacks =
    let long : length new ≡ length history + 1 = ap (λ (l : List Sighting). length l) pushed ∙ length-append history (seen ∷ []) in
    lacks_later view view history new lacks short (omega arith) refl refl ([], append-nil_sym view.state.learned)
  where
    append-nil_sym : (l : List Ticket) → l ≡ l ++ []
    append-nil_sym [] = refl
    append-nil_sym (x ∷ l) = ap (λ (rest : List Ticket). x ∷ rest) (append-nil_sym l)
lacks_replayed (Err fault) view history new seen pushed same as_old short lacks = subst (LacksAtMostOne view) (sym (as_old same)) lacks

-- a command is decided, or a fault is met
pub announced_few : {T : Type 0} (result : Result T Fault) (log : Log) (old new : Pass) (tenant : ℕ) (command : Command) →
    MatchResult result (λ _. Decides log old new tenant command) (LeavesUndecided log old new tenant command) →
    (state new).announced ≤ (state old).announced + 1
announced_few (Ok done) log old new tenant command outcome = let count = outcome.announced in omega arith
announced_few (Err fault) log old new tenant command outcome =
    ⊎_elim (λ (same : (state new).announced ≡ (state old).announced). omega arith) (λ (more : (state new).announced ≡ (state old).announced + 1). omega arith) outcome.leaves.announced
