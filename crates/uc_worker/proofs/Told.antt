-- What a worker reads at the places of a list that was shared with it.
use Rattle.std.proofs.Common.{◌≡◌, ◌+◌, ◌<◌, Bool, true, false, if◌then◌else◌, List, length, slice_get, Option, Some, None, sym, ap, ◌∙◌, subst}
use Rattle.mc_model.specs.declared.id.Ticket.{Ticket}
use Rattle.mc_model.specs.declared.shown.Phase.{Phase}
use Rattle.mc_model.specs.declared.shown.Phase.TheVariants.{Idle}
use Rattle.lists.specs.Lists.{BeginsWith}
use Rattle.mc_model.specs.Shown.{is_latest, read}
use Rattle.uc_places.specs.declared.desk.Desk.{Desk}
use Rattle.uc_places.specs.declared.view.Call.TheVariants.{Read}
use Rattle.uc_places.specs.declared.view.View.{View}
use Rattle.uc_places.specs.Calls.{Makes, known, state_of, worker_of}
use Rattle.uc_worker.specs.Steps.{IsSame, Rests}
use Rattle.uc_worker.proofs.Learning.{learns_more, learns_read}
use Rattle.lists.proofs.Public.{next_of}

rests_if : (own : Bool) (phase : Phase) → Rests phase → Rests (if own then Idle else phase)
rests_if true phase rests = ((λ same. cc), (λ same. cc))
rests_if false phase rests = rests

-- a worker rests after each read
pub rests_read : (old new : Desk) (found : Option Ticket) → Makes old new Read (read (worker_of old) found (state_of old)) →
    Rests (state_of old).phase → Rests (state_of new).phase
rests_read old new None made rests = subst Rests (sym (ap (λ (v : View). v.state.phase) made.2)) rests
rests_read old new (Some ticket) made rests = subst Rests (sym (ap (λ (v : View). v.state.phase) made.2))
    (rests_if (is_latest (worker_of old) (state_of old) ticket) (state_of old).phase rests)

-- one more place, as in the shared list
pub record ReadsTold (old new : View) : Type 0 where
  pub rests : Rests new.state.phase
  pub same : IsSame old new
  pub told : new.told ≡ old.told
  pub announced : new.state.announced ≡ old.state.announced
  pub begins : BeginsWith old.told new.state.learned
  pub more : length new.state.learned ≡ length old.state.learned + 1

pub reads_told : (old new : Desk) (found : Option Ticket) → Makes old new Read (read (worker_of old) found (state_of old)) →
    Rests (state_of old).phase →
    ((ticket : Ticket) → slice_get (known old).told (length (state_of old).learned) ≡ Some ticket → found ≡ Some ticket) →
    BeginsWith (known old).told (state_of old).learned → length (state_of old).learned < length (known old).told → ReadsTold (known old) (known new)
reads_told old new found made rests told begins shorter =
    let next = next_of (known old).told (state_of old).learned begins shorter in let is = told next.0 next.1 in
    let learns = learns_read old new found next.0 is made in
    let phase = ap (λ (v : View). v.state.phase) made.2 ∙ ap (λ (f : Option Ticket). (read (worker_of old) f (state_of old)).phase) is in record {
      rests = subst Rests (sym phase) (rests_if (is_latest (worker_of old) (state_of old) next.0) (state_of old).phase rests);
      same = learns.same;
      told = learns.told;
      announced = learns.announced;
      begins = subst (λ (list : List Ticket). BeginsWith (known old).told list) (sym learns.learned) next.2;
      more = learns_more (known old) (known new) next.0 learns;
    }
