-- A pass that is unused.
use Rattle.std.proofs.Common.{◌≡◌, ℕ, List, [], ◌∷◌, ◌++◌, ◌+◌, length, length-append, sym, ap, ◌∙◌, slice_get, Some}
use Rattle.std.proofs.lemmas.Option.{none-some}
use Rattle.uc_cells.specs.Sighting.{Sighting}
use Rattle.uc_log.specs.declared.log.Log.{Log}
use Rattle.uc_log.specs.declared.pass.Pass.{Pass}
use Rattle.uc_log.specs.Passes.{AreMadeOf, IsNew, IsUnusedPass, own_sightings, size_of}
use Rattle.uc_places.specs.declared.desk.Desk.{Desk}
use Rattle.uc_places.specs.declared.seats.Idle.{Idle}
use Rattle.uc_places.specs.declared.view.View.{View}
use Rattle.uc_places.specs.Calls.{IsSeatOf, known}
use Rattle.uc_places.specs.Told.{new_seat}
use Rattle.lists.proofs.Public.{last_at, each_pushed, at_longer}

pub new_of : (log : Log) (number : ℕ) (pass : Pass) (d : Desk) → IsSeatOf log.places d → known d ≡ new_seat (size_of log) number → pass.desk ≡ d →
    own_sightings pass ≡ [] → IsNew log number pass
new_of log number pass d is_seat new same none = (
  (
    ap (λ (e : Desk). e.seat.table_id) same ∙ is_seat,
    ap (λ (v : View). v.size) (ap known same ∙ new),
    (λ place seen at. absurd (none-some seen (ap (λ (list : List Sighting). slice_get list place) (sym none) ∙ at))),
  ),
  ap known same ∙ new,
)

pub unused : (log : Log) (number : ℕ) (pass : Pass) → IsNew log number pass → IsUnusedPass log pass
unused log number pass new = record {
  of = new.0;
  idle = ap (λ (v : View). v.state.phase) new.1;
  new = ap (λ (v : View). v.state.learned) new.1;
  unused = ap (λ (v : View). v.state.announced) new.1;
}

-- one more pass has one more seat
pub made_more : (passes new_passes : List Pass) (seats : List Idle) (pass : Pass) (seat : Idle) → new_passes ≡ passes ++ pass ∷ [] →
    length passes ≡ length seats → AreMadeOf passes seats → own_sightings pass ≡ [] → pass.desk ≡ seat.desk → AreMadeOf new_passes (seats ++ seat ∷ [])
made_more passes new_passes seats pass seat is count made none same = each_pushed
    (λ number p. (own_sightings p ≡ []) × (s : Idle) × (slice_get (seats ++ seat ∷ []) number ≡ Some s) × (p.desk ≡ s.desk)) passes new_passes pass is
    (λ number p at. let was = made number p at in (was.0, was.1, at_longer seats (seat ∷ []) number was.1 was.2, was.3))
    (none, seat, ap (λ (n : ℕ). slice_get (seats ++ seat ∷ []) n) count ∙ last_at seats seat, same)

pub counted : (passes new_passes : List Pass) (seats : List Idle) (pass : Pass) (seat : Idle) → new_passes ≡ passes ++ pass ∷ [] →
    length passes ≡ length seats → length new_passes ≡ length (seats ++ seat ∷ [])
counted passes new_passes seats pass seat is count = ap length is ∙ (length-append passes (pass ∷ [])
    ∙ (ap (λ (n : ℕ). n + 1) count ∙ sym (length-append seats (seat ∷ []))))

-- passes of new seats of the log are new
pub all_new : (log : Log) (passes : List Pass) (seats : List Idle) → AreMadeOf passes seats →
    ((number : ℕ) (seat : Idle) → slice_get seats number ≡ Some seat → IsSeatOf log.places seat.desk × (known seat.desk ≡ new_seat (size_of log) number)) →
    (number : ℕ) (pass : Pass) → slice_get passes number ≡ Some pass → IsNew log number pass
all_new log passes seats made new number pass at = let was = made number pass at in let its = new number was.1 was.2 in
    new_of log number pass was.1.desk its.0 its.1 was.3 was.0
