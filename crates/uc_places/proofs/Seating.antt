-- The invariant holds at the opening, and is kept as seats are given out and lists are shared.
use Rattle.std.proofs.Common.{◌≡◌, ◌≢◌, ◌⊎◌, ℕ, zero, suc, ◌+◌, ◌<◌, ◌≤◌, ◌==◌, Bool, true, false, cond, List, [], ◌∷◌, ◌++◌, length, length-set, replicate, set, sym, refl, ap, ◌∙◌, subst, inl, inr, ⊎_elim, arith, eq-eqb, ne_eqb, le_refl, slice_get, Some}
use Rattle.std.specs.Prelude.{drop, slice_index}
use Rattle.std.specs.Option.{option_map_or}
use mathlib.Core.Option.{some, some-injective, some-ne-none}
use lib.ListN.{get_elem?}
use Rattle.atomic_table.specs.Table.{Joins, Splits, opening}
use Rattle.atomic_table.proofs.Lists.{at_set}
use Rattle.atomic_table.proofs.Lists as table_lists
use Rattle.std.proofs.Math.Decide.{ℕ_discrete}
use Rattle.mc_model.specs.declared.shown.LogSize.{LogSize}
use Rattle.mc_model.specs.declared.shown.ShownState.{ShownState}
use Rattle.mc_model.specs.Lawful.{ShownEvent}
use Rattle.mc_model.specs.Shown.{new_log, new_worker}
use Rattle.uc_places.specs.declared.view.Kind.{Kind}
use Rattle.uc_places.specs.declared.view.Kind.TheVariants.{Spare, Seated, Spent}
use Rattle.uc_places.specs.declared.view.Part.{Part}
use Rattle.uc_places.specs.declared.view.View.{View}
use Rattle.uc_places.specs.declared.view.Witnessed.{Witnessed}
use Rattle.uc_places.specs.Rule.{AreApart, Fits, HasSeat, IsKept, IsOneOf, IsSeatFor, IsSmall, Knows, OthersLead, PlaysAll}
use Rattle.uc_places.specs.Run.{part_of}
use Rattle.uc_places.specs.Told.{SeatState, fewer, first_of, joined_with, keeping, last_joined, parted, seat_again, spare_from, spent, told_list}
use Rattle.uc_places.proofs.Followed.{none_lead}
use Rattle.uc_places.proofs.Moves.{TableState, at_within, law, seat_still, seated, seated_for, shown_for}
use Rattle.uc_places.proofs.Wording.{announced_in}

-- the same words, and other views
review : (size : LogSize) (s : TableState) (kept : IsKept size s) (owner : ℕ → ℕ) (views : List View) →
    ((id : ℕ) (view : View) → get_elem? views id ≡ some view → Fits size kept.log kept.run owner id view) →
    ((number : ℕ) → number < size.workers → HasSeat views (owner number) number) →
    IsKept size record { words = s.words; homes = s.homes; views = views }
review size s kept owner views fits seated = record {
  small = kept.small;
  run = kept.run;
  log = kept.log;
  leads = kept.leads;
  shows = kept.shows;
  owner = owner;
  fits = fits;
  seated = seated;
}

-- the new seat at the end, or one of those before
at_last : (list : List View) (x y : View) (place : ℕ) → get_elem? (list ++ x ∷ []) place ≡ some y →
    (get_elem? list place ≡ some y) ⊎ ((place ≡ length list) × (x ≡ y))
at_last [] x y zero at = inr (refl, some-injective x y at)
at_last [] x y (suc place) at = absurd (some-ne-none y (sym at))
at_last (z ∷ list) x y zero at = inl at
at_last (z ∷ list) x y (suc place) at = ⊎_elim inl (λ (new : (place ≡ length list) × (x ≡ y)). inr (ap suc new.0, new.1)) (at_last list x y place at)

-- each worker's seat, once one more worker has its own
abbrev moved_to : (ℕ → ℕ) → ℕ → ℕ → ℕ → ℕ
moved_to owner number id worker = cond (worker == number) id (owner worker)

moved_here : (owner : ℕ → ℕ) (number id : ℕ) → moved_to owner number id number ≡ id
moved_here owner number id = ap (λ (b : Bool). cond b id (owner number)) (eq-eqb number number refl)

moved_else : (owner : ℕ → ℕ) (number id worker : ℕ) → worker ≢ number → moved_to owner number id worker ≡ owner worker
moved_else owner number id worker apart = ap (λ (b : Bool). cond b id (owner worker)) (ne_eqb worker number apart)

moved_own : (owner : ℕ → ℕ) (number id worker : ℕ) → owner worker ≡ id → moved_to owner number id worker ≡ id
moved_own owner number id worker own = by_test (worker == number)
  where
    by_test : (b : Bool) → cond b id (owner worker) ≡ id
    by_test true = refl
    by_test false = own

-- one worker has another seat, and the others have theirs, as `moved_to` gives them
all_seated : (size : LogSize) (owner : ℕ → ℕ) (number id : ℕ) (views : List View) → HasSeat views id number →
    ((other : ℕ) → other ≢ number → other < size.workers → HasSeat views (owner other) other) →
    (worker : ℕ) → worker < size.workers → HasSeat views (moved_to owner number id worker) worker
all_seated size owner number id views here else worker inside = by_number (ℕ_discrete worker number)
  where
    by_number : Dec (worker ≡ number) → HasSeat views (moved_to owner number id worker) worker
    by_number (yes same) = subst (λ (w : ℕ). HasSeat views (moved_to owner number id w) w) (sym same)
        (subst (λ (there : ℕ). HasSeat views there number) (sym (moved_here owner number id)) here)
    by_number (no apart) = subst (λ (there : ℕ). HasSeat views there worker) (sym (moved_else owner number id worker apart)) (else worker apart inside)

-- a seat is still that of its workers by another list of seats that has them there too
module _ (size : LogSize) (log : ShownState) (run : List ShownEvent) (owner new_owner : ℕ → ℕ) (id : ℕ)
    (own : (worker : ℕ) → owner worker ≡ id → new_owner worker ≡ id) where
  all_again : (parts : List Part) → PlaysAll size log run owner id parts → PlaysAll size log run new_owner id parts
  all_again [] play = tt
  all_again (part ∷ parts) play = (
    play.0,
    (own part.worker play.1.0, play.1.1, play.1.2, play.1.3),
    play.2,
    all_again parts play.3,
  )

  again : (view : View) (kind : Kind) → Knows size log run owner id view kind → Knows size log run new_owner id view kind
  again view Spare knows = λ worker low high. let was = knows worker low high in (own worker was.0, was.1, was.2, was.3)
  again view Seated knows = (all_again (part_of view ∷ view.joined) knows.0, knows.1, knows.2)
  again view Spent knows = knows

-- one worker gets another seat, which only the views at `id` and at that seat show
module _ (size : LogSize) (s : TableState) (kept : IsKept size s) (number id seat : ℕ) (mine : kept.owner number ≡ id) where
  stays : (other : ℕ) (view : View) → other ≢ id → get_elem? s.views other ≡ some view →
      Fits size kept.log kept.run (moved_to kept.owner number seat) other view
  stays other view apart there = let fits = kept.fits other view there in (
    fits.0,
    again size kept.log kept.run kept.owner (moved_to kept.owner number seat) other
        (λ worker own. moved_else kept.owner number seat worker (λ h. apart (sym own ∙ (ap kept.owner h ∙ mine))) ∙ own) view view.kind fits.1,
  )

-- a seat is split in two, of which the second is the new seat of one of its workers, and the first
-- that of the others
splits : (size : LogSize) (s : TableState) (kept : IsKept size s) (id : ℕ) (view left right : View) (number : ℕ) → kept.owner number ≡ id →
    get_elem? s.views id ≡ some view →
    ((other : ℕ) → other ≢ number → IsSeatFor other view view.kind → IsSeatFor other left left.kind) → IsSeatFor number right right.kind →
    Fits size kept.log kept.run (moved_to kept.owner number (length s.views)) id left →
    Fits size kept.log kept.run (moved_to kept.owner number (length s.views)) (length s.views) right →
    IsKept size record { words = s.words; homes = s.homes; views = set s.views id left ++ right ∷ [] }
splits size s kept id view left right number mine at keeps_left shows_right fits_left fits_right =
    let owner = moved_to kept.owner number (length s.views) in
    let views = set s.views id left in
    review size s kept owner (set s.views id left ++ right ∷ []) (λ other there_view there. ⊎_elim
    (λ (was : get_elem? (set s.views id left) other ≡ some there_view). ⊎_elim
    (λ (r : (other ≡ id) × (left ≡ there_view)). subst (λ (z : ℕ × View). Fits size kept.log kept.run owner z.0 z.1) (λ i. (sym r.0 i, r.1 i)) fits_left)
    (λ (r : (other ≢ id) × (get_elem? s.views other ≡ some there_view)). stays size s kept number id (length s.views) mine other there_view r.0 r.1)
    (at_set s.views id other left there_view was))
    (λ (r : (other ≡ length (set s.views id left)) × (right ≡ there_view)).
    subst (λ (z : ℕ × View). Fits size kept.log kept.run owner z.0 z.1) (λ i. (sym (r.0 ∙ length-set s.views id left) i, r.1 i)) fits_right)
    (at_last (set s.views id left) right there_view other there))
    (all_seated size kept.owner number (length s.views) (views ++ right ∷ [])
    (record { view = right; there = table_lists.at_last views right (length s.views) (length-set s.views id left); shows = shows_right })
    (λ other apart inside.
    let still = seat_still s.views id view left at (kept.owner other) other (keeps_left other apart) (kept.seated other inside) in
    record { view = still.view; there = table_lists.at_longer views (right ∷ []) (kept.owner other) still.view still.there; shows = still.shows }))

-- a worker's seat becomes another one
pub leaves : (size : LogSize) (id : ℕ) (view : View) → view.kind ≡ Seated → view.joined ≡ [] → Splits (IsKept size) id view spent view
leaves size id view is alone s kept at = let mine = seated size s kept id view at is in let n : ℕ = length s.views in
    let owner = moved_to kept.owner view.worker n in
    splits size s kept id view spent view view.worker mine.0 at
    (λ other apart shows. absurd (⊎_elim (λ (same : view.worker ≡ other). apart (sym same))
    (λ (joined : IsOneOf other view.joined). subst (IsOneOf other) alone joined) (shown_for other view is shows)))
    (seated_for view.worker view is (inl refl)) ((λ h. absurd (h refl)), tt) (
      (kept.fits id view at).0,
      subst (Knows size kept.log kept.run owner n view) (sym is) (
        subst (λ (parts : List Part). PlaysAll size kept.log kept.run owner n (part_of view ∷ parts)) (sym alone)
            (mine.5.0, (moved_here kept.owner view.worker n, mine.1, mine.3, mine.4), tt, tt),
        mine.2,
        mine.6,
      ),
    )

-- a seat is joined into another: no worker has both
apart_from : (size : LogSize) (log : ShownState) (run : List ShownEvent) (owner : ℕ → ℕ) (id other worker : ℕ) → owner worker ≡ other → other ≢ id →
    (parts : List Part) → PlaysAll size log run owner id parts → AreApart worker parts
apart_from size log run owner id other worker theirs apart [] play = tt
apart_from size log run owner id other worker theirs apart (part ∷ parts) play = (
  (λ same. apart (sym theirs ∙ (ap owner (sym same) ∙ play.1.0))),
  apart_from size log run owner id other worker theirs apart parts play.3,
)

pub joins : (size : LogSize) (id : ℕ) (view : View) (other : ℕ) (joining : View) → view.kind ≡ Seated → joining.kind ≡ Seated →
    joining.joined ≡ [] →
    Joins (IsKept size) id view other joining (joined_with view joining) spent
joins size id view other joining is theirs alone s kept at apart there =
    let new = joined_with view joining in
    let mine = seated size s kept id view at is in
    let was : get_elem? s.views other ≡ some joining = ⊎_elim
    (λ (t : (other ≡ id) × (new ≡ joining)). absurd (apart t.0)) (λ (t : (other ≢ id)
    × (get_elem? s.views other ≡ some joining)). t.1) (at_set s.views id other new joining there) in
    let its = seated size s kept other joining was theirs in
    let owner = moved_to kept.owner joining.worker id in
    let play = all_again size kept.log kept.run kept.owner owner id (moved_own kept.owner joining.worker id) (part_of view ∷ view.joined) mine.5 in
    let none = apart_from size kept.log kept.run kept.owner id other joining.worker its.0 apart (part_of view ∷ view.joined) mine.5 in
    review size s kept owner (set (set s.views id new) other spent) (λ j y e. ⊎_elim
    (λ (q : (j ≡ other) × (spent ≡ y)). subst (Fits size kept.log kept.run owner j) q.1 ((λ h. absurd (h refl)), tt))
    (λ (q : (j ≢ other) × (get_elem? (set s.views id new) j ≡ some y)). ⊎_elim
    (λ (r : (j ≡ id) × (new ≡ y)). subst (λ (z : ℕ × View). Fits size kept.log kept.run owner z.0 z.1) (λ i. (sym r.0 i, r.1 i)) (
      (kept.fits id view at).0,
      subst (Knows size kept.log kept.run owner id new) (sym is) (
        (
          play.0,
          play.1,
          ((λ same. none.0 (sym same)), play.2),
          (
            its.5.0,
            (moved_here kept.owner joining.worker id, its.1, its.3, its.4),
            none.1,
            play.3,
          ),
        ),
        mine.2,
        mine.6,
      ),
    ))
    (λ (r : (j ≢ id) × (get_elem? s.views j ≡ some y)). stays size s kept joining.worker other id its.0 j y q.0 r.1) (at_set s.views id j new y q.1))
    (at_set (set s.views id new) other j spent y e))
    (all_seated size kept.owner joining.worker id (set (set s.views id new) other spent)
    (record {
      view = new;
      there = table_lists.set_else (set s.views id new) other id spent (λ same. apart (sym same)) ∙ table_lists.set_here s.views id new (at_within s.views id view at);
      shows = seated_for joining.worker new is (inr (inl refl));
    })
    (λ worker not inside. seat_still (set s.views id new) other joining spent there (kept.owner worker) worker
    (λ shows. absurd (⊎_elim (λ (same : joining.worker ≡ worker). not (sym same))
    (λ (joined : IsOneOf worker joining.joined). subst (IsOneOf worker) alone joined) (shown_for worker joining theirs shows)))
    (seat_still s.views id view new at (kept.owner worker) worker
    (λ shows. seated_for worker new is (⊎_elim (λ (same : view.worker ≡ worker). inl same)
    (λ (joined : IsOneOf worker view.joined). inr (inr joined)) (shown_for worker view is shows))) (kept.seated worker inside))))

-- the only seat that was joined into another is split off again
pub parts : (size : LogSize) (id : ℕ) (view : View) (part : Part) → view.kind ≡ Seated → view.joined ≡ part ∷ [] →
    Splits (IsKept size) id view (parted view) (last_joined view)
parts size id view part is one s kept at =
    let mine = seated size s kept id view at is in let n : ℕ = length s.views in
    let play = subst (λ (parts : List Part). PlaysAll size kept.log kept.run kept.owner id (part_of view ∷ parts)) one mine.5 in
    let its = play.3 in let owner = moved_to kept.owner part.worker n in
    let begins = ((law size s kept).each view.worker view.state mine.1).begins in
    splits size s kept id view (parted view) (last_joined view) part.worker its.1.0 at
    (λ other apart shows. seated_for other (parted view) is (⊎_elim (λ (same : view.worker ≡ other). inl same)
    (λ (joined : IsOneOf other view.joined). ⊎_elim (λ (same : part.worker ≡ other). absurd (apart (sym same))) (λ (none : ⊥). absurd none)
    (subst (IsOneOf other) one joined)) (shown_for other view is shows)))
    (subst (λ (parts : List Part). let given = option_map_or (seat_again view.state.learned) (slice_get parts 0) spent in IsSeatFor part.worker given given.kind)
    (sym one) (inl refl)) (
      (kept.fits id view at).0,
      subst (Knows size kept.log kept.run owner id (parted view)) (sym is) (
        subst (λ (parts : List Part). PlaysAll size kept.log kept.run owner id (part_of view ∷ drop 1 parts)) (sym one) (
          play.0,
          (
            moved_else kept.owner part.worker n view.worker (λ same. play.2.0 (sym same))
                ∙ play.1.0,
            play.1.1,
            play.1.2,
            play.1.3,
          ),
          tt,
          tt,
        ),
        mine.2,
        mine.6,
      ),
    ) (subst (λ (parts : List Part). Fits size kept.log kept.run owner n
    (option_map_or (seat_again view.state.learned) (slice_get parts 0) spent)) (sym one) (
      (λ _. its.0),
      (
        (its.0, (moved_here kept.owner part.worker n, its.1.1, its.1.2, its.1.3), tt, tt),
        begins,
        (kept.run, refl),
      ),
    ))

-- a seat with another joined into it, by what each step shows, and the other once it is split off
pub hosts : (here there seat : SeatState) (view joining : View) → here ≡ there → there.0 ≡ joined_with view seat.0 → seat.0 ≡ joining →
    here.0 ≡ joined_with view joining
hosts here there seat view joining same joined left = ap (λ (m : SeatState). m.0) same ∙ (joined ∙ ap (joined_with view) left)

pub keeping_hosts : (here there seat : SeatState) (view joining : View) (events : List Witnessed) → here ≡ (keeping there.0 events, there.1) →
    there.0 ≡ joined_with view seat.0 → seat.0 ≡ joining → here.0 ≡ joined_with (keeping view events) joining
keeping_hosts here there seat view joining events kept joined left = ap (λ (m : SeatState). m.0) kept
    ∙ ap (λ (v : View). keeping v events) (joined ∙ ap (joined_with view) left)

pub gives_back : (host view joining : View) (seat : SeatState) → host ≡ joined_with view joining → seat ≡ (last_joined host, []) →
    joining.kind ≡ Seated → joining.joined ≡ [] → seat.0 ≡ told_list joining view.state.learned
gives_back host view joining seat is split seated alone = ap (λ (m : SeatState). m.0) split
    ∙ (ap last_joined is ∙ (λ i. record (told_list joining view.state.learned) { kind = sym seated i; joined = sym alone i }))

le_and_ne : (low high : ℕ) → low ≤ high → low ≢ high → low + 1 ≤ high
le_and_ne zero zero below apart = absurd (apart refl)
le_and_ne zero (suc high) below apart = omega arith
le_and_ne (suc low) zero below apart = absurd (let no : ⊥ = omega (arith, below) in no)
le_and_ne (suc low) (suc high) below apart = let more = le_and_ne low high (omega (arith, below)) (λ same. apart (ap suc same)) in omega (arith, more)

-- the spare seat gives out the seat of its first worker
pub deals : (size : LogSize) (id : ℕ) (view : View) → view.kind ≡ Spare → view.worker < view.size.workers →
    Splits (IsKept size) id view (fewer view) (first_of view)
deals size id view is below s kept at =
    let e : view.size ≡ size = (kept.fits id view at).0 (λ q. cc) in
    let inside : view.worker < size.workers = subst (λ (z : LogSize). view.worker < z.workers) e below in
    let mine = subst (Knows size kept.log kept.run kept.owner id view) is (kept.fits id view at).1 in
    let first = mine view.worker (le_refl view.worker) inside in
    let n : ℕ = length s.views in
    splits size s kept id view (fewer view) (first_of view) view.worker first.0 at
    (λ other apart shows. let low : view.worker ≤ other = subst (IsSeatFor other view) is shows in le_and_ne view.worker other low (λ same. apart (sym same)))
    (inl refl) (
      (λ _. e),
      (λ worker low high. let m = mine worker (omega arith) high in (
        moved_else kept.owner view.worker n worker (λ h. omega arith)
            ∙ m.0,
        m.1,
        m.2,
        m.3,
      )),
    ) (
      (λ _. e),
      (
        (
          e,
          (
            moved_here kept.owner view.worker n,
            first.1,
            subst (λ (z : LogSize). OthersLead size view.worker (new_log z) kept.log) (sym e) first.2,
            first.3,
          ),
          tt,
          tt,
        ),
        (kept.log.decided, refl),
        (kept.run, refl),
      ),
    )

-- the invariant holds of the words before the first event
pub starts : (size : LogSize) (words : List ℕ) → IsSmall size → length words ≡ 1 + size.workers + size.places → slice_index words 0 ≡ size.workers →
    ((i : ℕ) → 0 < i → i < length words → slice_index words i ≡ 0) → IsKept size (opening words [] (spare_from size 0))
starts size words small wide first blank = record {
  small = small;
  run = [];
  log = new_log size;
  leads = refl;
  shows = record {
    wide = wide;
    first = first;
    counts = λ number inside. blank (1 + number) (omega arith) (omega arith) ∙ sym (ap announced_in (all_new size.workers number inside));
    places = λ place inside. blank (1 + size.workers + place) (omega arith) (omega arith);
  };
  owner = λ _. 0;
  fits = λ id view at. by_seat id view at;
  seated = λ number inside. record { view = spare_from size 0; there = refl; shows = omega arith };
}
  where
    all_new : (workers number : ℕ) → number < workers → slice_get (replicate workers new_worker) number ≡ Some new_worker
    all_new zero number inside = absurd (omega arith)
    all_new (suc workers) zero inside = refl
    all_new (suc workers) (suc number) inside = all_new workers number (omega arith)

    by_seat : (id : ℕ) (view : View) → get_elem? (spare_from size 0 ∷ []) id ≡ some view → Fits size (new_log size) [] (λ _. 0) id view
    by_seat zero view at = subst (Fits size (new_log size) [] (λ _. 0) 0) (some-injective _ _ at)
        ((λ _. refl), (λ worker low high. (refl, all_new size.workers worker high, none_lead size worker (new_log size), refl)))
    by_seat (suc id) view at = absurd (some-ne-none view (sym at))
