-- How many slots have a property, after one of them has changed.
use Rattle.std.proofs.Common.{◌≡◌, ◌≢◌, ◌∙◌, ◌==◌, ◌<◌, ◌≤◌, ℕ, zero, suc, ◌+◌, ◌-◌, Bool, true, false, cond, List, [], ◌∷◌, length, Option, Some, None, IsSome, is_some, count_by, sum, set, get_or, slice_index_or, refl, sym, ap, arith, subst, inl, inr, get_or-set_same, get_or-set_other}
use Rattle.std.proofs.lemmas.Bool.{cases_eq}
use Rattle.std.proofs.lemmas.Bool.Decides.{eqb_tells}
use Rattle.std.proofs.lemmas.Option.{same_Some}
use Rattle.std.proofs.lemmas.List.Sums.{sum_by-cons, sum_by-set}
use Rattle.slab.proofs.SlabLemmas.{Updates-with_value}
use Rattle.slab.specs.Slab.{Slab, Updates, get, slab_len, with_value}
use Rattle.mc_conn.specs.Owed.{IsAmong}
use Rattle.fair_places.specs.Places.{held_by}
use Rattle.mc_conn.specs.declared.conn.Role.{Role}
use Rattle.mc_conn.specs.declared.conn.Role.TheVariants.{Admin, Tenant}
use Rattle.mc_connections.specs.Counting.{AreCounted, has_admin, has_tenant, held_as, is_admin, is_of_tenant, with_held_as}
use Rattle.mc_connections.specs.Holding.{WorkerPlaces}
use Rattle.mc_connections.specs.declared.connection.Connection.{Connection}

module _ {C : Type 0} (p : Option C → Bool) (none : p None ≡ false) where
  -- one more if the slot has the property
  abbrev one_if : Option C → ℕ
  one_if slot = cond (p slot) 1 0

  none_is_zero : (slot : Option C) → slot ≡ None → one_if slot ≡ 0
  none_is_zero slot is = ap one_if is ∙ ap (λ b. cond b 1 0) none

  counts_first : (slot : Option C) (slots : List (Option C)) → count_by p (slot ∷ slots) ≡ one_if slot + count_by p slots
  counts_first slot slots = sum_by-cons (λ o. cond (p o) 1 0) slot slots

  -- slots that are equal at each key, where those that are missing are empty
  abbrev AreEqual : List (Option C) → List (Option C) → Type 0
  AreEqual xs ys = (key : ℕ) → slice_index_or ys key None ≡ slice_index_or xs key None

  same_count : (xs ys : List (Option C)) → AreEqual xs ys → count_by p ys ≡ count_by p xs
  same_count [] [] equal = refl
  same_count [] (y ∷ ys) equal =
      omega (arith, counts_first y ys, none_is_zero y (equal 0), same_count [] ys (λ key. equal (suc key)))
  same_count (x ∷ xs) [] equal =
      omega (arith, counts_first x xs, none_is_zero x (sym (equal 0)), same_count xs [] (λ key. equal (suc key)))
  same_count (x ∷ xs) (y ∷ ys) equal =
      omega (arith, counts_first x xs, counts_first y ys, ap one_if (equal 0), same_count xs ys (λ key. equal (suc key)))

  -- slots that are equal at each key but this one
  abbrev AreEqualBut : ℕ → List (Option C) → List (Option C) → Type 0
  AreEqualBut key xs ys = (other : ℕ) → other ≢ key → slice_index_or ys other None ≡ slice_index_or xs other None

  abbrev Moves : ℕ → List (Option C) → List (Option C) → Type 0
  Moves key xs ys = count_by p ys + one_if (slice_index_or xs key None) ≡ count_by p xs + one_if (slice_index_or ys key None)

  -- the count moves by what the changed slot had and has
  moves : (key : ℕ) (xs ys : List (Option C)) → AreEqualBut key xs ys → Moves key xs ys
  moves zero [] [] equal = refl
  moves (suc key) [] [] equal = refl
  moves zero [] (y ∷ ys) equal =
      omega (arith, counts_first y ys, none_is_zero None refl, same_count [] ys (λ other. equal (suc other) (λ is. absurd (omega (arith, is)))))
  moves zero (x ∷ xs) [] equal =
      omega (arith, counts_first x xs, none_is_zero None refl, same_count xs [] (λ other. equal (suc other) (λ is. absurd (omega (arith, is)))))
  moves zero (x ∷ xs) (y ∷ ys) equal =
      omega (arith, counts_first x xs, counts_first y ys, same_count xs ys (λ other. equal (suc other) (λ is. absurd (omega (arith, is)))))
  moves (suc key) [] (y ∷ ys) equal =
      omega (arith, counts_first y ys, none_is_zero y (equal 0 (λ is. absurd (omega (arith, is)))), none_is_zero None refl, moves key [] ys (λ other not. equal (suc other) (λ is. not (omega (arith, is)))))
  moves (suc key) (x ∷ xs) [] equal =
      omega (arith, counts_first x xs, none_is_zero x (sym (equal 0 (λ is. absurd (omega (arith, is))))), none_is_zero None refl, moves key xs [] (λ other not. equal (suc other) (λ is. not (omega (arith, is)))))
  moves (suc key) (x ∷ xs) (y ∷ ys) equal =
      omega (arith, counts_first x xs, counts_first y ys, ap one_if (equal 0 (λ is. absurd (omega (arith, is)))), moves key xs ys (λ other not. equal (suc other) (λ is. not (omega (arith, is)))))

  -- the same for a slab that was updated
  pub count_updated : (old new : Slab C) (key : ℕ) (slot : Option C) → Updates old new key slot →
      count_by p new.slots + cond (p (get old key)) 1 0 ≡ count_by p old.slots + cond (p slot) 1 0
  count_updated old new key slot updates =
      moves key old.slots new.slots updates.others ∙ ap (λ one. count_by p old.slots + one_if one) updates.changed

-- each connection is of a role that the log has, with one more
pub known_admitted : (before after : Slab Connection) (key : ℕ) (new : Connection) (tenants : ℕ) → ((other : ℕ) (one : Connection) → get before other ≡ Some one → IsAmong one.conn.role tenants) →
    Updates before after key (Some new) → IsAmong new.conn.role tenants → (other : ℕ) (one : Connection) → get after other ≡ Some one → IsAmong one.conn.role tenants
known_admitted before after key new tenants known updates is other one at =
    elim (cases_eq other key) [
      | inl same ↦ subst (λ (some : Connection). IsAmong some.conn.role tenants) (same_Some new one (sym updates.changed ∙ ap (get after) (sym same) ∙ at)) is
      | inr differs ↦ known other one (sym (updates.others other differs) ∙ at)
    ]

-- ---- places that are taken and given back

-- one if the condition holds
abbrev one_where : Bool → ℕ
one_where is = cond is 1 0

eqb_same : (n : ℕ) → (n == n) ≡ true
eqb_same n = elim (eqb_tells n n) [ inl tells ↦ tells.0 | inr tells ↦ absurd (tells.1 refl) ]

-- what a tenant holds, once another number is noted for one of them
pub data IsNoted (held : List ℕ) (other tenant now : ℕ) : Type 0 where
  here : (other == tenant) ≡ true → other ≡ tenant → get_or (set held other now) tenant 0 ≡ now → IsNoted held other tenant now
  elsewhere : (other == tenant) ≡ false → get_or (set held other now) tenant 0 ≡ get_or held tenant 0 → IsNoted held other tenant now

noted : (held : List ℕ) (other tenant now : ℕ) → other < length held → IsNoted held other tenant now
noted held other tenant now inside =
    elim (eqb_tells other tenant) [
      | inl tells ↦ here tells.0 tells.1 (subst (λ (at : ℕ). get_or (set held other now) at 0 ≡ now) tells.1 (get_or-set_same held other now 0 inside))
      | inr tells ↦ let ne : tenant ≢ other = λ is. tells.1 (sym is) in elsewhere tells.0 (rw get_or-set_other refl)
    ]

module _ (tenants : ℕ) (places : WorkerPlaces) (holders : length places.tenants.held ≡ tenants) where
  abbrev one_more : Role → WorkerPlaces
  one_more role = with_held_as role (held_as role places + 1) places

  abbrev one_less : Role → WorkerPlaces
  one_less role = with_held_as role (held_as role places - 1) places

  more_of : (role : Role) (tenant : ℕ) → IsAmong role tenants → held_by (one_more role).tenants tenant ≡ held_by places.tenants tenant + one_where (is_of_tenant tenant role)
  more_of (Tenant other) tenant is =
      elim (noted places.tenants.held other tenant (held_by places.tenants other + 1) (omega (arith, is, holders))) [
        | here same at now ↦ rw same (omega (arith, now, ap (λ (at : ℕ). get_or places.tenants.held at 0) at))
        | elsewhere differs as_before ↦ rw differs (omega (arith, as_before))
      ]
  more_of (Admin names) tenant is = omega arith

  less_of : (role : Role) (tenant : ℕ) → IsAmong role tenants → 0 < held_as role places → held_by (one_less role).tenants tenant + one_where (is_of_tenant tenant role) ≡ held_by places.tenants tenant
  less_of (Tenant other) tenant is some =
      elim (noted places.tenants.held other tenant (held_by places.tenants other - 1) (omega (arith, is, holders))) [
        | here same at now ↦ rw same (omega (arith, now, some, ap (λ (at : ℕ). get_or places.tenants.held at 0) at))
        | elsewhere differs as_before ↦ rw differs (omega (arith, as_before))
      ]
  less_of (Admin names) tenant is some = omega arith

  more_admins : (role : Role) → (one_more role).admins ≡ places.admins + one_where (is_admin role)
  more_admins (Tenant other) = omega arith
  more_admins (Admin names) = refl

  less_admins : (role : Role) → 0 < held_as role places → (one_less role).admins + one_where (is_admin role) ≡ places.admins
  less_admins (Tenant other) some = omega arith
  less_admins (Admin names) some = omega (arith, some)

  more_in_all : (role : Role) → IsAmong role tenants → sum (one_more role).tenants.held + (one_more role).admins ≡ sum places.tenants.held + places.admins + 1
  more_in_all (Tenant other) is =
      omega (arith, sum_by-set (λ n. n) places.tenants.held other (held_by places.tenants other + 1) 0 (omega (arith, is, holders)))
  more_in_all (Admin names) is = omega arith

  less_in_all : (role : Role) → IsAmong role tenants → 0 < held_as role places → sum (one_less role).tenants.held + (one_less role).admins + 1 ≡ sum places.tenants.held + places.admins
  less_in_all (Tenant other) is some =
      omega (arith, some, sum_by-set (λ n. n) places.tenants.held other (held_by places.tenants other - 1) 0 (omega (arith, is, holders)))
  less_in_all (Admin names) is some = omega (arith, some)

-- ---- what is held is counted

-- once a place was taken there is room for its connection
pub room_taken : (tenants : ℕ) (places : WorkerPlaces) (before : Slab Connection) (role : Role) (now : WorkerPlaces) (most : ℕ) → length places.tenants.held ≡ tenants → AreCounted tenants places before →
    IsAmong role tenants → now ≡ with_held_as role (held_as role places + 1) places → sum now.tenants.held + now.admins ≤ most → slab_len before + 1 ≤ most
room_taken tenants places before role now most holders counted is taken few =
    let total = ap (λ (places : WorkerPlaces). sum places.tenants.held + places.admins) taken in
    omega (arith, total, few, more_in_all tenants places holders role is, counted.of_all)

abbrev filled : Option Connection → ℕ
filled slot = one_where (is_some slot)

-- a connection was admitted, and has taken a place
pub counted_admitted : (tenants : ℕ) (places : WorkerPlaces) (before after : Slab Connection) (key : ℕ) (new : Connection) (role : Role) (now : WorkerPlaces) →
    length places.tenants.held ≡ tenants → AreCounted tenants places before → IsAmong role tenants → new.conn.role ≡ role → get before key ≡ None → Updates before after key (Some new) →
    slab_len after ≡ slab_len before + 1 → now ≡ with_held_as role (held_as role places + 1) places → AreCounted tenants now after
counted_admitted tenants places before after key new role now holders counted is of vacant updates long taken =
    let kind = λ (tenant : ℕ). ap (λ role. one_where (is_of_tenant tenant role)) of in
    let none = λ (tenant : ℕ). ap (λ slot. one_where (has_tenant tenant slot)) vacant in
    let admin = ap (λ role. one_where (is_admin role)) of in
    let no_admin = ap (λ slot. one_where (has_admin slot)) vacant in
    subst (λ (places : WorkerPlaces). AreCounted tenants places after) (sym taken)
    (record {
      of_tenants = λ tenant below.
          omega (arith, more_of tenants places holders role tenant is, counted.of_tenants tenant below, count_updated (has_tenant tenant) refl before after key (Some new) updates, kind tenant, none tenant);
      of_admins = omega (arith, more_admins tenants places holders role, counted.of_admins, count_updated has_admin refl before after key (Some new) updates, admin, no_admin);
      of_all = omega (arith, long, more_in_all tenants places holders role is, counted.of_all);
    })

-- one that was served has its place still
module _ (before : Slab Connection) (key : ℕ) (old new : Connection) (there : get before key ≡ Some old) (role : new.conn.role ≡ old.conn.role) where
  was_written : Updates before (with_value before key new) key (Some new)
  was_written = Updates-with_value before key new (subst IsSome (sym there) refl)

  length_served : slab_len (with_value before key new) ≡ slab_len before
  length_served =
      let same : filled (Some new) ≡ filled (get before key) = sym (ap filled there) in
      omega (arith, count_updated is_some refl before (with_value before key new) key (Some new) was_written, same)

  pub counted_served : (tenants : ℕ) (places : WorkerPlaces) → AreCounted tenants places before → AreCounted tenants places (with_value before key new)
  counted_served tenants places counted =
      let kind = λ (tenant : ℕ). ap (λ role. one_where (is_of_tenant tenant role)) role in
      let had = λ (tenant : ℕ). ap (λ slot. one_where (has_tenant tenant slot)) there in
      let admin = ap (λ role. one_where (is_admin role)) role in
      let had_admin = ap (λ slot. one_where (has_admin slot)) there in
      record {
        of_tenants = λ tenant below.
            omega (arith, counted.of_tenants tenant below, count_updated (has_tenant tenant) refl before (with_value before key new) key (Some new) was_written, kind tenant, had tenant);
        of_admins = omega (arith, counted.of_admins, count_updated has_admin refl before (with_value before key new) key (Some new) was_written, admin, had_admin);
        of_all = omega (arith, length_served, counted.of_all);
      }

  pub known_served : (tenants : ℕ) → ((other : ℕ) (one : Connection) → get before other ≡ Some one → IsAmong one.conn.role tenants) →
      (other : ℕ) (one : Connection) → get (with_value before key new) other ≡ Some one → IsAmong one.conn.role tenants
  known_served tenants known = known_admitted before (with_value before key new) key new tenants known was_written (subst (λ role. IsAmong role tenants) (sym role) (known key old there))

-- one that has ended gives its place back
module _ (tenants : ℕ) (places : WorkerPlaces) (before after : Slab Connection) (key : ℕ) (connection : Connection) (holders : length places.tenants.held ≡ tenants) (counted : AreCounted tenants places before)
    (known : (other : ℕ) (one : Connection) → get before other ≡ Some one → IsAmong one.conn.role tenants) (there : get before key ≡ Some connection) (updates : Updates before after key None)
    (role : Role) (of : role ≡ connection.conn.role) where
  is : IsAmong role tenants
  is = subst (λ role. IsAmong role tenants) (sym of) (known key connection there)

  had_tenant : (tenant : ℕ) → one_where (has_tenant tenant (get before key)) ≡ one_where (is_of_tenant tenant role)
  had_tenant tenant = ap (λ slot. one_where (has_tenant tenant slot)) there ∙ ap (λ role. one_where (is_of_tenant tenant role)) (sym of)

  had_admin : one_where (has_admin (get before key)) ≡ one_where (is_admin role)
  had_admin = ap (λ slot. one_where (has_admin slot)) there ∙ ap (λ role. one_where (is_admin role)) (sym of)

  one_of_them : (one : Role) → role ≡ one → IsAmong one tenants → 0 < held_as one places
  one_of_them (Tenant tenant) same among =
      let had : one_where (has_tenant tenant (get before key)) ≡ 1 = had_tenant tenant ∙ ap (λ role. one_where (is_of_tenant tenant role)) same ∙ ap one_where (eqb_same tenant) in
      omega (arith, had, counted.of_tenants tenant among, count_updated (has_tenant tenant) refl before after key None updates)
  one_of_them (Admin names) same among =
      let had : one_where (has_admin (get before key)) ≡ 1 = had_admin ∙ ap (λ role. one_where (is_admin role)) same in
      omega (arith, had, counted.of_admins, count_updated has_admin refl before after key None updates)

  pub holds_one : 0 < held_as role places
  holds_one = one_of_them role refl is

  pub counted_left : (now : WorkerPlaces) → slab_len after + 1 ≡ slab_len before → now ≡ with_held_as role (held_as role places - 1) places → AreCounted tenants now after
  counted_left now long given =
      subst (λ (places : WorkerPlaces). AreCounted tenants places after) (sym given)
      (record {
        of_tenants = λ tenant below.
            omega (arith, less_of tenants places holders role tenant is holds_one, counted.of_tenants tenant below, count_updated (has_tenant tenant) refl before after key None updates, had_tenant tenant);
        of_admins = omega (arith, less_admins tenants places holders role holds_one, counted.of_admins, count_updated has_admin refl before after key None updates, had_admin);
        of_all = omega (arith, long, less_in_all tenants places holders role is holds_one, counted.of_all);
      })

  pub known_left : (other : ℕ) (one : Connection) → get after other ≡ Some one → IsAmong one.conn.role tenants
  known_left other one at =
      elim (cases_eq other key) [
        | inl same ↦ let none : None ≡ Some one = sym updates.changed ∙ ap (get after) (sym same) ∙ at in absurd cc
        | inr differs ↦ known other one (sym (updates.others other differs) ∙ at)
      ]
