-- Entries that are copied one by one.
use Rattle.std.proofs.Common.{◌≡◌, ℕ, ◌+◌, ◌<◌, ◌≤◌, Bool, true, false, cond, List, [], drop, get_or, length, slice_get, Option, Some, None, refl, sym, ap, ◌∙◌, add-one, arith}
use Rattle.std.proofs.Math.Seq.{drop-cons}
use Rattle.std.proofs.lemmas.Bool.Decides.{nat_tests}
use Rattle.std.proofs.lemmas.List.Sums.{position_or_len_is}
use Rattle.std.proofs.lemmas.Map.Keys.{apart_from_distinct}
use Rattle.std.proofs.lemmas.Option.{get_or_from_slice_get, slice_get-map, slice_get_within}
use Rattle.std.specs.Cmp.{IsEquivalence}
use Rattle.std.specs.Cmp.Lexicographic.{nat_list_eq_equiv, texts_ties}
use Rattle.std.specs.FinMap as map
use Rattle.std.specs.FinMap.{get-empty, get-insert, get-remove, same_map}
use Rattle.std.specs.List.{IsDistinct, position_or_len}
use Rattle.std.specs.Map.{keys_of}
use Rattle.std.specs.Option.{option_map}
use Rattle.std.specs.Prelude.{nat_eq, nat_lt, suc}
use Rattle.mc_model.specs.declared.item.Item.{Item}
use Rattle.mc_model.specs.declared.key.Key.{Key}
use Rattle.mc_model.specs.Table.{Table, is_tied, key_cmp, key_cmp_exact, key_cmp_total, tied_keys}
use Rattle.mc_tables.specs.Marks.{is_set}
use Rattle.mc_tables.specs.Entries.{is_marked, laid_over, same_key, unmarked, without}
use Rattle.mc_tables.proofs.Places.{place_within}
use Rattle.mc_tables.proofs.Layering.{apart_places, entry_at, get-unmarked, get-without, held_under, or_else, place_of, same, same_itself, same_texts, same_turned}

-- a look-up in the entries from a place on, where that place is the first
pub entry_at-from : {K V : Type 0} (text : K → Key) (held : List (K × V)) (place : ℕ) (entry : K × V) → slice_get held place ≡ Some entry → (q : Key) →
    entry_at text (drop place held) q ≡ cond (same q (text entry.0)) (Some entry.1) (entry_at text (drop (place + 1) held) q)
entry_at-from text held place entry is q =
    let inside = slice_get_within held place entry is in
    let at = get_or_from_slice_get held place entry entry is in
    ap (λ es. entry_at text es q) (drop-cons held place entry inside)
    ∙ ap (λ (e : _). cond (same q (text e.0)) (Some e.1) (entry_at text (drop (suc place) held) q)) at
    ∙ ap (λ n. cond (same q (text entry.0)) (Some entry.1) (entry_at text (drop n held) q)) (sym (add-one place))

-- the place of an entry's own key
pub own_place : (held : List (Key × Item)) (place : ℕ) (entry : Key × Item) → IsDistinct (same_texts same_key) (keys_of held) →
    slice_get held place ≡ Some entry → place_of held (same_key entry.0) ≡ Some place
own_place held place entry apart at =
    let keys = keys_of held in
    let q = same_key entry.0 in
    let here : slice_get keys place ≡ Some entry.0 = slice_get-map (λ e. e.0) held place ∙ ap (option_map (λ e. e.0)) at in
    let inside : place < length keys = slice_get_within keys place entry.0 here in
    let is : get_or keys place entry.0 ≡ entry.0 = get_or_from_slice_get keys place entry.0 entry.0 here in
    let first : position_or_len (λ k. same q (same_key k)) keys ≡ place = position_or_len_is (λ k. same q (same_key k)) keys place entry.0 (omega (arith, inside))
    (λ k before. same_turned q (same_key (get_or keys k entry.0)) ∙ ap (λ x. same (same_key (get_or keys k entry.0)) (same_key x)) (sym is)
    ∙ apart_from_distinct (same_texts same_key) keys k place entry.0 apart before inside)
    (λ _. ap (λ x. same q (same_key x)) is ∙ same_itself q) in
    let found : nat_lt place (length keys) ≡ true = grind (arith, nat_tests) in
    (λ i. cond (nat_lt (first i) (length keys)) (Some (first i)) None) ∙ ap (λ b. cond b (Some place) None) found

-- SOME ENTRIES ARE LEFT OUT
-- what entries hold, but for the keys that are gone
abbrev pub left_at : (Key → Bool) → List (Key × Item) → Key → Option Item
left_at gone entries q = cond (gone q) None (entry_at same_key entries q)

-- what was copied so far, before what is left, is all that isn't gone
abbrev pub IsCopyingLeft : (Key → Bool) → Table → List (Key × Item) → List (Key × Item) → Type 0
IsCopyingLeft gone copy left held = (q : Key) → or_else (map.get copy q) (left_at gone left q) ≡ left_at gone held q

pub none_copied_left : (gone : Key → Bool) (copy : Table) (held : List (Key × Item)) → copy ≡ map.empty → IsCopyingLeft gone copy held held
none_copied_left gone copy held is = λ q. ap (λ (o : Option Item). or_else o (left_at gone held q)) (ap (λ (t : Table). map.get t q) is ∙ get-empty key_cmp q)

module _ (gone : Key → Bool) (copy : Table) (left next held : List (Key × Item)) (text : Key) (item : Item) (so_far : IsCopyingLeft gone copy left held)
    (first : (q : Key) → entry_at same_key left q ≡ cond (same q text) (Some item) (entry_at same_key next q)) where
  other : (q : Key) → is_tied q text ≡ false → left_at gone left q ≡ left_at gone next q
  other q apart = ap (cond (gone q) None) (first q ∙ ap (λ b. cond b (Some item) (entry_at same_key next q)) (texts_ties q text ∙ apart))

  -- an entry is gone
  pub one_gone : gone text ≡ true → IsCopyingLeft gone copy next held
  one_gone is_gone = λ q. ap (or_else (map.get copy q)) (by q (is_tied q text) refl) ∙ so_far q
    where
      by : (q : Key) (tied : Bool) → is_tied q text ≡ tied → left_at gone next q ≡ left_at gone left q
      by q true is =
          let yes : gone q ≡ true = ap gone (tied_keys q text is) ∙ is_gone in
          ap (λ b. cond b None (entry_at same_key next q)) yes ∙ sym (ap (λ b. cond b None (entry_at same_key left q)) yes)
      by q false is = sym (other q is)

  -- an entry is copied
  pub one_copied_left : (new : Table) → gone text ≡ false → entry_at same_key held text ≡ Some item → new ≡ map.insert copy text item → IsCopyingLeft gone new next held
  one_copied_left new kept there put_in = λ q.
      ap (λ (t : Table). or_else (map.get t q) (left_at gone next q)) put_in
      ∙ ap (λ (o : Option Item). or_else o (left_at gone next q)) (get-insert key_cmp_total copy text item q)
      ∙ by q (is_tied q text) refl
    where
      by : (q : Key) (tied : Bool) → is_tied q text ≡ tied → or_else (cond tied (Some item) (map.get copy q)) (left_at gone next q) ≡ left_at gone held q
      by q true is =
          let no : gone q ≡ false = ap gone (tied_keys q text is) ∙ kept in
          sym (ap (λ b. cond b None (entry_at same_key held q)) no ∙ ap (entry_at same_key held) (tied_keys q text is) ∙ there)
      by q false is = ap (or_else (map.get copy q)) (sym (other q is)) ∙ so_far q

no_more_left : (gone : Bool) (o : Option Item) → o ≡ or_else o (cond gone None None)
no_more_left true None = refl
no_more_left true (Some item) = refl
no_more_left false None = refl
no_more_left false (Some item) = refl

-- whether a key's place is marked
abbrev pub is_gone_from : List (Key × Item) → List ℕ → Key → Bool
is_gone_from held marks q = is_marked marks (place_of held q)

pub all_copied_left : (marks : List ℕ) (copy : Table) (left held : List (Key × Item)) → left ≡ [] →
    IsCopyingLeft (is_gone_from held marks) copy left held → copy ≡ unmarked held marks
all_copied_left marks copy left held none so_far = same_map key_cmp_total key_cmp_exact _ _ (λ q.
    no_more_left (is_gone_from held marks q) (map.get copy q)
    ∙ ap (λ es. or_else (map.get copy q) (left_at (is_gone_from held marks) es q)) (sym none) ∙ so_far q
    ∙ sym (get-unmarked held marks q))

-- ENTRIES ARE LAID OVER A COPY
-- but for the keys of the entries that are left, the copy has what it is to have
abbrev pub IsLaying : {K V : Type 0} → (K → Key) → Table → Table → List (K × V) → Type 0
IsLaying text whole copy left = (q : Key) → entry_at text left q ≡ None → map.get copy q ≡ map.get whole q

pub none_laid : {K V : Type 0} (text : K → Key) (item : V → Item) (table : Table) (entries : List (K × V)) → IsLaying text (laid_over text item table entries) table entries
none_laid text item table entries = λ q none. sym (held_under text item table entries q none)

pub one_laid : {K V : Type 0} (text : K → Key) (whole copy new : Table) (left next : List (K × V)) (key : Key) (held : V) (item : Item) → IsLaying text whole copy left →
    ((q : Key) → entry_at text left q ≡ cond (same q key) (Some held) (entry_at text next q)) →
    map.get whole key ≡ Some item → new ≡ map.insert copy key item → IsLaying text whole new next
one_laid text whole copy new left next key held item so_far first there put_in = λ q none.
    ap (λ (t : Table). map.get t q) put_in ∙ get-insert key_cmp_total copy key item q ∙ by q none (is_tied q key) refl
  where
    by : (q : Key) → entry_at text next q ≡ None → (tied : Bool) → is_tied q key ≡ tied → cond tied (Some item) (map.get copy q) ≡ map.get whole q
    by q none true is = sym (ap (map.get whole) (tied_keys q key is) ∙ there)
    by q none false is = so_far q (first q ∙ ap (λ b. cond b (Some held) (entry_at text next q)) (texts_ties q key ∙ is) ∙ none)

pub all_laid : {K V : Type 0} (text : K → Key) (whole copy : Table) (left : List (K × V)) → left ≡ [] → IsLaying text whole copy left → copy ≡ whole
all_laid text whole copy left none so_far = same_map key_cmp_total key_cmp_exact _ _ (λ q. so_far q (ap (λ es. entry_at text es q) none))

-- whether keys are equal by their bytes is an equivalence
pub same_texts_equiv : {K : Type 0} (text : K → Key) → IsEquivalence (same_texts text)
same_texts_equiv text = record {
  refl = λ x. nat_list_eq_equiv.refl (text x);
  symm = λ x y. nat_list_eq_equiv.symm (text x) (text y);
  congr = λ x y z. nat_list_eq_equiv.congr (text x) (text y) (text z);
}

-- MARKED KEYS ARE REMOVED ONE BY ONE
-- whether a place is marked, of those before an end
abbrev pub is_marked_before : List ℕ → ℕ → Option ℕ → Bool
is_marked_before marks end None = false
is_marked_before marks end (Some place) = cond (nat_lt place end) (is_set marks place) false

-- the copy lacks the keys whose places are marked, of those before an end
abbrev pub IsRemoving : Table → List (Key × Item) → List ℕ → ℕ → Table → Type 0
IsRemoving table held marks end copy = (q : Key) → map.get copy q ≡ cond (is_marked_before marks end (place_of held q)) None (map.get table q)

none_before : (marks : List ℕ) (there : Option ℕ) → is_marked_before marks 0 there ≡ false
none_before marks None = refl
none_before marks (Some place) =
    let past : nat_lt place 0 ≡ false = grind (arith, nat_tests) in
    ap (λ b. cond b (is_set marks place) false) past

pub none_removed : (table copy : Table) (held : List (Key × Item)) (marks : List ℕ) → copy ≡ table → IsRemoving table held marks 0 copy
none_removed table copy held marks is = λ q.
    ap (λ (t : Table). map.get t q) is ∙ sym (ap (λ b. cond b None (map.get table q)) (none_before marks (place_of held q)))

-- one more place changes nothing elsewhere, or if it isn't marked
elsewhere : (marks : List ℕ) (end : ℕ) (there : Option ℕ) → (there ≡ Some end → is_set marks end ≡ false) → is_marked_before marks (end + 1) there ≡ is_marked_before marks end there
elsewhere marks end None apart = refl
elsewhere marks end (Some place) apart = by (nat_eq place end) refl
  where
    by : (b : Bool) → nat_eq place end ≡ b → cond (nat_lt place (end + 1)) (is_set marks place) false ≡ cond (nat_lt place end) (is_set marks place) false
    by true is =
        let here : place ≡ end = grind (arith, nat_tests) in
        let within : nat_lt place (end + 1) ≡ true = grind (arith, nat_tests) in
        let past : nat_lt place end ≡ false = grind (arith, nat_tests) in
        ap (λ b. cond b (is_set marks place) false) within ∙ ap (λ n. is_set marks n) here ∙ apart (ap Some here)
        ∙ sym (ap (λ b. cond b (is_set marks place) false) past)
    by false is =
        let alike : nat_lt place (end + 1) ≡ nat_lt place end = grind (arith, nat_tests) in
        ap (λ b. cond b (is_set marks place) false) alike

pub one_stays : (table copy : Table) (held : List (Key × Item)) (marks : List ℕ) (end : ℕ) → IsRemoving table held marks end copy →
    ((q : Key) → place_of held q ≡ Some end → is_set marks end ≡ false) → IsRemoving table held marks (end + 1) copy
one_stays table copy held marks end so_far apart = λ q.
    so_far q ∙ ap (λ b. cond b None (map.get table q)) (sym (elsewhere marks end (place_of held q) (apart q)))

pub one_removed : (table copy new : Table) (held : List (Key × Item)) (marks : List ℕ) (end : ℕ) (text : Key) → IsRemoving table held marks end copy →
    place_of held text ≡ Some end → is_set marks end ≡ true → new ≡ map.remove copy text → IsRemoving table held marks (end + 1) new
one_removed table copy new held marks end text so_far at mark gone = λ q.
    ap (λ (t : Table). map.get t q) gone ∙ get-remove key_cmp_total copy text q ∙ by q (is_tied q text) refl
  where
    by : (q : Key) (tied : Bool) → is_tied q text ≡ tied → cond tied None (map.get copy q) ≡ cond (is_marked_before marks (end + 1) (place_of held q)) None (map.get table q)
    by q true is =
        let here : place_of held q ≡ Some end = ap (place_of held) (tied_keys q text is) ∙ at in
        let within : nat_lt end (end + 1) ≡ true = grind (arith, nat_tests) in
        sym (ap (λ (o : Option ℕ). cond (is_marked_before marks (end + 1) o) None (map.get table q)) here
        ∙ ap (λ b. cond (cond b (is_set marks end) false) None (map.get table q)) within ∙ ap (λ b. cond b None (map.get table q)) mark)
    by q false is =
        so_far q ∙ ap (λ b. cond b None (map.get table q)) (sym (elsewhere marks end (place_of held q) (λ there. absurd (apart_places held text q end end is at there refl))))

pub all_removed : (table copy : Table) (held : List (Key × Item)) (marks : List ℕ) (end : ℕ) → length held ≤ end → IsRemoving table held marks end copy →
    copy ≡ without table held marks
all_removed table copy held marks end past so_far = same_map key_cmp_total key_cmp_exact _ _ (λ q.
    so_far q ∙ ap (λ b. cond b None (map.get table q)) (by (place_of held q) (λ i at. place_within held q i at)) ∙ sym (get-without table held marks q))
  where
    by : (there : Option ℕ) → ((i : ℕ) → there ≡ Some i → i < length held) → is_marked_before marks end there ≡ is_marked marks there
    by None inside = refl
    by (Some place) inside =
        let before : place < length held = inside place refl in
        let within : nat_lt place end ≡ true = grind (arith, nat_tests) in
        ap (λ b. cond b (is_set marks place) false) within
