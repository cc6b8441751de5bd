-- Entries of hash maps that are found by their place.
use Rattle.std.proofs.Common.{◌≡◌, ℕ, Bool, true, false, cond, List, [], ◌∷◌, get_or, length, position, slice_get, Option, Some, None, IfNone, IfSome, refl, sym, ap, subst, ◌∙◌, arith}
use Rattle.std.proofs.lemmas.List.Quantifiers.{position-Some}
use Rattle.std.proofs.lemmas.Option.{get_or_from_slice_get, slice_get-get_or, slice_get-map}
use Rattle.std.specs.FinMap as map
use Rattle.std.specs.FinMap.{get-remove, same_map}
use Rattle.std.specs.HashMap.{HashMap, IsUnique, Updates}
use Rattle.std.specs.Map.{keys_of}
use Rattle.std.specs.Option.{option_map}
use Rattle.indexmap.proofs.CallerLemmas.{updates-with_value_at}
use Rattle.indexmap.proofs.MapLemmas.{Found-position, Missing-position}
use Rattle.indexmap.specs.IndexMap.{with_value_at}
use Rattle.mc_model.specs.declared.item.Item.{Item}
use Rattle.mc_model.specs.declared.key.Key.{Key}
use Rattle.mc_model.specs.Table.{Table, is_tied, key_cmp_exact, key_cmp_total, tied_keys}
use Rattle.mc_tables.specs.Entries.{laid_over}
use Rattle.mc_tables.proofs.Copying.{same_texts_equiv}
use Rattle.mc_tables.proofs.Layering.{entry_at, get-laid_over, is_same, laid-put, laid-removed, or_else, same, same_texts}

pub empty : {X : Type 0} (xs : List X) → length xs ≡ 0 → xs ≡ []
empty [] is = refl
empty (x ∷ xs) is = absurd (omega (arith, is))

-- the place of a key among the entries
abbrev pub index_at : {K V : Type 0} → (K → Key) → List (K × V) → Key → Option ℕ
index_at text es q = position (λ k. same q (text k)) (keys_of es)

-- the entry at a key's place has the key
pub at_index : {K V : Type 0} (text : K → Key) (es : List (K × V)) (q : Key) (i : ℕ) → index_at text es q ≡ Some i →
    (e : K × V) × (slice_get es i ≡ Some e) × (text e.0 ≡ q)
at_index {K} {V} text [] q i at = absurd (omega (arith, (Found-position {X = V} (λ k. same q (text k)) [] i at).within))
at_index {K} {V} text (d ∷ es) q i at =
    let whole : List (K × V) = d ∷ es in
    let e : K × V = get_or whole i d in
    let there : slice_get whole i ≡ Some e = slice_get-get_or whole i d (Found-position {X = V} (λ k. same q (text k)) whole i at).within in
    let key : slice_get (keys_of whole) i ≡ Some e.0 = slice_get-map (λ (e : K × V). e.0) whole i ∙ ap (option_map (λ (e : K × V). e.0)) there in
    let is : get_or (keys_of whole) i d.0 ≡ e.0 = get_or_from_slice_get (keys_of whole) i e.0 d.0 key in
    let tied : same q (text (get_or (keys_of whole) i d.0)) ≡ true = (position-Some (λ k. same q (text k)) (keys_of whole) i d.0 at).1 in
    (e, there, sym (is_same q (text e.0) (ap (λ k. same q (text k)) (sym is) ∙ tied)))

-- a write at a key's place
pub laid-put_at : {K V S : Type 0} (text : K → Key) (item : V → Item) (table : Table) (old : HashMap K V S) (key : Key) (i : ℕ) (kept : V) →
    IsUnique (same_texts text) old → index_at text old.entries key ≡ Some i →
    laid_over text item table (with_value_at old i kept).entries ≡ map.insert (laid_over text item table old.entries) key (item kept)
laid-put_at text item table old key i kept unique at =
    let found = at_index text old.entries key i at in
    laid-put text item table old (with_value_at old i kept) (text found.0.0) kept (updates-with_value_at old i kept (same_texts_equiv text) unique found.0.0 found.0.1 found.1)
    ∙ ap (λ k. map.insert (laid_over text item table old.entries) k (item kept)) found.2

-- the entry at a key's place is removed
pub laid-removed_at : {K V S : Type 0} (text : K → Key) (item : V → Item) (table less : Table) (old new : HashMap K V S) (key : Key) (i : ℕ) (taken : Option (K × V)) →
    index_at text old.entries key ≡ Some i → taken ≡ slice_get old.entries i → IfSome taken (λ e. Updates (same_texts text) old new e.0 None) →
    less ≡ map.remove table key → laid_over text item less new.entries ≡ map.remove (laid_over text item table old.entries) key
laid-removed_at {K} {V} text item table less old new key i taken at is updates below =
    let found = at_index text old.entries key i at in
    let gone = subst (λ (o : Option (K × V)). IfSome o (λ e. Updates (same_texts text) old new e.0 None)) (is ∙ found.1) updates in
    laid-removed text item table less old new (text found.0.0) gone (below ∙ ap (map.remove table) (sym found.2))
    ∙ ap (map.remove (laid_over text item table old.entries)) found.2

-- no entry has the key
pub laid-absent : {K V : Type 0} (text : K → Key) (item : V → Item) (table less : Table) (es : List (K × V)) (key : Key) →
    entry_at text es key ≡ None → less ≡ map.remove table key → laid_over text item less es ≡ map.remove (laid_over text item table es) key
laid-absent text item table less es key absent below = same_map key_cmp_total key_cmp_exact _ _ (λ q.
    get-laid_over text item less es q
    ∙ ap (or_else (option_map item (entry_at text es q))) (ap (λ (t : Table). map.get t q) below ∙ get-remove key_cmp_total table key q)
    ∙ by q (is_tied q key) refl
    ∙ sym (get-remove key_cmp_total (laid_over text item table es) key q ∙ ap (cond (is_tied q key) None) (get-laid_over text item table es q)))
  where
    by : (q : Key) (tied : Bool) → is_tied q key ≡ tied →
        or_else (option_map item (entry_at text es q)) (cond tied None (map.get table q)) ≡ cond tied None (or_else (option_map item (entry_at text es q)) (map.get table q))
    by q true is = ap (λ (o : Option _). or_else (option_map item o) None) (ap (entry_at text es) (tied_keys q key is) ∙ absent)
    by q false is = refl

-- what a look-up by place says of a look-up
pub none_at : {K V : Type 0} (text : K → Key) (es : List (K × V)) (q : Key) (there : Option ℕ) → there ≡ index_at text es q → IfNone there (entry_at text es q ≡ None)
none_at text es q None is = (Missing-position (λ k. same q (text k)) es (sym is)).value
none_at text es q (Some i) is = tt

pub if_some : {X : Type 0} {P Q : X → Type 0} (there : Option X) → ((x : X) → P x → Q x) → IfSome there P → IfSome there Q
if_some None follows holds = tt
if_some (Some x) follows holds = follows x holds

pub if_none : {X P Q : Type 0} (there : Option X) → (P → Q) → IfNone there P → IfNone there Q
if_none None follows holds = follows holds
if_none (Some x) follows holds = tt
