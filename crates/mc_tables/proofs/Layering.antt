-- Entries of hash maps as tables, marks on them, and what lies over them.
use Rattle.std.proofs.Common.{◌≡◌, ◌≢◌, ℕ, ◌||◌, Bool, true, false, cond, if◌then◌else◌, not, List, [], ◌∷◌, get_or, position, Option, Some, None, Result, Ok, Err, OnOk, OnErr, refl, sym, ap, ◌∙◌, true≢false, arith}
use Rattle.std.proofs.lemmas.Bool.Decides.{nat_tests}
use Rattle.std.proofs.lemmas.List.Quantifiers.{position-Some}
use Rattle.std.specs.Prelude.{nat_eq}
use Rattle.std.specs.Cmp.{eq_by_cmp_equiv}
use Rattle.std.specs.Cmp.Lexicographic.{pointwise, texts_ties}
use Rattle.std.specs.FinMap as map
use Rattle.std.specs.FinMap.{get-empty, get-insert, get-remove, get-retain_keys, same_map}
use Rattle.std.specs.HashMap.{HashMap, UpdatesBy}
use Rattle.std.specs.Map.{KeepsOthers}
use Rattle.std.specs.Map.{keys_of, lookup}
use Rattle.std.specs.Option.{option_map}
use Rattle.mc_model.specs.declared.item.Item.{Item}
use Rattle.mc_model.specs.declared.key.Key.{Key}
use Rattle.mc_model.specs.Table.{Table, is_tied, key_cmp, key_cmp_exact, key_cmp_total, tied_itself, tied_keys}
use Rattle.mc_tables.specs.declared.cell_item.CellItem.{CellItem}
use Rattle.mc_tables.specs.Marks.{is_set}
use Rattle.mc_tables.specs.Entries.{is_marked, item_of_cell, laid_over, owned_entries, same_item, same_key, unmarked, without}

-- the two tests of keys
abbrev pub same : Key → Key → Bool
same = pointwise nat_eq

same_tied : (q k : Key) → is_tied q k ≡ same q k
same_tied q k = sym (texts_ties q k)

pub is_same : (q k : Key) → same q k ≡ true → q ≡ k
is_same q k is = tied_keys q k (same_tied q k ∙ is)

same_symm : (q k : Key) → same q k ≡ is_tied k q
same_symm q k = sym (same_tied q k) ∙ (eq_by_cmp_equiv key_cmp_total).symm q k

pub same_itself : (key : Key) → same key key ≡ true
same_itself key = sym (same_tied key key) ∙ tied_itself key

pub same_turned : (q k : Key) → same q k ≡ same k q
same_turned q k = same_symm q k ∙ same_tied k q

-- ENTRIES OVER A TABLE
abbrev pub or_else : Option Item → Option Item → Option Item
or_else None below = below
or_else (Some item) below = Some item

-- what the entries hold under a key
abbrev pub entry_at : {K V : Type 0} → (K → Key) → List (K × V) → Key → Option V
entry_at text entries q = lookup (λ k. same q (text k)) entries

first_counts : {V : Type 0} (item : V → Item) (b : Bool) (kept : V) (rest : Option V) (below : Option Item) →
    or_else (option_map item (cond b (Some kept) rest)) below ≡ cond b (Some (item kept)) (or_else (option_map item rest) below)
first_counts item true kept rest below = refl
first_counts item false kept rest below = refl

pub get-laid_over : {K V : Type 0} (text : K → Key) (item : V → Item) (table : Table) (entries : List (K × V)) (q : Key) →
    map.get (laid_over text item table entries) q ≡ or_else (option_map item (entry_at text entries q)) (map.get table q)
get-laid_over text item table [] q = refl
get-laid_over text item table (entry ∷ entries) q =
    get-insert key_cmp_total (laid_over text item table entries) (text entry.0) (item entry.1) q
    ∙ ap (λ b. cond b (Some (item entry.1)) (map.get (laid_over text item table entries) q)) (same_tied q (text entry.0))
    ∙ ap (cond (same q (text entry.0)) (Some (item entry.1))) (get-laid_over text item table entries q)
    ∙ sym (first_counts item (same q (text entry.0)) entry.1 (entry_at text entries q) (map.get table q))

-- the test of two keys that are kept
abbrev pub same_texts : {K : Type 0} → (K → Key) → K → K → Bool
same_texts text one other = same (text one) (text other)

-- a look-up after a change at a key
entry_at-updated : {K V : Type 0} (text : K → Key) (old new : List (K × V)) (key : Key) (w : Option V) →
    lookup (λ k. same key (text k)) new ≡ w → KeepsOthers (same_texts text) (λ k. same key (text k)) old new →
    (q : Key) → entry_at text new q ≡ cond (is_tied q key) w (entry_at text old q)
unfolding KeepsOthers
entry_at-updated {K} {V} text old new key w there others q = by (is_tied q key) refl
  where
    by : (tied : Bool) → is_tied q key ≡ tied → entry_at text new q ≡ cond tied w (entry_at text old q)
    by true is = ap (entry_at text new) (tied_keys q key is) ∙ there
    by false is = others (λ k. same q (text k))
        (λ x y here. ap (λ (k : Key). same k (text y)) (is_same q (text x) here))
        (λ k here. ap (same q) (sym (is_same key (text k) here)) ∙ sym (same_tied q key) ∙ is)

pub laid-put : {K V S : Type 0} (text : K → Key) (item : V → Item) (table : Table) (old new : HashMap K V S) (key : Key) (kept : V) →
    UpdatesBy (same_texts text) (λ k. same key (text k)) old new (Some kept) →
    laid_over text item table new.entries ≡ map.insert (laid_over text item table old.entries) key (item kept)
laid-put text item table old new key kept updates = same_map key_cmp_total key_cmp_exact _ _ (λ q.
    get-laid_over text item table new.entries q
    ∙ ap (λ (o : Option _). or_else (option_map item o) (map.get table q)) (entry_at-updated text old.entries new.entries key (Some kept) updates.1 updates.3 q)
    ∙ first_counts item (is_tied q key) kept (entry_at text old.entries q) (map.get table q)
    ∙ sym (get-insert key_cmp_total (laid_over text item table old.entries) key (item kept) q ∙ ap (cond (is_tied q key) (Some (item kept))) (get-laid_over text item table old.entries q)))

both_gone : {V : Type 0} (item : V → Item) (b : Bool) (over : Option V) (below : Option Item) →
    or_else (option_map item (cond b None over)) (cond b None below) ≡ cond b None (or_else (option_map item over) below)
both_gone item true over below = refl
both_gone item false over below = refl

pub laid-removed : {K V S : Type 0} (text : K → Key) (item : V → Item) (table less : Table) (old new : HashMap K V S) (key : Key) →
    UpdatesBy (same_texts text) (λ k. same key (text k)) old new None →
    less ≡ map.remove table key → laid_over text item less new.entries ≡ map.remove (laid_over text item table old.entries) key
laid-removed text item table less old new key updates is = same_map key_cmp_total key_cmp_exact _ _ (λ q.
    get-laid_over text item less new.entries q
    ∙ ap (λ (o : Option _). or_else (option_map item o) (map.get less q)) (entry_at-updated text old.entries new.entries key None updates.1 updates.3 q)
    ∙ ap (or_else (option_map item (cond (is_tied q key) None (entry_at text old.entries q)))) (ap (λ (t : Table). map.get t q) is ∙ get-remove key_cmp_total table key q)
    ∙ both_gone item (is_tied q key) (entry_at text old.entries q) (map.get table q)
    ∙ sym (get-remove key_cmp_total (laid_over text item table old.entries) key q ∙ ap (cond (is_tied q key) None) (get-laid_over text item table old.entries q)))

-- what is found over a table, and what below
pub held_over : {K V : Type 0} (text : K → Key) (item : V → Item) (table : Table) (over : List (K × V)) (q : Key) (kept : V) →
    entry_at text over q ≡ Some kept → map.get (laid_over text item table over) q ≡ Some (item kept)
held_over text item table over q kept is = get-laid_over text item table over q ∙ ap (λ (o : Option _). or_else (option_map item o) (map.get table q)) is

pub held_under : {K V : Type 0} (text : K → Key) (item : V → Item) (table : Table) (over : List (K × V)) (q : Key) →
    entry_at text over q ≡ None → map.get (laid_over text item table over) q ≡ map.get table q
held_under text item table over q is = get-laid_over text item table over q ∙ ap (λ (o : Option _). or_else (option_map item o) (map.get table q)) is

-- ITEMS OF THEIR OWN
alone : (there : Option Item) → or_else (option_map same_item there) None ≡ there
alone None = refl
alone (Some item) = refl

pub get-owned : (entries : List (Key × Item)) (q : Key) → map.get (owned_entries entries) q ≡ entry_at same_key entries q
get-owned entries q =
    get-laid_over same_key same_item map.empty entries q
    ∙ ap (or_else (option_map same_item (entry_at same_key entries q))) (get-empty key_cmp q)
    ∙ alone (entry_at same_key entries q)

-- MARKS
abbrev pub place_of : List (Key × Item) → Key → Option ℕ
place_of held q = position (same q) (keys_of held)

pub turned : {A : Type 0} (b : Bool) (x y : A) → cond (not b) x y ≡ cond b y x
turned true x y = refl
turned false x y = refl

pub get-without : (table : Table) (held : List (Key × Item)) (marks : List ℕ) (q : Key) →
    map.get (without table held marks) q ≡ cond (is_marked marks (place_of held q)) None (map.get table q)
get-without table held marks q =
    get-retain_keys table (λ key. not (is_marked marks (place_of held key))) q (λ x tied. ap (λ key. not (is_marked marks (place_of held key))) (sym (key_cmp_exact q x tied)))
    ∙ turned (is_marked marks (place_of held q)) _ _

pub get-unmarked : (held : List (Key × Item)) (marks : List ℕ) (q : Key) →
    map.get (unmarked held marks) q ≡ cond (is_marked marks (place_of held q)) None (entry_at same_key held q)
get-unmarked held marks q = get-without (owned_entries held) held marks q ∙ ap (cond (is_marked marks (place_of held q)) None) (get-owned held q)

-- one more mark
abbrev pub IsOneMore : List ℕ → ℕ → List ℕ → Type 0
IsOneMore marks place new = (other : ℕ) → is_set new other ≡ (nat_eq other place || is_set marks other)

marked_other : (marks new : List ℕ) (i : ℕ) (there : Option ℕ) → IsOneMore marks i new → ((j : ℕ) → there ≡ Some j → j ≢ i) → is_marked new there ≡ is_marked marks there
marked_other marks new i None more apart = refl
marked_other marks new i (Some j) more apart =
    let away : j ≢ i = apart j refl in
    let no : nat_eq j i ≡ false = grind (arith, nat_tests) in
    more j ∙ ap (λ b. b || is_set marks j) no

-- places of two keys that are apart
pub apart_places : (held : List (Key × Item)) (key q : Key) (i j : ℕ) → is_tied q key ≡ false → place_of held key ≡ Some i → place_of held q ≡ Some j → j ≢ i
apart_places held key q i j apart at there is =
    let one = (position-Some (same key) (keys_of held) i key at).1 in
    let other = (position-Some (same q) (keys_of held) j key there).1 in
    let key_is : key ≡ get_or (keys_of held) i key = is_same key _ one in
    let q_is : q ≡ get_or (keys_of held) j key = is_same q _ other in
    let both : q ≡ key = q_is ∙ ap (λ n. get_or (keys_of held) n key) is ∙ sym key_is in
    true≢false (sym (tied_itself key) ∙ ap (λ k. is_tied k key) (sym both) ∙ apart)

pub marked : (table : Table) (held : List (Key × Item)) (marks new : List ℕ) (key : Key) (i : ℕ) → place_of held key ≡ Some i → IsOneMore marks i new →
    without table held new ≡ map.remove (without table held marks) key
marked table held marks new key i at more = same_map key_cmp_total key_cmp_exact _ _ (λ q.
    get-without table held new q ∙ by q (is_tied q key) refl
    ∙ sym (get-remove key_cmp_total (without table held marks) key q ∙ ap (cond (is_tied q key) None) (get-without table held marks q)))
  where
    by : (q : Key) (tied : Bool) → is_tied q key ≡ tied → cond (is_marked new (place_of held q)) None (map.get table q)
        ≡ cond tied None (cond (is_marked marks (place_of held q)) None (map.get table q))
    by q true is =
        let here : place_of held q ≡ Some i = ap (place_of held) (tied_keys q key is) ∙ at in
        let yes : nat_eq i i ≡ true = grind (arith, nat_tests) in
        ap (λ (o : Option ℕ). cond (is_marked new o) None (map.get table q)) here
        ∙ ap (λ b. cond b None (map.get table q)) (more i ∙ ap (λ b. b || is_set marks i) yes)
    by q false is = ap (λ b. cond b None (map.get table q)) (marked_other marks new i (place_of held q) more (λ j there. apart_places held key q i j is at there))

-- removing a key that isn't there changes nothing
pub nothing_there : (table : Table) (key : Key) → map.get table key ≡ None → table ≡ map.remove table key
nothing_there table key none = same_map key_cmp_total key_cmp_exact _ _ (λ q. by q (is_tied q key) refl ∙ sym (get-remove key_cmp_total table key q))
  where
    by : (q : Key) (tied : Bool) → is_tied q key ≡ tied → map.get table q ≡ cond tied None (map.get table q)
    by q true is = ap (map.get table) (tied_keys q key is) ∙ none
    by q false is = refl

pub nothing : {A : Type 0} (b : Bool) (there : Option A) → there ≡ None → cond b None there ≡ None
nothing true there is = refl
nothing false there is = is

-- a key that isn't there needs no mark
pub needs_no_mark : (table : Table) (held : List (Key × Item)) (marks : List ℕ) (key : Key) → map.get table key ≡ None →
    without table held marks ≡ map.remove (without table held marks) key
needs_no_mark table held marks key none =
    nothing_there (without table held marks) key (get-without table held marks key ∙ nothing (is_marked marks (place_of held key)) _ none)

-- no mark is set
pub no_marks : (table : Table) (held : List (Key × Item)) (marks : List ℕ) → ((place : ℕ) → is_set marks place ≡ false) → without table held marks ≡ table
no_marks table held marks clear = same_map key_cmp_total key_cmp_exact _ _ (λ q.
    get-without table held marks q ∙ ap (λ b. cond b None (map.get table q)) (none (place_of held q)))
  where
    none : (there : Option ℕ) → is_marked marks there ≡ false
    none None = refl
    none (Some i) = clear i

-- what is found by its place, and what isn't found
pub under_some : (table : Table) (held : List (Key × Item)) (marks : List ℕ) (q : Key) (i : ℕ) (item : Item) (b : Bool) →
    map.get table q ≡ Some item → place_of held q ≡ Some i → is_set marks i ≡ b → map.get (without table held marks) q ≡ cond b None (Some item)
under_some table held marks q i item b there at mark =
    get-without table held marks q ∙ ap (λ (o : Option ℕ). cond (is_marked marks o) None (map.get table q)) at
    ∙ ap (λ m. cond m None (map.get table q)) mark ∙ ap (cond b None) there

pub under_none : (table : Table) (held : List (Key × Item)) (marks : List ℕ) (q : Key) →
    map.get table q ≡ None → map.get (without table held marks) q ≡ None
under_none table held marks q none = get-without table held marks q ∙ nothing (is_marked marks (place_of held q)) _ none

-- ITEMS OVER A TABLE
mapped : (there : Option Item) → option_map same_item there ≡ there
mapped None = refl
mapped (Some item) = refl

abbrev pub items_over : Table → List (Key × Item) → Table
items_over table entries = laid_over same_key same_item table entries

pub get-items_over : (table : Table) (entries : List (Key × Item)) (q : Key) →
    map.get (items_over table entries) q ≡ or_else (map.get (owned_entries entries) q) (map.get table q)
get-items_over table entries q =
    get-laid_over same_key same_item table entries q
    ∙ ap (λ (o : Option Item). or_else o (map.get table q)) (mapped (entry_at same_key entries q) ∙ sym (get-owned entries q))

pub item_over : (table : Table) (entries : List (Key × Item)) (q : Key) (item : Item) →
    map.get (owned_entries entries) q ≡ Some item → map.get (items_over table entries) q ≡ Some item
item_over table entries q item is = get-items_over table entries q ∙ ap (λ (o : Option Item). or_else o (map.get table q)) is

pub item_under : (table : Table) (entries : List (Key × Item)) (q : Key) →
    map.get (owned_entries entries) q ≡ None → map.get (items_over table entries) q ≡ map.get table q
item_under table entries q is = get-items_over table entries q ∙ ap (λ (o : Option Item). or_else o (map.get table q)) is

pub items_over-same : (table less : Table) (old : List (Key × Item)) (new : List (Key × Item)) →
    less ≡ table → owned_entries new ≡ owned_entries old → items_over less new ≡ items_over table old
items_over-same table less old new below is = same_map key_cmp_total key_cmp_exact _ _ (λ q.
    get-items_over less new q ∙ ap (λ (t : Table). or_else (map.get t q) (map.get less q)) is
    ∙ ap (λ (t : Table). or_else (map.get (owned_entries old) q) (map.get t q)) below ∙ sym (get-items_over table old q))

pub items_over-none : (table : Table) (entries : List (Key × Item)) → owned_entries entries ≡ map.empty → items_over table entries ≡ table
items_over-none table entries is = same_map key_cmp_total key_cmp_exact _ _ (λ q.
    get-items_over table entries q ∙ ap (λ (o : Option Item). or_else o (map.get table q)) (ap (λ (t : Table). map.get t q) is ∙ get-empty key_cmp q))

put_over : (b : Bool) (item : Item) (over below : Option Item) → or_else (cond b (Some item) over) below ≡ cond b (Some item) (or_else over below)
put_over true item over below = refl
put_over false item over below = refl

pub items_over-put : (table : Table) (old new : List (Key × Item)) (key : Key) (item : Item) →
    owned_entries new ≡ map.insert (owned_entries old) key item → items_over table new ≡ map.insert (items_over table old) key item
items_over-put table old new key item is = same_map key_cmp_total key_cmp_exact _ _ (λ q.
    get-items_over table new q ∙ ap (λ (t : Table). or_else (map.get t q) (map.get table q)) is
    ∙ ap (λ (o : Option Item). or_else o (map.get table q)) (get-insert key_cmp_total (owned_entries old) key item q)
    ∙ put_over (is_tied q key) item (map.get (owned_entries old) q) (map.get table q)
    ∙ sym (get-insert key_cmp_total (items_over table old) key item q ∙ ap (cond (is_tied q key) (Some item)) (get-items_over table old q)))

gone_over : (b : Bool) (over below : Option Item) → or_else (cond b None over) (cond b None below) ≡ cond b None (or_else over below)
gone_over true over below = refl
gone_over false over below = refl

pub items_over-removed : (table less : Table) (old new : List (Key × Item)) (key : Key) →
    owned_entries new ≡ map.remove (owned_entries old) key → less ≡ map.remove table key → items_over less new ≡ map.remove (items_over table old) key
items_over-removed table less old new key is below = same_map key_cmp_total key_cmp_exact _ _ (λ q.
    get-items_over less new q ∙ ap (λ (t : Table). or_else (map.get t q) (map.get less q)) is
    ∙ ap (λ (o : Option Item). or_else o (map.get less q)) (get-remove key_cmp_total (owned_entries old) key q)
    ∙ ap (or_else (cond (is_tied q key) None (map.get (owned_entries old) q))) (ap (λ (t : Table). map.get t q) below ∙ get-remove key_cmp_total table key q)
    ∙ gone_over (is_tied q key) (map.get (owned_entries old) q) (map.get table q)
    ∙ sym (get-remove key_cmp_total (items_over table old) key q ∙ ap (cond (is_tied q key) None) (get-items_over table old q)))

-- nothing changes if what is kept is put again
put_again : (tied : Bool) (there here : Option Item) → (tied ≡ true → there ≡ here) → cond tied here there ≡ there
put_again true there here same = sym (same refl)
put_again false there here same = refl

pub insert_same : (table : Table) (key : Key) (item : Item) → map.get table key ≡ Some item → map.insert table key item ≡ table
insert_same table key item is = same_map key_cmp_total key_cmp_exact _ _ (λ q.
    get-insert key_cmp_total table key item q ∙ put_again (is_tied q key) (map.get table q) (Some item) (λ tied. ap (map.get table) (tied_keys q key tied) ∙ is))

-- the table once what is kept was overwritten, or left as it was
pub overwritten : (fits : Bool) (table new : Table) (key : Key) (item : Item) (kept one other : CellItem) →
    new ≡ map.insert table key (item_of_cell kept) → kept ≡ (if fits then one else other) → item_of_cell one ≡ item →
    map.get table key ≡ Some (item_of_cell other) → new ≡ (if fits then map.insert table key item else table)
overwritten true table new key item kept one other put is same there =
    put ∙ ap (λ (k : CellItem). map.insert table key (item_of_cell k)) is ∙ ap (map.insert table key) same
overwritten false table new key item kept one other put is same there =
    put ∙ ap (λ (k : CellItem). map.insert table key (item_of_cell k)) is ∙ insert_same table key (item_of_cell other) there

-- what follows from what a call that succeeded, or failed, left
pub on_ok : {A E P Q : Type 0} (result : Result A E) → (P → Q) → OnOk result P → OnOk result Q
on_ok (Ok value) follows holds = follows holds
on_ok (Err error) follows holds = tt

pub on_err : {A E P Q : Type 0} (result : Result A E) → (P → Q) → OnErr result P → OnErr result Q
on_err (Ok value) follows holds = tt
on_err (Err error) follows holds = follows holds

pub if_err : {A E P : Type 0} (result : Result A E) → P → OnErr result P
if_err (Ok value) holds = tt
if_err (Err error) holds = holds
