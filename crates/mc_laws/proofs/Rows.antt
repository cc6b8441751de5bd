-- Worked rows, tried on the definitions: what memcached's users expect of each command.
use Rattle.std.specs.Prelude.{codes, decimal}
use Rattle.std.proofs.Common.{◌≡◌, ◌<◌, ◌≤◌, ◌^◌, inl, inr, ℕ, zero, suc, ◌+◌, ◌∙◌, ap, sym, subst, if◌then◌else◌, nat_le, length, Option, true, false, List, [], ◌∷◌, ◌++◌, arith, Some, None, replicate, refl}
use Rattle.std.proofs.lemmas.Bool.Decides.{nat_tests}
use Rattle.std.proofs.lemmas.List.{length-append}
use Rattle.std.proofs.lemmas.Fmt.{decimal_digit, decimal_is_IsNumeral, decimal_nonempty}
use Rattle.std.proofs.lemmas.Int.Digits.{digits_value-lt}
use Rattle.std.specs.FinMap as map
use Rattle.std.specs.FinMap.{get-empty, gets, len-empty}
use Rattle.mc_model.specs.declared.command.Command.{Command}
use Rattle.mc_model.specs.declared.command.Command.TheVariants.{Store, Cas, Get, Delete, Incr, Decr, Flush, Limit}
use Rattle.mc_model.specs.declared.command.Verb.TheVariants.{Set, Add, Replace, Append, Prepend}
use Rattle.mc_model.specs.declared.item.Item.{Item}
use Rattle.mc_model.specs.declared.item.TheConstants.{DATA_BYTES}
use Rattle.mc_model.specs.declared.key.Key.{Key}
use Rattle.mc_model.specs.declared.reply.Reply.{Reply}
use Rattle.mc_model.specs.declared.reply.Reply.TheVariants.{Stored, NotStored, Exists, NotFound, Deleted, Ok, Number, Values, Refused}
use Rattle.mc_model.specs.declared.reply.TheConstants.WireNo.{NOT_A_NUMBER, NO_ROOM, TOO_LARGE}
use Rattle.mc_model.specs.declared.reply.Value.{Value}
use Rattle.mc_model.specs.declared.request.Entry.{Entry}
use Rattle.mc_model.specs.declared.settings.Limits.{Limits}
use Rattle.mc_model.specs.History.{StandsFor, after, answer}
use Rattle.model_lemmas.proofs.Histories.{StandsFor-none, StandsFor-push, state_after-none, state_after-push}
use Rattle.model_lemmas.proofs.Uses.{use-empty, within_from}
use Rattle.mc_model.specs.State.{TableState, limits_by, next_reply, next_state}
use Rattle.mc_model.specs.Effect.{Effect, effect, is_acceptance, stored, unchanged}
use Rattle.mc_model.specs.Key.{is_lawful_key}
use Rattle.mc_model.specs.Log.{own}
use Rattle.mc_model.specs.Table.{Table, count_of, is_within, key_cmp, use_of}
use Rattle.mc_laws.proofs.Quotas.{ExceedsQuotas, added, replaced, taken_out, within_or_exceeds}
use Rattle.mc_laws.proofs.Puts.{get-insert_same}
use Rattle.mc_model.specs.Number.{number_up_to}

module _ (limits : Limits) where
  -- what the first set leaves, where the quotas have room for it
  first_set : (key : Key) (flags : ℕ) (block : List ℕ) → is_within limits (map.insert map.empty key (record { flags = flags; block = block; unique = 1 })) ≡ true →
      after limits (Store Set key flags block ∷ []) ≡ map.insert map.empty key (record { flags = flags; block = block; unique = 1 })
  first_set key flags block room = ap (λ (s : TableState). s.table) (state_after-push limits [] (Store Set key flags block)) ∙ rw (state_after-none limits, room) refl

  -- a set, and a get that doesn't show the unique
  set_then_get : is_within limits (map.insert map.empty (codes "a") (record { flags = 5; block = codes "abc"; unique = 1 })) ≡ true →
      answer limits (Store Set (codes "a") 5 (codes "abc") ∷ []) (Get (codes "a" ∷ []) false)
      ≡ Values (record { key = codes "a"; flags = 5; block = codes "abc"; unique = None } ∷ [])
  set_then_get room = rw (first_set (codes "a") 5 (codes "abc") room) (simp gets)

  -- empty data, a unique that is shown, and a key that isn't held
  gets_shows_unique : is_within limits (map.insert map.empty (codes "e") (record { flags = 0; block = []; unique = 1 })) ≡ true →
      answer limits (Store Set (codes "e") 0 [] ∷ []) (Get (codes "e" ∷ codes "x" ∷ []) true)
      ≡ Values (record { key = codes "e"; flags = 0; block = []; unique = Some 1 } ∷ [])
  gets_shows_unique room = rw (first_set (codes "e") 0 [] room) (simp gets)

module _ (limits : Limits) (table : Table) where
  -- a table that holds one key so
  abbrev Holds : List ℕ → ℕ → List ℕ → ℕ → Type 0
  Holds key flags block unique = map.get table key ≡ Some (record { flags = flags; block = block; unique = unique })

  -- cas with the unique that is there, with an old one, and on a key that isn't held
  cas_with_its_unique : Holds (codes "a") 0 (codes "x") 1 → effect limits table 2 (Cas (codes "a") 3 (codes "y") 1) ≡ stored limits table (codes "a") (record { flags = 3; block = codes "y"; unique = 2 }) Stored
  cas_with_its_unique held = rw held refl

  cas_with_an_old_unique : Holds (codes "a") 0 (codes "y") 2 → effect limits table 3 (Cas (codes "a") 0 (codes "z") 1) ≡ unchanged table Exists
  cas_with_an_old_unique held = rw held refl

  cas_on_no_key : map.get table (codes "b") ≡ None → effect limits table 3 (Cas (codes "b") 0 (codes "w") 1) ≡ unchanged table NotFound
  cas_on_no_key absent = rw absent refl

  -- 2^64 - 1 and one more is 0, 5 less 9 is 0, 10 less 1 is 9 without padding; the flags stay
  incr_wraps : Holds (codes "n") 7 (codes "18446744073709551615") 1 → effect limits table 2 (Incr (codes "n") 1) ≡ stored limits table (codes "n") (record { flags = 7; block = codes "0"; unique = 2 }) (Number 0)
  incr_wraps held = rw (held, decimal_digit 0 (omega arith)) refl

  decr_stops_at_zero : Holds (codes "n") 0 (codes "5") 3 → effect limits table 4 (Decr (codes "n") 9) ≡ stored limits table (codes "n") (record { flags = 0; block = codes "0"; unique = 4 }) (Number 0)
  decr_stops_at_zero held = rw (held, decimal_digit 0 (omega arith)) refl

  decr_is_not_padded : Holds (codes "n") 3 (codes "10") 5 → effect limits table 6 (Decr (codes "n") 1) ≡ stored limits table (codes "n") (record { flags = 3; block = codes "9"; unique = 6 }) (Number 9)
  decr_is_not_padded held = rw (held, decimal_digit 9 (omega arith)) refl

  -- 2^64 isn't numeric, nor are 21 digits; a key that isn't held isn't found
  incr_past_64_bits : Holds (codes "n") 0 (codes "18446744073709551616") 1 → effect limits table 2 (Incr (codes "n") 1) ≡ unchanged table (Refused NOT_A_NUMBER)
  incr_past_64_bits held = rw held refl

  incr_of_21_digits : Holds (codes "n") 0 (codes "000000000000000000001") 1 → effect limits table 2 (Incr (codes "n") 1) ≡ unchanged table (Refused NOT_A_NUMBER)
  incr_of_21_digits held = rw held refl

  incr_on_no_key : map.get table (codes "m") ≡ None → effect limits table 2 (Incr (codes "m") 1) ≡ unchanged table NotFound
  incr_on_no_key absent = rw absent refl

  -- joins keep the flags, and want a key
  append_behind : Holds (codes "a") 7 (codes "b") 1 → effect limits table 2 (Store Append (codes "a") 9 (codes "c")) ≡ stored limits table (codes "a") (record { flags = 7; block = codes "bc"; unique = 2 }) Stored
  append_behind held = rw held refl

  prepend_before : Holds (codes "a") 7 (codes "b") 1 → effect limits table 2 (Store Prepend (codes "a") 9 (codes "c")) ≡ stored limits table (codes "a") (record { flags = 7; block = codes "cb"; unique = 2 }) Stored
  prepend_before held = rw held refl

  append_on_no_key : map.get table (codes "a") ≡ None → effect limits table 2 (Store Append (codes "a") 0 (codes "y")) ≡ unchanged table NotStored
  append_on_no_key absent = rw absent refl

  prepend_on_no_key : map.get table (codes "a") ≡ None → effect limits table 2 (Store Prepend (codes "a") 0 (codes "y")) ≡ unchanged table NotStored
  prepend_on_no_key absent = rw absent refl

  -- data of the most bytes that there can be take no byte more
  append_too_large : (block : List ℕ) → length block ≡ DATA_BYTES → Holds (codes "b") 0 block 1 → effect limits table 2 (Store Append (codes "b") 0 (codes "z")) ≡ unchanged table (Refused TOO_LARGE)
  append_too_large block full held =
      let one_more : length (block ++ codes "z") ≡ length block + 1 = length-append block (codes "z") in
      let test : nat_le (length (block ++ codes "z")) DATA_BYTES ≡ false = grind (arith, nat_tests, full, one_more) in
      rw (held, test) refl

  -- add wants no key, replace wants one
  add_on_no_key : map.get table (codes "a") ≡ None → effect limits table 2 (Store Add (codes "a") 1 (codes "y")) ≡ stored limits table (codes "a") (record { flags = 1; block = codes "y"; unique = 2 }) Stored
  add_on_no_key absent = rw absent refl

  add_on_a_held_key : Holds (codes "a") 0 (codes "x") 1 → effect limits table 2 (Store Add (codes "a") 0 (codes "y")) ≡ unchanged table NotStored
  add_on_a_held_key held = rw held refl

  replace_on_a_held_key : Holds (codes "a") 0 (codes "x") 1 → effect limits table 2 (Store Replace (codes "a") 1 (codes "y")) ≡ stored limits table (codes "a") (record { flags = 1; block = codes "y"; unique = 2 }) Stored
  replace_on_a_held_key held = rw held refl

  replace_on_no_key : map.get table (codes "a") ≡ None → effect limits table 2 (Store Replace (codes "a") 0 (codes "y")) ≡ unchanged table NotStored
  replace_on_no_key absent = rw absent refl

  -- a delete finds what is held
  delete_once : Holds (codes "a") 0 (codes "x") 1 → effect limits table 2 (Delete (codes "a")) ≡ record { table = map.remove table (codes "a"); reply = Deleted }
  delete_once held = rw held refl

  delete_on_no_key : map.get table (codes "a") ≡ None → effect limits table 2 (Delete (codes "a")) ≡ unchanged table NotFound
  delete_on_no_key absent = rw absent refl

-- a number above 9 has more than one digit
two_digits : 1 < length (decimal 10)
two_digits =
    let numeral = decimal_is_IsNumeral 10 (omega arith) in
    let below = digits_value-lt 10 (decimal 10) numeral.0.1 in
    more (length (decimal 10)) (decimal_nonempty 10 (omega arith)) (omega (arith, numeral.1, below))
  where
    more : (n : ℕ) → 0 < n → 10 < 10 ^ n → 1 < n
    more zero some below = absurd (omega (arith, some))
    more (suc zero) some below = absurd (omega (arith, below))
    more (suc (suc n)) some below = omega arith

-- Commands one after another, each with what it is answered.
unfoldable AreAnswered : Limits → List Command → List Command → List Reply → Type 0
AreAnswered limits earlier [] [] = Unit {0}
AreAnswered limits earlier (command ∷ commands) (reply ∷ replies) = (answer limits earlier command ≡ reply) × AreAnswered limits (earlier ++ command ∷ []) commands replies
AreAnswered limits earlier _ _ = ⊥

all_answered : (limits : Limits) (earlier : List Command) → AreAnswered limits earlier [] []
unfolding AreAnswered
all_answered limits earlier = tt

-- a table and a number of changes under the quotas that it was opened with
abbrev state_of : Limits → Table → ℕ → TableState
state_of limits table number = record { limits = limits; table = table; last_unique = number }

abbrev Stands : Limits → List Command → Table → ℕ → Type 0
Stands limits list table number = StandsFor limits list (state_of limits table number)

Stands-none : (limits : Limits) → Stands limits [] map.empty 0
Stands-none limits = StandsFor-none limits

-- the first of them, by what it does to a table that stands for the commands before it, and which quotas
-- it leaves
answered_under : (limits now later : Limits) (earlier : List Command) (table : Table) (number : ℕ) (command : Command) (next : Table) (reply : Reply) (commands : List Command) (replies : List Reply) →
    limits_by now command ≡ later → StandsFor limits earlier (state_of now table number) → effect now table (number + 1) command ≡ record { table = next; reply = reply } →
    (StandsFor limits (earlier ++ command ∷ []) (state_of later next (number + (if is_acceptance reply then 1 else 0))) → AreAnswered limits (earlier ++ command ∷ []) commands replies) →
    AreAnswered limits earlier (command ∷ commands) (reply ∷ replies)
unfolding AreAnswered
answered_under limits now later earlier table number command next reply commands replies quotas stands is rest = (
  sym (ap (λ (s : TableState). next_reply s command) stands) ∙ ap (λ (e : Effect). e.reply) is,
  rest (subst (λ (e : Effect). StandsFor limits (earlier ++ command ∷ []) (state_of later e.table (number + (if is_acceptance e.reply then 1 else 0)))) is
      (subst (λ (l : Limits). StandsFor limits (earlier ++ command ∷ []) (record (next_state (state_of now table number) command) { limits = l })) quotas
      (StandsFor-push (state_of now table number) command limits earlier stands))),
)

-- the same of a command that keeps the quotas of the opening
answered : (limits : Limits) (earlier : List Command) (table : Table) (number : ℕ) (command : Command) (next : Table) (reply : Reply) (commands : List Command) (replies : List Reply) →
    limits_by limits command ≡ limits → Stands limits earlier table number → effect limits table (number + 1) command ≡ record { table = next; reply = reply } →
    (Stands limits (earlier ++ command ∷ []) next (number + (if is_acceptance reply then 1 else 0)) → AreAnswered limits (earlier ++ command ∷ []) commands replies) →
    AreAnswered limits earlier (command ∷ commands) (reply ∷ replies)
answered limits = answered_under limits limits limits

-- an item is stored where the table then is within the quotas, and refused where it isn't
there_is_room : (limits : Limits) (table : Table) (key : Key) (item : Item) (reply : Reply) → use_of (map.insert table key item) ≤ limits.bytes → count_of (map.insert table key item) ≤ limits.items →
    stored limits table key item reply ≡ record { table = map.insert table key item; reply = reply }
there_is_room limits table key item reply bytes items = rw (within_from limits (map.insert table key item) bytes items) refl

there_is_none : (limits : Limits) (table : Table) (key : Key) (item : Item) (reply : Reply) → ExceedsQuotas limits (map.insert table key item) →
    stored limits table key item reply ≡ unchanged table (Refused NO_ROOM)
there_is_none limits table key item reply exceeds =
    elim (is_within limits (map.insert table key item)) as (λ b. is_within limits (map.insert table key item) ≡ b → stored limits table key item reply ≡ unchanged table (Refused NO_ROOM)) [
      | true ↦ λ within. absurd (within_or_exceeds limits (map.insert table key item) within exceeds)
      | false ↦ λ outside. rw outside refl
    ] refl

-- items under the keys of the rows, and how a get shows one
abbrev item_of : List ℕ → ℕ → Item
item_of block unique = record { flags = 0; block = block; unique = unique }

abbrev with_unique : List ℕ → List ℕ → ℕ → Value
with_unique key block unique = record { key = key; flags = 0; block = block; unique = Some unique }

-- a table with one item, and what that counts for
abbrev alone : Key → Item → Table
alone key item = map.insert map.empty key item

first_item : (key : Key) (item : Item) → (use_of (alone key item) ≡ length key + length item.block) × (count_of (alone key item) ≡ 1)
first_item key item =
    let is = added map.empty key item (get-empty key_cmp key) in
    (omega (arith, is.0, use-empty), omega (arith, is.1, len-empty key_cmp Item))

get_first : (key : Key) (item : Item) → map.get (alone key item) key ≡ Some item
get_first key item = get-insert_same map.empty key item

-- a flush empties the table, and the next change gets the next unique; a key that stands twice is
-- shown twice
flush_keeps_uniques : AreAnswered (record { items = 9; bytes = 9 }) []
    (Store Set (codes "a") 0 (codes "x") ∷ Flush ∷ Store Append (codes "a") 0 (codes "y") ∷ Store Set (codes "a") 0 (codes "z") ∷ Get (codes "a" ∷ codes "a" ∷ []) true ∷ [])
    (Stored ∷ Ok ∷ NotStored ∷ Stored ∷ Values (with_unique (codes "a") (codes "z") 2 ∷ with_unique (codes "a") (codes "z") 2 ∷ []) ∷ [])
flush_keeps_uniques =
    let limits : Limits = record { items = 9; bytes = 9 } in
    let a : Key = codes "a" in
    let of_x = item_of (codes "x") 1 in
    let of_z = item_of (codes "z") 2 in
    let x = first_item a of_x in
    let z = first_item a of_z in
    let set_x = there_is_room limits map.empty a of_x Stored (omega (arith, x.0)) (omega (arith, x.1)) in
    let append_y : effect limits map.empty 2 (Store Append a 0 (codes "y")) ≡ unchanged map.empty NotStored = rw (get-empty key_cmp a) refl in
    let set_z = there_is_room limits map.empty a of_z Stored (omega (arith, z.0)) (omega (arith, z.1)) in
    let get_z : effect limits (alone a of_z) 3 (Get (a ∷ a ∷ []) true) ≡ unchanged (alone a of_z) (Values (with_unique a (codes "z") 2 ∷ with_unique a (codes "z") 2 ∷ [])) = rw (get_first a of_z) refl in
    answered limits _ map.empty 0 _ _ _ _ _ refl (Stands-none limits) set_x (λ one. answered limits _ (alone a of_x) 1 _ map.empty _ _ _ refl one refl (λ two.
    answered limits _ map.empty 1 _ _ _ _ _ refl two append_y (λ three. answered limits _ map.empty 1 _ _ _ _ _ refl three set_z (λ four.
    answered limits _ (alone a of_z) 2 _ _ _ _ _ refl four get_z (λ five. all_answered limits _)))))

-- a second key where the quota is one item is refused and uses no unique; the key that is held gets
-- new data
item_quota : AreAnswered (record { items = 1; bytes = 9 }) []
    (Store Set (codes "a") 0 (codes "x") ∷ Get (codes "a" ∷ []) true ∷ Store Set (codes "b") 0 (codes "y") ∷ Store Set (codes "a") 0 (codes "z") ∷ Get (codes "a" ∷ codes "b" ∷ []) true ∷ [])
    (Stored ∷ Values (with_unique (codes "a") (codes "x") 1 ∷ []) ∷ Refused NO_ROOM ∷ Stored ∷ Values (with_unique (codes "a") (codes "z") 2 ∷ []) ∷ [])
item_quota =
    let limits : Limits = record { items = 1; bytes = 9 } in
    let a : Key = codes "a" in
    let b : Key = codes "b" in
    let of_x = item_of (codes "x") 1 in
    let of_y = item_of (codes "y") 2 in
    let of_z = item_of (codes "z") 2 in
    let one : Table = alone a of_x in
    let two : Table = map.insert one a of_z in
    let x = first_item a of_x in
    let no_b : map.get one b ≡ None = simp gets in
    let y = added one b of_y no_b in
    let z = replaced one a of_x of_z (get_first a of_x) in
    let set_x = there_is_room limits map.empty a of_x Stored (omega (arith, x.0)) (omega (arith, x.1)) in
    let get_x : effect limits one 2 (Get (a ∷ []) true) ≡ unchanged one (Values (with_unique a (codes "x") 1 ∷ [])) = rw (get_first a of_x) refl in
    let set_y = there_is_none limits one b of_y Stored (inr (omega (arith, x.1, y.1))) in
    let set_z = there_is_room limits one a of_z Stored (omega (arith, x.0, z.0)) (omega (arith, x.1, z.1)) in
    let get_z : effect limits two 3 (Get (a ∷ b ∷ []) true) ≡ unchanged two (Values (with_unique a (codes "z") 2 ∷ [])) = simp gets in
    answered limits _ map.empty 0 _ _ _ _ _ refl (Stands-none limits) set_x (λ stands_one. answered limits _ one 1 _ _ _ _ _ refl stands_one get_x (λ stands_two.
    answered limits _ one 1 _ _ _ _ _ refl stands_two set_y (λ stands_three. answered limits _ one 1 _ _ _ _ _ refl stands_three set_z (λ stands_four.
    answered limits _ two 2 _ _ _ _ _ refl stands_four get_z (λ stands_five. all_answered limits _)))))

-- a command raises the quota of items and lowers that of bytes: the second key is stored then, and one
-- more byte is refused
quota_by_command : AreAnswered (record { items = 1; bytes = 100 }) []
    (Store Set (codes "a") 0 (codes "x") ∷ Store Set (codes "b") 0 (codes "y") ∷ Limit (record { items = 2; bytes = 4 }) ∷ Store Set (codes "b") 0 (codes "y")
    ∷ Store Append (codes "b") 0 (codes "z") ∷ Get (codes "a" ∷ codes "b" ∷ []) true ∷ [])
    (Stored ∷ Refused NO_ROOM ∷ Ok ∷ Stored ∷ Refused NO_ROOM ∷ Values (with_unique (codes "a") (codes "x") 1 ∷ with_unique (codes "b") (codes "y") 2 ∷ []) ∷ [])
quota_by_command =
    let limits : Limits = record { items = 1; bytes = 100 } in
    let later : Limits = record { items = 2; bytes = 4 } in
    let a : Key = codes "a" in
    let b : Key = codes "b" in
    let of_x = item_of (codes "x") 1 in
    let of_y = item_of (codes "y") 2 in
    let of_yz = item_of (codes "yz") 3 in
    let one : Table = alone a of_x in
    let two : Table = map.insert one b of_y in
    let x = first_item a of_x in
    let no_b : map.get one b ≡ None = simp gets in
    let y = added one b of_y no_b in
    let has_b : map.get two b ≡ Some of_y = get-insert_same one b of_y in
    let yz = replaced two b of_y of_yz has_b in
    let set_x = there_is_room limits map.empty a of_x Stored (omega (arith, x.0)) (omega (arith, x.1)) in
    let set_y = there_is_none limits one b of_y Stored (inr (omega (arith, x.1, y.1))) in
    let set_y_later = there_is_room later one b of_y Stored (omega (arith, x.0, y.0)) (omega (arith, x.1, y.1)) in
    let no_room = there_is_none later two b of_yz Stored (inl (omega (arith, x.0, y.0, yz.0))) in
    let append_z : effect later two 3 (Store Append b 0 (codes "z")) ≡ unchanged two (Refused NO_ROOM) = rw has_b no_room in
    let get_both : effect later two 3 (Get (a ∷ b ∷ []) true) ≡ unchanged two (Values (with_unique a (codes "x") 1 ∷ with_unique b (codes "y") 2 ∷ [])) = simp gets in
    answered limits _ map.empty 0 _ _ _ _ _ refl (Stands-none limits) set_x (λ stands_one. answered limits _ one 1 _ _ _ _ _ refl stands_one set_y (λ stands_two.
    answered_under limits limits later _ one 1 _ one _ _ _ refl stands_two refl (λ stands_three. answered_under limits later later _ one 1 _ _ _ _ _ refl stands_three set_y_later (λ stands_four.
    answered_under limits later later _ two 2 _ _ _ _ _ refl stands_four append_z (λ stands_five. answered_under limits later later _ two 2 _ _ _ _ _ refl stands_five get_both (λ stands_six.
    all_answered limits _))))))

-- keys and data count where the quota is four bytes; a refused set leaves the item and uses no
-- unique, and a delete makes room
byte_quota : AreAnswered (record { items = 9; bytes = 4 }) []
    (Store Set (codes "ab") 0 (codes "xy") ∷ Store Set (codes "ab") 0 (codes "xyz") ∷ Store Replace (codes "ab") 0 (codes "x") ∷ Store Set (codes "c") 0 (codes "y")
    ∷ Delete (codes "ab") ∷ Store Set (codes "c") 0 (codes "yyy") ∷ Get (codes "ab" ∷ codes "c" ∷ []) true ∷ [])
    (Stored ∷ Refused NO_ROOM ∷ Stored ∷ Refused NO_ROOM ∷ Deleted ∷ Stored ∷ Values (with_unique (codes "c") (codes "yyy") 3 ∷ []) ∷ [])
byte_quota =
    let limits : Limits = record { items = 9; bytes = 4 } in
    let ab : Key = codes "ab" in
    let key : Key = codes "c" in
    let of_xy = item_of (codes "xy") 1 in
    let of_xyz = item_of (codes "xyz") 2 in
    let of_x = item_of (codes "x") 2 in
    let of_y = item_of (codes "y") 3 in
    let of_yyy = item_of (codes "yyy") 3 in
    let one : Table = alone ab of_xy in
    let two : Table = map.insert one ab of_x in
    let none : Table = map.remove two ab in
    let three : Table = map.insert none key of_yyy in
    let xy = first_item ab of_xy in
    let xyz = replaced one ab of_xy of_xyz (get_first ab of_xy) in
    let x = replaced one ab of_xy of_x (get_first ab of_xy) in
    let held : map.get two ab ≡ Some of_x = get-insert_same one ab of_x in
    let no_c : map.get two key ≡ None = simp gets in
    let y = added two key of_y no_c in
    let out = taken_out two ab of_x held in
    let still_no_c : map.get none key ≡ None = simp gets in
    let yyy = added none key of_yyy still_no_c in
    let set_xy = there_is_room limits map.empty ab of_xy Stored (omega (arith, xy.0)) (omega (arith, xy.1)) in
    let set_xyz = there_is_none limits one ab of_xyz Stored (inl (omega (arith, xy.0, xyz.0))) in
    let room_for_x = there_is_room limits one ab of_x Stored (omega (arith, xy.0, x.0)) (omega (arith, xy.1, x.1)) in
    let replace_x : effect limits one 2 (Store Replace ab 0 (codes "x")) ≡ record { table = two; reply = Stored } = rw (get_first ab of_xy) room_for_x in
    let set_y = there_is_none limits two key of_y Stored (inl (omega (arith, xy.0, x.0, y.0))) in
    let delete_ab : effect limits two 3 (Delete ab) ≡ record { table = none; reply = Deleted } = rw held refl in
    let set_yyy = there_is_room limits none key of_yyy Stored (omega (arith, xy.0, x.0, out.0, yyy.0)) (omega (arith, xy.1, x.1, out.1, yyy.1)) in
    let get_yyy : effect limits three 4 (Get (ab ∷ key ∷ []) true) ≡ unchanged three (Values (with_unique key (codes "yyy") 3 ∷ [])) = simp gets in
    answered limits _ map.empty 0 _ _ _ _ _ refl (Stands-none limits) set_xy (λ stands_one. answered limits _ one 1 _ _ _ _ _ refl stands_one set_xyz (λ stands_two.
    answered limits _ one 1 _ _ _ _ _ refl stands_two replace_x (λ stands_three. answered limits _ two 2 _ _ _ _ _ refl stands_three set_y (λ stands_four.
    answered limits _ two 2 _ _ _ _ _ refl stands_four delete_ab (λ stands_five. answered limits _ none 2 _ _ _ _ _ refl stands_five set_yyy (λ stands_six.
    answered limits _ three 3 _ _ _ _ _ refl stands_six get_yyy (λ stands_seven. all_answered limits _)))))))

-- 9 and one more are two digits, where the quota is two bytes and the key takes one; one less is as
-- long
byte_quota_on_arithmetic : AreAnswered (record { items = 9; bytes = 2 }) []
    (Store Set (codes "n") 0 (codes "9") ∷ Incr (codes "n") 1 ∷ Decr (codes "n") 1 ∷ []) (Stored ∷ Refused NO_ROOM ∷ Number 8 ∷ [])
byte_quota_on_arithmetic =
    let limits : Limits = record { items = 9; bytes = 2 } in
    let n : Key = codes "n" in
    let nine = item_of (codes "9") 1 in
    let ten = item_of (decimal 10) 2 in
    let eight = item_of (codes "8") 2 in
    let one : Table = alone n nine in
    let held : map.get one n ≡ Some nine = get_first n nine in
    let with_nine = first_item n nine in
    let with_ten = replaced one n nine ten held in
    let longer : 1 < length (decimal 10) = two_digits in
    let with_eight = replaced one n nine eight held in
    let set_nine = there_is_room limits map.empty n nine Stored (omega (arith, with_nine.0)) (omega (arith, with_nine.1)) in
    let no_room = there_is_none limits one n ten (Number 10) (inl (omega (arith, with_nine.0, with_ten.0, longer))) in
    let incr_nine : effect limits one 2 (Incr n 1) ≡ unchanged one (Refused NO_ROOM) = rw held no_room in
    let room = there_is_room limits one n eight (Number 8) (omega (arith, with_nine.0, with_eight.0)) (omega (arith, with_nine.1, with_eight.1)) in
    let decr_nine : effect limits one 2 (Decr n 1) ≡ record { table = map.insert one n eight; reply = Number 8 } = rw (held, decimal_digit 8 (omega arith)) room in
    answered limits _ map.empty 0 _ _ _ _ _ refl (Stands-none limits) set_nine (λ stands_one. answered limits _ one 1 _ _ _ _ _ refl stands_one incr_nine (λ stands_two.
    answered limits _ one 1 _ _ _ _ _ refl stands_two decr_nine (λ stands_three. all_answered limits _)))

-- tenants with equal keys: the one's three changes are none of the other's, whose item gets the
-- unique 1
abbrev entry_of : ℕ → ℕ → Command → Option Entry
entry_of number tenant command = Some (record { ticket = record { worker = 0; number = number }; tenant = tenant; command = command })

tenants_apart : let set = Store Set (codes "a") 0 in
    own 1 (entry_of 0 0 (set (codes "x")) ∷ entry_of 1 0 (set (codes "x")) ∷ None ∷ entry_of 2 0 (set (codes "x")) ∷ entry_of 3 1 (set (codes "q")) ∷ entry_of 4 1 (Get (codes "a" ∷ []) true) ∷ [])
    ≡ set (codes "q") ∷ Get (codes "a" ∷ []) true ∷ []
tenants_apart = refl

tenants_answers : AreAnswered (record { items = 4; bytes = 100 }) [] (Store Set (codes "a") 0 (codes "q") ∷ Get (codes "a" ∷ []) true ∷ [])
    (Stored ∷ Values (with_unique (codes "a") (codes "q") 1 ∷ []) ∷ [])
tenants_answers =
    let limits : Limits = record { items = 4; bytes = 100 } in
    let a : Key = codes "a" in
    let of_q = item_of (codes "q") 1 in
    let q = first_item a of_q in
    let set_q = there_is_room limits map.empty a of_q Stored (omega (arith, q.0)) (omega (arith, q.1)) in
    let get_q : effect limits (alone a of_q) 2 (Get (a ∷ []) true) ≡ unchanged (alone a of_q) (Values (with_unique a (codes "q") 1 ∷ [])) = rw (get_first a of_q) refl in
    answered limits _ map.empty 0 _ _ _ _ _ refl (Stands-none limits) set_q (λ stands_one. answered limits _ (alone a of_q) 1 _ _ _ _ _ refl stands_one get_q (λ stands_two. all_answered limits _))

-- keys of 250 bytes are valid, those of 251 aren't
key_of_250_bytes : is_lawful_key (replicate 250 107) ≡ true
key_of_250_bytes = refl

key_of_251_bytes : is_lawful_key (replicate 251 107) ≡ false
key_of_251_bytes = refl

-- leading zeros are accepted, a sign and an empty word aren't
number_with_zeros : number_up_to 42 (codes "0042") ≡ Some 42
number_with_zeros = refl

number_past_the_limit : number_up_to 42 (codes "43") ≡ None
number_past_the_limit = refl

number_with_a_sign : number_up_to 42 (codes "+1") ≡ None
number_with_a_sign = refl

no_number : number_up_to 42 [] ≡ None
no_number = refl
