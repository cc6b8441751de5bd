-- What follows from the definitions on lists of commands, by induction on the list.
use Rattle.std.proofs.Common.{◌≡◌, ◌≢◌, ℕ, ◌+◌, ◌≤◌, Bool, true, false, ◌⊎◌, inl, inr, None, List, [], ◌∷◌, ◌++◌, reverse, Option, Some, refl, sym, ◌∙◌, ap, subst, if◌then◌else◌, ⊎_elim, append_assoc, append-nil, add-zero, arith}
use Rattle.std.proofs.lemmas.Bool.{both_ways}
use Rattle.std.proofs.lemmas.List.{reverse-append, reverse-reverse}
use Rattle.std.specs.FinMap as map
use Rattle.std.specs.FinMap.{get-empty}
use Rattle.mc_model.specs.declared.command.Command.{Command}
use Rattle.mc_model.specs.declared.command.Command.TheVariants.{Store, Cas, Get, Delete, Incr, Decr, Flush, Limit}
use Rattle.mc_model.specs.Kinds.{SetsLimits}
use Rattle.mc_model.specs.declared.item.Item.{Item}
use Rattle.mc_model.specs.declared.key.Key.{Key}
use Rattle.mc_model.specs.declared.settings.Limits.{Limits}
use Rattle.mc_model.specs.Effect.{Effect, is_refusal}
use Rattle.mc_model.specs.History.{accepts, after, answer, changes, limits_after, state_after, state_from}
use Rattle.model_lemmas.proofs.Histories.{state_after-none, state_after-push, state_from-more, state_from-none, state_from-push}
use Rattle.model_lemmas.proofs.Uses.{within_parts}
use Rattle.mc_laws.specs.Words.{ActsOn, IsStoredBy, IsUntouched, IsWithinQuotas, KeepsLimits, Touches, effect_after}
use Rattle.mc_model.specs.State.{TableState, empty_table, limits_by, next_reply, next_state}
use Rattle.mc_model.specs.Table.{count_of, is_within, key_cmp, use_of}
use Rattle.mc_laws.proofs.Effects.{IsChange, IsNothing, IsTakenOut, Shape, accepted_keeps, refused_keeps, shape}
use Rattle.mc_laws.proofs.Quotas.{empty_within, less_within}
use Rattle.mc_laws.proofs.Puts.{put_cases}

-- what holds of no command, and of one more command at the end, holds of each list
push_induction : (P : List Command → Type 0) → P [] → ((list : List Command) (command : Command) → P list → P (list ++ command ∷ [])) → (list : List Command) → P list
push_induction P none more list = subst P (reverse-reverse list) (from_latest (reverse list))
  where
    from_latest : (latest_first : List Command) → P (reverse latest_first)
    from_latest [] = none
    from_latest (latest ∷ earlier) = subst P (sym (reverse-append (latest ∷ []) earlier)) (more (reverse earlier) latest (from_latest earlier))

module _ (limits : Limits) where
  -- nothing is there at first, and one more command at the end acts on what the others left
  pub after-none : after limits [] ≡ map.empty
  after-none = ap (λ (s : TableState). s.table) (state_after-none limits)

  pub changes-none : changes limits [] ≡ 0
  changes-none = ap (λ (s : TableState). s.last_unique) (state_after-none limits)

  pub after-push : (list : List Command) (command : Command) → after limits (list ++ command ∷ []) ≡ (effect_after limits list command).table
  after-push list command = ap (λ (s : TableState). s.table) (state_after-push limits list command)

  pub changes-push : (list : List Command) (command : Command) → changes limits (list ++ command ∷ []) ≡ changes limits list + (if accepts limits list command then 1 else 0)
  changes-push list command = ap (λ (s : TableState). s.last_unique) (state_after-push limits list command)

  abbrev pub quotas : List Command → Limits
  quotas list = (state_after limits list).limits

  -- two lists that leave the same
  abbrev pub AreAlike : List Command → List Command → Type 0
  AreAlike list other = state_after limits list ≡ state_after limits other

  -- what follows depends on what is left alone
  alike_push : (list other : List Command) (command : Command) → AreAlike list other → AreAlike (list ++ command ∷ []) (other ++ command ∷ [])
  alike_push list other command alike =
      state_after-push limits list command ∙ (ap (λ (s : TableState). next_state s command) alike ∙ sym (state_after-push limits other command))

  alike_more : (list other later : List Command) → AreAlike list other → AreAlike (list ++ later) (other ++ later)
  alike_more list other [] alike = rw (append-nil list, append-nil other) alike
  alike_more list other (command ∷ later) alike =
      let more = alike_more (list ++ command ∷ []) (other ++ command ∷ []) later (alike_push list other command alike) in
      rw (append_assoc list (command ∷ []) later, append_assoc other (command ∷ []) later) at more

  same_item : (item other : Item) → ◌≡◌ {A = Option Item} (Some item) (Some other) → item ≡ other
  same_item item other is = cc

  -- what one more command does
  pub shape_of : (list : List Command) (command : Command) → Shape (quotas list) (after limits list) (changes limits list + 1) command (effect_after limits list command)
  shape_of list command = shape (quotas list) (after limits list) (changes limits list + 1) command

  get_pushed : (list : List Command) (command : Command) (key : Key) → map.get (after limits (list ++ command ∷ [])) key ≡ map.get (effect_after limits list command).table key
  get_pushed list command key = ap (λ table. map.get table key) (after-push list command)

  changes_pushed : (list : List Command) (command : Command) (b : Bool) → accepts limits list command ≡ b → changes limits (list ++ command ∷ []) ≡ changes limits list + (if b then 1 else 0)
  changes_pushed list command b is = changes-push list command ∙ ap (λ (a : Bool). changes limits list + (if a then 1 else 0)) is

  -- a command that isn't accepted is no change
  pub no_change : (list : List Command) (command : Command) → accepts limits list command ≡ false → changes limits (list ++ command ∷ []) ≡ changes limits list
  no_change list command is = changes_pushed list command false is ∙ add-zero (changes limits list)

  pub quotas_pushed : (list : List Command) (command : Command) → quotas (list ++ command ∷ []) ≡ limits_by (quotas list) command
  quotas_pushed list command = ap (λ (s : TableState). s.limits) (state_after-push limits list command)

  -- a command that changes nothing, and no quotas, can be left out
  abbrev pub KeepsQuotas : List Command → Command → Type 0
  KeepsQuotas list command = limits_by (quotas list) command ≡ quotas list

  pub nothing_is_alike : (list : List Command) (command : Command) → IsNothing (after limits list) command (effect_after limits list command) → KeepsQuotas list command →
      AreAlike (list ++ command ∷ []) list
  nothing_is_alike list command is keeps = λ i. record {
    limits = (quotas_pushed list command ∙ keeps) i;
    table = (after-push list command ∙ is.same) i;
    last_unique = no_change list command is.no_change i;
  }

  pub alike_without : (earlier later : List Command) (command : Command) → IsNothing (after limits earlier) command (effect_after limits earlier command) → KeepsQuotas earlier command →
      AreAlike (earlier ++ command ∷ later) (earlier ++ later)
  alike_without earlier later command is keeps =
      subst (λ list. AreAlike list (earlier ++ later)) (append_assoc earlier (command ∷ []) later) (alike_more (earlier ++ command ∷ []) earlier later (nothing_is_alike earlier command is keeps))

  pub same_answer : (earlier later : List Command) (command next : Command) → IsNothing (after limits earlier) command (effect_after limits earlier command) → KeepsQuotas earlier command →
      answer limits (earlier ++ command ∷ later) next ≡ answer limits (earlier ++ later) next
  same_answer earlier later command next is keeps =
      ap (λ (s : TableState). next_reply s next) (alike_without earlier later command is keeps)

  -- a refused command changes nothing
  pub refusal_is_nothing : (list : List Command) (command : Command) → is_refusal (answer limits list command) ≡ true → IsNothing (after limits list) command (effect_after limits list command)
  refusal_is_nothing list command refused =
      ⊎_elim (λ nothing. nothing) (⊎_elim (λ change. absurd (both_ways _ change.granted refused)) (λ out. absurd (both_ways _ out.granted refused))) (shape_of list command)

  pub refusal_keeps : (list : List Command) (command : Command) → is_refusal (answer limits list command) ≡ true → KeepsQuotas list command
  refusal_keeps list command refused = refused_keeps (quotas list) (after limits list) (changes limits list + 1) command refused

  -- What one more command does to what is under a key: it stays, is taken out, or gives way to an
  -- item with the next unique; the latter two only where the command touches the key.
  record IsFresh (list : List Command) (command : Command) (key : Key) : Type 0 where
    item : Item
    put : map.get (after limits (list ++ command ∷ [])) key ≡ Some item
    its_unique : item.unique ≡ changes limits list + 1
    accepted : accepts limits list command ≡ true
    only : (other : Key) → ActsOn other command → key ≡ other

  abbrev Stays : List Command → Command → Key → Type 0
  Stays list command key = (Touches limits list key command → ⊥) × (map.get (after limits (list ++ command ∷ [])) key ≡ map.get (after limits list) key)

  abbrev Moves : List Command → Command → Key → Type 0
  Moves list command key = Touches limits list key command × ((map.get (after limits (list ++ command ∷ [])) key ≡ None) ⊎ IsFresh list command key)

  step : (list : List Command) (command : Command) (key : Key) → Stays list command key ⊎ Moves list command key
  step list command key = ⊎_elim by_nothing (⊎_elim by_change by_taking_out) (shape_of list command)
    where
      done : Effect
      done = effect_after limits list command

      by_nothing : IsNothing (after limits list) command done → Stays list command key ⊎ Moves list command key
      by_nothing is = inl (λ touches. both_ways _ touches.1 (is.refused key touches.0), get_pushed list command key ∙ ap (λ table. map.get table key) is.same)

      by_change : IsChange (quotas list) (after limits list) (changes limits list + 1) command done → Stays list command key ⊎ Moves list command key
      by_change is =
          let found : map.get (after limits (list ++ command ∷ [])) key ≡ map.get (map.insert (after limits list) is.under is.item) key = get_pushed list command key ∙ ap (λ table. map.get table key) is.put in
          ⊎_elim
          (λ here. inr (
            (subst (λ k. ActsOn k command) here.0 is.acts, is.granted),
            inr (record {
              item = is.item;
              put = found ∙ here.1;
              its_unique = is.its_unique;
              accepted = is.accepted;
              only = λ other acts. sym here.0 ∙ is.only other acts;
            }),
          ))
          (λ there. inl (λ touches. there.0 (is.only key touches.0), found ∙ there.1))
          (put_cases (after limits list) is.under key is.item)

      by_taking_out : IsTakenOut (after limits list) command done → Stays list command key ⊎ Moves list command key
      by_taking_out is = ⊎_elim
          (λ gone. inr ((gone.0, is.granted), inl (get_pushed list command key ∙ gone.1)))
          (λ kept. inl (λ touches. kept.0 touches.0, get_pushed list command key ∙ kept.1))
          (is.left key)

  -- a command that doesn't touch a key leaves what is under it
  pub untouched_push : (list : List Command) (command : Command) (key : Key) → (Touches limits list key command → ⊥) → map.get (after limits (list ++ command ∷ [])) key ≡ map.get (after limits list) key
  untouched_push list command key untouched = ⊎_elim (λ stays. stays.1) (λ moves. absurd (untouched moves.0)) (step list command key)

  nothing_under : (key : Key) (item : Item) → map.get (after limits []) key ≢ Some item
  nothing_under key item is = let empty = sym (get-empty key_cmp key) ∙ (ap (λ table. map.get table key) (sym after-none) ∙ is) in cc

  -- changes are never fewer after more commands
  pub changes_grow : (list more : List Command) → changes limits list ≤ changes limits (list ++ more)
  changes_grow list [] = let same : changes limits (list ++ []) ≡ changes limits list = ap (changes limits) (append-nil list) in omega (arith, same)
  changes_grow list (command ∷ more) =
      let later = changes_grow (list ++ command ∷ []) more in
      let same : changes limits ((list ++ command ∷ []) ++ more) ≡ changes limits (list ++ command ∷ more) = ap (changes limits) (append_assoc list (command ∷ []) more) in
      omega (arith, later, same, changes-push list command)

  -- each unique is between 1 and the number of changes
  abbrev HasBoundedUniques : List Command → Type 0
  HasBoundedUniques list = (key : Key) (item : Item) → map.get (after limits list) key ≡ Some item → (1 ≤ item.unique) × (item.unique ≤ changes limits list)

  bounded_push : (list : List Command) (command : Command) → HasBoundedUniques list → HasBoundedUniques (list ++ command ∷ [])
  bounded_push list command bounded key item is =
      ⊎_elim
      (λ stays. let before = bounded key item (sym stays.1 ∙ is) in (before.0, omega (arith, before.1, changes-push list command)))
      (λ moves. ⊎_elim
      (λ gone. absurd (let none = sym gone ∙ is in cc))
      (λ fresh.
      let same : fresh.item ≡ item = same_item fresh.item item (sym fresh.put ∙ is) in
      let unique = ap (λ (i : Item). i.unique) same in
      let grown = changes_pushed list command true fresh.accepted in
      (omega (arith, unique, fresh.its_unique), omega (arith, unique, fresh.its_unique, grown)))
      moves.1)
      (step list command key)

  pub has_bounded_uniques : (list : List Command) → HasBoundedUniques list
  has_bounded_uniques = push_induction HasBoundedUniques (λ key item is. absurd (nothing_under key item is)) bounded_push

  -- each item came with a change
  abbrev HaveChanges : List Command → Type 0
  HaveChanges list = (key : Key) (item : Item) → map.get (after limits list) key ≡ Some item → IsStoredBy limits list key item

  stored_push : (list : List Command) (command : Command) (key : Key) (item : Item) → IsStoredBy limits list key item → IsStoredBy limits (list ++ command ∷ []) key item
  stored_push list command key item by = record {
    earlier = by.earlier;
    change = by.change;
    later = by.later ++ command ∷ [];
    in_list = ap (λ commands. commands ++ command ∷ []) by.in_list ∙ append_assoc by.earlier (by.change ∷ by.later) (command ∷ []);
    accepted = by.accepted;
    absent = by.absent;
    stored = by.stored;
    unique = by.unique;
  }

  stored_now : (list : List Command) (command : Command) (key : Key) (item : Item) → IsFresh list command key → map.get (after limits (list ++ command ∷ [])) key ≡ Some item → IsStoredBy limits (list ++ command ∷ []) key item
  stored_now list command key item fresh is =
      let same : fresh.item ≡ item = same_item fresh.item item (sym fresh.put ∙ is) in
      let unique = ap (λ (i : Item). i.unique) same in
      let grown = changes_pushed list command true fresh.accepted in
      record {
        earlier = list;
        change = command;
        later = [];
        in_list = refl;
        accepted = fresh.accepted;
        absent = λ before. absurd (omega (arith, unique, fresh.its_unique, (has_bounded_uniques list key item before).1));
        stored = is;
        unique = omega (arith, unique, fresh.its_unique, grown);
      }

  changes_kept : (list : List Command) (command : Command) → HaveChanges list → HaveChanges (list ++ command ∷ [])
  changes_kept list command have key item is =
      ⊎_elim
      (λ stays. stored_push list command key item (have key item (sym stays.1 ∙ is)))
      (λ moves. ⊎_elim (λ gone. absurd (let none = sym gone ∙ is in cc)) (λ fresh. stored_now list command key item fresh is) moves.1)
      (step list command key)

  pub have_changes : (list : List Command) → HaveChanges list
  have_changes = push_induction HaveChanges (λ key item is. absurd (nothing_under key item is)) changes_kept

  -- items with one unique stand under one key
  abbrev HasOwnUniques : List Command → Type 0
  HasOwnUniques list = (key other : Key) (item twin : Item) → map.get (after limits list) key ≡ Some item → map.get (after limits list) other ≡ Some twin → item.unique ≡ twin.unique → key ≡ other

  -- what is under a key after one more command was there, or is fresh
  held_or_fresh : (list : List Command) (command : Command) (key : Key) (item : Item) → map.get (after limits (list ++ command ∷ [])) key ≡ Some item →
      (map.get (after limits list) key ≡ Some item) ⊎ (Touches limits list key command × ((item.unique ≡ changes limits list + 1) × ((other : Key) → ActsOn other command → key ≡ other)))
  held_or_fresh list command key item is =
      ⊎_elim
      (λ stays. inl (sym stays.1 ∙ is))
      (λ moves. ⊎_elim
      (λ gone. absurd (let none = sym gone ∙ is in cc))
      (λ fresh. inr (moves.0, (ap (λ (i : Item). i.unique) (sym (same_item fresh.item item (sym fresh.put ∙ is))) ∙ fresh.its_unique, fresh.only)))
      moves.1)
      (step list command key)

  own_push : (list : List Command) (command : Command) → HasOwnUniques list → HasOwnUniques (list ++ command ∷ [])
  own_push list command own key other item twin is is_twin same =
      ⊎_elim
      (λ held. ⊎_elim
      (λ twin_held. own key other item twin held twin_held same)
      (λ twin_fresh. absurd (omega (arith, same, twin_fresh.1.0, (has_bounded_uniques list key item held).1)))
      (held_or_fresh list command other twin is_twin))
      (λ fresh. ⊎_elim
      (λ twin_held. absurd (omega (arith, same, fresh.1.0, (has_bounded_uniques list other twin twin_held).1)))
      (λ twin_fresh. fresh.1.1 other twin_fresh.0.0)
      (held_or_fresh list command other twin is_twin))
      (held_or_fresh list command key item is)

  pub has_own_uniques : (list : List Command) → HasOwnUniques list
  has_own_uniques = push_induction HasOwnUniques (λ key other item twin is is_twin same. absurd (nothing_under key item is)) own_push

  -- the key holds an item with this unique
  pub record HasUnique (list : List Command) (key : Key) (unique : ℕ) : Type 0 where
    pub item : Item
    pub held : map.get (after limits list) key ≡ Some item
    pub its_unique : item.unique ≡ unique

  -- once a unique is past, no later command gives it to a key
  lacks_push : (list : List Command) (command : Command) (key : Key) (unique : ℕ) → unique ≤ changes limits list →
      (HasUnique list key unique → ⊥) → HasUnique (list ++ command ∷ []) key unique → ⊥
  lacks_push list command key unique past lacks has =
      ⊎_elim
      (λ held. lacks (record { item = has.item; held = held; its_unique = has.its_unique }))
      (λ fresh. omega (arith, past, fresh.1.0, has.its_unique))
      (held_or_fresh list command key has.item has.held)

  lacks_more : (list more : List Command) (key : Key) (unique : ℕ) → unique ≤ changes limits list →
      (HasUnique list key unique → ⊥) → HasUnique (list ++ more) key unique → ⊥
  lacks_more list [] key unique past lacks has = lacks (subst (λ l. HasUnique l key unique) (append-nil list) has)
  lacks_more list (command ∷ more) key unique past lacks has =
      lacks_more (list ++ command ∷ []) more key unique (omega (arith, past, changes-push list command)) (lacks_push list command key unique past lacks)
      (subst (λ l. HasUnique l key unique) (sym (append_assoc list (command ∷ []) more)) has)

  -- a command that touches a key leaves none of the past uniques there
  touched_lacks : (list : List Command) (command : Command) (key : Key) (unique : ℕ) → unique ≤ changes limits list →
      Touches limits list key command → HasUnique (list ++ command ∷ []) key unique → ⊥
  touched_lacks list command key unique past touches has =
      ⊎_elim
      (λ stays. stays.0 touches)
      (λ moves. ⊎_elim
      (λ gone. let none = sym gone ∙ has.held in absurd (cc))
      (λ fresh.
      let same = ap (λ (i : Item). i.unique) (same_item fresh.item has.item (sym fresh.put ∙ has.held)) in
      omega (arith, past, same, fresh.its_unique, has.its_unique))
      moves.1)
      (step list command key)

  -- a unique that is still there was not touched in between
  pub still_there_is_untouched : (earlier between : List Command) (key : Key) (unique : ℕ) → unique ≤ changes limits earlier →
      HasUnique (earlier ++ between) key unique → IsUntouched limits earlier key between
  still_there_is_untouched earlier between key unique past has front back command split touches =
      let here = earlier ++ front in
      let until : unique ≤ changes limits here = omega (arith, past, changes_grow earlier front) in
      let later : unique ≤ changes limits (here ++ command ∷ []) = omega (arith, until, changes-push here command) in
      let joined : earlier ++ between ≡ (here ++ command ∷ []) ++ back =
      ap (λ list. earlier ++ list) split ∙ (sym (append_assoc earlier front (command ∷ back)) ∙ sym (append_assoc here (command ∷ []) back)) in
      lacks_more (here ++ command ∷ []) back key unique later (touched_lacks here command key unique until touches) (subst (λ l. HasUnique l key unique) joined has)

  -- what isn't touched is still there
  abbrev StaysUntouched : List Command → Key → List Command → Type 0
  StaysUntouched earlier key between = IsUntouched limits earlier key between → map.get (after limits (earlier ++ between)) key ≡ map.get (after limits earlier) key

  pub untouched_is_still_there : (earlier : List Command) (key : Key) (between : List Command) → StaysUntouched earlier key between
  untouched_is_still_there earlier key = push_induction (StaysUntouched earlier key) (λ untouched. ap (λ list. map.get (after limits list) key) (append-nil earlier)) more
    where
      more : (between : List Command) (command : Command) → StaysUntouched earlier key between → StaysUntouched earlier key (between ++ command ∷ [])
      more between command before untouched =
          let kept = before (λ front back other split touches. untouched front (back ++ command ∷ []) other (ap (λ list. list ++ command ∷ []) split ∙ append_assoc front (other ∷ back) (command ∷ [])) touches) in
          ap (λ list. map.get (after limits list) key) (sym (append_assoc earlier between (command ∷ [])))
          ∙ (untouched_push (earlier ++ between) command key (untouched between [] command refl) ∙ kept)

  -- what is accepted leaves the table within the quotas, and what isn't leaves no more than there was
  pub accepted_within : (list : List Command) (command : Command) → accepts limits list command ≡ true → IsWithinQuotas limits (list ++ command ∷ [])
  accepted_within list command accepted =
      let kept = quotas_pushed list command ∙ accepted_keeps (quotas list) (after limits list) (changes limits list + 1) command accepted in
      let within : is_within (quotas list) (effect_after limits list command).table ≡ true = ⊎_elim
      (λ nothing. absurd (both_ways _ nothing.no_change accepted))
      (⊎_elim (λ change. change.within) (λ out. absurd (both_ways _ out.no_change accepted)))
      (shape_of list command) in
      within_parts (quotas (list ++ command ∷ [])) (after limits (list ++ command ∷ []))
      (ap (λ (l : Limits). is_within l (after limits (list ++ command ∷ []))) kept
      ∙ (ap (is_within (quotas list)) (after-push list command) ∙ within))

  pub others_leave_less : (list : List Command) (command : Command) → accepts limits list command ≡ false →
      (use_of (after limits (list ++ command ∷ [])) ≤ use_of (after limits list)) × (count_of (after limits (list ++ command ∷ [])) ≤ count_of (after limits list))
  others_leave_less list command refused =
      subst (λ table. (use_of table ≤ use_of (after limits list)) × (count_of table ≤ count_of (after limits list))) (sym (after-push list command))
      (⊎_elim
      (λ nothing. let same = nothing.same in (omega (arith, ap use_of same), omega (arith, ap count_of same)))
      (⊎_elim (λ change. absurd (both_ways _ refused change.accepted)) (λ out. out.less))
      (shape_of list command))

-- a command that sets no quotas keeps them
keeps : (limits : Limits) (command : Command) → ¬ (SetsLimits command) → limits_by limits command ≡ limits
keeps limits (Store verb key flags block) none = refl
keeps limits (Cas key flags block seen) none = refl
keeps limits (Get keys uniques) none = refl
keeps limits (Delete key) none = refl
keeps limits (Incr key by) none = refl
keeps limits (Decr key by) none = refl
keeps limits Flush none = refl
keeps limits (Limit new) none = absurd (none tt)

-- and so does a list of such commands, which leaves a table within them that was within them
list_keeps : (list : List Command) (state : TableState) → KeepsLimits list → (state_from state list).limits ≡ state.limits
list_keeps [] state none = ap (λ (s : TableState). s.limits) (state_from-none state)
list_keeps (command ∷ list) state none =
    ap (λ (s : TableState). s.limits) (state_from-more state (command ∷ []) list)
    ∙ (list_keeps list (state_from state (command ∷ [])) none.1
    ∙ (ap (λ (s : TableState). s.limits) (state_from-push state [] command ∙ ap (λ s. next_state s command) (state_from-none state))
    ∙ keeps state.limits command none.0))

pub limits_of_opening : (opening : Limits) (list : List Command) → KeepsLimits list → limits_after opening list ≡ opening
limits_of_opening opening list none = list_keeps list (empty_table opening) none

pub limits_set_last : (opening new : Limits) (earlier later : List Command) → KeepsLimits later → limits_after opening (earlier ++ Limit new ∷ later) ≡ new
limits_set_last opening new earlier later none =
    ap (λ (list : List Command). limits_after opening list) (sym (append_assoc earlier (Limit new ∷ []) later))
    ∙ (ap (λ (s : TableState). s.limits) (state_from-more (empty_table opening) (earlier ++ Limit new ∷ []) later)
    ∙ (list_keeps later (state_after opening (earlier ++ Limit new ∷ [])) none ∙ quotas_pushed opening earlier (Limit new)))

pub stays_within : (opening : Limits) (list : List Command) → KeepsLimits list → IsWithinQuotas opening list
stays_within opening list none = within_parts (limits_after opening list) (after opening list) (from (empty_table opening) list none (empty_within opening))
  where
    stepped : (state : TableState) (command : Command) → ¬ (SetsLimits command) → is_within state.limits state.table ≡ true →
        is_within (next_state state command).limits (next_state state command).table ≡ true
    stepped state command none within =
        subst (λ (l : Limits). is_within l (next_state state command).table ≡ true) (sym (keeps state.limits command none))
        (⊎_elim
        (λ nothing. ap (is_within state.limits) nothing.same ∙ within)
        (⊎_elim (λ change. change.within) (λ out. less_within state.limits state.table _ out.less.0 out.less.1 within))
        (shape state.limits state.table (state.last_unique + 1) command))

    from : (state : TableState) (list : List Command) → KeepsLimits list → is_within state.limits state.table ≡ true →
        is_within (state_from state list).limits (state_from state list).table ≡ true
    from state [] none within = subst (λ (s : TableState). is_within s.limits s.table ≡ true) (sym (state_from-none state)) within
    from state (command ∷ list) none within =
        let one : state_from state (command ∷ []) ≡ next_state state command = state_from-push state [] command ∙ ap (λ s. next_state s command) (state_from-none state) in
        subst (λ (s : TableState). is_within s.limits s.table ≡ true)
        (sym (state_from-more state (command ∷ []) list ∙ ap (λ (s : TableState). state_from s list) one))
        (from (next_state state command) list none.1 (stepped state command none.0 within))
