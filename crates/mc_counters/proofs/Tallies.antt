-- Lemmas on counting one request more.
use Rattle.std.proofs.Common.{◌≡◌, ℕ, ◌+◌, ◌^◌, ◌-◌, ◌<◌, ◌==◌, ◌∷◌, ◌∙◌, arith, ap, eq-eqb, inl, inr, sym, true, false, cond, List, length, Option, Some, None, min, refl, slice_index, count_by, sum_by}
use Rattle.std.proofs.Math.Nat.{min-eq_left, min-eq_right}
use Rattle.std.proofs.lemmas.Bool.{cases_eq, cases_lt, ne_eqb}
use Rattle.std.proofs.lemmas.List.Sums.{sum_by-cons}
use Rattle.std.proofs.lemmas.List.{get_or-set_same, get_or-set_other}
use Rattle.mc_model.specs.declared.reply.Reply.{Reply}
use Rattle.mc_model.specs.declared.reply.Reply.TheVariants.{Stored, NotStored, Exists, NotFound, Deleted, Ok, Number, Values, Version, Refused}
use Rattle.mc_counters.proofs.Places.{kinds_have_places, refusals_have_places}
use Rattle.mc_counters.specs.Kinds.{place_of_kind, place_of_refusal}
use Rattle.mc_counters.specs.Steps.{more_at, counts_with_command, counts_with_reply}
use Rattle.mc_counters.specs.Tallied.{CountedRequest, IsTallyOf, capped, is_of_kind, is_refused, items_found, keys_missed}
use Rattle.mc_counters.specs.declared.kinds.Asked.{Asked}
use Rattle.mc_counters.specs.declared.kinds.TheConstants.{COMMANDS, REFUSALS}
use Rattle.mc_counters.specs.declared.tally.Tally.{Tally}

-- a number that stopped at the largest stays there
pub min-more : (m n a : ℕ) → min (min n m + a) m ≡ min (a + n) m
min-more m n a = elim (cases_lt n m) as (λ _. min (min n m + a) m ≡ min (a + n) m) [
  | inl below ↦
      let here : min n m ≡ n = min-eq_left (omega arith) in
      let sums : n + a ≡ a + n = omega arith in
      rw (here, sums) refl
  | inr above ↦
      let here : min n m ≡ m = min-eq_right above in
      let left : min (m + a) m ≡ m = min-eq_right (omega arith) in
      let right : min (a + n) m ≡ m = min-eq_right (omega arith) in
      rw here (left ∙ sym right)
]

-- what is at a place once one more is counted there or at another
pub index-more_at : (counts : List ℕ) (here place n : ℕ) → here < length counts → slice_index counts place ≡ capped n
    → slice_index (more_at counts here) place ≡ capped (cond (here == place) 1 0 + n)
index-more_at counts here place n inside is = elim (cases_eq here place) as (λ _. slice_index (more_at counts here) place ≡ capped (cond (here == place) 1 0 + n)) [
  | inl same ↦
      let test : (here == place) ≡ true = eq-eqb here place same in
      let there : slice_index counts here ≡ capped n = rw same is in
      let new : slice_index (more_at counts here) here ≡ capped (slice_index counts here + 1) = get_or-set_same counts here (capped (slice_index counts here + 1)) 0 inside in
      let grown : capped (slice_index counts here + 1) ≡ capped (1 + n) = rw there (min-more (2 ^ 64 - 1) n 1) in
      rw test (rw (sym same) (new ∙ grown))
  | inr other ↦
      let test : (here == place) ≡ false = ne_eqb here place other in
      let kept : slice_index (more_at counts here) place ≡ slice_index counts place = get_or-set_other counts here place (capped (slice_index counts here + 1)) 0 (λ e. other (sym e)) in
      let sums : 0 + n ≡ n = omega arith in
      rw (test, sums) (kept ∙ is)
]

-- the counts of commands after one more request
pub index-counts_with_command : (asked : Option Asked) (counts : List ℕ) (place n : ℕ) → length counts ≡ COMMANDS
    → ((kind : _) → place_of_kind kind < COMMANDS) → slice_index counts place ≡ capped n
    → slice_index (counts_with_command asked counts) place ≡ capped (cond (is_of_kind place asked) 1 0 + n)
index-counts_with_command None counts place n long below is =
    let sums : 0 + n ≡ n = omega arith in rw sums is
index-counts_with_command (Some asked) counts place n long below is =
    let kind = below asked.kind in
    index-more_at counts (place_of_kind asked.kind) place n (omega arith) is

-- a reply that is no refusal changes no count
unrefused : (counts : List ℕ) (place n : ℕ) → slice_index counts place ≡ capped n → slice_index counts place ≡ capped (0 + n)
unrefused counts place n is = let sums : 0 + n ≡ n = omega arith in rw sums is

-- the counts of refusals after one more reply
pub index-counts_with_reply : (reply : Reply) (counts : List ℕ) (place n : ℕ) → length counts ≡ REFUSALS
    → ((refusal : _) → place_of_refusal refusal < REFUSALS) → slice_index counts place ≡ capped n
    → slice_index (counts_with_reply reply counts) place ≡ capped (cond (is_refused place reply) 1 0 + n)
index-counts_with_reply (Refused refusal) counts place n long below is =
    let kind = below refusal in
    index-more_at counts (place_of_refusal refusal) place n (omega arith) is
index-counts_with_reply Stored counts place n long below is = unrefused counts place n is
index-counts_with_reply NotStored counts place n long below is = unrefused counts place n is
index-counts_with_reply Exists counts place n long below is = unrefused counts place n is
index-counts_with_reply NotFound counts place n long below is = unrefused counts place n is
index-counts_with_reply Deleted counts place n long below is = unrefused counts place n is
index-counts_with_reply Ok counts place n long below is = unrefused counts place n is
index-counts_with_reply (Number number) counts place n long below is = unrefused counts place n is
index-counts_with_reply (Values values) counts place n long below is = unrefused counts place n is
index-counts_with_reply Version counts place n long below is = unrefused counts place n is

-- the tally after one more request
pub tally-more : (past : List CountedRequest) (asked : Option Asked) (reply : Reply) (old middle late : Tally) (hits misses : ℕ)
    → middle ≡ record old { commands = counts_with_command asked old.commands } → (length old.commands ≡ COMMANDS) × (length middle.commands ≡ COMMANDS)
    → late ≡ record middle { refusals = counts_with_reply reply middle.refusals } → (length middle.refusals ≡ REFUSALS) × (length late.refusals ≡ REFUSALS)
    → hits ≡ min (late.hits + items_found reply) (2 ^ 64 - 1) → misses ≡ min (late.misses + keys_missed asked reply) (2 ^ 64 - 1)
    → IsTallyOf past old
    → IsTallyOf (record { asked = asked; reply = reply } ∷ past) (record { commands = late.commands; hits = hits; misses = misses; refusals = late.refusals })
tally-more past asked reply old middle late hits misses middle_is commands_long late_is refusals_long hits_is misses_is is =
    let largest : ℕ = 2 ^ 64 - 1 in
    let one : CountedRequest = record { asked = asked; reply = reply } in
    let more : (f : CountedRequest → ℕ) → capped (f one + sum_by f past) ≡ capped (sum_by f (one ∷ past)) =
    λ f. ap (λ (number : ℕ). capped number) (sym (sum_by-cons f one past)) in
    let commands_are : late.commands ≡ counts_with_command asked old.commands =
    ap (λ (tally : Tally). tally.commands) late_is ∙ ap (λ (tally : Tally). tally.commands) middle_is in
    let refusals_were : middle.refusals ≡ old.refusals = ap (λ (tally : Tally). tally.refusals) middle_is in
    let refusals_are : late.refusals ≡ counts_with_reply reply old.refusals =
    ap (λ (tally : Tally). tally.refusals) late_is ∙ ap (λ (counts : List ℕ). counts_with_reply reply counts) refusals_were in
    let long : length old.refusals ≡ REFUSALS = sym (ap (λ (counts : List ℕ). length counts) refusals_were) ∙ refusals_long.0 in
    let hits_were : late.hits ≡ old.hits = ap (λ (tally : Tally). tally.hits) late_is ∙ ap (λ (tally : Tally). tally.hits) middle_is in
    let misses_were : late.misses ≡ old.misses = ap (λ (tally : Tally). tally.misses) late_is ∙ ap (λ (tally : Tally). tally.misses) middle_is in
    record {
      places = (ap (λ (tally : Tally). length tally.commands) late_is ∙ commands_long.1, refusals_long.1);
      commands = λ place below. ap (λ (counts : List ℕ). slice_index counts place) commands_are
          ∙ index-counts_with_command asked old.commands place (count_by (λ one. is_of_kind place one.asked) past) commands_long.0 kinds_have_places (is.commands place below)
          ∙ more (λ one. cond (is_of_kind place one.asked) 1 0);
      refusals = λ place below. ap (λ (counts : List ℕ). slice_index counts place) refusals_are
          ∙ index-counts_with_reply reply old.refusals place (count_by (λ one. is_refused place one.reply) past) long refusals_have_places (is.refusals place below)
          ∙ more (λ one. cond (is_refused place one.reply) 1 0);
      hits = hits_is ∙ (ap (λ (number : ℕ). min (number + items_found reply) largest) (hits_were ∙ is.hits)
          ∙ min-more largest (sum_by (λ one. items_found one.reply) past) (items_found reply)
          ∙ more (λ one. items_found one.reply));
      misses = misses_is ∙ (ap (λ (number : ℕ). min (number + keys_missed asked reply) largest) (misses_were ∙ is.misses)
          ∙ min-more largest (sum_by (λ one. keys_missed one.asked one.reply) past) (keys_missed asked reply)
          ∙ more (λ one. keys_missed one.asked one.reply));
    }
