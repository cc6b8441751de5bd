-- What is true of a reader's fields stays true when bytes come.
use Rattle.std.proofs.Common.{◌≡◌, ℕ, ◌-◌, ◌<◌, ◌≤◌, ◌↔◌, Bool, inl, inr, ◌⊎◌, List, [], ◌++◌, length, Option, Result, Ok, Err, OnOk, OnErr, sym, ◌∙◌, ap, subst, ⊎_elim, length-append, arith}
use Rattle.std.proofs.lemmas.Bool.{both_ways, cases_lt}
use Rattle.std.proofs.lemmas.List.{get_or_append_left, nil_from_length}
use Rattle.std.proofs.lemmas.List.Sums.{fails_before_first, passes_at_first, position_or_len_is}
use Rattle.std.specs.Global.{Box}
use Rattle.mc_model.specs.declared.fault.Fault.{Fault}
use Rattle.mc_model.specs.declared.reply.WireNo.{WireNo}
use Rattle.mc_model.specs.declared.request.Request.{Request}
use Rattle.mc_read.specs.declared.awaited.Awaited.{Awaited}
use Rattle.mc_read.specs.declared.reader.State.{State}
use Rattle.mc_read.specs.declared.reader.State.TheVariants as state
use Rattle.mc_read.specs.First.{is_line_feed, line_length}
use Rattle.mc_read.specs.Line.{refused}
use Rattle.mc_read.specs.Reading.{Ended, Held, IsFed, Kept, ReadsOn, Swallowing}
use Rattle.mc_read.specs.State.{IsAwaited, IsLineAt, IsSearched, IsStateOf, held_in, with_line}
use Rattle.mc_read.specs.Text.{Lines}
use Rattle.mc_read.proofs.Awaiting.{fed_awaiting, line_awaited}
use Rattle.mc_read.proofs.Holdings.{fed_within, reads_alike}
use Rattle.mc_read.proofs.Lines.{line_length_le}

-- a line that has ended stays as long
line_length-append : (bytes piece : List ℕ) → line_length bytes < length bytes → line_length (bytes ++ piece) ≡ line_length bytes
line_length-append bytes piece ends =
    position_or_len_is is_line_feed (bytes ++ piece) (line_length bytes) 0 (omega (arith, ends, length-append bytes piece))
    (λ k below. ap is_line_feed (get_or_append_left bytes piece 0 k (omega (arith, below, ends))) ∙ fails_before_first is_line_feed bytes k 0 below)
    (λ _. ap is_line_feed (get_or_append_left bytes piece 0 (line_length bytes) ends) ∙ passes_at_first is_line_feed bytes 0 ends)

-- bytes without a line feed stay without
line_length-append-ge : (bytes piece : List ℕ) → line_length bytes ≤ line_length (bytes ++ piece)
line_length-append-ge bytes piece =
    ⊎_elim
    (λ early.
    let whole = line_length_le bytes in
    let here : line_length (bytes ++ piece) < length bytes = omega (arith, early, whole) in
    let feed = passes_at_first is_line_feed (bytes ++ piece) 0 (omega (arith, here, length-append bytes piece)) in
    let none = fails_before_first is_line_feed bytes (line_length (bytes ++ piece)) 0 early in
    let same = ap is_line_feed (get_or_append_left bytes piece 0 (line_length (bytes ++ piece)) here) in
    absurd (both_ways _ none (sym same ∙ feed)))
    (λ late. late)
    (cases_lt (line_length (bytes ++ piece)) (line_length bytes))

pub searched_more : (searched : ℕ) (bytes piece : List ℕ) → IsSearched searched bytes → IsSearched searched (bytes ++ piece)
searched_more searched bytes piece is = record {
  in_vain = omega (arith, is.in_vain, line_length-append-ge bytes piece);
  few = is.few;
}

module _ (lines : Lines) where
  -- a state that keeps all bytes is a state of them and a piece, or of what they were
  pub state_more : (s : State) (old piece new : List ℕ) (r : Result (Unit {0}) Fault)
      → ((searched : ℕ) × (s ≡ state.AwaitsLine searched)) ⊎ ((block : Box Awaited) × (s ≡ state.AwaitsBlock block))
      → IsStateOf lines s old → OnOk r (new ≡ old ++ piece) → OnErr r (new ≡ old) → IsStateOf lines s new
  state_more s old piece new (Ok u) which is more same = subst (IsStateOf lines s) (sym more) (grown which)
    where
      grown : ((searched : ℕ) × (s ≡ state.AwaitsLine searched)) ⊎ ((block : Box Awaited) × (s ≡ state.AwaitsBlock block)) → IsStateOf lines s (old ++ piece)
      grown (inl line) = subst (λ t. IsStateOf lines t (old ++ piece)) (sym line.1) (searched_more line.0 old piece (subst (λ t. IsStateOf lines t old) line.1 is))
      grown (inr block) = subst (λ t. IsStateOf lines t (old ++ piece)) (sym block.1) (subst (λ t. IsStateOf lines t old) block.1 is)
  state_more s old piece new (Err fault) which is more same = subst (IsStateOf lines s) (sym same) is

  -- a piece within a refused block, also where none of the block is still to come
  pub fed_refused : (request : Request) (left : ℕ) (bytes piece : List ℕ) → (0 < left → bytes ≡ []) → length piece ≤ left → IsFed lines (Swallowing request left bytes) piece (Swallowing request (left - length piece) bytes)
  fed_refused request left bytes piece empty within =
      ⊎_elim
      (λ some. rw (empty some) (fed_within lines request left piece within))
      (λ none.
      let nothing : piece ≡ [] = nil_from_length piece (omega (arith, within, none)) in
      let same : left - length piece ≡ left = omega (arith, none) in
      λ more requests. subst (λ p. ReadsOn lines (Swallowing request (left - length piece) bytes) more requests ↔ ReadsOn lines (Swallowing request left bytes) (p ++ more) requests) (sym nothing)
      (subst (λ n. ReadsOn lines (Swallowing request n bytes) more requests ↔ ReadsOn lines (Swallowing request left bytes) more requests) (sym same) (reads_alike lines (Swallowing request left bytes) more requests)))
      (cases_lt 0 left)

  -- a piece comes while a block is awaited
  pub fed_awaited : (s : State) (block : Box Awaited) (old piece new : List ℕ) (r : Result (Unit {0}) Fault) → s ≡ state.AwaitsBlock block → OnOk r (new ≡ old ++ piece) → OnOk r (IsFed lines (held_in s old) piece (held_in s new))
  fed_awaited s block old piece new (Ok u) is more =
      subst (λ t. IsFed lines (held_in t old) piece (held_in t new)) (sym is) (subst (λ b. IsFed lines (Kept (with_line block.value old)) piece (Kept (with_line block.value b))) (sym more) (fed_awaiting lines block.value old piece))
  fed_awaited s block old piece new (Err fault) is more = tt

  -- while a block is awaited, its line stands at the front of what is held
  pub line_of_block : (s : State) (inside : List ℕ) (block : Box Awaited) (bytes : List ℕ) → s ≡ state.AwaitsBlock block → IsStateOf lines s inside → held_in s inside ≡ Kept bytes → IsLineAt bytes (length block.value.line.text)
  line_of_block s inside block bytes is_block is held =
      let awaits : IsAwaited lines block.value = subst (λ t. IsStateOf lines t inside) is_block is in
      let kept : Kept (with_line block.value inside) ≡ Kept bytes = ap (λ t. held_in t inside) (sym is_block) ∙ held in
      let same : with_line block.value inside ≡ bytes = cc in
      subst (λ b. IsLineAt b (length block.value.line.text)) same (line_awaited lines block.value awaits inside)

pub fed_awaited_all : (s : State) (block : Box Awaited) (old piece new : List ℕ) (r : Result (Unit {0}) Fault) → s ≡ state.AwaitsBlock block → OnOk r (new ≡ old ++ piece) → OnOk r ((lines : Lines) → IsStateOf lines s old → IsFed lines (held_in s old) piece (held_in s new))
fed_awaited_all s block old piece new (Ok u) is more = λ lines _. fed_awaited lines s block old piece new (Ok u) is more
fed_awaited_all s block old piece new (Err fault) is more = tt

-- A refused block that has come whole, and one of which a piece comes.
pub left_of_block : (refusal other : WireNo) (quiet noreply : Bool) (left more : ℕ) → state.SwallowsBlock refusal quiet left ≡ state.SwallowsBlock other noreply more → left ≡ more
left_of_block refusal other quiet noreply left more same = cc

pub swallowed_held : (s : State) (inside : List ℕ) (refusal : WireNo) (quiet : Bool) (left : ℕ) (held : Held) → s ≡ state.SwallowsBlock refusal quiet left → left ≡ 0 → held_in s inside ≡ held → Swallowing (refused refusal quiet) 0 inside ≡ held
swallowed_held s inside refusal quiet left held is none same =
    ap (λ n. Swallowing (refused refusal quiet) n inside) (sym none) ∙ (ap (λ t. held_in t inside) (sym is) ∙ same)

pub swallowing_parts : (request other : Request) (left : ℕ) (bytes more : List ℕ) → Swallowing request left bytes ≡ Swallowing other left more → (request ≡ other) × (bytes ≡ more)
swallowing_parts request other left bytes more same = (cc, cc)

-- `come` fewer bytes are still to come
abbrev pub fewer : ℕ → Held → Held
fewer come (Kept bytes) = Kept bytes
fewer come (Swallowing request left bytes) = Swallowing request (left - come) bytes
fewer come Ended = Ended

-- what holds anyhow holds after an error
pub on_err : {T E P : Type 0} (r : Result T E) → P → OnErr r P
on_err (Ok value) holds = tt
on_err (Err error) holds = holds

pub kept_bytes : (bytes more : List ℕ) → Kept bytes ≡ Kept more → bytes ≡ more
kept_bytes bytes more same = cc

pub step_parts : (request other : Option Request) (before after : State) (few many : ℕ) → ◌≡◌ {A = Result (Option Request × State × ℕ) Fault} (Ok (request, before, few)) (Ok (other, after, many)) → (request ≡ other) × (before ≡ after)
step_parts request other before after few many same =
    let step : ◌≡◌ {A = Option Request × State × ℕ} (request, before, few) (other, after, many) = cc in
    (ap (λ (p : Option Request × State × ℕ). p.0) step, ap (λ (p : Option Request × State × ℕ). p.1) step)
