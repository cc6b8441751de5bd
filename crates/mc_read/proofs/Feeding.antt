-- A state takes a piece that stands behind its bytes.
use Rattle.std.proofs.Common.{◌≡◌, ℕ, ◌+◌, ◌-◌, ◌^◌, ◌<◌, ◌≤◌, ◌⊎◌, inl, inr, Bool, List, [], ◌++◌, length, drop, min, sym, ◌∙◌, ap, subst, length-append, length-drop, arith, ⊎_elim}
use Rattle.std.proofs.lemmas.Bool.{cases_lt}
use Rattle.std.proofs.lemmas.List.{drop_all}
use Rattle.std.specs.Global.{Box}
use Rattle.mc_model.specs.declared.item.TheConstants.{DATA_BYTES}
use Rattle.mc_model.specs.declared.reply.WireNo.{WireNo}
use Rattle.mc_model.specs.declared.request.Request.{Request}
use Rattle.mc_read.specs.declared.line.Header.{Header}
use Rattle.mc_read.specs.declared.awaited.Awaited.{Awaited}
use Rattle.mc_read.specs.declared.awaited.ReadLine.{ReadLine}
use Rattle.mc_read.specs.declared.line.Asked.TheVariants.{StoredBlock}
use Rattle.mc_read.specs.declared.line.TheConstants.{LINE_BYTES}
use Rattle.mc_read.specs.declared.reader.State.{State}
use Rattle.mc_read.specs.declared.reader.State.TheVariants as state
use Rattle.mc_read.specs.Line.{refused}
use Rattle.mc_read.specs.Reading.{IsFed, Swallowing, raised}
use Rattle.mc_read.specs.State.{Feeds, IsAwaited, IsReader, IsStateOf, ahead_in}
use Rattle.mc_read.specs.Text.{IsUnbroken, Lines}
use Rattle.mc_read.proofs.Awaiting.{fed_awaiting}
use Rattle.mc_read.proofs.Holdings.{fed_after, fed_ended, fed_kept, fed_past, fed_within}
use Rattle.mc_read.proofs.States.{searched_more}

module _ (lines : Lines) (bytes piece : List ℕ) where
  pub feeds_line : (searched : ℕ) → IsStateOf lines (state.AwaitsLine searched) bytes → Feeds lines (state.AwaitsLine searched) bytes piece (state.AwaitsLine searched) (bytes ++ piece)
  feeds_line searched is = record {
    readings = fed_kept lines bytes piece;
    stands = searched_more searched bytes piece is;
    ahead = omega (arith, length-append bytes piece);
  }

  pub feeds_block : (block : Box Awaited) → IsStateOf lines (state.AwaitsBlock block) bytes → Feeds lines (state.AwaitsBlock block) bytes piece (state.AwaitsBlock block) (bytes ++ piece)
  feeds_block block is = record {
    readings = fed_awaiting lines block.value bytes piece;
    stands = is;
    ahead = omega (arith, length-append bytes piece);
  }

  pub feeds_ended : IsStateOf lines state.Ended bytes → (left : List ℕ) → left ≡ [] → Feeds lines state.Ended bytes piece state.Ended left
  feeds_ended is left none = record { readings = fed_ended lines piece; stands = none; ahead = omega arith }

  -- a piece of a refused block, and what stands behind that
  swallowed_fed : (request : Request) (left count : ℕ) (new : List ℕ) → (0 < left → bytes ≡ []) → count ≡ min left (length (bytes ++ piece)) → new ≡ drop count (bytes ++ piece)
      → IsFed lines (Swallowing request left bytes) piece (Swallowing request (left - count) new)
  swallowed_fed request left count new empty is_count is_new =
      ⊎_elim
      (λ some.
      let none = empty some in
      let all : bytes ++ piece ≡ piece = ap (λ b. b ++ piece) none in
      ⊎_elim
      (λ past.
      let many : count ≡ left = omega (arith, is_count, ap length all, past) in
      let over : left - count ≡ 0 = omega (arith, many) in
      let behind : new ≡ drop left piece = is_new ∙ (λ i. drop (many i) (all i)) in
      subst (λ b. IsFed lines (Swallowing request left b) piece (Swallowing request (left - count) new)) (sym none)
      (subst (λ b. IsFed lines (Swallowing request left []) piece (Swallowing request (left - count) b)) (sym behind)
      (subst (λ n. IsFed lines (Swallowing request left []) piece (Swallowing request n (drop left piece))) (sym over) (fed_past lines request left piece (omega (arith, past))))))
      (λ within.
      let many : count ≡ length piece = omega (arith, is_count, ap length all, within) in
      let gone : new ≡ [] = is_new ∙ drop_all count (bytes ++ piece) (omega (arith, many, ap length all)) in
      subst (λ b. IsFed lines (Swallowing request left b) piece (Swallowing request (left - count) new)) (sym none)
      (subst (λ b. IsFed lines (Swallowing request left []) piece (Swallowing request (left - count) b)) (sym gone)
      (subst (λ n. IsFed lines (Swallowing request left []) piece (Swallowing request (left - n) [])) (sym many) (fed_within lines request left piece within))))
      (cases_lt left (length piece)))
      (λ none.
      let zero_left : left ≡ 0 = omega (arith, none) in
      let zero_count : count ≡ 0 = omega (arith, is_count, none) in
      let over : left - count ≡ 0 = omega (arith, none) in
      let behind : new ≡ bytes ++ piece = is_new ∙ ap (λ n. drop n (bytes ++ piece)) zero_count in
      subst (λ n. IsFed lines (Swallowing request n bytes) piece (Swallowing request (left - count) new)) (sym zero_left)
      (subst (λ n. IsFed lines (Swallowing request 0 bytes) piece (Swallowing request n new)) (sym over)
      (subst (λ b. IsFed lines (Swallowing request 0 bytes) piece (Swallowing request 0 b)) (sym behind) (fed_after lines request bytes piece))))
      (cases_lt 0 left)

  pub feeds_refused : (refusal : WireNo) (quiet : Bool) (left count : ℕ) (new : List ℕ) → IsStateOf lines (state.SwallowsBlock refusal quiet left) bytes → count ≡ min left (length (bytes ++ piece)) → new ≡ drop count (bytes ++ piece)
      → Feeds lines (state.SwallowsBlock refusal quiet left) bytes piece (state.SwallowsBlock refusal quiet (left - count)) new
  feeds_refused refusal quiet left count new is is_count is_new = record {
    readings = swallowed_fed (refused refusal quiet) left count new is is_count is_new;
    stands = λ some. is_new ∙ drop_all count (bytes ++ piece) (omega (arith, is_count, some));
    ahead = omega (arith, ap length is_new, length-drop count (bytes ++ piece), length-append bytes piece);
  }

-- What is true of a reader stays true.
module _ (lines : Lines) (s : State) (bytes : List ℕ) (fed scanned : ℕ) (is : IsReader lines s bytes fed scanned) where
  -- when a piece comes
  pub reader_feeds : (piece : List ℕ) (next : State) (left : List ℕ) (more : ℕ) → fed < 2 ^ 64 → Feeds lines s bytes piece next left → more ≡ raised fed (length piece) → IsReader lines next left more scanned
  reader_feeds piece next left more fits feeds counts = record {
    stands = feeds.stands;
    within = omega (arith, is.within, fits, counts);
    ahead = ⊎_elim counted (λ full. inr (omega (arith, full, counts))) is.ahead;
  }
    where
      counted : scanned + ahead_in s bytes ≤ fed → (scanned + ahead_in next left ≤ more) ⊎ (more ≡ 2 ^ 64 - 1)
      counted ahead =
          ⊎_elim (λ few. inl (omega (arith, ahead, feeds.ahead, counts, few))) (λ many. inr (omega (arith, counts, many))) (cases_lt (fed + length piece) (2 ^ 64 - 1))

  module _ (block : Box Awaited) (awaits : s ≡ state.AwaitsBlock block) where
    stands : IsAwaited lines block.value
    stands = subst (λ t. IsStateOf lines t bytes) awaits is.stands

    ahead : (scanned + (length block.value.body.items + length bytes) ≤ fed) ⊎ (fed ≡ 2 ^ 64 - 1)
    ahead = subst (λ t. (scanned + ahead_in t bytes ≤ fed) ⊎ (fed ≡ 2 ^ 64 - 1)) awaits is.ahead

    -- when bytes are moved to those of an awaited block
    pub reader_moves : (after : Box Awaited) (left : List ℕ) → after.value.line ≡ block.value.line → after.value.header ≡ block.value.header → after.value.body.items ++ left ≡ block.value.body.items ++ bytes → length after.value.body.items ≤ after.value.header.length + 2
        → IsReader lines (state.AwaitsBlock after) left fed scanned
    reader_moves after left line header same few = record {
      stands = record {
        unbroken = subst (λ (l : ReadLine). IsUnbroken l.text) (sym line) stands.unbroken;
        short = subst (λ (l : ReadLine). length l.text ≤ LINE_BYTES) (sym line) stands.short;
        asked = subst (λ (l : ReadLine). lines l.text ≡ StoredBlock after.value.header) (sym line) (stands.asked ∙ ap (λ h. StoredBlock h) (sym header));
        small = subst (λ (h : Header). h.length ≤ DATA_BYTES) (sym header) stands.small;
        few = few;
      };
      within = is.within;
      ahead = ⊎_elim (λ ahead. inl (omega (arith, ahead, ap length same, length-append after.value.body.items left, length-append block.value.body.items bytes))) (λ full. inr full) ahead;
    }
