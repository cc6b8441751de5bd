use Rattle.std.proofs.Common.{◌≡◌, ℕ, ◌+◌, ◌^◌, ◌<◌, Bool, List, [], ◌++◌, length, Ok, Some, None, sym, ◌∙◌, ap, refl, subst, arith, rules}
use Rattle.std.specs.Box.{with_value}
use Rattle.std.specs.Global.{Box}
use Rattle.mc_model.specs.declared.request.Request.{Request}
use Rattle.mc_model.specs.declared.item.Data.{Data}
use Rattle.mc_read.specs.declared.awaited.Awaited.{Awaited}
use Rattle.mc_read.specs.declared.reader.State.{State}
use Rattle.mc_read.specs.declared.reader.State.TheVariants as state
use Rattle.mc_read.specs.Administering.{lines_spoken}
use Rattle.mc_read.specs.Line.{refused}
use Rattle.mc_read.specs.Reading.{Held, IsNext, Kept, Swallowing}
use Rattle.mc_read.proofs.Holdings.{swallowed_is_next}
use Rattle.mc_read.specs.State.{EndsInRefusal, IsAwaited, IsFinished, IsNextAnswer, IsStateOf, held_in, most_requests, searched_in, to_search, with_line}
use Rattle.mc_read.specs.Text.{IsTooLongText, IsUnended, Lines, stored_if}
use Rattle.mc_read.proofs.States.{kept_bytes, line_of_block, step_parts, swallowed_held, swallowing_parts}
use Rattle.mc_read.proofs.Awaiting.{awaits_more, awaits_none, awaits_unrefused, none_to_search, none_to_search_after}
use Rattle.mc_read.proofs.Feeding.{reader_moves}
use Rattle.mc_read.proofs.Steps.{not_too_long, not_unended}
use Rattle.mc_read.proofs.reader.Reader.next.Goals as goal

pub returns-in_ok-request-in-AwaitsLine-clause-refused : goal.returns-in_ok-request-in-AwaitsLine-clause-refused
returns-in_ok-request-in-AwaitsLine-clause-refused c = λ bytes request left is_held ends.
    let kept : Kept c.self.inside.buffer ≡ Kept bytes = ap (λ s. held_in s c.self.inside.buffer) (sym c.in-AwaitsLine.is) ∙ (ap (λ view. view.held) c.self.view_is ∙ is_held) in
    let same : c.self.inside.buffer ≡ bytes = cc in
    c.in_ok-request-in-AwaitsLine.ensures.refused request left (subst (λ b. EndsInRefusal (lines_spoken c.self.inside.speaker) b request left) (sym same)
    (subst (λ s. EndsInRefusal (lines_spoken s) bytes request left) (sym (ap (λ view. view.speaker) c.self.view_is)) ends))

-- While a block is awaited, its line stands at the front of what is held, which asks for no refused block.
module _ (lines : Lines) (s : State) (inside : List ℕ) (block : Box Awaited) (held : Held) (is : s ≡ state.AwaitsBlock block) (stands : IsStateOf lines s inside) (same : held_in s inside ≡ held) where
  awaits : IsAwaited lines block.value
  awaits = subst (λ t. IsStateOf lines t inside) is stands

  holds : Kept (with_line block.value inside) ≡ held
  holds = ap (λ t. held_in t inside) (sym is) ∙ same

  ended : (bytes : List ℕ) → held ≡ Kept bytes → IsUnended bytes → ⊥
  ended bytes is_held unended = not_unended bytes (length block.value.line.text) (line_of_block lines s inside block bytes is stands (same ∙ is_held)) unended

  short : (text more : List ℕ) (request : Request) → held ≡ Kept (text ++ more) → IsTooLongText text request → ⊥
  short text more request is_held long = not_too_long (text ++ more) (length block.value.line.text) (line_of_block lines s inside block (text ++ more) is stands (same ∙ is_held)) text more request refl long

  unrefused : (bytes : List ℕ) (request : Request) (left : ℕ) → held ≡ Kept bytes → EndsInRefusal lines bytes request left → ⊥
  unrefused bytes request left is_held ends =
      awaits_unrefused lines block.value awaits inside request left (subst (λ b. EndsInRefusal lines b request left) (sym (kept_bytes _ _ (holds ∙ is_held))) ends)

  -- nothing more is searched
  unsearched : (searched : ℕ) → searched_in s ≡ searched → to_search held searched ≡ 0
  unsearched searched is_searched =
      let many : length block.value.line.text + 1 ≡ searched = ap searched_in (sym is) ∙ is_searched in
      (λ i. to_search (sym holds i) (sym many i)) ∙ none_to_search lines block.value awaits inside

pub invariant_of-self-in_err-taken-in-AwaitsBlock : goal.invariant_of-self-in_err-taken-in-AwaitsBlock
invariant_of-self-in_err-taken-in-AwaitsBlock c =
    let block = c.in-AwaitsBlock.awaited in
    let same = rw c.deref_mut.ensures.value at c.finish_block.ensures.same in
    reader_moves (lines_spoken c.self.inside.speaker) c.self.inside.state c.self.inside.buffer c.self.inside.fed c.self.inside.scanned c.self.invariant block c.in-AwaitsBlock.is
    (with_value block c.finish_block.new.awaited) c.finish_block.new.self same.0 same.1 (rw c.deref_mut.ensures.value at c.in_err-taken-in-AwaitsBlock.ensures.unchanged) c.finish_block.ensures.few

pub returns-in_err-taken-in-AwaitsBlock-clause-unended : goal.returns-in_err-taken-in-AwaitsBlock-clause-unended
returns-in_err-taken-in-AwaitsBlock-clause-unended c = λ bytes is_held is.
    absurd (ended (lines_spoken c.self.inside.speaker) c.self.inside.state c.self.inside.buffer c.in-AwaitsBlock.awaited c.args.self.now.held c.in-AwaitsBlock.is c.self.invariant.stands (ap (λ view. view.held) c.self.view_is) bytes is_held is)

pub returns-in_err-taken-in-AwaitsBlock-clause-too_long : goal.returns-in_err-taken-in-AwaitsBlock-clause-too_long
returns-in_err-taken-in-AwaitsBlock-clause-too_long c = λ text more request is_held is.
    absurd (short (lines_spoken c.self.inside.speaker) c.self.inside.state c.self.inside.buffer c.in-AwaitsBlock.awaited c.args.self.now.held c.in-AwaitsBlock.is c.self.invariant.stands (ap (λ view. view.held) c.self.view_is) text more request is_held is)

pub returns-in_default-clause-answer : goal.returns-in_default-clause-answer
returns-in_default-clause-answer c =
    let block = c.in-AwaitsBlock.awaited in
    let lines = lines_spoken c.self.inside.speaker in
    let inside = c.self.inside.buffer in
    let at = awaits lines c.self.inside.state inside block c.args.self.now.held c.in-AwaitsBlock.is c.self.invariant.stands (ap (λ view. view.held) c.self.view_is) in
    let held = holds lines c.self.inside.state inside block c.args.self.now.held c.in-AwaitsBlock.is c.self.invariant.stands (ap (λ view. view.held) c.self.view_is) in
    let after = Kept (with_line c.finish_block.new.awaited c.finish_block.new.self) in
    let same = rw c.deref_mut.ensures.value at c.finish_block.ensures.same in
    let answer = awaits_more lines block.value at inside c.finish_block.new.awaited c.finish_block.new.self same.0 (rw (c.deref_mut.ensures.value, c.in_default.is) at c.in_ok-taken-in-AwaitsBlock.ensures.finished) in
    subst (λ s. IsNextAnswer (lines_spoken s) c.args.self.now.held None after) (ap (λ view. view.speaker) c.self.view_is) (subst (λ h. IsNextAnswer lines h None after) held answer)

pub returns-in_default-clause-refused : goal.returns-in_default-clause-refused
returns-in_default-clause-refused c = λ bytes request left is_held ends.
    absurd (unrefused (lines_spoken c.self.inside.speaker) c.self.inside.state c.self.inside.buffer c.in-AwaitsBlock.awaited c.args.self.now.held c.in-AwaitsBlock.is c.self.invariant.stands (ap (λ view. view.held) c.self.view_is) bytes request left is_held
    (subst (λ s. EndsInRefusal (lines_spoken s) bytes request left) (sym (ap (λ view. view.speaker) c.self.view_is)) ends))

pub returns-in_default-clause-too_long : goal.returns-in_default-clause-too_long
returns-in_default-clause-too_long c = λ text more request is_held is.
    absurd (short (lines_spoken c.self.inside.speaker) c.self.inside.state c.self.inside.buffer c.in-AwaitsBlock.awaited c.args.self.now.held c.in-AwaitsBlock.is c.self.invariant.stands (ap (λ view. view.held) c.self.view_is) text more request is_held is)

pub returns-in_default-clause-once : goal.returns-in_default-clause-once
returns-in_default-clause-once c =
    let none = unsearched (lines_spoken c.self.inside.speaker) c.self.inside.state c.self.inside.buffer c.in-AwaitsBlock.awaited c.args.self.now.held c.in-AwaitsBlock.is c.self.invariant.stands (ap (λ view. view.held) c.self.view_is) c.args.self.now.searched (ap (λ view. view.searched) c.self.view_is) in
    let few : c.self.inside.scanned < 2 ^ 64 = search rules in
    omega (arith, none, few, ap (λ view. view.scanned) c.self.view_is)

pub returns-in_default-clause-all : goal.returns-in_default-clause-all
returns-in_default-clause-all c =
    let block = c.in-AwaitsBlock.awaited in
    let at = awaits (lines_spoken c.self.inside.speaker) c.self.inside.state c.self.inside.buffer block c.args.self.now.held c.in-AwaitsBlock.is c.self.invariant.stands (ap (λ view. view.held) c.self.view_is) in
    let same = rw c.deref_mut.ensures.value at c.finish_block.ensures.same in
    none_to_search_after (lines_spoken c.self.inside.speaker) block.value at c.finish_block.new.awaited same.0 c.finish_block.new.self

pub returns-in-AwaitsBlock-replace-clause-answer : goal.returns-in-AwaitsBlock-replace-clause-answer
returns-in-AwaitsBlock-replace-clause-answer c =
    let block = c.in-AwaitsBlock.awaited in
    let lines = lines_spoken c.self.inside.speaker in
    let inside = c.self.inside.buffer in
    let left = c.finish_block.new.self in
    let given : Data × Bool = (c.in-Some.block, c.in-Some.ends_well) in
    let at = awaits lines c.self.inside.state inside block c.args.self.now.held c.in-AwaitsBlock.is c.self.invariant.stands (ap (λ view. view.held) c.self.view_is) in
    let held = holds lines c.self.inside.state inside block c.args.self.now.held c.in-AwaitsBlock.is c.self.invariant.stands (ap (λ view. view.held) c.self.view_is) in
    let after : Kept left ≡ held_in c.replace.new.dest left = ap (λ s. held_in s left) (sym c.replace.ensures.after) in
    let same = rw c.deref_mut.ensures.value at c.finish_block.ensures.same in
    let same_state : state.AwaitsBlock c.in-AwaitsBlock-replace.awaited ≡ state.AwaitsBlock (with_value block c.finish_block.new.awaited) = sym c.in-AwaitsBlock-replace.is ∙ c.replace.ensures.value in
    let same_box : c.in-AwaitsBlock-replace.awaited ≡ with_value block c.finish_block.new.awaited = cc in
    let header : c.into_inner-header.result.header ≡ block.value.header = ap (λ (b : Awaited). b.header) (c.into_inner-header.ensures ∙ ap (λ (b : Box Awaited). b.value) same_box) ∙ same.1 in
    let is_request : c.stored.result ≡ stored_if c.in-Some.ends_well block.value.header c.in-Some.block = rw header at c.stored.ensures in
    let finished : IsFinished block.value.header.length (block.value.body.items ++ inside) (Some given) (c.finish_block.new.awaited.body.items ++ left) = rw (c.deref_mut.ensures.value, c.in-Some.is) at c.in_ok-taken-in-AwaitsBlock.ensures.finished in
    let none : c.finish_block.new.awaited.body.items ≡ [] = rw c.in-Some.is at c.in_ok-taken-in-AwaitsBlock.ensures.none in
    let answer = awaits_none lines block.value at inside given left (subst (λ front. IsFinished block.value.header.length (block.value.body.items ++ inside) (Some given) (front ++ left)) none finished) in
    subst (λ s. IsNextAnswer (lines_spoken s) c.args.self.now.held (Some c.stored.result) (held_in c.replace.new.dest left)) (ap (λ view. view.speaker) c.self.view_is)
    (subst (λ h. IsNextAnswer lines h (Some c.stored.result) (held_in c.replace.new.dest left)) held
    (subst (λ h. IsNextAnswer lines (Kept (with_line block.value inside)) (Some c.stored.result) h) after (rw is_request answer)))

pub returns-in-AwaitsBlock-replace-clause-refused : goal.returns-in-AwaitsBlock-replace-clause-refused
returns-in-AwaitsBlock-replace-clause-refused c = λ bytes request left is_held ends.
    absurd (unrefused (lines_spoken c.self.inside.speaker) c.self.inside.state c.self.inside.buffer c.in-AwaitsBlock.awaited c.args.self.now.held c.in-AwaitsBlock.is c.self.invariant.stands (ap (λ view. view.held) c.self.view_is) bytes request left is_held
    (subst (λ s. EndsInRefusal (lines_spoken s) bytes request left) (sym (ap (λ view. view.speaker) c.self.view_is)) ends))

pub returns-in-AwaitsBlock-replace-clause-unended : goal.returns-in-AwaitsBlock-replace-clause-unended
returns-in-AwaitsBlock-replace-clause-unended c = λ bytes is_held is.
    absurd (ended (lines_spoken c.self.inside.speaker) c.self.inside.state c.self.inside.buffer c.in-AwaitsBlock.awaited c.args.self.now.held c.in-AwaitsBlock.is c.self.invariant.stands (ap (λ view. view.held) c.self.view_is) bytes is_held is)

pub returns-in-AwaitsBlock-replace-clause-too_long : goal.returns-in-AwaitsBlock-replace-clause-too_long
returns-in-AwaitsBlock-replace-clause-too_long c = λ text more request is_held is.
    absurd (short (lines_spoken c.self.inside.speaker) c.self.inside.state c.self.inside.buffer c.in-AwaitsBlock.awaited c.args.self.now.held c.in-AwaitsBlock.is c.self.invariant.stands (ap (λ view. view.held) c.self.view_is) text more request is_held is)

pub returns-in-AwaitsBlock-replace-clause-once : goal.returns-in-AwaitsBlock-replace-clause-once
returns-in-AwaitsBlock-replace-clause-once c =
    let none = unsearched (lines_spoken c.self.inside.speaker) c.self.inside.state c.self.inside.buffer c.in-AwaitsBlock.awaited c.args.self.now.held c.in-AwaitsBlock.is c.self.invariant.stands (ap (λ view. view.held) c.self.view_is) c.args.self.now.searched (ap (λ view. view.searched) c.self.view_is) in
    let few : c.self.inside.scanned < 2 ^ 64 = search rules in
    omega (arith, none, few, ap (λ view. view.scanned) c.self.view_is)

pub returns-in_ok-request-in-AwaitsLine-clause-answer : goal.returns-in_ok-request-in-AwaitsLine-clause-answer
returns-in_ok-request-in-AwaitsLine-clause-answer c =
    let step = c.in_ok-request-in-AwaitsLine in
    let kept : Kept c.self.inside.buffer ≡ c.args.self.now.held = ap (λ s. held_in s c.self.inside.buffer) (sym c.in-AwaitsLine.is) ∙ ap (λ view. view.held) c.self.view_is in
    subst (λ s. IsNextAnswer (lines_spoken s) c.args.self.now.held step.request (held_in step.state c.next_line.new.buffer)) (ap (λ view. view.speaker) c.self.view_is)
    (subst (λ h. IsNextAnswer (lines_spoken c.self.inside.speaker) h step.request (held_in step.state c.next_line.new.buffer)) kept step.ensures.answer)

pub returns-in_ok-request-in-AwaitsLine-clause-too_long : goal.returns-in_ok-request-in-AwaitsLine-clause-too_long
returns-in_ok-request-in-AwaitsLine-clause-too_long c = λ text more request is_held is.
    let step = c.in_ok-request-in-AwaitsLine in
    let kept : Kept c.self.inside.buffer ≡ Kept (text ++ more) = ap (λ s. held_in s c.self.inside.buffer) (sym c.in-AwaitsLine.is) ∙ (ap (λ view. view.held) c.self.view_is ∙ is_held) in
    let parts = step_parts step.request (Some request) step.state state.Ended step.count _ (step.ensures.too_long text more request (kept_bytes _ _ kept) is) in
    (ap Ok parts.0, ap (λ s. held_in s c.next_line.new.buffer) parts.1)

pub returns-in-SwallowsBlock-2-clause-answer : goal.returns-in-SwallowsBlock-2-clause-answer
returns-in-SwallowsBlock-2-clause-answer c =
    let block = c.in-SwallowsBlock in
    let held = swallowed_held c.self.inside.state c.self.inside.buffer block.refusal block.quiet block.left c.args.self.now.held block.is (omega (arith, c.if-left-gt0.false)) (ap (λ view. view.held) c.self.view_is) in (
      subst (λ s. IsNext (lines_spoken s) c.args.self.now.held c.refused-request.result (Kept c.self.inside.buffer)) (ap (λ view. view.speaker) c.self.view_is)
          (subst (λ h. IsNext (lines_spoken c.self.inside.speaker) h c.refused-request.result (Kept c.self.inside.buffer)) held
          (subst (λ r. IsNext (lines_spoken c.self.inside.speaker) (Swallowing (refused block.refusal block.quiet) 0 c.self.inside.buffer) r (Kept c.self.inside.buffer)) (sym c.refused-request.ensures)
          (swallowed_is_next (lines_spoken c.self.inside.speaker) (refused block.refusal block.quiet) c.self.inside.buffer))),
      subst (λ h. length c.self.inside.buffer < most_requests h) held (omega arith),
    )

pub returns-in-SwallowsBlock-2-clause-swallowed : goal.returns-in-SwallowsBlock-2-clause-swallowed
returns-in-SwallowsBlock-2-clause-swallowed c = λ request bytes is_held.
    let block = c.in-SwallowsBlock in
    let held = swallowed_held c.self.inside.state c.self.inside.buffer block.refusal block.quiet block.left c.args.self.now.held block.is (omega (arith, c.if-left-gt0.false)) (ap (λ view. view.held) c.self.view_is) in
    let parts = swallowing_parts (refused block.refusal block.quiet) request 0 c.self.inside.buffer bytes (held ∙ is_held) in
    (ap (λ r. Ok (Some r)) (c.refused-request.ensures ∙ parts.0), ap (λ b. Kept b) parts.1)
