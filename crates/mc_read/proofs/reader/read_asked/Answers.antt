use Rattle.std.proofs.Common.{◌≡◌, ℕ, ◌+◌, ◌≤◌, List, [], Some, None, length, take, drop, sym, ◌∙◌, ap, refl, subst, add-zero, arith}
use Rattle.std.proofs.lemmas.List.{drop_all}
use Rattle.mc_read.specs.declared.line.Asked.TheVariants.{LineOnly, RefusedBlock, StoredBlock}
use Rattle.mc_read.specs.Administering.{lines_spoken}
use Rattle.mc_read.specs.Line.{refused}
use Rattle.mc_read.specs.Reading.{Kept, Swallowing}
use Rattle.mc_read.specs.State.{IsAwaited, IsNextAnswer, IsTaken, held_in, with_line}
use Rattle.mc_read.specs.Text.{Lines}
use Rattle.mc_read.specs.declared.line.Header.{Header}
use Rattle.mc_read.specs.declared.awaited.Awaited.{Awaited}
use Rattle.mc_model.specs.declared.item.TheConstants.{DATA_BYTES}
use Rattle.mc_read.proofs.Awaiting.{begun_awaits, begun_holds, none_to_search}
use Rattle.mc_read.proofs.Holdings.{held_after}
use Rattle.mc_read.proofs.Steps.{answer_awaited, answer_swallowing, answer_taken, answer_whole, held_in_state_after}
use Rattle.mc_read.proofs.reader.read_asked.Goals as goal

pub returns-in-LineOnly-clause-answer : goal.returns-in-LineOnly-clause-answer
returns-in-LineOnly-clause-answer c =
    let bytes = c.args.buffer.now in
    let line = c.args.line in
    let is_asked : lines_spoken c.args.speaker (take line bytes) ≡ LineOnly c.in-LineOnly.request = sym c.requires.asked ∙ c.in-LineOnly.is in
    let left = drop (line + 1) bytes in
    let same_left : left ≡ drop (line + 1 + 0) bytes = ap (λ n. drop n bytes) (sym (add-zero (line + 1))) in
    let answer = answer_whole (lines_spoken c.args.speaker) bytes line c.requires.line (LineOnly c.in-LineOnly.request) is_asked (omega (arith, c.requires.line.ends)) c.in-LineOnly.request left refl same_left in
    let held : held_in c.move_on-state.result c.move_on-state.new.buffer ≡ held_after c.in-LineOnly.request left =
    (λ i. held_in (c.move_on-state.ensures.state i) (c.move_on-state.ensures.bytes i)) ∙ held_in_state_after c.in-LineOnly.request left in
    subst (λ h. IsNextAnswer (lines_spoken c.args.speaker) (Kept bytes) (Some c.in-LineOnly.request) h) (sym held) answer

pub returns-then-left-gt0-clause-answer : goal.returns-then-left-gt0-clause-answer
returns-then-left-gt0-clause-answer c =
    let bytes = c.args.buffer.now in
    let asks = c.in-RefusedBlock in
    let left = c.swallow-left.result in
    let is_asked : lines_spoken c.args.speaker (take c.args.line bytes) ≡ RefusedBlock asks.length asks.refusal asks.quiet = sym c.requires.asked ∙ asks.is in
    let answer = answer_swallowing (lines_spoken c.args.speaker) bytes c.args.line c.requires.line asks.length left asks.refusal asks.quiet is_asked (omega (arith, c.swallow-left.ensures.left, c.if-left-gt0.true)) c.if-left-gt0.true in
    let nothing : c.swallow-left.new.buffer ≡ [] = c.swallow-left.ensures.bytes ∙ drop_all _ bytes (omega (arith, c.swallow-left.ensures.left, c.if-left-gt0.true)) in
    subst (λ b. IsNextAnswer (lines_spoken c.args.speaker) (Kept bytes) None (Swallowing (refused asks.refusal asks.quiet) left b)) (sym nothing) answer

pub returns-else-left-gt0-clause-answer : goal.returns-else-left-gt0-clause-answer
returns-else-left-gt0-clause-answer c =
    let bytes = c.args.buffer.now in
    let asks = c.in-RefusedBlock in
    let is_asked : lines_spoken c.args.speaker (take c.args.line bytes) ≡ RefusedBlock asks.length asks.refusal asks.quiet = sym c.requires.asked ∙ asks.is in
    let whole : c.args.line + 1 + (asks.length + 2) ≤ length bytes = omega (arith, c.swallow-left.ensures.left, c.if-left-gt0.false) in
    rw c.refused.ensures (answer_whole (lines_spoken c.args.speaker) bytes c.args.line c.requires.line (RefusedBlock asks.length asks.refusal asks.quiet) is_asked whole (refused asks.refusal asks.quiet) c.swallow-left.new.buffer refl c.swallow-left.ensures.bytes)

pub returns-in-Some-clause-answer : goal.returns-in-Some-clause-answer
returns-in-Some-clause-answer c =
    let bytes = c.args.buffer.now in
    let is_asked : lines_spoken c.args.speaker (take c.args.line bytes) ≡ StoredBlock c.in-StoredBlock.header = sym c.requires.asked ∙ c.in-StoredBlock.is in
    rw c.stored-request.ensures (answer_taken (lines_spoken c.args.speaker) bytes c.args.line c.requires.line c.in-StoredBlock.header is_asked (c.in-Some.block, c.in-Some.ends_well) c.take_block.new.self (rw c.in-Some.is at c.in_ok-block-in-StoredBlock.ensures.taken))

-- A part of the block is still to come: the line is read, and the block begun.
module _ (c : goal.In_ok-awaited-in-None) where
  abbrev lines : Lines
  lines = lines_spoken c.args.speaker

  abbrev bytes : List ℕ
  bytes = c.args.buffer.now

  abbrev block : Awaited
  block = c.in_ok-awaited-in-None.awaited.value

  -- nothing was taken
  part : IsTaken bytes c.args.line c.in-StoredBlock.header.length None c.take_block.new.self
  part = rw c.in-None.is at c.in_ok-block-in-StoredBlock.ensures.taken

  text : block.line.text ≡ take c.args.line bytes
  text = c.in_ok-awaited-in-None.ensures.line ∙ ap (λ b. take c.args.line b) part.1

  rest : block.body.items ≡ drop (c.args.line + 1) bytes
  rest = c.in_ok-awaited-in-None.ensures.body ∙ ap (λ b. drop (c.args.line + 1) b) part.1

  header : block.header ≡ c.in-StoredBlock.header
  header = c.in_ok-awaited-in-None.ensures.header

  asked : lines (take c.args.line bytes) ≡ StoredBlock c.in-StoredBlock.header
  asked = sym c.requires.asked ∙ c.in-StoredBlock.is

  holds : with_line block c.begin_block.new.self ≡ bytes
  holds = ap (λ left. with_line block left) c.in_ok-awaited-in-None.ensures.none ∙ begun_holds lines bytes c.args.line block c.requires.line text rest

  answers : IsNextAnswer lines (Kept bytes) None (Kept (with_line block c.begin_block.new.self))
  answers = answer_awaited lines bytes c.args.line c.requires.line c.in-StoredBlock.header asked (rw c.in-StoredBlock.is at c.requires.lawful) (with_line block c.begin_block.new.self) (part.0, holds)

  awaits : IsAwaited lines block
  awaits =
      begun_awaits lines bytes c.args.line block c.requires.line text rest (asked ∙ ap (λ h. StoredBlock h) (sym header)) (subst (λ (h : Header). h.length ≤ DATA_BYTES) (sym header) (rw c.in-StoredBlock.is at c.requires.lawful)) c.take_block.new.self
      (subst (λ (h : Header). IsTaken bytes c.args.line h.length None c.take_block.new.self) (sym header) part)

pub returns-in_ok-awaited-in-None-clause-answer : goal.returns-in_ok-awaited-in-None-clause-answer
returns-in_ok-awaited-in-None-clause-answer c = answers c

pub returns-in_ok-awaited-in-None-clause-state : goal.returns-in_ok-awaited-in-None-clause-state
returns-in_ok-awaited-in-None-clause-state c = awaits c

pub returns-in_ok-awaited-in-None-clause-all : goal.returns-in_ok-awaited-in-None-clause-all
returns-in_ok-awaited-in-None-clause-all c = none_to_search (lines c) (block c) (awaits c) c.begin_block.new.self
