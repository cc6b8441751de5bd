use Rattle.std.proofs.Common.{inl, inr, ◌≡◌, ◌-◌, ◌<◌, [], length, sym, ap, subst}
use Rattle.mc_read.specs.Line.{refused}
use Rattle.mc_read.specs.Reading.{IsFed, Swallowing}
use Rattle.mc_read.specs.State.{IsStateOf, held_in}
use Rattle.mc_read.proofs.States.{fed_awaited_all, fed_refused, state_more}
use Rattle.mc_read.proofs.reader.take_piece.Goals as goal

pub returns-then-count-left-clause-readings : goal.returns-then-count-left-clause-readings
returns-then-count-left-clause-readings c = λ lines is.
    let bytes = c.args.buffer.now in
    let request = refused c.in-SwallowsBlock.refusal c.in-SwallowsBlock.quiet in
    let empty : 0 < c.in-SwallowsBlock.left → bytes ≡ [] = subst (λ s. IsStateOf lines s bytes) c.in-SwallowsBlock.is is in
    let held : Swallowing request c.in-SwallowsBlock.left bytes ≡ held_in c.args.state.now bytes = ap (λ s. held_in s bytes) (sym c.in-SwallowsBlock.is) in
    let count : c.len-count.result ≡ length c.args.piece = c.len-count.ensures.value in
    subst (λ n. IsFed lines (held_in c.args.state.now bytes) c.args.piece (Swallowing request (c.in-SwallowsBlock.left - n) bytes)) (sym count)
    (subst (λ h. IsFed lines h c.args.piece (Swallowing request (c.in-SwallowsBlock.left - length c.args.piece) bytes)) held
    (fed_refused lines request c.in-SwallowsBlock.left bytes c.args.piece empty (rw count at c.if-count-left.true)))

pub returns-in-AwaitsLine-clause-state : goal.returns-in-AwaitsLine-clause-state
returns-in-AwaitsLine-clause-state c = λ lines is.
    state_more lines c.args.state.now c.args.buffer.now c.args.piece _ c.append.result (inl (_, c.in-AwaitsLine.is)) is c.append.ensures.bytes c.append.ensures.unchanged

pub returns-in-AwaitsBlock-clause-state : goal.returns-in-AwaitsBlock-clause-state
returns-in-AwaitsBlock-clause-state c = λ lines is.
    state_more lines c.args.state.now c.args.buffer.now c.args.piece _ c.append-in-AwaitsBlock.result (inr (_, c.in-AwaitsBlock.is)) is c.append-in-AwaitsBlock.ensures.bytes c.append-in-AwaitsBlock.ensures.unchanged

pub returns-in-AwaitsBlock-clause-readings : goal.returns-in-AwaitsBlock-clause-readings
returns-in-AwaitsBlock-clause-readings c =
    let block = c.in-AwaitsBlock in
    fed_awaited_all c.args.state.now block.field-0 c.args.buffer.now c.args.piece c.append-in-AwaitsBlock.new.self c.append-in-AwaitsBlock.result block.is c.append-in-AwaitsBlock.ensures.bytes
