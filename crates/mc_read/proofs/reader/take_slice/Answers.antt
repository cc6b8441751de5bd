use Rattle.std.proofs.Common.{inl, inr, ◌≡◌, ◌-◌, ◌<◌, [], length, sym, ap, subst}
use Rattle.mc_read.specs.Line.{refused}
use Rattle.mc_read.specs.Reading.{IsFed, Swallowing}
use Rattle.mc_read.specs.State.{IsStateOf, held_in}
use Rattle.mc_read.proofs.States.{fed_refused, state_more}
use Rattle.mc_read.proofs.reader.take_slice.Goals as goal

pub returns-then-length-left-clause-readings : goal.returns-then-length-left-clause-readings
returns-then-length-left-clause-readings c = λ lines is.
    let bytes = c.args.buffer.now in
    let request = refused c.in-SwallowsBlock.refusal c.in-SwallowsBlock.quiet in
    let empty : 0 < c.in-SwallowsBlock.left → bytes ≡ [] = subst (λ s. IsStateOf lines s bytes) c.in-SwallowsBlock.is is in
    let held : Swallowing request c.in-SwallowsBlock.left bytes ≡ held_in c.args.state.now bytes = ap (λ s. held_in s bytes) (sym c.in-SwallowsBlock.is) in
    subst (λ h. IsFed lines h c.args.piece.now (Swallowing request (c.in-SwallowsBlock.left - length c.args.piece.now) bytes)) held
    (fed_refused lines request c.in-SwallowsBlock.left bytes c.args.piece.now empty c.if-length-left.true)

pub returns-in-AwaitsLine-clause-state : goal.returns-in-AwaitsLine-clause-state
returns-in-AwaitsLine-clause-state c = λ lines is.
    state_more lines c.args.state.now c.args.buffer.now c.args.piece.now _ c.extend.result (inl (_, c.in-AwaitsLine.is)) is c.extend.ensures.bytes c.extend.ensures.unchanged

pub returns-in-AwaitsBlock-clause-state : goal.returns-in-AwaitsBlock-clause-state
returns-in-AwaitsBlock-clause-state c = λ lines is.
    state_more lines c.args.state.now c.args.buffer.now c.args.piece.now _ c.extend-in-AwaitsBlock.result (inr (_, c.in-AwaitsBlock.is)) is c.extend-in-AwaitsBlock.ensures.bytes c.extend-in-AwaitsBlock.ensures.unchanged
