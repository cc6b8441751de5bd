use Rattle.std.proofs.Common.{◌∙◌, refl, ap, subst}
use Rattle.std.proofs.lemmas.Bool.{false≢true}
use Rattle.mc_read.specs.Administering.{lines_spoken}
use Rattle.mc_read.specs.Reading.{IsFed}
use Rattle.mc_read.specs.State.{held_in}
use Rattle.mc_read.proofs.reader.Reader.feed_bytes.Goals as goal

pub returns-clause-readings : goal.returns-clause-readings
returns-clause-readings c =
    let after = held_in c.take_piece.new.state c.take_piece.new.buffer in
    let readings = c.in_ok-take_piece.ensures.readings (lines_spoken c.self.inside.speaker) c.self.invariant.stands in
    subst (λ s. IsFed (lines_spoken s) c.args.self.now.held c.args.piece after) (ap (λ view. view.speaker) c.self.view_is)
    (subst (λ h. IsFed (lines_spoken c.self.inside.speaker) h c.args.piece after) (ap (λ view. view.held) c.self.view_is) readings)

pub returns-clause-swallowed : goal.returns-clause-swallowed
returns-clause-swallowed c = λ request left is_held short.
    let held = c.in_ok-take_piece.ensures.swallowed request left (ap (λ view. view.held) c.self.view_is ∙ is_held) short in
    (refl, held.1)

pub returns-in_err-take_piece-clause-swallowed : goal.returns-in_err-take_piece-clause-swallowed
returns-in_err-take_piece-clause-swallowed c = λ request left is_held short.
    let held = c.in_err-take_piece.ensures.swallowed request left (ap (λ view. view.held) c.self.view_is ∙ is_held) short in
    absurd (false≢true held.0)
