use Rattle.std.proofs.Common.{◌∙◌, refl, ap, subst}
use Rattle.std.proofs.lemmas.Bool.{false≢true}
use Rattle.mc_read.specs.Administering.{lines_spoken}
use Rattle.mc_read.specs.Reading.{IsFed}
use Rattle.mc_read.specs.State.{held_in}
use Rattle.mc_read.proofs.reader.Reader.feed.Goals as goal

pub returns-clause-readings : goal.returns-clause-readings
returns-clause-readings c =
    let after = held_in c.take_slice.new.state c.take_slice.new.buffer in
    let readings = c.in_ok-take_slice.ensures.readings (lines_spoken c.self.inside.speaker) c.self.invariant.stands in
    subst (λ s. IsFed (lines_spoken s) c.args.self.now.held c.args.piece.now after) (ap (λ view. view.speaker) c.self.view_is)
    (subst (λ h. IsFed (lines_spoken c.self.inside.speaker) h c.args.piece.now after) (ap (λ view. view.held) c.self.view_is) readings)

pub returns-clause-swallowed : goal.returns-clause-swallowed
returns-clause-swallowed c = λ request left is_held short.
    let held = c.in_ok-take_slice.ensures.swallowed request left (ap (λ view. view.held) c.self.view_is ∙ is_held) short in
    (refl, held.1)

pub returns-in_err-take_slice-clause-swallowed : goal.returns-in_err-take_slice-clause-swallowed
returns-in_err-take_slice-clause-swallowed c = λ request left is_held short.
    let held = c.in_err-take_slice.ensures.swallowed request left (ap (λ view. view.held) c.self.view_is ∙ is_held) short in
    absurd (false≢true held.0)
