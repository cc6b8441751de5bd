use Rattle.std.proofs.Common.{◌∙◌, inl, inr, sym, ap, subst}
use Rattle.mc_model.specs.Replay.{HaveRoom}
use Rattle.mc_model.specs.Settings.{Configuration}
use Rattle.uc_worker.specs.Worker.{tables_of}
use Rattle.mc_programs.proofs.generations.next_log.Goals as goal

pub turn_over-requires-clause-room : goal.turn_over-requires-clause-room
turn_over-requires-clause-room g c =
    let places = c.places.ensures.value ∙ ap (λ (settings : Configuration). settings.places) c.settings.ensures in
    subst (HaveRoom (tables_of c.args.worker.now)) places (c.has_room.ensures.0 c.if-not-has_room.false)

pub returns-then-not-has_room-clause-none : goal.returns-then-not-has_room-clause-none
returns-then-not-has_room-clause-none g c none =
    let places = c.places.ensures.value ∙ ap (λ (settings : Configuration). settings.places) c.settings.ensures in
    inl (λ room. let yes = c.has_room.ensures.1 (subst (HaveRoom (tables_of c.args.worker.now)) (sym places) room) in let no = c.if-not-has_room.true in cc)

pub returns-clause-none : goal.returns-clause-none
returns-clause-none g c none = inr (c.turn_over.ensures.refused none)
