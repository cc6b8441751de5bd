use Rattle.std.proofs.Common.{inl, inr, refl}
use Rattle.mc_model.specs.declared.fault.Fault.TheVariants.{Memory}
use Rattle.mc_programs.proofs.words.answer_kind.Goals as goal

pub returns-then-eq : goal.returns-then-eq
returns-then-eq g c = inr (inl (c.fail.ensures.status, record { fault = Memory; stops = inl (refl, refl); told = c.fail.ensures.told }))

pub returns-in_default : goal.returns-in_default
returns-in_default g c =
    inr (inl (c.fail-in_default.ensures.status, record { fault = Memory; stops = inl (refl, refl); told = c.fail-in_default.ensures.told }))
