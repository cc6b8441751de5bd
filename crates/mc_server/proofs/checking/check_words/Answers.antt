use Rattle.std.proofs.Common.{◌∙◌, inl, inr, refl, subst}
use Rattle.mc_model.specs.declared.fault.Fault.TheVariants.{Memory}
use Rattle.mc_server.specs.NetworkWords.{given_in}
use Rattle.mc_stream.specs.Pushing.{PushesOrFails}
use Rattle.mc_server.proofs.Complaints.{in_vain}
use Rattle.mc_server.proofs.Waited.{told}
use Rattle.mc_server.proofs.checking.check_words.Goals as goal

-- memory ran out
pub returns-in_default-complaint_line : goal.returns-in_default-complaint_line
returns-in_default-complaint_line g c =
    inr (inl (c.fail-in_default-complaint_line.ensures.status, record { fault = Memory; stops = inl (refl, refl); told = c.fail-in_default-complaint_line.ensures.told }))

-- a complaint was reported
pub returns : goal.returns
returns g c =
    let line = c.as_bytes.ensures.value ∙ c.in-Ok-complaint_line.ensures in
    let said = subst (λ bytes. PushesOrFails bytes (g.E.Output.tells c.args.errors.now) (g.E.Output.tells c.push_all-2.new.output)) line (told c.push_all-2.result _ _ _ c.push_all-2.ensures.outcome) in
    inr (inr (refl, record { vain = in_vain (given_in c.args.given.now) c.in-Err.complaint c.in-Err.ensures; complaint = c.in-Err.complaint; is_wrong = c.in-Err.ensures; told = said }, refl))
