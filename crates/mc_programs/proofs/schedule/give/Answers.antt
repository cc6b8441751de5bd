use Rattle.std.proofs.Common.{◌≡◌, inr}
use Rattle.mc_model.specs.declared.fault.Fault.TheVariants.{Output}
use Rattle.mc_programs.proofs.schedule.give.Goals as goal

-- the output failed
pub returns-in-Err : goal.returns-in-Err
returns-in-Err g c =
    let failed : c.in-Err.fault ≡ Output = c.in-Err.ensures.outcome.is_output in
    let fails = rw (c.deref.ensures.value, failed) at c.in-Err.ensures.outcome in
    let told = rw failed at c.fail.ensures.told in
    rw c.in-Report.is (inr (c.fail.ensures.status, fails, told))
