use Rattle.std.proofs.Common.{◌≡◌, rules, append_assoc, ◌∙◌}
use Rattle.mc_schedules.specs.Report.{worker_line}
use Rattle.mc_schedules.proofs.report.append_progress.Goals as goal

pub returns : goal.returns
returns c =
    let phase = c.phase_text.ensures in
    let line : c.as_bytes.result.now ≡ worker_line c.args.number c.args.progress.now =
    c.as_bytes.ensures.value ∙ (c.in_ok-line.ensures.ok ∙ simp (phase, append_assoc)) in
    record { text = search rules }
