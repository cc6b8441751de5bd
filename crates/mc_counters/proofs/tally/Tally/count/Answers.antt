use Rattle.std.proofs.Common.{◌∙◌, ◌+◌, ℕ, ap, min}
use Rattle.mc_counters.proofs.Tallies.{tally-more}
use Rattle.mc_counters.proofs.tally.Tally.count.Goals as goal

pub returns : goal.returns
returns c = λ past is.
    tally-more past c.args.asked.now c.args.reply.now c.args.self.now c.count_command.new.self c.count_refusal.new.self c.saturating_add-self.result c.saturating_add-self-2.result
    c.count_command.ensures.counts c.count_command.ensures.long c.count_refusal.ensures.counts c.count_refusal.ensures.long
    (c.saturating_add-self.ensures ∙ ap (λ (number : ℕ). min (c.count_refusal.new.self.hits + number) 18446744073709551615) c.found_in.ensures)
    (c.saturating_add-self-2.ensures ∙ ap (λ (number : ℕ). min (c.count_refusal.new.self.misses + number) 18446744073709551615) c.missed_in.ensures) is
