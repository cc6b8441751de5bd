use Rattle.std.proofs.Common.{◌≡◌, false, ℕ, List, [], Bor, get_or, sym, rules}
use Rattle.mc_model.specs.Key.{is_lawful_key}
use Rattle.mc_schedules.proofs.Keys.{unlawful_at}
use Rattle.mc_schedules.proofs.command.read_keys.Goals as goal

pub returns-then-not-branch-clause-lawful : goal.returns-then-not-branch-clause-lawful
returns-then-not-branch-clause-lawful c =
    let nothing : Bor (List ℕ) = record { ref_ptr = (0, 0); now = [] } in
    let word = get_or c.args.words.now c.loop-word.word-index nothing in
    let unlawful : is_lawful_key word.now ≡ false = search rules in
    sym (unlawful_at c.args.words.now c.loop-word.word-index nothing c.loop-word-test.true unlawful)
