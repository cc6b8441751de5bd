use Rattle.std.proofs.Common.{◌≡◌, ◌+◌, List, ℕ, length, ap, rules, sym, ◌∙◌}
use Rattle.mc_tables.proofs.Totals.{weight_none, weight_some}
use Rattle.mc_tables.proofs.weights.weight_found.Goals as goal

pub returns-in-Some : goal.returns-in-Some
returns-in-Some c table is =
    let len_is : c.from.result ≡ c.in-Some.old.len = search rules in
    ap (λ n. length c.as_bytes.result.now + n) len_is
    ∙ ap (λ (key : List ℕ). length key + c.in-Some.old.len) c.as_bytes.ensures.value
    ∙ weight_some table c.args.key.now c.in-Some.old (sym c.in-Some.is ∙ is)

pub returns-in-None : goal.returns-in-None
returns-in-None c table is = weight_none table c.args.key.now (sym c.in-None.is ∙ is)
