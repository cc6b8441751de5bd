use Rattle.std.proofs.Common.{List, ap, append-nil, rules, subst, sym, ◌≡◌, ◌≢◌, ◌++◌, ◌∙◌}
use Rattle.mc_counters.specs.Tallied.{CountedRequest, IsTallyOf}
use Rattle.mc_model.specs.declared.fault.Fault.{Fault}
use Rattle.mc_model.specs.declared.fault.Fault.TheVariants.{Memory}
use Rattle.mc_conn.specs.Tallying.{counted_at}
use Rattle.mc_conn.proofs.Countings.{counts_no_other, latest_last}
use Rattle.mc_conn.proofs.turning.count_fault.Goals as goal

pub returns-then-eq : goal.returns-then-eq
returns-then-eq c earlier is =
    let same : c.args.fault ≡ Memory = search (rules, c.eq.ensures, c.if-eq.true) in
    subst (λ (fault : Fault). IsTallyOf (earlier ++ counted_at fault) c.count.new.self) (sym same) (latest_last _ earlier c.count.new.self (c.count.ensures earlier is))

pub returns-else-eq : goal.returns-else-eq
returns-else-eq c earlier is =
    let isnt : c.args.fault ≢ Memory = search (rules, c.eq.ensures, c.if-eq.false) in
    subst (λ (all : List CountedRequest). IsTallyOf all c.args.tally.now) (sym (append-nil earlier) ∙ ap (λ (all : List CountedRequest). earlier ++ all) (sym (counts_no_other c.args.fault isnt))) is
