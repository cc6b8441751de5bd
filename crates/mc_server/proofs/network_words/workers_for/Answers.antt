use Rattle.std.proofs.Common.{◌∙◌, Bool, ℕ, if◌then◌else◌, ap, min, sym}
use Rattle.std.proofs.lemmas.Bool.{eq-eqb, ne_eqb}
use Rattle.mc_server.proofs.network_words.workers_for.Goals as goal

pub returns-then-words-eq1 : goal.returns-then-words-eq1
returns-then-words-eq1 c =
    let serve : Bool → ℕ = λ one. if one then c.args.words.now.workers else (min c.args.words.now.workers c.args.words.now.places) in
    sym (ap serve (eq-eqb c.args.words.now.generations 1 c.if-words-eq1.true))

pub returns-else-words-eq1 : goal.returns-else-words-eq1
returns-else-words-eq1 c =
    let serve : Bool → ℕ = λ one. if one then c.args.words.now.workers else (min c.args.words.now.workers c.args.words.now.places) in
    c.min.ensures ∙ sym (ap serve (ne_eqb c.args.words.now.generations 1 c.if-words-eq1.false))
