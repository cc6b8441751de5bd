use Rattle.std.proofs.Common.{sym, arith}
use Rattle.std.proofs.lemmas.List.{take_all}
use Rattle.mc_model.specs.declared.id.TheConstants.{TENANTS}
use Rattle.mc_model.proofs.name.of_tenants.Goals as goal

pub returns-then-names-most-clause-names : goal.returns-then-names-most-clause-names
returns-then-names-most-clause-names c = sym (take_all TENANTS c.args.names.now (omega (arith, c.if-names-most.true, c.from-most.ensures)))
