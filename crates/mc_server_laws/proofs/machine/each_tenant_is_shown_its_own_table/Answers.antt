use Rattle.std.proofs.Common.{ap, slice_get}
use Rattle.std.specs.Option.{option_and_then}
use Rattle.uc_core.specs.Core.{ReplayState}
use Rattle.mc_server_laws.proofs.machine.each_tenant_is_shown_its_own_table.Goals as goal

pub returns : goal.returns
returns c = λ core number tenant replay is. ap (option_and_then (λ (it : ReplayState). slice_get it.tables tenant)) is
