-- Each kind has a place.
use Rattle.std.proofs.Common.{◌<◌, arith}
use Rattle.mc_model.specs.declared.reply.WireNo.{WireNo}
use Rattle.mc_model.specs.declared.reply.WireNo.TheVariants.{E1, E2, E3, E4, E5, E6, E7, E8, E9, E10, E11}
use Rattle.mc_counters.specs.Kinds.{place_of_kind, place_of_refusal}
use Rattle.mc_counters.specs.declared.kinds.CommandKind.{CommandKind}
use Rattle.mc_counters.specs.declared.kinds.CommandKind.TheVariants.{Get, Gets, Set, Add, Replace, Append, Prepend, Cas, Delete, Incr, Decr, Flush, Limit}
use Rattle.mc_counters.specs.declared.kinds.TheConstants.{COMMANDS, REFUSALS}

pub kinds_have_places : (kind : CommandKind) → place_of_kind kind < COMMANDS
kinds_have_places Get = omega arith
kinds_have_places Gets = omega arith
kinds_have_places Set = omega arith
kinds_have_places Add = omega arith
kinds_have_places Replace = omega arith
kinds_have_places Append = omega arith
kinds_have_places Prepend = omega arith
kinds_have_places Cas = omega arith
kinds_have_places Delete = omega arith
kinds_have_places Incr = omega arith
kinds_have_places Decr = omega arith
kinds_have_places Flush = omega arith
kinds_have_places Limit = omega arith

pub refusals_have_places : (refusal : WireNo) → place_of_refusal refusal < REFUSALS
refusals_have_places E1 = omega arith
refusals_have_places E2 = omega arith
refusals_have_places E3 = omega arith
refusals_have_places E4 = omega arith
refusals_have_places E5 = omega arith
refusals_have_places E6 = omega arith
refusals_have_places E7 = omega arith
refusals_have_places E8 = omega arith
refusals_have_places E9 = omega arith
refusals_have_places E10 = omega arith
refusals_have_places E11 = omega arith
