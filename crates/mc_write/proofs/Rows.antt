-- Worked rows, tried on the definition: what memcached's users read.
use Rattle.std.specs.Prelude.{codes}
use Rattle.std.proofs.Common.{◌≡◌, [], refl}
use Rattle.mc_model.specs.declared.reply.Reply.TheVariants.{Values, Version, Refused}
use Rattle.mc_model.specs.declared.reply.TheConstants.WireNo.{NOT_A_NUMBER, UNKNOWN_COMMAND}
use Rattle.mc_write.specs.Text.{text}

no_item : text (Values []) ≡ codes "END\r\n"
no_item = refl

version : text Version ≡ codes "VERSION 1.0.0\r\n"
version = refl

not_numeric : text (Refused NOT_A_NUMBER) ≡ codes "CLIENT_ERROR cannot increment or decrement non-numeric value\r\n"
not_numeric = refl

no_command : text (Refused UNKNOWN_COMMAND) ≡ codes "ERROR\r\n"
no_command = refl
