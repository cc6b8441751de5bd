-- What a request comes to whatever the role.
use Rattle.std.proofs.Common.{◌≡◌, [], false, refl}
use Rattle.mc_conn.specs.Owed.{Says, demand_of}
use Rattle.mc_conn.specs.declared.conn.Role.{Role}
use Rattle.mc_conn.specs.declared.conn.Role.TheVariants.{Admin, Tenant}
use Rattle.mc_model.specs.declared.reply.Reply.{Reply}
use Rattle.mc_model.specs.declared.request.Request.TheVariants.{Local, Quit}
use Rattle.mc_write.specs.Text.{text}

pub local_is : (role : Role) (reply : Reply) → demand_of role (Local reply false) ≡ Says (text reply)
local_is (Tenant tenant) reply = refl
local_is (Admin names) reply = refl

pub quit_is : (role : Role) → demand_of role Quit ≡ Says []
quit_is (Tenant tenant) = refl
quit_is (Admin names) = refl
