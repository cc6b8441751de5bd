-- Worked rows of wfmc, checked against the definitions: what its words give and ask for.
use Rattle.std.specs.Prelude.{codes}
use Rattle.std.proofs.Common.{◌≡◌, ℕ, true, false, [], ◌∷◌, IsTrue, Some, None, refl, lit<}
use Rattle.std.specs.Fmt.{digits}
use Rattle.std.specs.List.{IsDistinct}
use Rattle.std.specs.Net.Grammar.{IsSocketV4Text}
use Rattle.std.specs.Str.{bytes_eq}
use Rattle.std.specs.declared.net.socket_addr.SocketAddrV4.{SocketAddrV4}
use Rattle.clap.specs.Faults.{fault_of}
use Rattle.clap.specs.declared.error.kind.ErrorKind.TheVariants as kind
use Rattle.clap.proofs.OnLiterals.{clap_on_literals}
use Rattle.mc_model.specs.Name.{is_lawful_name}
use Rattle.mc_server.specs.Complaints.{complaint_line, name_part}
use Rattle.mc_server.specs.NetworkWords.{asks_check, given_by_words, network_app, tenant_words}
use Rattle.mc_server.specs.TenantWord.{Says}
use Rattle.mc_server.specs.declared.complaint.Complaint.TheVariants.{OutOfBounds}
use Rattle.mc_server.specs.declared.complaint.Counted.TheVariants.{Tenants, Workers}

-- ---- what words give

one_tenant : given_by_words (codes "a=127.0.0.1:0,1,1" ∷ []) ≡ record { workers = 2; places = 65536; generations = 1; log_bytes = 1073741824; reserve = 0; connections = 0; admin = None; metrics = None; tenants = codes "a=127.0.0.1:0,1,1" ∷ [] }
unfolding clap_on_literals
one_tenant = refl

all_options : given_by_words (codes "--workers" ∷ codes "3" ∷ codes "a" ∷ codes "--places=4" ∷ codes "--generations" ∷ codes "0" ∷ codes "b" ∷ codes "--connections" ∷ codes "5" ∷ codes "--log-bytes=6" ∷ codes "--reserve" ∷ codes "7" ∷ [])
    ≡ record { workers = 3; places = 4; generations = 0; log_bytes = 6; reserve = 7; connections = 5; admin = None; metrics = None; tenants = codes "a" ∷ codes "b" ∷ [] }
unfolding clap_on_literals
all_options = refl

an_admin : given_by_words (codes "a" ∷ codes "--admin" ∷ codes "127.0.0.1:0" ∷ []) ≡ record { workers = 2; places = 65536; generations = 1; log_bytes = 1073741824; reserve = 0; connections = 0; admin = Some (codes "127.0.0.1:0"); metrics = None; tenants = codes "a" ∷ [] }
unfolding clap_on_literals
an_admin = refl

scraped : given_by_words (codes "--metrics=127.0.0.1:0" ∷ codes "a" ∷ []) ≡ record { workers = 2; places = 65536; generations = 1; log_bytes = 1073741824; reserve = 0; connections = 0; admin = None; metrics = Some (codes "127.0.0.1:0"); tenants = codes "a" ∷ [] }
unfolding clap_on_literals
scraped = refl

two_admins : fault_of network_app (codes "--admin=a" ∷ codes "--admin" ∷ codes "b" ∷ codes "c" ∷ []) ≡ kind.ArgumentConflict ∷ []
unfolding clap_on_literals
two_admins = refl

-- a name may begin with a dash, after two
dashes : tenant_words (codes "--" ∷ codes "-a" ∷ codes "--b" ∷ []) ≡ codes "-a" ∷ codes "--b" ∷ []
unfolding clap_on_literals
dashes = refl

taken : fault_of network_app (codes "a" ∷ codes "--places" ∷ codes "0" ∷ []) ≡ []
unfolding clap_on_literals
taken = refl

no_tenant : fault_of network_app (codes "--places" ∷ codes "4" ∷ []) ≡ kind.MissingRequiredArgument ∷ []
unfolding clap_on_literals
no_tenant = refl

no_number : fault_of network_app (codes "--workers" ∷ codes "x" ∷ codes "a" ∷ []) ≡ kind.ValueValidation ∷ []
unfolding clap_on_literals
no_number = refl

unknown : fault_of network_app (codes "--bogus" ∷ codes "a" ∷ []) ≡ kind.UnknownArgument ∷ []
unfolding clap_on_literals
unknown = refl

dashed : fault_of network_app (codes "-a" ∷ []) ≡ kind.UnknownArgument ∷ []
unfolding clap_on_literals
dashed = refl

twice : fault_of network_app (codes "--workers" ∷ codes "1" ∷ codes "--workers" ∷ codes "1" ∷ codes "a" ∷ []) ≡ kind.ArgumentConflict ∷ []
unfolding clap_on_literals
twice = refl

help : fault_of network_app (codes "--help" ∷ []) ≡ kind.DisplayHelp ∷ []
unfolding clap_on_literals
help = refl

version : fault_of network_app (codes "-V" ∷ []) ≡ kind.DisplayVersion ∷ []
unfolding clap_on_literals
version = refl

a_check : asks_check (codes "a" ∷ codes "--check" ∷ []) ≡ true
unfolding clap_on_literals
a_check = refl

no_check : asks_check (codes "a" ∷ codes "--workers" ∷ codes "3" ∷ []) ≡ false
unfolding clap_on_literals
no_check = refl

-- ---- complaints

too_many : complaint_line (OutOfBounds Workers 17) ≡ codes "wfmc: --workers 17: not from 1 to 16\n"
unfolding digits
too_many = refl

too_few : complaint_line (OutOfBounds Tenants 0) ≡ codes "wfmc: tenants 0: not from 1 to 64\n"
unfolding digits
too_few = refl

its_name : name_part (codes "shop=127.0.0.1:0,1,1=") ≡ codes "shop"
its_name = refl

-- ---- what a tenant's word says

local : ℕ → SocketAddrV4
local port = record { ip = record { octets = 127 ∷ 0 ∷ 0 ∷ 1 ∷ [] }; port = port }

a_name : IsTrue (is_lawful_name (codes "shop-2_b"))
a_name = refl

an_address : IsSocketV4Text (codes "127.0.0.1:11211") (local 11211)
unfolding local digits
an_address = (
  codes "127.0.0.1",
  codes ":11211",
  refl,
  record { a = 127; b = 0; c = 0; d = 1; fit = (lit< tt, lit< tt, lit< tt, lit< tt); value = refl; spelled = refl },
  (codes "11211", refl, ((lit< tt, (lit< tt, (lit< tt, (lit< tt, (lit< tt, (lit< tt, tt)))))), refl), lit< tt),
)

a_tenant : Says (codes "shop-2_b=127.0.0.1:11211,1000,1048576") (record { name = codes "shop-2_b"; address = local 11211; limits = record { items = 1000; bytes = 1048576 } })
unfolding local
a_tenant = record {
  address = codes "127.0.0.1:11211";
  items = codes "1000";
  bytes = codes "1048576";
  spelled = refl;
  is_name = a_name;
  is_address = an_address;
  is_items = refl;
  is_bytes = refl;
}

-- ---- names

two_names : IsDistinct bytes_eq (codes "a" ∷ codes "b" ∷ [])
unfolding IsDistinct
two_names = ((refl, tt), (tt, tt))

one_name : IsDistinct bytes_eq (codes "a" ∷ codes "b" ∷ codes "a" ∷ []) → ⊥
unfolding IsDistinct
one_name distinct = let first : true ≡ false = distinct.0.1.0 in cc
