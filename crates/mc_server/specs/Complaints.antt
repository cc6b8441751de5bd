-- Why what is given on wfmc's command line can't be served, and by which of its words; this
-- project's profile.
use Rattle.std.specs.List.{before_first}
use Rattle.std.specs.Net.Grammar.{IsSocketV4Text}
use Rattle.std.specs.Option.{IsSomeAnd}
use Rattle.std.specs.Prelude.{◌≡◌, ◌==◌, ◌<◌, ◌++◌, ℕ, List, Contains, IsTrue, Option, Some, codes, decimal, length, map, slice_get}
use Rattle.std.specs.declared.net.socket_addr.SocketAddrV4.{SocketAddrV4}
use Rattle.clap.specs.Walk.{Text}
use Rattle.mc_model.specs.Name.{is_lawful_name}
use Rattle.mc_model.specs.Settings.{AreLawfulLimits, IsBetween}
use Rattle.mc_model.specs.declared.id.TheConstants.{TENANTS, WORKERS}
use Rattle.mc_model.specs.declared.settings.TheConstants.{MAX_BYTES, MAX_ITEMS, MAX_PLACES}
use Rattle.mc_programs.specs.Words.{u64_of}
use Rattle.mc_server.specs.NetworkWords.{AreReservesWithin, Asks, IsNoAddress, IsServable, NetworkAsked, NetworkGiven, reserved_names}
use Rattle.mc_server.specs.TenantWord.{Lacks, Says, TenantAsked, tenant_text}
use Rattle.mc_server.specs.declared.complaint.AddressOption.{AddressOption}
use Rattle.mc_server.specs.declared.complaint.AddressOption.TheVariants.{Admin, Metrics}
use Rattle.mc_server.specs.declared.complaint.Complaint.{Complaint}
use Rattle.mc_server.specs.declared.complaint.Complaint.TheVariants.{LargeReserve, NameTaken, NoAddress, OutOfBounds, WrongPart}
use Rattle.mc_server.specs.declared.complaint.Counted.{Counted}
use Rattle.mc_server.specs.declared.complaint.Counted.TheVariants.{Generations, LogBytes, Places, Tenants, Workers}
use Rattle.mc_server.specs.declared.complaint.Part.{Part}
use Rattle.mc_server.specs.declared.complaint.Part.TheVariants.{Address, Bytes, Form, Items, Name}
use Rattle.mc_programs.specs.declared.options.TheConstants.{MAX_GENERATIONS}
use Rattle.mc_server.specs.declared.network_words.TheConstants.{MAX_LOG_BYTES}

-- how many are given
abbrev pub given_number : NetworkGiven → Counted → ℕ
given_number given Workers = given.workers
given_number given Places = given.places
given_number given Generations = given.generations
given_number given LogBytes = given.log_bytes
given_number given Tenants = length given.tenants

-- what is written for the address of an option
abbrev pub given_address : NetworkGiven → AddressOption → Option Text
given_address given Admin = given.admin
given_address given Metrics = given.metrics

-- the least and the greatest number that there may be
abbrev pub least : Counted → ℕ
least Workers = 1
least Places = 1
least Generations = 0
least LogBytes = 1
least Tenants = 1

abbrev pub most : Counted → ℕ
most Workers = WORKERS
most Places = MAX_PLACES
most Generations = MAX_GENERATIONS
most LogBytes = MAX_LOG_BYTES
most Tenants = TENANTS

-- the parts of a tenant's word
pub record TenantParts : Type 0 where
  pub name : Text
  pub address : Text
  pub items : Text
  pub bytes : Text

-- the word is cut into these parts at its first `=` and at the first two commas after it
pub record IsCutInto (word : Text) (parts : TenantParts) : Type 0 where
  pub spelled : word ≡ tenant_text parts.name parts.address parts.items parts.bytes
  pub name : Lacks 61 parts.name
  pub address : Lacks 44 parts.address
  pub items : Lacks 44 parts.items

-- the text spells a number from 1 to the limit
abbrev pub SpellsQuota : ℕ → Text → Type 0
SpellsQuota limit text = IsSomeAnd (u64_of text) (IsBetween 1 limit)

-- this part of a tenant's word is wrong: the word can't be cut, or it can, and the part says
-- nothing that may be said there
abbrev pub IsWrongPart : Text → Part → Type 0
IsWrongPart word Form = (parts : TenantParts) → ¬ (IsCutInto word parts)
IsWrongPart word Name = (parts : TenantParts) × IsCutInto word parts
    × ¬ (IsTrue (is_lawful_name parts.name))
IsWrongPart word Address = (parts : TenantParts) × IsCutInto word parts
    × ((address : SocketAddrV4) → ¬ (IsSocketV4Text parts.address address))
IsWrongPart word Items = (parts : TenantParts) × IsCutInto word parts
    × ¬ (SpellsQuota MAX_ITEMS parts.items)
IsWrongPart word Bytes = (parts : TenantParts) × IsCutInto word parts
    × ¬ (SpellsQuota MAX_BYTES parts.bytes)

-- the word says a tenant whose quotas are within their bounds
abbrev pub FitsAlone : Text → Type 0
FitsAlone word = (tenant : TenantAsked) × Says word tenant × AreLawfulLimits tenant.limits

-- the part of a tenant's word that is its name: what stands before the first `=`
abbrev pub name_part : Text → Text
name_part word = before_first (λ byte. byte == 61) word

-- the names that no two listeners may have: those of administrators' and of metrics', if there are
-- to be such, and the tenants'
abbrev pub names_given : NetworkGiven → List Text
names_given given = reserved_names given.admin given.metrics ++ map name_part given.tenants

-- the name stands at two places of the list
abbrev pub StandsTwice : List Text → Text → Type 0
StandsTwice names name =
    (first second : ℕ) × (first < second)
    × (slice_get names first ≡ Some name) × (slice_get names second ≡ Some name)

-- the complaint is about what is given, and right
abbrev pub IsWrong : NetworkGiven → Complaint → Type 0
IsWrong given (OutOfBounds counted number) = (given_number given counted ≡ number)
    × ¬ (IsBetween (least counted) (most counted) number)
IsWrong given (LargeReserve reserve tenants) = (given.reserve ≡ reserve)
    × (length given.tenants ≡ tenants) × ¬ (AreReservesWithin reserve tenants)
IsWrong given (NoAddress option word) = (given_address given option ≡ Some word.now)
    × IsNoAddress (given_address given option)
IsWrong given (WrongPart word part) = Contains given.tenants word.now
    × IsWrongPart word.now part
IsWrong given (NameTaken name) = StandsTwice (names_given given) name.now

-- what is given asks for something that can be served
abbrev pub CanBeServed : NetworkGiven → Type 0
CanBeServed given = (asked : NetworkAsked) × Asks given asked × IsServable asked

-- how a number is named on the command line
abbrev pub counted_text : Counted → Text
counted_text Workers = codes "--workers"
counted_text Places = codes "--places"
counted_text Generations = codes "--generations"
counted_text LogBytes = codes "--log-bytes"
counted_text Tenants = codes "tenants"

-- how an address is named there
abbrev pub address_text : AddressOption → Text
address_text Admin = codes "--admin"
address_text Metrics = codes "--metrics"

-- what a part of a tenant's word isn't
abbrev pub part_text : Part → Text
part_text Form = codes "not NAME=ADDR,ITEMS,BYTES"
part_text Name = codes "NAME is not 1 to 32 of a to z, 0 to 9, - and _"
part_text Address = codes "ADDR is not an IPv4 address and a port"
part_text Items = codes "ITEMS is not from 1 to 1048576"
part_text Bytes = codes "BYTES is not from 1 to 1073741824"

-- the line that reports a complaint
abbrev pub complaint_line : Complaint → List ℕ
complaint_line (OutOfBounds counted number) =
    codes "wfmc: " ++ (counted_text counted ++ (codes " " ++ (decimal number
    ++ (codes ": not from " ++ (decimal (least counted) ++ (codes " to "
    ++ (decimal (most counted) ++ codes "\n")))))))
complaint_line (LargeReserve reserve tenants) =
    codes "wfmc: --reserve " ++ (decimal reserve ++ (codes ": " ++ (decimal tenants
    ++ codes " times that is not from 0 to 1024\n")))
complaint_line (NoAddress option word) =
    codes "wfmc: " ++ (address_text option ++ (codes " " ++ (word.now ++ (codes ": "
    ++ (part_text Address ++ codes "\n")))))
complaint_line (WrongPart word part) =
    codes "wfmc: " ++ (word.now ++ (codes ": " ++ (part_text part ++ codes "\n")))
complaint_line (NameTaken name) =
    codes "wfmc: two listeners are named " ++ (name.now ++ codes "\n")

-- the line that says that what is given can be served
abbrev pub passed_line : List ℕ
passed_line = codes "wfmc: the settings can be served\n"
