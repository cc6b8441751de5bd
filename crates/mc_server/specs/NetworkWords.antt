-- What the words after the program's name ask for on wfmc's command line, by clap's own definitions
-- of a command; this project's profile.
use Rattle.std.specs.List.{AllZip, IsDistinct}
use Rattle.std.specs.Prelude.{◌≡◌, ◌≢◌, ◌==◌, ◌*◌, ◌≤◌, ℕ, Bool, List, [], ◌∷◌, ◌++◌, All, IsTrue, Option, Some, None, codes, false, if◌then◌else◌, length, map, min, option_and_then, slice_get, true, unwrap_or}
use Rattle.std.specs.Net.Grammar.{IsSocketV4Text}
use Rattle.std.specs.Option.{IsSomeAnd, option_map}
use Rattle.std.specs.Str.{bytes_eq}
use Rattle.std.specs.declared.net.socket_addr.SocketAddrV4.{SocketAddrV4}
use Rattle.clap.specs.Faults.{fault_of}
use Rattle.clap.specs.Lexer.{usize_max}
use Rattle.clap.specs.Simple.{App, matches_of, new_rule, with_rule}
use Rattle.clap.specs.Walk.{Rule, Text, all_of}
use Rattle.mc_connections.specs.declared.places.TheConstants.{MOST_CONNECTIONS}
use Rattle.mc_model.specs.Name.{is_lawful_name}
use Rattle.mc_model.specs.Settings.{Configuration, IsBetween, IsLawful}
use Rattle.mc_model.specs.declared.id.TheConstants.{WORKERS}
use Rattle.mc_server.specs.TenantWord.{Says, TenantAsked, asked_of}
use Rattle.mc_programs.specs.Words.{bare_app, flag_asked, flag_rule, number_asked, number_rule}
use Rattle.mc_server.specs.declared.network_words.NetworkWords.{NetworkWords}
use Rattle.mc_server.specs.declared.network_words.Service.{Service}
use Rattle.mc_programs.specs.declared.options.TheConstants.{MAX_GENERATIONS}
use Rattle.mc_server.specs.declared.network_words.TheConstants.{MAX_LOG_BYTES}
use Rattle.mc_server.specs.declared.tenant_word.Tenant.{Tenant}

-- the positional words, one for each tenant, of which there has to be at least one
abbrev pub tenants_rule : Rule
tenants_rule = record (new_rule (codes "tenants")) {
  value_names = 1;
  range = Some (record { start_inclusive = 1; end_inclusive = usize_max });
  required = true;
}

-- the option `--admin ADDR`, the address at which administrators connect
abbrev pub admin_rule : Rule
admin_rule =
    record (new_rule (codes "admin")) { long = Some (codes "admin"); value_names = 1 }

-- the option `--metrics ADDR`, the address at which metrics are scraped
abbrev pub metrics_rule : Rule
metrics_rule =
    record (new_rule (codes "metrics")) { long = Some (codes "metrics"); value_names = 1 }

-- the options that say how many workers, places and logs there are: `--workers`, `--places` and
-- `--generations`
abbrev pub logs_app : App
logs_app =
    with_rule
    (with_rule (with_rule (bare_app (codes "wfmc")) (number_rule (codes "workers")))
    (number_rule (codes "places")))
    (number_rule (codes "generations"))

-- the options that are numbers: these, `--log-bytes`, `--reserve` and `--connections`
abbrev pub numbers_app : App
numbers_app =
    with_rule
    (with_rule (with_rule logs_app (number_rule (codes "log-bytes")))
    (number_rule (codes "reserve")))
    (number_rule (codes "connections"))

-- the options: these, `--check`, `--admin` and `--metrics`
abbrev pub options_app : App
options_app =
    with_rule (with_rule (with_rule numbers_app (flag_rule (codes "check"))) admin_rule)
    metrics_rule

-- the command: the options and the tenants' words
abbrev pub network_app : App
network_app = with_rule options_app tenants_rule

-- the tenants' words, in their order
abbrev pub tenant_words : List Text → List Text
tenant_words words = unwrap_or (all_of (codes "tenants") (matches_of network_app words)) []

-- what is written for the address of an option, if anything is
abbrev pub address_word : Text → List Text → Option Text
address_word option words =
    option_and_then (λ texts. slice_get texts 0) (all_of option (matches_of network_app words))

-- what the words give: numbers, or their defaults, what is written for the administrators' address
-- and for that of metrics, and the tenants' words
pub record NetworkGiven : Type 0 where
  pub workers : ℕ
  pub places : ℕ
  pub generations : ℕ
  pub log_bytes : ℕ
  pub reserve : ℕ
  pub connections : ℕ
  pub admin : Option Text
  pub metrics : Option Text
  pub tenants : List Text

abbrev pub given_by_words : List Text → NetworkGiven
given_by_words words = record {
  workers = number_asked network_app (codes "workers") 2 words;
  places = number_asked network_app (codes "places") 65536 words;
  generations = number_asked network_app (codes "generations") 1 words;
  log_bytes = number_asked network_app (codes "log-bytes") 1073741824 words;
  reserve = number_asked network_app (codes "reserve") 0 words;
  connections = number_asked network_app (codes "connections") 0 words;
  admin = address_word (codes "admin") words;
  metrics = address_word (codes "metrics") words;
  tenants = tenant_words words;
}

-- how many workers serve: as many as are asked for, but where a log may follow another no more than
-- a log has places, so that each of them can take a command of each log
abbrev pub workers_for : NetworkGiven → ℕ
workers_for given =
    if given.generations == 1 then given.workers else (min given.workers given.places)

-- what is to be served: how many workers there are, how many places a log has, how many logs there
-- are at most, one after another (0: no end), how many bytes the commands of a log may keep where
-- another may follow, how many places for connections each worker keeps for each tenant, after how
-- many connections of tenants it ends (0: never), at which address administrators connect and at
-- which one metrics are scraped, if at any, and the tenants by their numbers
pub record NetworkAsked : Type 0 where
  pub workers : ℕ
  pub places : ℕ
  pub generations : ℕ
  pub log_bytes : ℕ
  pub reserve : ℕ
  pub connections : ℕ
  pub admin : Option SocketAddrV4
  pub metrics : Option SocketAddrV4
  pub tenants : List TenantAsked

-- what is written spells this address, as std's `SocketAddrV4` is written; or nothing is, and there
-- is none
abbrev pub SpellsAddress : Option Text → Option SocketAddrV4 → Type 0
SpellsAddress None address = address ≡ None
SpellsAddress (Some text) address = IsSomeAnd address (IsSocketV4Text text)

-- What is written spells this address, if any, and no other.
pub record IsOnlyAddress (text : Option Text) (address : Option SocketAddrV4) : Type 0 where
  pub spells : SpellsAddress text address
  pub only : (other : Option SocketAddrV4) → SpellsAddress text other → other ≡ address

-- something is written that spells no address
abbrev pub IsNoAddress : Option Text → Type 0
IsNoAddress text = (address : Option SocketAddrV4) → ¬ (SpellsAddress text address)

-- What is given asks for this; no more workers are given than there may be, each tenant's word is
-- of the form, and the addresses of administrators and of metrics are such.
pub record Asks (given : NetworkGiven) (asked : NetworkAsked) : Type 0 where
  pub few : given.workers ≤ WORKERS
  pub workers : asked.workers ≡ workers_for given
  pub places : asked.places ≡ given.places
  pub generations : asked.generations ≡ given.generations
  pub log_bytes : asked.log_bytes ≡ given.log_bytes
  pub reserve : asked.reserve ≡ given.reserve
  pub connections : asked.connections ≡ given.connections
  pub admin : SpellsAddress given.admin asked.admin
  pub metrics : SpellsAddress given.metrics asked.metrics
  pub tenants : AllZip Says given.tenants asked.tenants

-- the settings that are asked for: each tenant's quotas, by the tenants' numbers
abbrev pub settings_asked : NetworkAsked → Configuration
settings_asked asked = record {
  workers = asked.workers;
  places = asked.places;
  tenants = map (λ tenant. tenant.limits) asked.tenants;
}

-- the names of the listeners for administrators and for metrics, which no tenant has then
abbrev pub admin_name : Text
admin_name = codes "admin"

abbrev pub metrics_name : Text
metrics_name = codes "metrics"

-- the name, if there is what it names
abbrev pub name_if : {A : Type 0} → Text → Option A → List Text
name_if name None = []
name_if name (Some x) = name ∷ []

-- the names that no tenant has: those of these listeners, if they are asked for
abbrev pub reserved_names : {A : Type 0} → Option A → Option A → List Text
reserved_names admin metrics = name_if admin_name admin ++ name_if metrics_name metrics

-- a worker has places enough to keep this many for each of these tenants
abbrev pub AreReservesWithin : ℕ → ℕ → Type 0
AreReservesWithin reserve tenants = tenants * reserve ≤ MOST_CONNECTIONS

-- each number is within its bounds, and no name is used twice
pub record IsServable (asked : NetworkAsked) : Type 0 where
  pub lawful : IsLawful (settings_asked asked)
  pub generations : asked.generations ≤ MAX_GENERATIONS
  pub log_bytes : IsBetween 1 MAX_LOG_BYTES asked.log_bytes
  pub reserve : AreReservesWithin asked.reserve (length asked.tenants)
  pub names : IsDistinct bytes_eq
      (reserved_names asked.admin asked.metrics ++ map (λ tenant. tenant.name) asked.tenants)

-- what is given asks for nothing that can be served: a tenant's word or an address is of another
-- form, a number is out of its bounds, or a name is used twice
abbrev pub AsksInVain : NetworkGiven → Type 0
AsksInVain given = (asked : NetworkAsked) → Asks given asked → ¬ (IsServable asked)

-- the words ask only to be checked
abbrev pub asks_check : List Text → Bool
asks_check words = flag_asked network_app (codes "check") words

-- the command takes the words, and they ask for this, which can be served
abbrev pub AsksForService : List Text → NetworkAsked → Type 0
AsksForService words asked =
    (fault_of network_app words ≡ []) × (asks_check words ≡ false)
    × Asks (given_by_words words) asked × IsServable asked

-- the command takes the words, and they ask for nothing that can be served
abbrev pub AsksForNone : List Text → Type 0
AsksForNone words =
    (fault_of network_app words ≡ []) × (asks_check words ≡ false)
    × AsksInVain (given_by_words words)

-- the command takes the words, and they ask only to be checked
abbrev pub AsksForCheck : List Text → Type 0
AsksForCheck words = (fault_of network_app words ≡ []) × (asks_check words ≡ true)

-- what contracts see of the words that were read, and of what is to be served
abbrev pub given_in : NetworkWords → NetworkGiven
given_in words = record {
  workers = words.workers;
  places = words.places;
  generations = words.generations;
  log_bytes = words.log_bytes;
  reserve = words.reserve;
  connections = words.connections;
  admin = option_map (λ word. word.now) words.admin;
  metrics = option_map (λ word. word.now) words.metrics;
  tenants = map (λ word. word.now) words.tenants.items;
}

abbrev pub served_by : Service → NetworkAsked
served_by service = record {
  workers = service.settings.workers;
  places = service.settings.places;
  generations = service.generations;
  log_bytes = service.log_bytes;
  reserve = service.reserve;
  connections = service.connections;
  admin = service.admin;
  metrics = service.metrics;
  tenants = map asked_of service.tenants.items;
}

-- The command takes the words, and they give this.
pub record WordsGive (words : List Text) (read : NetworkWords) : Type 0 where
  pub taken : fault_of network_app words ≡ []
  pub check : read.check ≡ asks_check words
  pub given : given_in read ≡ given_by_words words

-- The settings are those of what is to be served, and it can be served; where a log may follow
-- another, each worker can take a command of each log; the tenants have valid names.
pub record IsChecked (service : Service) : Type 0 where
  pub settings : service.settings ≡ settings_asked (served_by service)
  pub servable : IsServable (served_by service)
  pub each : service.generations ≢ 1 → service.settings.workers ≤ service.settings.places
  pub names : All (λ (tenant : Tenant). IsTrue (is_lawful_name tenant.name.now)) service.tenants.items
