-- The listeners of wfmc's tenants and administrators and for metrics, and what is printed for them;
-- this project's profile.
use Rattle.std.specs.List.{AllZip}
use Rattle.std.specs.Prelude.{◌≡◌, ◌+◌, ◌^◌, ◌<◌, ℕ, List, [], ◌∷◌, ◌++◌, All, Option, Some, None, map, Contains}
use Rattle.std.specs.declared.net.socket_addr.SocketAddrV4.{SocketAddrV4}
use Rattle.clap.specs.Walk.{Text}
use Rattle.mc_conn.specs.declared.conn.Role.{Role}
use Rattle.mc_conn.specs.declared.conn.Role.TheVariants.{Admin, Tenant}
use Rattle.mc_model.specs.declared.fault.Fault.TheVariants.{Memory}
use Rattle.mc_net.specs.Running.{ClosesAt, KeepsAt, listeners_of}
use Rattle.mc_net.specs.declared.front.Front.{Front}
use Rattle.mc_net.specs.declared.listener.BoundListener.{BoundListener}
use Rattle.mc_server.specs.NetworkTexts.{told_address}
use Rattle.mc_server.specs.NetworkWords.{NetworkAsked, admin_name, metrics_name}
use Rattle.mc_server.specs.TenantWord.{TenantAsked}
use Rattle.mc_server.specs.declared.listeners.Listeners.{Listeners}
use Rattle.mc_server.specs.declared.listeners.Stop.{Stop}
use Rattle.mc_server.specs.declared.listeners.Stop.TheVariants.{CannotListen, Failed}
use Rattle.mc_server.specs.declared.network_texts.Listening.{Listening}
use Rattle.mc_server.specs.declared.wanted.Wanted.{Wanted}

-- the numbers go up by one, from this one on
abbrev pub CountsFrom : ℕ → List ℕ → Type 0
CountsFrom number [] = Unit {0}
CountsFrom number (x ∷ xs) = (x ≡ number) × CountsFrom (number + 1) xs

-- a listener: the name that it goes by, and the address that is asked for
pub record ListenerAsked : Type 0 where
  pub name : Text
  pub address : SocketAddrV4

abbrev pub listener_of : TenantAsked → ListenerAsked
listener_of tenant = record { name = tenant.name; address = tenant.address }

-- the listener with this name, if there is to be one
abbrev pub listener_if : Text → Option SocketAddrV4 → List ListenerAsked
listener_if name None = []
listener_if name (Some address) = record { name = name; address = address } ∷ []

-- the listeners of clients that are asked for: the tenants', in the tenants' order, and then the
-- administrators'
abbrev pub clients_asked : NetworkAsked → List ListenerAsked
clients_asked asked = map listener_of asked.tenants ++ listener_if admin_name asked.admin

-- the listeners that are asked for: these, and then the one for metrics
abbrev pub listeners_asked : NetworkAsked → List ListenerAsked
listeners_asked asked = clients_asked asked ++ listener_if metrics_name asked.metrics

-- the roles of tenants whose numbers go up by one, from this one on
abbrev pub roles_from : ℕ → List TenantAsked → List Role
roles_from number [] = []
roles_from number (x ∷ xs) = Tenant number ∷ roles_from (number + 1) xs

-- the role of those who connect at the administrators' listener: they name tenants by these names
abbrev pub admin_role : Option SocketAddrV4 → List Text → List Role
admin_role None names = []
admin_role (Some address) names = Admin names ∷ []

-- the roles of clients at the listeners that are asked for, in their order
abbrev pub roles_asked : NetworkAsked → List Role
roles_asked asked =
    roles_from 0 asked.tenants ++ admin_role asked.admin (map (λ tenant. tenant.name) asked.tenants)

-- what contracts see of a listener that is to be bound
abbrev pub asked_at : Wanted → ListenerAsked
asked_at wanted = record { name = wanted.name.now; address = wanted.address }

-- These are the tenants' listeners, each with its role.
pub record AreOfTenants (tenants : List TenantAsked) (wanted : List Wanted) : Type 0 where
  pub listeners_of : map asked_at wanted ≡ map listener_of tenants
  pub roles_of : map (λ one. one.role) wanted ≡ roles_from 0 tenants

-- These are the listeners of clients that are asked for, each with its role.
pub record AreAsked (asked : NetworkAsked) (wanted : List Wanted) : Type 0 where
  pub listeners : map asked_at wanted ≡ clients_asked asked
  pub roles : map (λ one. one.role) wanted ≡ roles_asked asked

-- what is printed for a listener: its name and its address, with the port that it was given, which
-- has 16 bits, if the address leaves it open
pub record IsListeningFor (asked : ListenerAsked) (listening : Listening) : Type 0 where
  pub name : listening.name.now ≡ asked.name
  pub given : ℕ
  pub is_port : given < 2 ^ 16
  pub address : listening.address ≡ told_address asked.address given

-- Listeners are bound at these addresses, each for the role at its place.
pub record AreBoundFor (asked : List ListenerAsked) (roles : List Role)
    (listeners : List (Role × BoundListener)) : Type 0 where
  pub roles_are : map (λ listener. listener.0) listeners ≡ roles
  pub addresses_are : map (λ listener. listener.1.address) listeners
      ≡ map (λ one. one.address) asked

-- They are bound so, and this is printed for each.
pub record AreBound (asked : List ListenerAsked) (roles : List Role)
    (bound : Listeners) : Type 0 where
  pub at : AreBoundFor asked roles bound.listeners.items
  pub told : AllZip IsListeningFor asked bound.told.items

-- each tenant has a listener at its own address, and administrators have one if it is asked for
abbrev pub AreListenersOfClients : NetworkAsked → List (Role × BoundListener) → Type 0
AreListenersOfClients asked listeners =
    AreBoundFor (clients_asked asked) (roles_asked asked) listeners

-- These are the clients' listeners, and what is printed for them and for the one for metrics if
-- that is asked for.
pub record AreListenersOf (asked : NetworkAsked) (bound : Listeners) : Type 0 where
  pub clients : AreListenersOfClients asked bound.listeners.items
  pub told : AllZip IsListeningFor (listeners_asked asked) bound.told.items

-- A front is as it is asked for: it accepts at the clients' listeners, and as many connections of
-- tenants; each worker keeps as many places for each tenant, and a log as many bytes.
pub record IsMadeFor (asked : NetworkAsked) (front : Front) : Type 0 where
  pub clients : AreListenersOfClients asked (listeners_of front.acceptor.listeners.items)
  pub connections : front.acceptor.most ≡ asked.connections
  pub reserve : All (KeepsAt asked.reserve) front.event_loops.items
  pub log_bytes : All (ClosesAt asked.log_bytes) front.event_loops.items

-- why not all have a listener: the address of one with one of these names can't be listened on, or
-- memory ran out
abbrev pub StopsListening : List (List ℕ) → Stop → Type 0
StopsListening names (CannotListen name) = Contains names name.now
StopsListening names (Failed fault) = fault ≡ Memory
