-- For whom a worker announces commands. After memcached's doc/protocol.txt, "Protocol": commands
-- are what clients send, in order, on their connections.
use Rattle.std.specs.Prelude.{◌≡◌, ◌⊎◌, ℕ, ◌<◌, ◌≤◌, Bool, List, ◌∷◌, ◌++◌, length, Some, slice_get}
use Rattle.mc_conn.specs.Held.{lines_of}
use Rattle.mc_conn.specs.Onward.{own_sighting}
use Rattle.mc_conn.specs.Owed.{Logs, demand_of}
use Rattle.mc_conn.specs.declared.conn.Role.{Role}
use Rattle.mc_model.specs.declared.command.Command.{Command}
use Rattle.mc_model.specs.declared.request.Request.{Request}
use Rattle.mc_connections.specs.Life.{WereAnsweredApart, came_of}
use Rattle.mc_connections.specs.declared.connection.Connection.{Connection}
use Rattle.mc_conn.specs.Cited.{ReadsAs}
use Rattle.uc_worker.specs.declared.worker.Worker.{Worker}
use Rattle.uc_worker.specs.Worker.{announced_of}

-- whatever more might have come, the connection's request of this number is this one
abbrev pub HasRequest : Connection → ℕ → Request → Type 0
HasRequest connection number request = (more : List ℕ) (all : List Request) →
    ReadsAs (lines_of connection.conn.role) (came_of connection ++ more) all →
    slice_get all number ≡ Some request

-- The request, on a connection of this role, logs a command of a tenant, which the worker announced
-- under this number.
pub record IsLogged (worker : Worker) (role : Role) (request : Request) (number : ℕ) : Type 0 where
  pub tenant : ℕ
  pub command : Command
  pub quiet : Bool
  pub logs : demand_of role request ≡ Logs tenant command quiet
  pub announced :
      slice_get (announced_of worker) number ≡ Some (own_sighting worker number tenant command)

-- The worker's command of this number was announced for the connection before which `asker` others
-- had ended: that connection's request of the number `request` logs it.
pub record WasAsked (worker : Worker) (ended : List Connection)
    (number asker request : ℕ) : Type 0 where
  pub connection : Connection
  pub later : List Connection
  pub earlier : List Connection
  pub stands : ended ≡ later ++ connection ∷ earlier
  pub so_many : length earlier ≡ asker
  pub asked : Request
  pub logged : IsLogged worker connection.conn.role asked number
  pub asks : HasRequest connection request asked

-- A command: which of the workers that served one after another announced it, counted from 0, and
-- its number there. Where the last log was served twice, its worker counts as two.
pub record Announcement : Type 0 where
  pub log : ℕ
  pub number : ℕ

-- the worker, which is on the command's log in `after`, has announced the command since `before`
pub record IsAnnounced (before after : List Worker) (which : Announcement)
    (worker : Worker) : Type 0 where
  pub first : Worker
  pub was : slice_get before which.log ≡ Some first
  pub is : slice_get after which.log ≡ Some worker
  pub since : length (announced_of first) ≤ which.number
  pub by_now : which.number < length (announced_of worker)

-- one was announced before the other: by a worker that served earlier, or under an earlier number
abbrev pub IsEarlier : Announcement → Announcement → Type 0
IsEarlier one two = (one.log < two.log) ⊎ (one.log ≡ two.log) × (one.number < two.number)

-- Workers went from `before` to `after`, one after another, each on the next log or once more on
-- the last. Each command that they have announced meanwhile was asked for by one connection that
-- has ended, and those of one connection were announced in the order in which it asked for them: so
-- no request was carried out twice.
pub record HaveBeenAsked (before after : List Worker) (ended : List Connection) : Type 0 where
  pub asker : Announcement → ℕ
  pub request : Announcement → ℕ
  pub asked : (which : Announcement) (worker : Worker) → IsAnnounced before after which worker →
      WasAsked worker ended which.number (asker which) (request which)
  pub in_order : (one two : Announcement) (first second : Worker) →
      IsAnnounced before after one first → IsAnnounced before after two second →
      IsEarlier one two → asker one ≡ asker two → request one < request two

-- Connections that have ended were answered apart, by workers that went from the first list to the
-- second, one for one, and each command that was announced meanwhile was asked for by the
-- connection that owns it. So each connection was answered by commands that it asked for itself.
pub record WereAnsweredAsAsked (begun served : List Worker) (ended : List Connection) :
    Type 0 where
  pub apart : WereAnsweredApart begun served ended
  pub asked : HaveBeenAsked begun served ended
  pub owns : (which : Announcement) (worker : Worker) → IsAnnounced begun served which worker →
      asked.asker which ≡ apart.owner which.log which.number
