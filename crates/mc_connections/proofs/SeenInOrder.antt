-- What a connection was sent by a moment, and that what a client has seen comes before what it asks
-- for then.
use Rattle.std.proofs.Common.{◌≡◌, ℕ, ◌+◌, ◌<◌, ◌≤◌, Bool, List, [], ◌∷◌, ◌++◌, ap, arith, ⊎_elim}
use Rattle.std.proofs.lemmas.Option.{slice_get_within}
use Rattle.lists.proofs.Public.{begins_longer}
use Rattle.mc_conn.specs.Owed.{Demand, IsAnswered, Logs, Mark, Owes, OwesFor, Says, demand_of, mark_of}
use Rattle.mc_conn.specs.declared.conn.Role.{Role}
use Rattle.mc_model.specs.declared.command.Command.{Command}
use Rattle.mc_model.specs.declared.reply.Reply.{Reply}
use Rattle.mc_model.specs.declared.request.Request.{Request}
use Rattle.mc_connections.specs.InTurn.{HaveServedInTurn, InTurn}
use Rattle.mc_connections.specs.Life.{IsBehind}
use Rattle.mc_connections.specs.Seen.{IsThere, SeesThenAsks, WasSent, announced_number, history_place}
use Rattle.mc_connections.specs.Serving.{scene_of}
use Rattle.mc_connections.specs.Working.{Standing, Works, standing}
use Rattle.mc_connections.specs.declared.connection.Connection.{Connection}
use Rattle.mc_connections.specs.declared.connections.Connections.{Connections}
use Rattle.mc_connections.proofs.Lives.{OfAny, PartsAddUp, ended_so_far, lives_so_far, sound_in_turn, sound_working}
use Rattle.mc_connections.proofs.Servings.{served_onward}
use Rattle.uc_worker.specs.Going.{Continues}
use Rattle.uc_worker.specs.Worker.{announced_of, history_of}
use Rattle.uc_worker.specs.contracts.laws.WorkerGoesOn.TheImpl.{continues_through-value}
use Rattle.uc_worker.specs.declared.worker.Worker.{Worker}

pub sent_so_far : PartsAddUp → (who : InTurn) (connections : Connections) (until : Bool) (begun : Worker) (now : Standing) (connection : Connection) →
    HaveServedInTurn who connections → Works until (standing begun connections) now → IsThere now connection → WasSent (who.served ++ now.worker ∷ []) connection
sent_so_far laws who connections until begun now connection served works there =
    let sound = sound_working until who.served (standing begun connections) now (sound_in_turn laws who connections served begun) works in
    ⊎_elim (λ live. lives_so_far (OfAny 0) who.served now.worker connection (sound.lives live.0 connection live.1)) (λ past. ended_so_far who.served now sound connection past.0 past.1) there

mark_onward : (from next : Mark) (place : ℕ) → next ≡ record { number = from.number + 1; place = place } → from.place ≤ place → IsBehind from next
mark_onward from next place is far =
    (omega (arith, ap (λ (mark : Mark). mark.number) is), omega (arith, far, ap (λ (mark : Mark). mark.place) is))

-- a worker that has answered a command is no less far than it was
answer_onward : (worker : Worker) (tenant : ℕ) (from : Mark) (command : Command) (reply : Reply) (next : Mark) → IsAnswered worker tenant from command reply next → IsBehind from next
answer_onward worker tenant from command reply next is =
    ⊎_elim
    (λ placed. mark_onward from next (placed.place + 1) placed.next (omega (arith, placed.not_before)))
    (λ away.
    ⊎_elim
    (λ same. (omega (arith, ap (λ (mark : Mark). mark.number) same), omega (arith, ap (λ (mark : Mark). mark.place) same)))
    (λ announced. mark_onward from next from.place announced.1 (omega arith))
    away.next)
    is

demand_onward : (worker : Worker) (from to : Mark) (demand : Demand) (bytes : List ℕ) (Later : Mark → List ℕ → Type 0) → ((next : Mark) (rest : List ℕ) → Later next rest → IsBehind next to) →
    OwesFor worker from demand bytes Later → IsBehind from to
demand_onward worker from to (Logs tenant command quiet) bytes Later on (reply, next, rest, is, are, more) =
    let one = answer_onward worker tenant from command reply next is in
    let later = on next rest more in
    (omega (arith, one.0, later.0), omega (arith, one.1, later.1))
demand_onward worker from to (Says said) bytes Later on (rest, are, more) = on from rest more

pub owes_onward : (worker : Worker) (role : Role) (from to : Mark) (requests : List Request) (bytes : List ℕ) → Owes worker role from requests bytes to → IsBehind from to
owes_onward worker role from to [] bytes owes = (omega (arith, owes.1), owes.2)
owes_onward worker role from to (request ∷ requests) bytes owes =
    demand_onward worker from to (demand_of role request) bytes (λ next rest. Owes worker role next requests rest to)
    (λ next rest more. owes_onward worker role next to requests rest more) owes

module _ (until : Bool) (past : List Worker) (saw asked answered : Standing) (sees : SeesThenAsks until past saw asked answered) where
  pub sees_onward : Continues saw.worker answered.worker
  sees_onward =
      continues_through-value.it saw.worker asked.worker answered.worker sees.later
      (served_onward (scene_of sees.old asked.worker) (scene_of sees.new answered.worker) sees.turns.served.how)

  pub seen_first : (announced_number sees.seen.answer < announced_number sees.asks) × (history_place sees.seen.answer < history_place sees.asks)
  seen_first =
      let seen = sees.seen.answer in
      let due = owes_onward answered.worker sees.old.conn.role (mark_of asked.worker) sees.asks.due sees.asks.earlier sees.asks.before sees.asks.owes in (
        omega (arith, due.0, slice_get_within (announced_of saw.worker) seen.due.number _ seen.placed.announced, begins_longer _ _ sees.later.announced),
        omega (arith, due.1, sees.asks.placed.not_before, slice_get_within (history_of saw.worker) seen.placed.place _ seen.placed.stands, begins_longer _ _ sees.later.history),
      )
