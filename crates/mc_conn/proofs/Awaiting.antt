-- A request that is left to the next log.
use Rattle.std.proofs.Common.{◌≡◌, Bool, true, false, Some, None, ◌∙◌, ap, sym, subst}
use Rattle.std.specs.Option.{option_map_or}
use Rattle.mc_model.specs.declared.request.Request.{Request}
use Rattle.uc_worker.specs.declared.worker.Worker.{Worker}
use Rattle.uc_worker.specs.Worker.{IsClosing}
use Rattle.mc_conn.specs.declared.conn.Conn.{Conn}
use Rattle.mc_conn.specs.Ending.{logs_next}
use Rattle.mc_conn.specs.Owed.{demand_of, is_logged}
use Rattle.mc_conn.specs.Parts.{IsLeft}

-- what the waiting request comes to is whether the next one is logged
pub logs_waiting : (conn : Conn) (request : Request) → conn.waiting ≡ Some request → logs_next conn ≡ is_logged (demand_of conn.role request)
logs_waiting conn request is = ap (λ waiting. option_map_or (λ (one : Request). is_logged (demand_of conn.role one)) waiting false) is

-- the waiting request isn't left to the next log: if it is logged and commands are left, its log isn't closing
pub not_left : (until : Bool) (conn : Conn) (worker : Worker) (request : Request) → conn.waiting ≡ Some request → ¬ (IsLeft until conn worker) →
    until ≡ true → is_logged (demand_of conn.role request) ≡ true → ¬ (IsClosing worker)
not_left until conn worker request is room leaves logged done = room (leaves, (logs_waiting conn request is ∙ logged, done))

-- if no request waits, none is left
pub none_left : (until : Bool) (conn : Conn) (worker : Worker) → conn.waiting ≡ None → ¬ (IsLeft until conn worker)
none_left until conn worker none left =
    let no : false ≡ true = sym (ap (λ waiting. option_map_or (λ (one : Request). is_logged (demand_of conn.role one)) waiting false) none) ∙ left.1.0 in cc

-- one that is left stays so
pub left_later : (until : Bool) (old new : Conn) (worker later : Worker) → later ≡ worker → new.role ≡ old.role → new.waiting ≡ old.waiting → IsLeft until old worker → IsLeft until new later
left_later until old new worker later still role waiting left = (
  left.0,
  ((λ i. option_map_or (λ (one : Request). is_logged (demand_of (role i) one)) (waiting i) false) ∙ left.1.0, subst IsClosing (sym still) left.1.1),
)
