-- Work after work, one connection at a time.
use Rattle.std.proofs.Common.{◌≡◌, ◌⊎◌, ◌+◌, ℕ, Bool, length, Option, Some, None, ap, inl, inr, refl, sym, subst, ◌∙◌, ⊎_elim}
use Rattle.uc_worker.specs.Going.{CatchesUp, Continues}
use Rattle.uc_worker.specs.contracts.laws.WorkerGoesOn.TheImpl.{continues_self-value, continues_through-value}
use Rattle.mc_conn.specs.declared.conn.State.{State}
use Rattle.mc_conn.specs.declared.conn.Role.{Role}
use Rattle.mc_conn.specs.declared.conn.Role.TheVariants.{Admin, Tenant}
use Rattle.slab.specs.Slab.{Updates}
use Rattle.mc_connections.specs.Counting.{held_as, with_held_as}
use Rattle.mc_connections.specs.Holding.{WorkerPlaces}
use Rattle.mc_connections.specs.Serving.{Admits, Becomes, HasComeTo, IsNewConnection, IsServedLater, connection_at}
use Rattle.mc_connections.specs.Working.{KeepsPlaces, KeepsUp, ServesAt, ServesOne, Standing, TakesIn, Works, begins, goes_on, standing}
use Rattle.mc_connections.specs.declared.arrival.Admission.{Admission}
use Rattle.mc_connections.specs.declared.arrival.Admission.TheVariants.{Admitted, NoPlace, UnknownRole, Unregistered}
use Rattle.mc_connections.specs.declared.arrival.Arrival.{Arrival}
use Rattle.mc_connections.specs.declared.connection.Connection.{Connection}
use Rattle.mc_connections.specs.declared.connections.Connections.{Connections}
use Rattle.uc_worker.specs.declared.worker.Worker.{Worker}
use Rattle.uc_worker.specs.Worker.{tenants_of}
use Rattle.mc_connections.proofs.Servings.{served_onward}

pub works_trans : {until : Bool} (a b c : Standing) → Works until a b → Works until b c → Works until a c
works_trans a b _ one begins = one
works_trans a b _ one (goes_on between last two step) = goes_on between last (works_trans a b between one two) step

-- the connection under a key was served, after other work
pub works_serving : {until : Bool} (first before after : Standing) (key : ℕ) (state : State) → Works until first before → ServesAt until key state before after → Works until first after
works_serving first before after key state works serves = goes_on before after works (inr (inl (record { key = key; state = state; serves = serves })))

-- the worker caught up, after other work
pub works_catching : {until : Bool} (first : Standing) (old new : Worker) (connections : Connections) → Works until first (standing old connections) → CatchesUp old new →
    Works until first (standing new connections)
works_catching first old new connections works catches =
    goes_on (standing old connections) (standing new connections) works (inr (inr (record { worker = catches; connections = refl })))

works_same : {until : Bool} (first : Standing) (worker : Worker) (connections after : Connections) → Works until first (standing worker connections) → after ≡ connections → Works until first (standing worker after)
works_same {until} first worker connections after works same = subst (λ (connections : Connections). Works until first (standing worker connections)) (sym same) works

-- an arrival was admitted or not, after other work
pub works_admitting : {until : Bool} (first : Standing) (worker : Worker) (connections after : Connections) (arrival : Arrival _) (admission : Admission) → Works until first (standing worker connections) →
    HasComeTo connections after arrival admission → Works until first (standing worker after)
works_admitting first worker connections after arrival (Admitted key) works come =
    goes_on (standing worker connections) (standing worker after) works (inl (record { worker = refl; arrival = arrival; key = key; admits = come.1 }))
works_admitting first worker connections after arrival (NoPlace back) works come = works_same first worker connections after works come.2
works_admitting first worker connections after arrival UnknownRole works come = works_same first worker connections after works come.1
works_admitting first worker connections after arrival Unregistered works come = works_same first worker connections after works come.2

-- a worker goes on while it serves
becomes_onward : (until : Bool) (before after : Standing) (state : State) (old new : Option Connection) →
    Becomes (IsServedLater until before.worker after.worker) (after.worker ≡ before.worker) state before.connections.ended.connections after.connections.ended.connections old new →
    Continues before.worker after.worker
becomes_onward until before after state None new (gone, still, idle, ended) = subst (Continues before.worker) (sym still) (continues_self-value.it before.worker)
becomes_onward until before after state (Some old) (Some new) (later, isnt, ended) = served_onward _ _ later.served.how
becomes_onward until before after state (Some old) None (last, ended, later, closed) = served_onward _ _ later.served.how

pub step_onward : (until : Bool) (before after : Standing) → TakesIn before after ⊎ ServesOne until before after ⊎ KeepsUp before after → Continues before.worker after.worker
step_onward until before after =
    ⊎_elim
    (λ (taken : TakesIn before after). subst (Continues before.worker) (sym taken.worker) (continues_self-value.it before.worker))
    (⊎_elim
    (λ (one : ServesOne until before after).
    becomes_onward until before after one.state (connection_at before.connections one.key) (connection_at after.connections one.key) one.serves.becomes)
    (λ (caught : KeepsUp before after). caught.worker.continues))

pub works_onward : {until : Bool} (first last : Standing) → Works until first last → Continues first.worker last.worker
works_onward first _ begins = continues_self-value.it first.worker
works_onward {until} first _ (goes_on between last works step) =
    continues_through-value.it first.worker between.worker last.worker (works_onward first between works) (step_onward until between last step)

works_tenants : {until : Bool} (first last : Standing) → Works until first last → last.connections.tenants ≡ first.connections.tenants
works_tenants first _ begins = refl
works_tenants {until} first _ (goes_on between last works step) =
    ⊎_elim
    (λ (taken : TakesIn between last). taken.admits.tenants)
    (⊎_elim (λ (one : ServesOne until between last). one.serves.tenants) (λ (caught : KeepsUp between last). ap (λ (connections : Connections). connections.tenants) caught.connections))
    step
    ∙ works_tenants first between works

-- the connections are still for the tenants of the worker's log
pub works_known : {until : Bool} (first last : Standing) → Works until first last → first.connections.tenants ≡ length (tenants_of first.worker) →
    last.connections.tenants ≡ length (tenants_of last.worker)
works_known first last works known =
    works_tenants first last works ∙ (known ∙ sym (ap (λ log. length log.now.settings.tenants) (works_onward first last works).log))

-- as many places are kept for each tenant of a worker after it has admitted a connection
reserve_taken : (role : Role) (held : ℕ) (places : WorkerPlaces) → (with_held_as role held places).tenants.reserve ≡ places.tenants.reserve
reserve_taken (Tenant tenant) held places = refl
reserve_taken (Admin names) held places = refl

-- as many places are kept for each tenant
pub works_keep : {until : Bool} (reserve : ℕ) (first last : Standing) → Works until first last → KeepsPlaces reserve first.connections → KeepsPlaces reserve last.connections
works_keep reserve first _ begins keeps = keeps
works_keep {until} reserve first _ (goes_on between last works step) keeps =
    ⊎_elim
    (λ (taken : TakesIn between last). ap (λ (places : WorkerPlaces). places.tenants.reserve) taken.admits.places ∙ reserve_taken taken.arrival.role _ between.connections.places)
    (⊎_elim (λ (one : ServesOne until between last). one.serves.reserve) (λ (caught : KeepsUp between last). ap (λ (connections : Connections). connections.places.tenants.reserve) caught.connections))
    step
    ∙ works_keep reserve first between works keeps

-- an arrival's connection has taken a place
pub admits_at : (before after : Connections) (arrival : Arrival _) (key : ℕ) (connection : Connection) → connection_at before key ≡ None → Updates before.by_key after.by_key key (Some connection) →
    IsNewConnection connection arrival → after.ended ≡ before.ended → after.tenants ≡ before.tenants → after.places ≡ with_held_as arrival.role (held_as arrival.role before.places + 1) before.places →
    Admits before after arrival key
admits_at before after arrival key connection vacant updates fresh ended tenants places =
    record { vacant = vacant; connection = connection; fresh = fresh; updates = updates; ended = ended; tenants = tenants; places = places }
