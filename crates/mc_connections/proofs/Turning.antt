-- Whose turn it is among the connections that wait.
use Rattle.std.proofs.Common.{◌≡◌, ◌⊎◌, ◌∙◌, ◌≤◌, ℕ, Bool, Err, List, None, Ok, OnOk, Option, Result, Some, false, inl, inr, length, subst, sym, ⊎_elim}
use Rattle.std.specs.Prelude.{slice_get, slice_set, unwrap_or}
use Rattle.fair_queue.specs.Turns.{Charges, GivesFirst, IsIdle, IsPushed, QueueState}
use Rattle.mc_conn.specs.declared.conn.State.{State}
use Rattle.mc_conn.specs.declared.conn.State.TheVariants.{Busy, Full}
use Rattle.mc_connections.specs.declared.waiting.Waiting.{Waiting}
use Rattle.mc_connections.specs.InQueue.{WaitsOn}
use Rattle.mc_connections.specs.Waiting.{ComesToWait, EndsRound, IsNoted, LetsWait, TakesTurn, WaitsInLine, flow_of, short_at, short_with}

pub gave : {taken : QueueState} (spent key flow : ℕ) (old new : Waiting) → spent ≡ old.spent → new.queue ≡ taken →
    ((between : QueueState) × Charges spent old.queue between × GivesFirst flow key between taken) → ¬ (WaitsInLine new key) → TakesTurn key old new
gave spent key flow old new is same (between, charged, given) out = record {
  flow = flow;
  between = between;
  charged = subst (λ n. Charges n old.queue between) is charged;
  given = subst (GivesFirst flow key between) (sym same) given;
  taken = out;
}

pub idled : (spent : ℕ) (old new : Waiting) → spent ≡ old.spent → new.spent ≡ 0 → new.waits.items ≡ old.waits.items →
    ((between : QueueState) × Charges spent old.queue between × (IsIdle between × (new.queue ≡ between))) → EndsRound old new
idled spent old new is none same (between, charged, ended) =
    inr (
      subst (λ n. Charges n old.queue new.queue) is (subst (Charges spent old.queue) (sym ended.1) charged),
      subst IsIdle (sym ended.1) ended.0,
      none,
      same,
    )

-- what a connection has cost doesn't matter to where it waits
pub waits_the_same : (tenant : Option ℕ) (key : ℕ) (old charged new : Waiting) → charged.queue ≡ old.queue → charged.waits.items ≡ old.waits.items → ComesToWait tenant key charged new → ComesToWait tenant key old new
waits_the_same tenant key old charged new queue waits =
    ⊎_elim
    (λ pushed. inl (
      λ (waited : WaitsInLine old key). pushed.0 (waited.0, subst (λ (items : _). slice_get items key ≡ Some (Some waited.0)) (sym waits) waited.1),
      pushed.1,
      subst (λ (queue : QueueState). IsPushed (flow_of (length queue.flows) tenant) key queue new.queue) queue pushed.2,
    ))
    (λ stays. inr (
      stays.0 ∙ queue,
      ⊎_elim
          (λ (waited : WaitsInLine charged key). inl (waited.0, subst (λ (items : _). slice_get items key ≡ Some (Some waited.0)) waits waited.1))
          (λ (past : length charged.waits.items ≤ key). inr (subst (λ (items : _). length items ≤ key) waits past))
          stays.1,
    ))

-- nor to what is noted of it
pub noted_the_same : (key : ℕ) (short : Bool) (old charged new : Waiting) → charged.waits.items ≡ old.waits.items → IsNoted key (Some (short_with (short_at charged key) short)) charged new →
    IsNoted key (Some (short_with (short_at old key) short)) old new
noted_the_same key short old charged new same noted =
    subst (λ (items : List (Option Bool)). new.waits.items ≡ slice_set items key (Some (short_with (unwrap_or (slice_get items key) None) short))) same noted

pub waits_with_more : (state : State) (tenant : Option ℕ) (key : ℕ) (old new : Waiting) → (state ≡ Busy) ⊎ (state ≡ Full) → LetsWait tenant key false old new → WaitsOn state tenant key old new
waits_with_more state tenant key old new more waits =
    ⊎_elim
    (λ (busy : state ≡ Busy). subst (λ (state : State). WaitsOn state tenant key old new) (sym busy) waits)
    (λ (full : state ≡ Full). subst (λ (state : State). WaitsOn state tenant key old new) (sym full) waits)
    more

pub on_ok : {T E P Q : Type 0} (result : Result T E) → OnOk result P → (P → Q) → OnOk result Q
on_ok (Ok done) holds so = so holds
on_ok (Err failed) holds so = holds
