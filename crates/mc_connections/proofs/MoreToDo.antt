-- Who comes to wait, and what is noted of it.
use Rattle.std.proofs.Common.{◌≡◌, ◌⊎◌, ◌∙◌, ◌<◌, ◌≤◌, ℕ, Bool, false, List, Option, Some, None, length, slice_get, inl, inr, ⊎_elim, ap, arith}
use Rattle.std.specs.Prelude.{unwrap_or}
use Rattle.fair_queue.specs.Turns.{IsPushed}
use Rattle.lists.proofs.Public.{set_here}
use Rattle.mc_connections.specs.Waiting.{LetsWait, WaitsInLine, flow_of, short_at, short_with}
use Rattle.mc_connections.specs.declared.waiting.Waiting.{Waiting}
use Rattle.mc_connections.proofs.Comings.{with_false}

module _ (tenant : Option ℕ) (key : ℕ) (short : Bool) (old new : Waiting) (inside : key < length old.waits.items) (waits : LetsWait tenant key short old new) where
  noted : slice_get new.waits.items key ≡ Some (Some (short_with (short_at old key) short))
  noted = ap (λ (items : List (Option Bool)). slice_get items key) waits.1 ∙ set_here old.waits.items key (Some (short_with (short_at old key) short)) inside

  comes : ¬ (WaitsInLine old key) × IsPushed (flow_of (length old.queue.flows) tenant) key old.queue new.queue ⊎ WaitsInLine old key × (new.queue ≡ old.queue)
  comes = ⊎_elim
      (λ pushed. inl (pushed.0, pushed.2))
      (λ stays. inr (⊎_elim (λ (waited : WaitsInLine old key). waited) (λ (past : length old.waits.items ≤ key). absurd (omega (arith, inside, past))) stays.1, stays.0))
      waits.0

pub comes_to_wait : (tenant : Option ℕ) (key : ℕ) (short : Bool) (old new : Waiting) → key < length old.waits.items → LetsWait tenant key short old new →
    WaitsInLine new key × (¬ (WaitsInLine old key) × IsPushed (flow_of (length old.queue.flows) tenant) key old.queue new.queue ⊎ WaitsInLine old key × (new.queue ≡ old.queue))
comes_to_wait tenant key short old new inside waits =
    ((short_with (short_at old key) short, noted tenant key short old new inside waits), comes tenant key short old new inside waits)

pub isnt_cut_short : (tenant : Option ℕ) (key : ℕ) (old new : Waiting) → key < length old.waits.items → LetsWait tenant key false old new → short_at new key ≡ Some false
isnt_cut_short tenant key old new inside waits =
    ap (λ (found : Option (Option Bool)). unwrap_or found None) (noted tenant key false old new inside waits) ∙ ap (λ (it : Bool). Some it) (with_false (short_at old key))
