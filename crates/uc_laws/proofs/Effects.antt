-- An entry takes effect on any tables.
use Rattle.std.proofs.Common.{◌≡◌, ℕ, zero, suc, ◌+◌, List, [], ◌∷◌, Option, Some, slice_get, refl, ap, ◌∙◌, arith}
use Rattle.std.specs.Option.{option_map}
use Rattle.mc_model.specs.declared.request.Entry.{Entry}
use Rattle.mc_model.specs.Log.{own_command}
use Rattle.mc_model.specs.Replay.{TakeEffect, with_command}
use Rattle.mc_model.specs.State.{TableState}

-- the tables after an entry
abbrev pub effects : ℕ → Option Entry → List TableState → List TableState
effects tenant entry [] = []
effects tenant entry (table ∷ tables) = with_command table (own_command tenant entry) ∷ effects (tenant + 1) entry tables

effect_at : (tenant : ℕ) (entry : Option Entry) (tables : List TableState) (k : ℕ) → slice_get (effects tenant entry tables) k
    ≡ option_map (λ (table : TableState). with_command table (own_command (tenant + k) entry)) (slice_get tables k)
effect_at tenant entry [] k = refl
effect_at tenant entry (table ∷ tables) zero = ap (λ (n : ℕ). Some (with_command table (own_command n entry))) (omega arith)
effect_at tenant entry (table ∷ tables) (suc k) = let same : tenant + 1 + k ≡ tenant + suc k = omega arith in
    effect_at (tenant + 1) entry tables k
    ∙ ap (λ (n : ℕ). option_map (λ (it : TableState). with_command it (own_command n entry)) (slice_get tables k)) same

pub takes_effect : (entry : Option Entry) (tables : List TableState) → TakeEffect entry tables (effects 0 entry tables)
takes_effect entry tables tenant = let same : 0 + tenant ≡ tenant = omega arith in effect_at 0 entry tables tenant
    ∙ ap (λ (n : ℕ). option_map (λ (table : TableState). with_command table (own_command n entry)) (slice_get tables tenant)) same
