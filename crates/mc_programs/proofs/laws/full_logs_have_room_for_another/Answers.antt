-- Each of the commands has made at most one change.
use Rattle.std.proofs.Common.{◌≡◌, ◌∙◌, ℕ, ◌+◌, ◌*◌, zero, suc, [], ◌∷◌, Some, length, slice_get, ap, arith, length-append, subst}
use Rattle.std.proofs.Math.Nat.{add-mul, one-mul}
use Rattle.std.proofs.lemmas.Option.{same_Some}
use Rattle.mc_model.specs.History.{state_after}
use Rattle.mc_model.specs.Log.{own}
use Rattle.mc_model.specs.State.{TableState, empty_table}
use Rattle.mc_conn.specs.Alone.{commands_of}
use Rattle.model_lemmas.proofs.Histories.{uniques-le}
use Rattle.mc_programs.proofs.Following.{commands-append, tables_one}
use Rattle.uc_cells.specs.Sighting.{entries}
use Rattle.uc_worker.specs.Worker.{history_of, openings_of, tables_of}
use Rattle.mc_programs.proofs.laws.full_logs_have_room_for_another.Goals as goal

one_there : (table state : TableState) (tenant : ℕ) → slice_get (table ∷ []) tenant ≡ Some state → table ≡ state
one_there table state zero at = same_Some table state at
one_there table state (suc tenant) at = cc

pub returns : goal.returns
returns c limits places logs requests worker fills few tenant state at =
    let opening = state_after limits (commands_of fills.earlier) in
    let tables = tables_one (openings_of worker) (tables_of worker) (entries (history_of worker)) opening fills.alone.openings fills.stands in
    let is = one_there _ state tenant (subst (λ list. slice_get list tenant ≡ Some state) tables at) in
    let here = uniques-le opening (own 0 (entries (history_of worker))) in
    let before = uniques-le (empty_table limits) (commands_of fills.earlier) in
    let uniques = ap (λ (it : TableState). it.last_unique) is in
    let all = ap length (commands-append fills.earlier fills.last) in
    let more = add-mul logs 1 places ∙ ap (λ n. logs * places + n) (one-mul places) in
    omega (arith, few, here, before, uniques, all, more, ap length fills.replayed, fills.full, length-append (commands_of fills.earlier) (commands_of fills.last))
