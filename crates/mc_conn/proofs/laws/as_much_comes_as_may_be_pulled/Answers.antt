use Rattle.std.proofs.Common.{◌≡◌, ◌⊎◌, ℕ, ◌+◌, ◌≤◌, max, List, ◌∷◌, length, length-append, sym, ap, ◌∙◌, arith, inl, inr}
use Rattle.mc_stream.specs.Event.{Event, Moves, Waits, Ends, Fails, last_moved, moved}
use Rattle.mc_stream.specs.Stream.{Inflow}
use Rattle.mc_conn.specs.declared.conn.TheConstants.{PULL_BYTES}
use Rattle.mc_conn.specs.Ending.{PullsOnce}
use Rattle.mc_conn.specs.Turn.{Scene, Takes}
use Rattle.mc_conn.proofs.laws.as_much_comes_as_may_be_pulled.Goals as goal

-- one more event brings the bytes that it moved
brings : (event : Event) (earlier : List Event) →
    length (moved (event ∷ earlier)) ≡ length (moved earlier) + length (last_moved (event ∷ earlier))
brings (Moves bytes) earlier = length-append (moved earlier) bytes
brings Waits earlier = omega arith
brings Ends earlier = omega arith
brings Fails earlier = omega arith

-- how many bytes have come by a call that pulls at most once
came_by : (before after : Inflow) (event : Event) → after.events ≡ event ∷ before.events →
    length (moved after.events) ≡ length (moved before.events) + length (last_moved after.events)
came_by before after event is =
    ap (λ (events : List Event). length (moved events)) is ∙ (brings event before.events
    ∙ ap (λ (events : List Event). length (moved before.events) + length (last_moved events)) (sym is))

came_at_most : (bound : ℕ) (before after : Scene) (takes : Takes before after) → PullsOnce before.streams.input after.streams.input →
    (after.streams.input ≡ before.streams.input) ⊎ (length (last_moved after.streams.input.events) ≤ bound) → length takes.taken.came ≤ bound
came_at_most bound before after takes once few =
    let long : length (moved after.streams.input.events) ≡ length (moved before.streams.input.events) + length takes.taken.came =
    ap (λ (bytes : List ℕ). length bytes) takes.taken.pulled ∙ length-append (moved before.streams.input.events) takes.taken.came in
    let same : after.streams.input ≡ before.streams.input → length (moved after.streams.input.events) ≡ length (moved before.streams.input.events) =
    λ is. ap (λ (input : Inflow). length (moved input.events)) is in
    elim once [
      | inl none ↦ let none_came = same none in omega (arith, long, none_came)
      | inr pull ↦ elim few [
        | inl none ↦ let none_came = same none in omega (arith, long, none_came)
        | inr less ↦ let came = came_by before.streams.input after.streams.input pull.0 pull.1 in omega (arith, long, came, less)
      ]
    ]

pub returns : goal.returns
returns c = record {
  may = λ most before after takes pulls few. came_at_most (max most 1) before after takes pulls.once few;
  asks = λ before after takes pulls. came_at_most PULL_BYTES before after takes pulls.once
      (elim pulls.once [ inl none ↦ inl none | inr pull ↦ inr pull.2 ]);
}
