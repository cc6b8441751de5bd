use Rattle.std.proofs.Common.{◌≡◌, ◌≤◌, ◌<◌, length, get_or, ap, ◌∙◌, arith, rules}
use Rattle.std.specs.Prelude.{flat_map}
use Rattle.std.proofs.lemmas.List.Folds.{length-flat_map-take}
use Rattle.mc_model.specs.Joined.{fragment_bytes}
use Rattle.mc_model.proofs.fragments.gather.Goals as goal

pub put_at-at-requires : goal.put_at-at-requires
put_at-at-requires c =
    let items = c.in-Many.many.value.items in
    let place = c.loop-place.place in
    let here = c.index.result.now in
    let inside : place < length items = search rules in
    let is : here ≡ get_or items place here = search rules in
    let all : length (flat_map fragment_bytes items) ≤ 20 = search rules in
    let step = length-flat_map-take fragment_bytes items place here inside in
    let bytes : c.as_bytes-in-loop-place.result.now ≡ fragment_bytes (get_or items place here) = c.as_bytes-in-loop-place.ensures ∙ ap fragment_bytes is in
    omega (arith, step, all, c.loop-place.invariant.1, ap length bytes)
