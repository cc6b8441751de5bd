use Rattle.std.proofs.Common.{◌≡◌, ◌+◌, ◌≤◌, ◌<◌, flat_map, get_or, length, take, vec_capacity, vec_len, ap, ◌∙◌, arith, length-append, rules}
use Rattle.std.proofs.lemmas.List.Folds.{length-flat_map-take}
use Rattle.mc_model.specs.Joined.{fragment_bytes}
use Rattle.mc_model.proofs.fragments.write_pieces.Goals as goal

pub returns-in_err-extend_from_slice-in-Many-clause-room : goal.returns-in_err-extend_from_slice-in-Many-clause-room
returns-in_err-extend_from_slice-in-Many-clause-room c = λ room.
    let items = c.in-Many.many.value.items in
    let place = c.loop-place.place in
    let here = c.index.result.now in
    let before = c.loop-place.out in
    let inside : place < length items = search rules in
    let is : here ≡ get_or items place here = search rules in
    let step = length-flat_map-take fragment_bytes items place here inside in
    let bytes : c.as_bytes-in-loop-place.result.now ≡ fragment_bytes (get_or items place here) = c.as_bytes-in-loop-place.ensures ∙ ap fragment_bytes is in
    let texts = flat_map fragment_bytes (take place items) in
    let so_far : length before.items ≡ length c.args.out.now.items + length texts = ap length c.loop-place.invariant.0 ∙ length-append c.args.out.now.items texts in
    let all : vec_len c.args.out.now + length (flat_map fragment_bytes items) ≤ vec_capacity c.args.out.now = search rules in
    let full : vec_capacity before < vec_len before + length c.as_bytes-in-loop-place.result.now = c.in_err-extend_from_slice-in-Many.ensures.full in
    absurd (omega (arith, step, so_far, all, full, ap length bytes, before.ok.0, c.args.out.now.ok.0, c.loop-place.invariant.1))
