use Rattle.std.proofs.Common.{◌≡◌, ◌+◌, ◌<◌, ◌≤◌, ◌++◌, ◌∙◌, List, ℕ, drop, flat_map, get_or, length, take, ap, rules}
use Rattle.std.proofs.lemmas.List.{take_all}
use Rattle.mc_model.specs.Joined.{fragment_bytes, joined_pieces, unread_bytes}
use Rattle.mc_model.proofs.Pieces.{flat_map-at, part_differs, seen_other, seen_same}
use Rattle.mc_model.proofs.fragments.are_same.Goals as goal

pub returns-then-not-reads : goal.returns-then-not-reads
returns-then-not-reads c =
    let left = joined_pieces c.args.left.now in let right = joined_pieces c.args.right.now in
    let items = c.in-Many.many.value.items in
    let place = c.loop-place.place in
    let here = c.index.result.now in
    let inside : place < length items = search rules in
    let is : here ≡ get_or items place here = search rules in
    let bytes : c.as_bytes-in-loop-place.result.now ≡ fragment_bytes (get_or items place here) = c.as_bytes-in-loop-place.ensures ∙ ap fragment_bytes is in
    let all : flat_map fragment_bytes items ≡ left = search rules in
    let later = flat_map fragment_bytes (drop (place + 1) items) in
    let so_far = flat_map fragment_bytes (take place items) in
    let parts : so_far ++ (c.as_bytes-in-loop-place.result.now ++ later) ≡ left = ap (λ (xs : List ℕ). so_far ++ (xs ++ later)) bytes ∙ flat_map-at fragment_bytes items place here inside ∙ all in
    seen_other left right (part_differs left right so_far c.as_bytes-in-loop-place.result.now later (unread_bytes c.loop-place.rest) parts c.loop-place.invariant (c.reads.ensures.others c.if-not-reads.true))

pub returns-after-loop-place : goal.returns-after-loop-place
returns-after-loop-place c =
    let left = joined_pieces c.args.left.now in let right = joined_pieces c.args.right.now in
    let items = c.in-Many.many.value.items in
    let past : length items ≤ c.loop-place.place = search rules in
    let all : flat_map fragment_bytes items ≡ left = search rules in
    let so_far : flat_map fragment_bytes (take c.loop-place.place items) ≡ left = ap (flat_map fragment_bytes) (take_all _ _ past) ∙ all in
    seen_same left right (unread_bytes c.loop-place.rest) c.requires (c.loop-place.invariant ∙ ap (λ xs. xs ++ unread_bytes c.loop-place.rest) so_far)
