use Rattle.std.proofs.Common.{vec_capacity, vec_len, ◌≡◌, ◌+◌, length, take, flat_map, ap, ◌∙◌, arith, length-append}
use Rattle.mc_write.specs.Text.{value_text}
use Rattle.mc_write.proofs.Beginnings.{StartsWith-shorter}
use Rattle.mc_write.proofs.Rooms.{room_for_item}
use Rattle.mc_write.proofs.append_values.Goals as goal

pub returns-in_err-append_value-clause-begun : goal.returns-in_err-append_value-clause-begun
returns-in_err-append_value-clause-begun c = StartsWith-shorter _ _ _ _ c.append_value.ensures.begun c.loop-value.invariant.text

pub returns-in_err-append_value-clause-room : goal.returns-in_err-append_value-clause-room
returns-in_err-append_value-clause-room c = λ room.
    let before = c.loop-value.out in
    let enough = room_for_item c.args.values.now c.loop-value.value-index c.value-item.result c.loop-value-test.true c.value-item.is (vec_len c.args.out.now) (vec_capacity c.args.out.now) room in
    let texts = flat_map value_text (take c.loop-value.value-index c.args.values.now) in
    let here : length before.items ≡ length c.args.out.now.items + length texts = ap length c.loop-value.invariant.text ∙ length-append c.args.out.now.items texts in
    let failed = c.in_err-append_value.ensures.room (omega (arith, enough, here, before.ok.0, c.args.out.now.ok.0, c.loop-value.invariant.capacity)) in
    absurd (cc)
