use Rattle.std.proofs.Common.{◌++◌, length, length-take, take, ◌∙◌, ap, arith}
use Rattle.mc_read.proofs.Parts.{moved_front, room_left}
use Rattle.mc_read.proofs.source.Source.move_to.Goals as goal

pub returns-clause-same : goal.returns-clause-same
returns-clause-same c =
    let body = c.args.body.now.items in
    let rest = c.self.inside.rest in
    let piece = c.self.inside.piece in
    let some = c.min-count.result in
    let more = c.min-count-2.result in
    let first = c.in_ok-extend_from_slice.ensures.items ∙ ap (λ bytes. body ++ take some bytes) c.as_slice-rest.ensures in
    let items = c.in_ok-extend_from_slice-2.ensures.items ∙ (λ i. first i ++ take more (c.as_slice.ensures i)) in
    (λ i. items i ++ (c.advance.ensures i ++ c.advance_piece.ensures i))
    ∙ (moved_front body rest piece some more (room_left (length body) (length rest) (length piece) c.args.most some more (omega (arith, c.requires, c.args.body.now.ok.0))
    (omega (arith, c.min-count.ensures, ap length c.as_slice-rest.ensures, c.len.ensures, c.args.body.now.ok.0))
    (omega (arith, c.min-count-2.ensures, c.len-2.ensures.value, c.len-3.ensures, c.in_ok-extend_from_slice.ensures.len, c.min-count.ensures, ap length c.as_slice-rest.ensures, c.len.ensures, c.args.body.now.ok.0, length-take some c.as_slice-rest.result.now))) ∙ ap (λ bytes. body ++ bytes) c.self.view_is)
