use Rattle.std.proofs.Common.{◌≡◌, ◌∙◌, ◌+◌, ◌++◌, take, drop, length, sym, ap, arith}
use Rattle.std.proofs.lemmas.List.{append_assoc, length-append, take_at}
use Rattle.mc_read.proofs.buffer.write_over.Goals as goal

pub returns-clause-written : goal.returns-clause-written
returns-clause-written c =
    let front = c.split_at_mut-behind.result.0.now in
    let written = c.copy_from_slice.new.self in
    let piece : written ≡ c.args.piece.now = c.copy_from_slice.ensures.after in
    let end = c.args.start + length c.args.piece.now in
    let rest = drop (length c.args.piece.now) c.split_at_mut-behind.result.1.now in
    ap (take end) (sym (append_assoc front written rest))
    ∙ take_at (front ++ written) rest end (omega (arith, length-append front written, c.split_at_mut-behind.ensures.front_len, ap length piece))
    ∙ ap (λ b. b ++ written) c.split_at_mut-behind.ensures.front
    ∙ ap (λ b. take c.args.start c.args.bytes.now ++ b) piece
