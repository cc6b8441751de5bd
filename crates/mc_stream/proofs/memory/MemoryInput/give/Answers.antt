use Rattle.std.proofs.Common.{◌≡◌, take, drop, length, ◌∙◌, arith}
use Rattle.std.proofs.lemmas.List.{length-take-le, take_rest}
use Rattle.mc_stream.proofs.Pieces.{left_less}
use Rattle.mc_stream.proofs.memory.MemoryInput.give.Goals as goal

pub returns-clause-rest : goal.returns-clause-rest
returns-clause-rest c =
    let bytes = c.self.inside.bytes.items in
    let piece : c.copy_from_slice.new.self ≡ take c.min-count.result (drop c.self.inside.given bytes) = simp (take_rest, c.deref.ensures.value) at c.copy_from_slice.ensures.after in
    let long : length c.copy_from_slice.new.self ≡ c.min-count.result = c.copy_from_slice.ensures.len ∙ length-take-le _ _ (omega arith) in
    rw (← c.self.view_is) (left_less bytes c.args.buffer.now c.copy_from_slice.new.self c.self.inside.given c.min-count.result long piece)
