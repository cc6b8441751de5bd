use Rattle.std.proofs.Common.{◌≡◌, flat_map, string_bytes, take}
use Rattle.mc_server.specs.NetworkTexts.{listening_line}
use Rattle.mc_server.proofs.network_texts.ready_text.Given as goal

abbrev pub invariant-loop-one : goal.invariant-loop-one
invariant-loop-one l = string_bytes l.text ≡ flat_map (λ one. listening_line one.name.now one.address) (take l.one-index l.listening)
