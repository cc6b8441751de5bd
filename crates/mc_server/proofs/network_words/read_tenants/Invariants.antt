use Rattle.std.proofs.Common.{map, take}
use Rattle.std.specs.List.{AllZip}
use Rattle.mc_server.specs.TenantWord.{IsOnly, asked_of}
use Rattle.mc_server.proofs.network_words.read_tenants.Given as goal

abbrev pub invariant-loop-word : goal.invariant-loop-word
invariant-loop-word l = AllZip IsOnly (map (λ word. word.now) (take l.word-index l.words)) (map asked_of l.tenants.items)
