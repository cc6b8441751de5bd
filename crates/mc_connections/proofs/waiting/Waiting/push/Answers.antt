use Rattle.std.proofs.Common.{◌≡◌, ◌∙◌, true, ◌<◌, OnOk, Some, arith, inl, length, rules}
use Rattle.std.proofs.lemmas.Option.{get_or_from_slice_get}
use Rattle.fair_queue.specs.Turns.{IsPushed}
use Rattle.lists.proofs.Public.{set_here}
use Rattle.mc_connections.specs.Waiting.{WaitsInLine, flow_of}
use Rattle.mc_connections.proofs.Turning.{on_ok}
use Rattle.mc_connections.proofs.waiting.Waiting.push.Goals as goal

pub returns-clause-waits : goal.returns-clause-waits
returns-clause-waits c =
    let inside : c.args.next.key < length c.args.self.now.waits.items = omega (arith, c.in-Some.ensures.variant.0 (λ i. true), c.args.self.now.waits.ok.0) in
    let pushed : OnOk c.push.result (IsPushed (flow_of (length c.args.self.now.queue.flows) c.args.tenant) c.args.next.key c.args.self.now.queue c.push.new.self) = search rules in
    let out : ¬ (WaitsInLine c.args.self.now c.args.next.key) = λ waited.
    let is : c.in-Some.waits.now ≡ Some waited.0 = c.in-Some.ensures.value ∙ get_or_from_slice_get c.args.self.now.waits.items c.args.next.key (Some waited.0) c.in-Some.waits.now waited.1 in
    c.in_default-waits.not-Some waited.0 is in
    on_ok c.push.result pushed (λ pushed. inl (out, (c.args.next.stops_short, set_here c.args.self.now.waits.items c.args.next.key (Some c.args.next.stops_short) inside), pushed))
