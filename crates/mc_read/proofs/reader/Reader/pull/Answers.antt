use Rattle.std.proofs.Common.{◌≡◌, ◌+◌, ◌-◌, ◌^◌, length, min, sym, ◌∙◌, ap, subst, rules}
use Rattle.mc_read.specs.Administering.{lines_spoken}
use Rattle.mc_read.specs.Pulling.{IsFedByPull}
use Rattle.mc_read.specs.Reading.{IsFed, ReaderView, raised}
use Rattle.mc_read.specs.State.{held_in, searched_in}
use Rattle.mc_stream.specs.Stream.{pulled_by}
use Rattle.mc_read.proofs.Feeding.{reader_feeds}
use Rattle.mc_read.proofs.Pullings.{came}
use Rattle.mc_read.proofs.reader.Reader.pull.Goals as goal

pub invariant_of-self-in-Bytes : goal.invariant_of-self-in-Bytes
invariant_of-self-in-Bytes g c =
    let lines = lines_spoken c.self.inside.speaker in
    let pulls = c.in_ok-pull.ensures.pulls in
    let piece = pulled_by c.in_ok-pull.pull pulls.memory in
    let count : length piece ≡ c.in-Bytes.count = came _ _ c.in_ok-pull.pull pulls.memory c.in-Bytes.count c.in-Bytes.is pulls.is in
    let counts : c.saturating_add-self-inside.result ≡ raised c.self.inside.fed (length piece) = c.saturating_add-self-inside.ensures ∙ ap (λ n. min (c.self.inside.fed + n) (2 ^ 64 - 1)) (sym count) in
    reader_feeds lines c.self.inside.state c.self.inside.buffer c.self.inside.fed c.self.inside.scanned c.self.invariant piece c.drop_unread.new.state c.drop_unread.new.buffer c.saturating_add-self-inside.result (search rules)
    (c.drop_unread.ensures.feeds lines c.self.inside.buffer piece c.self.invariant.stands pulls.bytes) counts

pub returns-in-Bytes-clause-pulls : goal.returns-in-Bytes-clause-pulls
returns-in-Bytes-clause-pulls g c =
    let lines = lines_spoken c.self.inside.speaker in
    let pulls = c.in_ok-pull.ensures.pulls in
    let piece = pulled_by c.in_ok-pull.pull pulls.memory in
    let count : length piece ≡ c.in-Bytes.count = came _ _ c.in_ok-pull.pull pulls.memory c.in-Bytes.count c.in-Bytes.is pulls.is in
    let counts : c.saturating_add-self-inside.result ≡ raised c.self.inside.fed (length piece) = c.saturating_add-self-inside.ensures ∙ ap (λ n. min (c.self.inside.fed + n) (2 ^ 64 - 1)) (sym count) in
    let feeds = c.drop_unread.ensures.feeds lines c.self.inside.buffer piece c.self.invariant.stands pulls.bytes in
    let after = held_in c.drop_unread.new.state c.drop_unread.new.buffer in
    let new : ReaderView = record { speaker = c.self.inside.speaker; held = after; fed = c.saturating_add-self-inside.result; scanned = c.self.inside.scanned; searched = searched_in c.drop_unread.new.state } in
    subst (λ pull. IsFedByPull (g.I.Input.tells c.args.input.now) (g.I.Input.tells c.pull.new.input) c.args.most c.args.self.now new pull) c.in-Bytes.is (record {
      memory = pulls.memory;
      is = pulls.is;
      few = pulls.few;
      readings = subst (λ s. IsFed (lines_spoken s) c.args.self.now.held piece after) (ap (λ view. view.speaker) c.self.view_is)
          (subst (λ h. IsFed lines h piece after) (ap (λ view. view.held) c.self.view_is) feeds.readings);
      fed = counts ∙ ap (λ view. raised view.fed (length piece)) c.self.view_is;
    })
