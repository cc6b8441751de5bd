use Rattle.std.proofs.Common.{◌≡◌, ◌++◌, ◌∙◌, flat_map, length, sym, rules}
use Rattle.std.proofs.lemmas.Bool.Decides.{not_from_Decides}
use Rattle.std.specs.Cmp.Lexicographic.{same_text, bytes_decides}
use Rattle.mc_model.specs.Joined.{fragment_bytes, fragments_left}
use Rattle.mc_model.proofs.Pieces.{front_read, front_differs}
use Rattle.mc_model.proofs.unread.Unread.reads_here.Goals as goal

pub returns-clause-read : goal.returns-clause-read
returns-clause-read c = λ yes.
    let rest = c.args.self.now.rest.now in let front = c.split_at.result.0.now in let back = c.split_at.result.1.now in
    let parts : rest ≡ front ++ back = search rules in
    front_read rest front back (flat_map fragment_bytes (fragments_left c.args.self.now)) c.args.bytes.now parts (same_text _ _ (sym yes ∙ c.eq.ensures))

pub returns-clause-others : goal.returns-clause-others
returns-clause-others c = λ no.
    let rest = c.args.self.now.rest.now in let front = c.split_at.result.0.now in let back = c.split_at.result.1.now in
    let parts : rest ≡ front ++ back = search rules in
    let long : length front ≡ length c.args.bytes.now = search rules in
    front_differs rest front back (flat_map fragment_bytes (fragments_left c.args.self.now)) c.args.bytes.now parts long (not_from_Decides _ (bytes_decides front c.args.bytes.now) (sym c.eq.ensures ∙ no))
