use Rattle.std.proofs.Common.{◌≡◌, ◌≢◌, ◌++◌, ◌+◌, ◌<◌, ◌∙◌, drop, flat_map, get_or, length, refl, sym, ap, rules, suc, ◌∷◌, arith, subst}
use Rattle.std.proofs.Math.Seq.{drop-cons}
use Rattle.std.proofs.lemmas.List.Concat.{flat_map-cons}
use Rattle.mc_model.specs.Joined.{fragment_bytes, fragments_left, unread_bytes}
use Rattle.mc_model.proofs.Pieces.{Halfway, nothing_read, all_read, others_differ, rest_differs, fragment_read}
use Rattle.mc_model.proofs.unread.Unread.reads.Goals as goal

pub loop-place-init : goal.loop-place-init
loop-place-init c = (nothing_read _ _, refl, refl)

pub returns-then-wanted-self-clause-read : goal.returns-then-wanted-self-clause-read
returns-then-wanted-self-clause-read c = λ yes. all_read c.loop-place.invariant.0 _ (c.reads_here-then-wanted-self.ensures.read yes)

pub returns-then-wanted-self-clause-others : goal.returns-then-wanted-self-clause-others
returns-then-wanted-self-clause-others c = λ no. others_differ c.loop-place.invariant.0 (c.reads_here-then-wanted-self.ensures.others no)

pub returns-then-ne-clause-others : goal.returns-then-ne-clause-others
returns-then-ne-clause-others c = λ _.
    let rest = c.loop-place.self.rest.now in let front = c.split_at.result.0.now in let back = c.split_at.result.1.now in
    let parts : c.loop-place.wanted.now ≡ front ++ back = search rules in
    let long : length front ≡ length rest = search rules in
    let differ : front ≢ rest = search rules in
    others_differ c.loop-place.invariant.0 (rest_differs rest front back (flat_map fragment_bytes (fragments_left c.loop-place.self)) c.loop-place.wanted.now parts long differ)

pub loop-place-preserved : goal.loop-place-preserved
loop-place-preserved c =
    let rest = c.loop-place.self.rest.now in let front = c.split_at.result.0.now in let back = c.split_at.result.1.now in
    let items = c.in-Some.list.now.items in
    let place = c.loop-place.place in
    let here = c.index.result.now in
    let parts : c.loop-place.wanted.now ≡ front ++ back = search rules in
    let same : front ≡ rest = search rules in
    let inside : place < length items = search rules in
    let is : here ≡ get_or items place here = search rules in
    let bytes : c.as_bytes-self.result.now ≡ fragment_bytes (get_or items place here) = c.as_bytes-self.ensures ∙ ap fragment_bytes is in
    let left : fragments_left c.loop-place.self ≡ drop place items = search rules in
    let next = drop (place + 1) items in
    let one : suc place ≡ place + 1 = omega arith in
    let cut : drop place items ≡ get_or items place here ∷ next = drop-cons items place here inside ∙ ap (λ n. get_or items place here ∷ drop n items) one in
    let more = ap (flat_map fragment_bytes) (left ∙ cut) ∙ flat_map-cons fragment_bytes (get_or items place here) next ∙ ap (λ xs. xs ++ flat_map fragment_bytes next) (sym bytes) in
    let listed : unread_bytes (record { rest = c.as_bytes-self.result; list = c.loop-place.self.list; next = place + 1 }) ≡ c.as_bytes-self.result.now ++ flat_map fragment_bytes next = search rules in
    let read = fragment_read rest (flat_map fragment_bytes (fragments_left c.loop-place.self)) front back c.as_bytes-self.result.now (flat_map fragment_bytes next) c.loop-place.invariant.0 parts same more in
    (subst (λ left. Halfway c.args.bytes.now back (unread_bytes c.args.self.now) left) (sym listed) read, refl, c.loop-place.invariant.2)

pub returns-clause-read : goal.returns-clause-read
returns-clause-read c = λ yes. all_read c.loop-place.invariant.0 _ (c.reads_here-2.ensures.read yes)

pub returns-clause-others : goal.returns-clause-others
returns-clause-others c = λ no. others_differ c.loop-place.invariant.0 (c.reads_here-2.ensures.others no)
