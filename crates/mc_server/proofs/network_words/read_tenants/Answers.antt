use Rattle.std.proofs.Common.{◌≡◌, ℕ, zero, suc, ◌<◌, ◌≤◌, List, [], ◌∷◌, inr, refl, map, take, get_or, sym, subst, Bor, length, Some, arith}
use Rattle.std.proofs.lemmas.List.{take_all, take_more}
use Rattle.std.specs.List.{AllZip, slice_get}
use Rattle.mc_server.specs.TenantWord.{IsOnly, TenantAsked, asked_of}
use Rattle.mc_server.proofs.TenantLists.{none_say, one_more}
use Rattle.mc_server.proofs.network_words.read_tenants.Goals as goal

-- the text of a word, by its place
text_at : (words : List (Bor (List ℕ))) (place : ℕ) (some : Bor (List ℕ)) → place < length words → slice_get (map (λ word. word.now) words) place ≡ Some (get_or words place some).now
text_at [] place some low = absurd (omega arith)
text_at (x ∷ xs) zero some low = refl
text_at (x ∷ xs) (suc n) some low = text_at xs n some (omega arith)

pub returns-in-None : goal.returns-in-None
returns-in-None c =
    record { outcome = inr (refl, λ others says. none_say _ others c.loop-word.word-index _ (text_at _ c.loop-word.word-index _ c.loop-word-test.true) c.in-None.ensures.only says) }

pub loop-word-preserved : goal.loop-word-preserved
loop-word-preserved c =
    let more = take_more c.args.words.now c.loop-word.word-index _ c.loop-word-test.true in
    let only : IsOnly _ (asked_of c.in-Some.tenant) = record { says = c.in-Some.ensures.says; only = λ other says. sym (c.in-Some.ensures.only other says) } in
    let pushed = one_more (λ (word : Bor (List ℕ)). word.now) asked_of _ _ c.loop-word.tenants.items _ c.in-Some.tenant c.loop-word.invariant only more in
    rw c.in_ok-push-in-Some.ensures.items pushed

-- all words were read
all_read : (words : List (Bor (List ℕ))) (tenants : List TenantAsked) (count : ℕ) → length words ≤ count → AllZip IsOnly (map (λ word. word.now) (take count words)) tenants
    → AllZip IsOnly (map (λ word. word.now) words) tenants
all_read words tenants count all h = let P : List (Bor (List ℕ)) → Type 0 = λ ws. AllZip IsOnly (map (λ word. word.now) ws) tenants in subst P (take_all count words all) h

pub returns : goal.returns
returns c = record { outcome = all_read _ _ _ c.loop-word-test.false c.loop-word.invariant }
