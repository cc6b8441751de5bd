-- What a pull adds to the bytes that a reader holds.
use Rattle.std.proofs.Common.{◌≡◌, ℕ, ◌+◌, ◌≤◌, List, ◌++◌, length, take, sym, ◌∙◌, ap, subst}
use Rattle.std.proofs.lemmas.List.{length-take-le, take-append-le}
use Rattle.std.proofs.Math.Seq.{take-append-add}
use Rattle.mc_stream.specs.Stream.{GivesAtMost, Inflow, IsPull, pulled_by}
use Rattle.mc_stream.specs.declared.stream.Pull.{Pull}
use Rattle.mc_stream.specs.declared.stream.Pull.TheVariants.{Bytes}
use Rattle.mc_read.specs.Pulling.{PullsBehind}

-- of memory behind other bytes, what was given stands behind these
behind_front : (front memory back : List ℕ) (start count : ℕ) → length front ≡ start → count ≤ length memory → take (start + count) (front ++ (memory ++ back)) ≡ front ++ take count memory
behind_front front memory back start count at within =
    ap (λ n. take (n + count) (front ++ (memory ++ back))) (sym at)
    ∙ (take-append-add front (memory ++ back) count ∙ ap (λ bytes. front ++ bytes) (take-append-le count memory back within))

pub pulls_behind : (before after : Inflow) (pull : Pull) (old front memory back : List ℕ) (most start count : ℕ) → IsPull before after pull memory → length memory ≤ most → old ≡ front → length front ≡ start → count ≤ length memory → pulled_by pull memory ≡ take count memory
    → PullsBehind before after most old (take (start + count) (front ++ (memory ++ back))) pull
pulls_behind before after pull old front memory back most start count is few same at within gives = record {
  memory = memory;
  is = is;
  few = few;
  bytes = behind_front front memory back start count at within ∙ (ap (λ bytes. bytes ++ take count memory) (sym same) ∙ ap (λ bytes. old ++ bytes) (sym gives));
}

-- as many bytes came as were given
pub came : (before after : Inflow) (pull : Pull) (memory : List ℕ) (count : ℕ) → pull ≡ Bytes count → IsPull before after pull memory → length (pulled_by pull memory) ≡ count
came before after pull memory count gives is =
    let most : GivesAtMost (length memory) (Bytes count) = subst (λ p. GivesAtMost (length memory) p) gives is.count in
    ap (λ p. length (pulled_by p memory)) gives ∙ length-take-le count memory most.1
