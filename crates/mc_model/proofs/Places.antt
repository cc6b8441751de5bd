-- Bytes as one big-endian number: such numbers are ordered as their bytes are.
use Rattle.std.proofs.Common.{◌≡◌, ℕ, zero, suc, ◌+◌, ◌*◌, ◌<◌, ◌≤◌, List, [], ◌∷◌, length, get_or, take, drop, drop-drop, length-drop, refl, sym, subst, ap, ◌∙◌, arith}
use Rattle.std.proofs.Math.Seq.{drop-cons, get_or-drop}
use Rattle.std.specs.declared.cmp.Ordering.{Ordering}
use Rattle.std.specs.declared.cmp.Ordering.TheVariants.{Less, Equal, Greater}
use Rattle.std.specs.Cmp.{ranks, nat_cmp_is}
use Rattle.std.specs.Cmp.Lexicographic.{slice_cmp}
use Rattle.std.specs.Ordering.{nat_cmp, ordering_then, MatchOrdering}
use Rattle.std.specs.Slice.Scan.{big_endian}

abbrev AreBytes : List ℕ → Type 0
AreBytes bytes = (k : ℕ) → get_or bytes k 0 < 256

-- what is greater stays so, whatever bytes come after
big_endian-lt : (n a b : ℕ) (xs ys : List ℕ) → n ≤ length xs → n ≤ length ys → AreBytes xs → a < b → big_endian a (take n xs) < big_endian b (take n ys)
big_endian-lt zero a b xs ys p q bytes less = less
big_endian-lt (suc n) a b [] ys p q bytes less = absurd (omega arith)
big_endian-lt (suc n) a b (x ∷ xs) [] p q bytes less = absurd (omega arith)
big_endian-lt (suc n) a b (x ∷ xs) (y ∷ ys) p q bytes less =
    let small : x < 256 = bytes 0 in
    big_endian-lt n (a * 256 + x) (b * 256 + y) xs ys (omega arith) (omega arith) (λ k. bytes (suc k)) (omega arith)

-- the first n bytes decide as numbers, and if these are equal, what comes after
pub slice_cmp-by_front : (n a : ℕ) (xs ys : List ℕ) → n ≤ length xs → n ≤ length ys → AreBytes xs → AreBytes ys
    → slice_cmp nat_cmp xs ys ≡ ordering_then (nat_cmp (big_endian a (take n xs)) (big_endian a (take n ys))) (slice_cmp nat_cmp (drop n xs) (drop n ys))
slice_cmp-by_front zero a xs ys p q xbytes ybytes = ap (λ o. ordering_then o (slice_cmp nat_cmp xs ys)) (nat_cmp_is a a Equal refl)
slice_cmp-by_front (suc n) a [] ys p q xbytes ybytes = absurd (omega arith)
slice_cmp-by_front (suc n) a (x ∷ xs) [] p q xbytes ybytes = absurd (omega arith)
slice_cmp-by_front (suc n) a (x ∷ xs) (y ∷ ys) p q xbytes ybytes =
    by (nat_cmp x y) (ranks x y) (slice_cmp-by_front n (a * 256 + x) xs ys (omega arith) (omega arith) (λ k. xbytes (suc k)) (λ k. ybytes (suc k)))
  where
    by : (o : Ordering) → MatchOrdering o (x < y) (x ≡ y) (y < x)
        → slice_cmp nat_cmp xs ys ≡ ordering_then (nat_cmp (big_endian (a * 256 + x) (take n xs)) (big_endian (a * 256 + x) (take n ys))) (slice_cmp nat_cmp (drop n xs) (drop n ys))
        → ordering_then o (slice_cmp nat_cmp xs ys) ≡ ordering_then (nat_cmp (big_endian (a * 256 + x) (take n xs)) (big_endian (a * 256 + y) (take n ys))) (slice_cmp nat_cmp (drop n xs) (drop n ys))
    by Less h rest =
        let less : x < y = h in
        ap (λ o. ordering_then o (slice_cmp nat_cmp (drop n xs) (drop n ys)))
        (nat_cmp_is _ _ Less (big_endian-lt n (a * 256 + x) (a * 256 + y) xs ys (omega arith) (omega arith) (λ k. xbytes (suc k)) (omega arith)))
    by Equal h rest =
        subst (λ z. slice_cmp nat_cmp xs ys ≡ ordering_then (nat_cmp (big_endian (a * 256 + x) (take n xs)) (big_endian (a * 256 + z) (take n ys))) (slice_cmp nat_cmp (drop n xs) (drop n ys))) h rest
    by Greater h rest =
        let greater : y < x = h in
        ap (λ o. ordering_then o (slice_cmp nat_cmp (drop n xs) (drop n ys)))
        (nat_cmp_is _ _ Greater (big_endian-lt n (a * 256 + y) (a * 256 + x) ys xs (omega arith) (omega arith) (λ k. ybytes (suc k)) (omega arith)))

-- numbers that differ decide, whatever comes after
pub differing-decide : (x y : ℕ) (behind : Ordering) → (x ≡ y → ⊥) → ordering_then (nat_cmp x y) behind ≡ nat_cmp x y
differing-decide x y behind apart = by (nat_cmp x y) (ranks x y)
  where
    by : (o : Ordering) → MatchOrdering o (x < y) (x ≡ y) (y < x) → ordering_then o behind ≡ o
    by Less h = refl
    by Equal h = absurd (apart h)
    by Greater h = refl

-- equal numbers leave the decision to what comes after
pub equal-leave : (x y : ℕ) (behind : Ordering) → x ≡ y → ordering_then (nat_cmp x y) behind ≡ behind
equal-leave x y behind same = sym (ap (λ o. ordering_then o behind) (nat_cmp_is x y Equal same))

-- if the bytes before this place decide nothing, the next n do as numbers, and if these are equal,
-- what comes after
pub slice_cmp-onward : (n at x y : ℕ) (xs ys : List ℕ) → at + n ≤ length xs → at + n ≤ length ys → AreBytes xs → AreBytes ys
    → slice_cmp nat_cmp xs ys ≡ slice_cmp nat_cmp (drop at xs) (drop at ys)
    → x ≡ big_endian 0 (take n (drop at xs)) → y ≡ big_endian 0 (take n (drop at ys))
    → slice_cmp nat_cmp xs ys ≡ ordering_then (nat_cmp x y) (slice_cmp nat_cmp (drop (at + n) xs) (drop (at + n) ys))
slice_cmp-onward n at x y xs ys p q xbytes ybytes so_far xis yis =
    let bytes = λ (zs : List ℕ) (are : AreBytes zs) (k : ℕ). subst (λ byte. byte < 256) (sym (get_or-drop at zs k 0)) (are (at + k)) in
    let front = slice_cmp-by_front n 0 (drop at xs) (drop at ys) (omega (arith, length-drop at xs)) (omega (arith, length-drop at ys)) (bytes xs xbytes) (bytes ys ybytes) in
    so_far ∙ rw (xis, yis, ← drop-drop n at xs, ← drop-drop n at ys) front

-- n bytes from this place on, as they are read one by one
abbrev bytes_at : List ℕ → ℕ → ℕ → ℕ → List ℕ
bytes_at bytes at past zero = []
bytes_at bytes at past (suc n) = get_or bytes (at + past) 0 ∷ bytes_at bytes at (suc past) n

take-bytes_at : (n : ℕ) (bytes : List ℕ) (at past : ℕ) → at + past + n ≤ length bytes → take n (drop (at + past) bytes) ≡ bytes_at bytes at past n
take-bytes_at zero bytes at past fits = refl
take-bytes_at (suc n) bytes at past fits =
    let next : suc (at + past) ≡ at + suc past = omega arith in
    ap (take (suc n)) (drop-cons bytes (at + past) 0 (omega arith))
    ∙ ap (λ rest. get_or bytes (at + past) 0 ∷ rest) (ap (λ k. take n (drop k bytes)) next ∙ take-bytes_at n bytes at (suc past) (omega arith))

pub eight_spell : (bytes : List ℕ) (at : ℕ) → at + 8 ≤ length bytes
    → get_or bytes at 0 * 72057594037927936 + get_or bytes (at + 1) 0 * 281474976710656 + get_or bytes (at + 2) 0 * 1099511627776 + get_or bytes (at + 3) 0 * 4294967296
    + get_or bytes (at + 4) 0 * 16777216 + get_or bytes (at + 5) 0 * 65536 + get_or bytes (at + 6) 0 * 256 + get_or bytes (at + 7) 0 ≡ big_endian 0 (take 8 (drop at bytes))
eight_spell bytes at fits =
    let here : at ≡ at + 0 = omega arith in
    let first : get_or bytes (at + 0) 0 ≡ get_or bytes at 0 = ap (λ k. get_or bytes k 0) (omega arith) in
    omega (arith, first) ∙ sym (ap (big_endian 0) (ap (λ k. take 8 (drop k bytes)) here ∙ take-bytes_at 8 bytes at 0 (omega arith)))
