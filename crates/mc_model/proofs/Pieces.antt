-- Bytes read from the front of others: what is left, and what a wrong byte shows.
use Rattle.std.proofs.Common.{◌≡◌, ◌≢◌, ◌+◌, ◌<◌, List, ℕ, suc, Bool, true, false, nat_eq, [], ◌∷◌, ◌++◌, length, take, drop, get_or, flat_map, refl, sym, ap, ◌∙◌, arith, length-append, append_assoc}
use Rattle.std.proofs.Math.Seq.{drop-cons, take-append_seam, take-append-add, take-length}
use Rattle.std.proofs.lemmas.Grind.{flat_map-append}
use Rattle.std.proofs.lemmas.List.{append_cancel_left, length-take, take-append-drop}
use Rattle.std.proofs.lemmas.List.Concat.{flat_map-cons}
use Rattle.std.specs.Cmp.Lexicographic.{bytes_decides, pointwise}

-- bytes at the front of the rest of one fragment
pub front_read : (rest front back later bytes : List ℕ) → rest ≡ front ++ back → front ≡ bytes → rest ++ later ≡ bytes ++ (back ++ later)
front_read rest front back later bytes parts same = ap (λ xs. xs ++ later) (parts ∙ ap (λ xs. xs ++ back) same) ∙ append_assoc bytes back later

-- the bytes at the front are others
pub front_differs : (rest front back later bytes : List ℕ) → rest ≡ front ++ back → length front ≡ length bytes → front ≢ bytes → take (length bytes) (rest ++ later) ≢ bytes
front_differs rest front back later bytes parts long differ taken =
    let whole : rest ++ later ≡ front ++ (back ++ later) = front_read rest front back later front parts refl in
    differ (sym (ap (λ n. take n (rest ++ later)) (sym long) ∙ ap (take (length front)) whole ∙ take-append_seam front (back ++ later)) ∙ taken)

-- too few bytes are left
pub few_differ : (left bytes : List ℕ) → length left < length bytes → take (length bytes) left ≢ bytes
few_differ left bytes few taken =
    let long = length-take (length bytes) left in
    let all = ap length taken in
    absurd (omega (arith, long, all, few))

-- the same after bytes that were read
pub later_differs : (old read left bytes wanted : List ℕ) → old ≡ read ++ left → bytes ≡ read ++ wanted → take (length wanted) left ≢ wanted → take (length bytes) old ≢ bytes
later_differs old read left bytes wanted begun asked differ taken =
    let long : length bytes ≡ length read + length wanted = ap length asked ∙ length-append read wanted in
    let split : take (length bytes) old ≡ read ++ take (length wanted) left = ap (λ n. take n old) long ∙ ap (take (length read + length wanted)) begun ∙ take-append-add read left (length wanted) in
    differ (append_cancel_left read _ _ (sym split ∙ taken ∙ asked))

-- bytes of which the first were read
pub record Halfway (bytes wanted old left : List ℕ) : Type 0 where
  read : List ℕ
  asked : bytes ≡ read ++ wanted
  begun : old ≡ read ++ left

pub nothing_read : (bytes old : List ℕ) → Halfway bytes bytes old old
nothing_read bytes old = record { read = []; asked = refl; begun = refl }

-- the rest was read too
pub all_read : {bytes wanted old left : List ℕ} → Halfway bytes wanted old left → (after : List ℕ) → left ≡ wanted ++ after → old ≡ bytes ++ after
all_read h after rest =
    h.begun ∙ ap (λ xs. h.read ++ xs) rest ∙ sym (append_assoc h.read _ after) ∙ ap (λ xs. xs ++ after) (sym h.asked)

-- the rest differs
pub others_differ : {bytes wanted old left : List ℕ} → Halfway bytes wanted old left → take (length wanted) left ≢ wanted → take (length bytes) old ≢ bytes
others_differ h differ = later_differs _ h.read _ _ _ h.begun h.asked differ

-- what is wanted goes on past the rest of the fragment, and begins with other bytes
pub rest_differs : (rest front back later wanted : List ℕ) → wanted ≡ front ++ back → length front ≡ length rest → front ≢ rest → take (length wanted) (rest ++ later) ≢ wanted
rest_differs rest front back later wanted parts long differ taken =
    let whole : length wanted ≡ length rest + length back = ap length parts ∙ length-append front back ∙ ap (λ n. n + length back) long in
    let seen : rest ++ take (length back) later ≡ front ++ back = sym (ap (λ n. take n (rest ++ later)) whole ∙ take-append-add rest later (length back)) ∙ taken ∙ parts in
    let cut : rest ≡ take (length rest) (front ++ back) = sym (take-append_seam rest _) ∙ ap (take (length rest)) seen in
    differ (sym (cut ∙ ap (λ n. take n (front ++ back)) (sym long) ∙ take-append_seam front back))

-- the rest of the fragment was read, and the next one begins
pub fragment_read : {bytes wanted old : List ℕ} (rest later front back here next : List ℕ) → Halfway bytes wanted old (rest ++ later) → wanted ≡ front ++ back → front ≡ rest → later ≡ here ++ next → Halfway bytes back old (here ++ next)
fragment_read rest later front back here next h parts same more = record {
  read = h.read ++ rest;
  asked = h.asked ∙ ap (λ xs. h.read ++ xs) (parts ∙ ap (λ xs. xs ++ back) same) ∙ sym (append_assoc h.read rest back);
  begun = h.begun ∙ ap (λ xs. h.read ++ (rest ++ xs)) more ∙ sym (append_assoc h.read rest (here ++ next));
}

-- a list of which one element is at this place
pub flat_map-at : {X Y : Type 0} (f : X → List Y) (xs : List X) (place : ℕ) (here : X) → place < length xs → flat_map f (take place xs) ++ (f (get_or xs place here) ++ flat_map f (drop (place + 1) xs)) ≡ flat_map f xs
flat_map-at f xs place here inside =
    let one : suc place ≡ place + 1 = omega arith in
    let next = drop (place + 1) xs in
    let cut : drop place xs ≡ get_or xs place here ∷ next = drop-cons xs place here inside ∙ ap (λ n. get_or xs place here ∷ drop n xs) one in
    ap (λ ys. flat_map f (take place xs) ++ ys) (sym (ap (flat_map f) cut ∙ flat_map-cons f (get_or xs place here) next))
    ∙ sym (flat_map-append f (take place xs) (drop place xs)) ∙ ap (flat_map f) (take-append-drop place xs)

-- bytes that begin others of the same length are all of them
pub are_all : (left right more : List ℕ) → length left ≡ length right → right ≡ left ++ more → left ≡ right
are_all left right more long begun =
    sym (ap (take (length left)) begun ∙ take-append_seam left more) ∙ ap (λ n. take n right) long ∙ take-length right

not_true : (test : Bool) → (test ≡ true → ⊥) → false ≡ test
not_true true is_not = absurd (is_not refl)
not_true false _ = refl

-- what a comparison of the bytes tells then
pub seen_same : (left right more : List ℕ) → length left ≡ length right → right ≡ left ++ more → true ≡ pointwise nat_eq left right
seen_same left right more long begun = sym ((bytes_decides left right).1 (are_all left right more long begun))

-- and of bytes that differ
pub seen_other : (left right : List ℕ) → left ≢ right → false ≡ pointwise nat_eq left right
seen_other left right differ = not_true _ (λ same. differ ((bytes_decides left right).0 same))

-- the bytes of the fragments so far were read, and the next ones differ
pub part_differs : (left right so_far here later rest : List ℕ) → so_far ++ (here ++ later) ≡ left → right ≡ so_far ++ rest → take (length here) rest ≢ here → left ≢ right
part_differs left right so_far here later rest parts begun differ same =
    let ahead : here ++ later ≡ rest = append_cancel_left so_far _ _ (parts ∙ same ∙ begun) in
    differ (ap (take (length here)) (sym ahead) ∙ take-append_seam here later)

-- one fragment was read, or others are there
pub single_tells : (result : Bool) (left right more : List ℕ) → length left ≡ length right → (result ≡ true → right ≡ left ++ more) → (result ≡ false → take (length left) right ≢ left) → result ≡ pointwise nat_eq left right
single_tells true left right more long read _ = seen_same left right more long (read refl)
single_tells false left right more long _ differ =
    seen_other left right (λ same. differ refl (ap (take (length left)) (sym same) ∙ take-length left))
