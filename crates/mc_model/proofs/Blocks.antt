-- Keys that stand in a block, each after its length.
use Rattle.std.proofs.Common.{◌≡◌, ℕ, zero, suc, ◌+◌, ◌-◌, ◌≤◌, nat_eq, Bool, ◌&&◌, true, false, List, [], ◌∷◌, ◌++◌, drop, length, take, refl, sym, ap, ◌∙◌, arith, true≢false, append-nil, append_assoc, length-append}
use Rattle.std.proofs.Math.Seq.{drop-append_seam, take-append_seam}
use Rattle.std.proofs.lemmas.List.Folds.{list_all-append}
use Rattle.std.specs.Cmp.Lexicographic.{bytes_decides, pointwise, pointwise_decides}
use Rattle.std.specs.List.{list_all}
use Rattle.mc_model.specs.declared.key.Key.{Key}
use Rattle.mc_model.specs.Key.{is_lawful_key}
use Rattle.mc_model.specs.KeyBlocks.{IsKeyBlock, block_of, keys_in}

heads : (x y : ℕ) (xs ys : List ℕ) → x ∷ xs ≡ y ∷ ys → x ≡ y
heads x y xs ys same = ap (λ list. first list) same
  where
    first : List ℕ → ℕ
    first [] = x
    first (z ∷ zs) = z

tails : (x y : ℕ) (xs ys : List ℕ) → x ∷ xs ≡ y ∷ ys → xs ≡ ys
tails x y xs ys same = ap (λ list. drop 1 list) same

both_true : (a b : Bool) → (a && b) ≡ true → (a ≡ true) × (b ≡ true)
both_true true b is = (refl, is)
both_true false b is = absurd (true≢false (sym is))

-- a block without keys
pub no_keys : (bytes : List ℕ) → bytes ≡ [] → IsKeyBlock 0 bytes
no_keys bytes none = record { whole = none; many = refl; lawful = refl }

-- what a block of some bytes begins with, and the block that comes after it
pub record Begins (count len : ℕ) (bytes : List ℕ) : Type 0 where
  pub less : ℕ
  pub one_less : count - 1 ≡ less
  pub keys : keys_in count (len ∷ bytes) ≡ take len bytes ∷ keys_in less (drop len bytes)
  pub lawful : is_lawful_key (take len bytes) ≡ true
  pub rest : IsKeyBlock less (drop len bytes)

pub begins : (count len : ℕ) (bytes : List ℕ) → IsKeyBlock count (len ∷ bytes) → Begins count len bytes
begins zero len bytes block = absurd (let long = ap (λ (list : List ℕ). length list) block.whole in omega (arith, long))
begins (suc count) len bytes block =
    let key = take len bytes in
    let later = keys_in count (drop len bytes) in
    let long : len ≡ length key = heads len (length key) bytes (key ++ block_of later) block.whole in
    let whole : bytes ≡ key ++ block_of later = tails len (length key) bytes (key ++ block_of later) block.whole in
    let all = both_true (is_lawful_key key) (list_all is_lawful_key later) block.lawful in
    record {
      less = count;
      one_less = omega arith;
      keys = refl;
      lawful = all.0;
      rest = record {
        whole = ap (λ n. drop n bytes) long ∙ ap (drop (length key)) whole ∙ drop-append_seam key (block_of later);
        many = let many = block.many in omega (arith, many);
        lawful = all.1;
      };
    }

-- of an empty block there are no keys
pub none_in : (count : ℕ) (bytes : List ℕ) → length bytes ≡ 0 → keys_in count bytes ≡ []
none_in zero bytes none = refl
none_in (suc count) [] none = refl
none_in (suc count) (len ∷ bytes) none = absurd (omega (arith, none))

-- the keys of a block are those of which it is made, whatever comes after them
pub keys_in-block_of : (keys : List Key) (more : List ℕ) → keys_in (length keys) (block_of keys ++ more) ≡ keys
keys_in-block_of [] more = refl
keys_in-block_of (key ∷ keys) more =
    let parts = append_assoc key (block_of keys) more in
    (λ i. take (length key) (parts i) ∷ keys_in (length keys) (drop (length key) (parts i)))
    ∙ (λ i. take-append_seam key (block_of keys ++ more) i ∷ keys_in (length keys) (drop-append_seam key (block_of keys ++ more) i))
    ∙ ap (λ (list : List Key). key ∷ list) (keys_in-block_of keys more)

pub block_of-append : (keys more : List Key) → block_of (keys ++ more) ≡ block_of keys ++ block_of more
block_of-append [] more = refl
block_of-append (key ∷ keys) more =
    ap (λ (list : List ℕ). length key ∷ list) (ap (λ (list : List ℕ). key ++ list) (block_of-append keys more) ∙ sym (append_assoc key (block_of keys) (block_of more)))

-- a key takes at least a byte
pub few : (keys : List Key) → length keys ≤ length (block_of keys)
few [] = omega arith
few (key ∷ keys) =
    let rest = few keys in
    let long = length-append key (block_of keys) in
    omega (arith, rest, long)

-- one key more
module _ (count : ℕ) (bytes new : List ℕ) (key : Key) (block : IsKeyBlock count bytes) (is : new ≡ bytes ++ length key ∷ key) where
  abbrev pub all_keys : List Key
  all_keys = keys_in count bytes ++ key ∷ []

  made : new ≡ block_of all_keys
  made = is ∙ ap (λ (list : List ℕ). list ++ length key ∷ key) block.whole
      ∙ ap (λ (list : List ℕ). block_of (keys_in count bytes) ++ length key ∷ list) (sym (append-nil key))
      ∙ sym (block_of-append (keys_in count bytes) (key ∷ []))

  counted : length all_keys ≡ count + 1
  counted = let long = length-append (keys_in count bytes) (key ∷ []) in let many = block.many in omega (arith, long, many)

  pub keys_pushed : keys_in (count + 1) new ≡ all_keys
  keys_pushed = (λ i. keys_in (sym counted i) (made i)) ∙ ap (keys_in (length all_keys)) (sym (append-nil (block_of all_keys))) ∙ keys_in-block_of all_keys []

  pub pushed : is_lawful_key key ≡ true → IsKeyBlock (count + 1) new
  pushed lawful = record {
    whole = made ∙ ap block_of (sym keys_pushed);
    many = ap (λ (list : List Key). length list) keys_pushed ∙ counted;
    lawful = ap (list_all is_lawful_key) keys_pushed ∙ list_all-append is_lawful_key (keys_in count bytes) (key ∷ [])
        ∙ (λ i. block.lawful i && (lawful i && true));
  }

same_tests : (a b : Bool) → (a ≡ true → b ≡ true) → (b ≡ true → a ≡ true) → a ≡ b
same_tests true b there back = sym (there refl)
same_tests false true there back = back refl
same_tests false false there back = refl

-- blocks of as many keys are the same if their keys are
pub same_blocks : (count : ℕ) (bytes others : List ℕ) → IsKeyBlock count bytes → IsKeyBlock count others →
    pointwise nat_eq bytes others ≡ pointwise (pointwise nat_eq) (keys_in count bytes) (keys_in count others)
same_blocks count bytes others block other =
    let by_bytes = bytes_decides bytes others in
    let by_keys = pointwise_decides bytes_decides (keys_in count bytes) (keys_in count others) in
    same_tests (pointwise nat_eq bytes others) (pointwise (pointwise nat_eq) (keys_in count bytes) (keys_in count others))
    (λ is. by_keys.1 (ap (keys_in count) (by_bytes.0 is)))
    (λ is. by_bytes.1 (block.whole ∙ ap block_of (by_keys.0 is) ∙ sym other.whole))
