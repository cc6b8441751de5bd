-- Keys in one block: each stands after its length. So this project keeps the keys of a retrieval in
-- memory, its profile; which keys are valid is said in `Key`.
use Rattle.std.specs.Prelude.{◌≡◌, ℕ, zero, suc, true, List, [], ◌∷◌, ◌++◌, drop, length, take, Option, None, Some}
use Rattle.std.specs.Borrow.{Bor}
use Rattle.std.specs.List.{list_all}
use Rattle.mc_model.specs.declared.key.Key.{Key}
use Rattle.mc_model.specs.Key.{is_lawful_key}

-- the block of these keys
abbrev pub block_of : List Key → List ℕ
block_of [] = []
block_of (key ∷ keys) = length key ∷ key ++ block_of keys

-- so many keys from a block
abbrev pub keys_in : ℕ → List ℕ → List Key
keys_in zero bytes = []
keys_in (suc count) [] = []
keys_in (suc count) (len ∷ bytes) = take len bytes ∷ keys_in count (drop len bytes)

-- the block is that of so many valid keys
pub record IsKeyBlock (count : ℕ) (bytes : List ℕ) : Type 0 where
  pub whole : bytes ≡ block_of (keys_in count bytes)
  pub many : length (keys_in count bytes) ≡ count
  pub lawful : list_all is_lawful_key (keys_in count bytes) ≡ true

-- the key that stands alone, if there is one
abbrev pub lone_key : Option (Bor Key) → List Key
lone_key None = []
lone_key (Some key) = key.now ∷ []
