-- What the statements say of lists that Rattle's std has no word for.
use Rattle.std.specs.Prelude.{◌≡◌, List, ◌++◌}

-- a list begins with another
abbrev pub BeginsWith : {X : Type 0} → List X → List X → Type 0
BeginsWith {X} list front = (rest : List X) × (list ≡ front ++ rest)
