-- What a call answered, from what another one did.
use Rattle.std.proofs.Common.{Result, Ok, Err, IfOk}
use Rattle.std.specs.Prelude.{MatchResult}

module _ {A E : Type 0} where
  pub if_ok_map : (result : Result A E) (P Q : A → Type 0) → ((value : A) → P value → Q value) → IfOk result P → IfOk result Q
  if_ok_map (Ok value) P Q then is = then value is
  if_ok_map (Err error) P Q then is = tt

  pub match_map : (result : Result A E) (P Q : A → Type 0) (R S : E → Type 0) → ((value : A) → P value → Q value) → ((error : E) → R error → S error) →
      MatchResult result P R → MatchResult result Q S
  match_map (Ok value) P Q R S good bad is = good value is
  match_map (Err error) P Q R S good bad is = bad error is
