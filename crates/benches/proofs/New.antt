-- The last of new passes is new, and so are those before it.
use Rattle.std.proofs.Common.{◌≡◌, ◌∙◌, ◌∷◌, ◌++◌, [], ℕ, List, length, Some, slice_get, ap}
use Rattle.uc_log.specs.declared.log.Log.{Log}
use Rattle.uc_log.specs.declared.pass.Pass.{Pass}
use Rattle.uc_log.specs.Passes.{IsNew}
use Rattle.lists.proofs.Public.{last_at, at_longer}

abbrev pub AreNew : Log → List Pass → Type 0
AreNew log passes = (number : ℕ) (pass : Pass) → slice_get passes number ≡ Some pass → IsNew log number pass

pub last_new : (log : Log) (passes fewer : List Pass) (pass : Pass) → passes ≡ fewer ++ pass ∷ [] → AreNew log passes → IsNew log (length fewer) pass
last_new log passes fewer pass is new = new (length fewer) pass (ap (λ (list : List Pass). slice_get list (length fewer)) is ∙ last_at fewer pass)

pub fewer_new : (log : Log) (passes fewer : List Pass) (pass : Pass) → passes ≡ fewer ++ pass ∷ [] → AreNew log passes → AreNew log fewer
fewer_new log passes fewer pass is new number one at = new number one
    (ap (λ (list : List Pass). slice_get list number) is ∙ at_longer fewer (pass ∷ []) number one at)
