-- Lists by their parts: each element, the two at the end, and a front that grows.
use Rattle.std.proofs.Common.{◌≡◌, ℕ, ◌+◌, All, List, [], ◌∷◌, ◌++◌, length, take, drop, sym, ap, ◌∙◌, append_assoc, slice_get, Some}
use Rattle.std.proofs.Math.Seq.{take-add}
use Rattle.std.proofs.lemmas.Option.{slice_get-get_or}
use Rattle.lists.proofs.Public.{at_longer, last_at}

-- what is true of each element by its place is true of all, and of the two at the end
module _ {X : Type 0} (P : X → Type 0) (list : List X) (each : (place : ℕ) (x : X) → slice_get list place ≡ Some x → P x) where
  pub all_by_place : All P list
  all_by_place = λ place other inside. each place _ (slice_get-get_or list place other inside)

  pub both_last : (fewer fewest : List X) (second first : X) → list ≡ fewer ++ second ∷ [] → fewer ≡ fewest ++ first ∷ [] → P first × P second
  both_last fewer fewest second first is was = (
    each (length fewest) first (ap (λ (some : List X). slice_get some (length fewest)) is
        ∙ at_longer fewer (second ∷ []) (length fewest) first (ap (λ (some : List X). slice_get some (length fewest)) was ∙ last_at fewest first)),
    each (length fewer) second (ap (λ (some : List X). slice_get some (length fewer)) is ∙ last_at fewer second),
  )

-- a front, followed by what is taken of the rest, is a longer front
pub front_then : {X : Type 0} (before now after queue slice : List X) (sent count : ℕ) → slice ≡ drop sent queue →
    now ≡ before ++ take sent queue → after ≡ now ++ take count slice → after ≡ before ++ take (sent + count) queue
front_then {X} before now after queue slice sent count is_rest is_now is_after =
    is_after
    ∙ (ap (λ (known : List X). known ++ take count slice) is_now
    ∙ (append_assoc before (take sent queue) (take count slice)
    ∙ ap (λ (more : List X). before ++ more) (ap (λ (rest : List X). take sent queue ++ take count rest) is_rest ∙ sym (take-add sent count queue))))
