-- Room for the text of all items is room for each of them in turn.
use Rattle.std.proofs.Common.{◌≡◌, ℕ, ◌+◌, ◌<◌, ◌≤◌, List, flat_map, length, take, get_or, sym, subst, arith}
use Rattle.std.proofs.lemmas.List.Folds.{length-flat_map-take}
use Rattle.mc_model.specs.declared.reply.Value.{Value}
use Rattle.mc_write.specs.Text.{value_text}

module _ (values : List Value) (i : ℕ) (value : Value) (below : i < length values) (is : value ≡ get_or values i value) (start room : ℕ) (enough : start + length (flat_map value_text values) ≤ room) where
  pub room_for_item : start + length (flat_map value_text (take i values)) + length (value_text value) ≤ room
  room_for_item =
      let P : Value → Type 0 = λ v. length (flat_map value_text (take i values)) + length (value_text v) ≤ length (flat_map value_text values) in
      let all = subst P (sym is) (length-flat_map-take value_text values i value below) in
      omega (arith, all, enough)
