-- Words that aren't valid keys.
use Rattle.std.proofs.Common.{◌≡◌, ◌<◌, false, List, ℕ, Bor, length, get_or, map, ◌∙◌}
use Rattle.std.proofs.lemmas.List.Folds.{list_all-map, list_all_at}
use Rattle.std.specs.List.{list_all}
use Rattle.mc_model.specs.Key.{is_lawful_key}

-- one word that isn't valid refuses them all
pub unlawful_at : (words : List (Bor (List ℕ))) (i : ℕ) (word : Bor (List ℕ)) → i < length words → is_lawful_key (get_or words i word).now ≡ false
    → list_all is_lawful_key (map (λ w. w.now) words) ≡ false
unlawful_at words i word below unlawful =
    list_all-map is_lawful_key (λ (w : Bor (List ℕ)). w.now) words ∙ list_all_at (λ (w : Bor (List ℕ)). is_lawful_key w.now) words i word below unlawful
