-- Events of other workers that lead on: one more can follow.
use Rattle.std.proofs.Common.{◌≢◌, ℕ, List, [], ◌∷◌, ◌++◌, refl, subst}
use Rattle.mc_model.specs.declared.shown.LogSize.{LogSize}
use Rattle.mc_model.specs.declared.shown.ShownState.{ShownState}
use Rattle.mc_model.specs.Lawful.{LeadOn, ShownEvent, Step}
use Rattle.uc_places.specs.Rule.{AreOfOthers, OthersLead, taker}

module _ (size : LogSize) where
  -- from any state no event leads to itself
  pub none_lead : (number : ℕ) (log : ShownState) → OthersLead size number log log
  none_lead number log = ([], tt, refl)

  -- one more event follows a list of them
  pub one_more : (events : List ShownEvent) (old log new : ShownState) (event : ShownEvent) → LeadOn size old events log → Step size log event new →
      LeadOn size old (events ++ event ∷ []) new
  one_more [] old log new event same step = (new, subst (λ (z : ShownState). Step size z event new) same step, refl)
  one_more (first ∷ events) old log new event lead step = (lead.0, lead.1, one_more events lead.0 log new event lead.2 step)

  one_more_of_others : (number : ℕ) (events : List ShownEvent) (event : ShownEvent) → AreOfOthers number events → taker event ≢ number →
      AreOfOthers number (events ++ event ∷ [])
  one_more_of_others number [] event others apart = (apart, tt)
  one_more_of_others number (first ∷ events) event others apart = (others.0, one_more_of_others number events event others.1 apart)

  -- another worker's event may follow
  pub others_lead_on : (number : ℕ) (old log new : ShownState) (event : ShownEvent) → OthersLead size number old log → Step size log event new →
      taker event ≢ number →
      OthersLead size number old new
  others_lead_on number old log new event lead step apart =
      (lead.0 ++ event ∷ [], one_more_of_others number lead.0 event lead.1 apart, one_more lead.0 old log new event lead.2 step)
