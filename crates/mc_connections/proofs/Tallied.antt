-- Lemmas on what one turn after another counts.
use Rattle.std.proofs.Common.{ℕ, zero, suc, List, [], ◌∷◌, ◌≡◌, refl, ap, ◌∙◌, subst, inl, inr, map}
use Rattle.std.specs.Prelude.{slice_index_or, slice_set}
use Rattle.mc_counters.specs.Tallied.{CountedRequest}
use Rattle.mc_counters.specs.declared.tally.Tally.{Tally}
use Rattle.mc_conn.specs.Ending.{Stops}
use Rattle.mc_conn.specs.Tallying.{HasCounted, HasCountedTo}
use Rattle.mc_conn.specs.Turn.{Scene, Takes}
use Rattle.mc_model.specs.declared.fault.Fault.{Fault}
use Rattle.mc_connections.specs.Serving.{IsTallied}
use Rattle.mc_connections.specs.declared.tallies.OneTally.{OneTally}
use Rattle.mc_connections.proofs.Servings.{StopLater, TakeOn}

-- what the law on counting says of one part after another
abbrev pub CountOn : Type 0
CountOn = (a b c : List CountedRequest) (one two three : Tally) → HasCounted a b one two → HasCounted b c two three → HasCounted a c one three

abbrev pub CountTo : Type 0
CountTo = (fault : Fault) (a b c : List CountedRequest) (one two three : Tally) → HasCounted a b one two → HasCountedTo b c two three fault → HasCountedTo a c one three fault

-- turns without a fault, and then one that met none, or one that did
module _ (a b c : Scene) (one two three : Tally) (earlier : Takes a b) (counted : HasCounted a.conn.past b.conn.past one two) where
  pub tallied : TakeOn → CountOn → Takes b c → HasCounted b.conn.past c.conn.past two three → IsTallied a c one three
  tallied takes_trans counts_trans takes more = inl (takes_trans a b c earlier takes, counts_trans _ _ _ _ _ _ counted more)

  pub tallied_to : StopLater → CountTo → (fault : Fault) → Stops b c fault → HasCountedTo b.conn.past c.conn.past two three fault → IsTallied a c one three
  tallied_to stops_later counts_later fault stops more = inr (fault, stops_later fault a b c earlier stops, counts_later fault _ _ _ _ _ _ counted more)

-- another tally in a place that is the same one
pub same_tallies : (all : List OneTally) (place : ℕ) (one new : OneTally) → one ≡ slice_index_or all place one → new.tally ≡ one.tally →
    map (λ (one : OneTally). one.tally) (slice_set all place new) ≡ map (λ (one : OneTally). one.tally) all
same_tallies [] place one new at same = refl
same_tallies (first ∷ rest) zero one new at same = ap (λ tally. tally ∷ map (λ (one : OneTally). one.tally) rest) (same ∙ ap (λ (one : OneTally). one.tally) at)
same_tallies (first ∷ rest) (suc place) one new at same = ap (λ tallies. first.tally ∷ tallies) (same_tallies rest place one new at same)

-- the same scenes
pub tallied_as : {a b c d : Scene} {old new : Tally} → a ≡ b → c ≡ d → IsTallied a c old new → IsTallied b d old new
tallied_as {a} {b} {c} {d} {old} {new} before after is = subst (λ (scene : Scene). IsTallied b scene old new) after (subst (λ (scene : Scene). IsTallied scene c old new) before is)
