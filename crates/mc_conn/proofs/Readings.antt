-- What is held reads on.
use Rattle.std.proofs.Common.{◌≢◌, ◌⊎◌, inl, inr, ◌≡◌, ℕ, ◌<◌, ◌≤◌, Bool, true, false, List, [], ◌∷◌, ◌++◌, Option, Some, None, sym, refl, ap, ◌∙◌, subst, arith, append_assoc}
use Rattle.std.specs.Option.{is_some}
use Rattle.std.specs.Bool.{MatchBool}
use Rattle.mc_model.specs.declared.request.Request.{Request}
use Rattle.mc_read.specs.Reading.{GoesOn, HasNone, Held, IsFed, IsNext, ReadAlike, ReadsOn}
use Rattle.mc_read.specs.State.{IsNextAnswer}
use Rattle.mc_read.specs.Text.{Lines}
use Rattle.mc_read.specs.Administering.{lines_spoken}
use Rattle.mc_read.specs.declared.speaker.Speaker.{Speaker}
use Rattle.mc_conn.specs.Held.{Follow, Holding, HoldsNone, HoldsOn, IsRead, most_held}

pub read_refl : (a : Holding) → IsRead a [] [] a
read_refl a more all = (λ reads. (all, refl, reads), λ (others, same, reads). subst (HoldsOn a more) (sym same) reads)

pub read_trans : (a b c : Holding) (came later : List ℕ) (first second : List Request) → IsRead a came first b → IsRead b later second c → IsRead a (came ++ later) (first ++ second) c
read_trans a b c came later first second one two more all = (
  λ reads.
      let begun = (one (later ++ more) all).0 (subst (λ bytes. HoldsOn a bytes all) (append_assoc came later more) reads) in
      let ended = (two more begun.0).0 begun.2 in
      (ended.0, begun.1 ∙ (ap (λ l. first ++ l) ended.1 ∙ sym (append_assoc first second ended.0)), ended.2),
  λ (others, same, reads).
      let tail = (two more (second ++ others)).1 (others, refl, reads) in
      subst (λ bytes. HoldsOn a bytes all) (sym (append_assoc came later more)) ((one (later ++ more) all).1 (second ++ others, same ∙ append_assoc first second others, tail)),
)

module _ (lines : Lines) where
  -- nothing waits, and a piece is fed
  pub read_fed : (before after : Held) (piece : List ℕ) → IsFed lines before piece after → IsRead (record { lines = lines; waiting = None; held = before }) piece [] (record { lines = lines; waiting = None; held = after })
  read_fed before after piece fed more all = (
    λ reads. (all, refl, (fed more all).1 reads),
    λ (others, same, reads). subst (ReadsOn lines before (piece ++ more)) (sym same) ((fed more others).0 reads),
  )

  -- the reader gives a request, which waits
  pub read_next : (before after : Held) (request : Request) → IsNext lines before request after → IsRead (record { lines = lines; waiting = None; held = before }) [] [] (record { lines = lines; waiting = Some request; held = after })
  read_next before after request next more all = (
    λ reads. (all, refl, (next more all).0 reads),
    λ (others, same, reads). (next more all).1 (subst (GoesOn request (ReadsOn lines after more)) (sym same) reads),
  )

  -- the reader gives none
  pub read_alike : (before after : Held) → ReadAlike lines before after → IsRead (record { lines = lines; waiting = None; held = before }) [] [] (record { lines = lines; waiting = None; held = after })
  read_alike before after alike more all = (
    λ reads. (all, refl, (alike more all).0 reads),
    λ (others, same, reads). (alike more all).1 (subst (ReadsOn lines after more) (sym same) reads),
  )

  pub none_after : (before after : Held) → HasNone lines before → ReadAlike lines before after → HasNone lines after
  none_after before after none alike requests = (λ reads. (none requests).0 ((alike [] requests).1 reads), λ empty. (alike [] requests).0 ((none requests).1 empty))

  taken_first : (request : Request) (P : List Request → Type 0) (all : List Request) → GoesOn request P all → Follow (request ∷ []) P all
  taken_first request P [] never = absurd never
  taken_first request P (first ∷ others) (same, holds) = (others, ap (λ r. r ∷ others) same, holds)

  -- the request that waited is taken
  pub read_taken : (held : Held) (request : Request) → IsRead (record { lines = lines; waiting = Some request; held = held }) [] (request ∷ []) (record { lines = lines; waiting = None; held = held })
  read_taken held request more all = (
    λ reads. taken_first request (ReadsOn lines held more) all reads,
    λ (others, same, reads). subst (GoesOn request (ReadsOn lines held more)) (sym same) (refl, reads),
  )

module _ (lines : Lines) where
  looked_from : (before after : Held) (waiting : Option Request) → IsNextAnswer lines before waiting after → IsRead (record { lines = lines; waiting = None; held = before }) [] [] (record { lines = lines; waiting = waiting; held = after })
  looked_from before after (Some request) answer = read_next lines before after request answer.0
  looked_from before after None answer = read_alike lines before after answer.1

  -- the reader is asked when no request is waiting
  pub read_looked : (waiting found : Option Request) (before after : Held) → is_some waiting ≡ false → IsNextAnswer lines before found after → IsRead (record { lines = lines; waiting = waiting; held = before }) [] [] (record { lines = lines; waiting = found; held = after })
  read_looked None found before after none answer = looked_from before after found answer
  read_looked (Some request) found before after none answer = let e : true ≡ false = none in cc

  pub held_after_look : (before after : Held) (found : Option Request) → IsNextAnswer lines before found after → HoldsNone (record { lines = lines; waiting = found; held = after }) ⊎ (found ≢ None)
  held_after_look before after (Some request) answer = inr (λ none. let e : Some request ≡ None = none in cc)
  held_after_look before after None answer = inl (refl, none_after lines before after answer.0 answer.1)

  pub read_fed_at : (waiting other : Option Request) (before after : Held) (piece : List ℕ) → waiting ≡ None → other ≡ waiting → IsFed lines before piece after → IsRead (record { lines = lines; waiting = waiting; held = before }) piece [] (record { lines = lines; waiting = other; held = after })
  read_fed_at waiting other before after piece none same fed =
      subst (λ w. IsRead (record { lines = lines; waiting = waiting; held = before }) piece [] (record { lines = lines; waiting = w; held = after })) (sym same)
      (subst (λ w. IsRead (record { lines = lines; waiting = w; held = before }) piece [] (record { lines = lines; waiting = w; held = after })) (sym none) (read_fed lines before after piece fed))

  -- the request that waited is taken out
  pub read_answered : (old new : Option Request) (held : Held) (request : Request) → old ≡ Some request → new ≡ None → IsRead (record { lines = lines; waiting = old; held = held }) [] (request ∷ []) (record { lines = lines; waiting = new; held = held })
  read_answered old new held request is none =
      subst (λ w. IsRead (record { lines = lines; waiting = w; held = held }) [] (request ∷ []) (record { lines = lines; waiting = new; held = held })) (sym is)
      (subst (λ w. IsRead (record { lines = lines; waiting = Some request; held = held }) [] (request ∷ []) (record { lines = lines; waiting = w; held = held })) (sym none) (read_taken lines held request))

  pub read_same : (old new : Option Request) (held : Held) → new ≡ old → IsRead (record { lines = lines; waiting = old; held = held }) [] [] (record { lines = lines; waiting = new; held = held })
  read_same old new held same = subst (λ w. IsRead (record { lines = lines; waiting = old; held = held }) [] [] (record { lines = lines; waiting = w; held = held })) (sym same) (read_refl (record { lines = lines; waiting = old; held = held }))

-- fewer are held whole once one was taken, and no more after a look for one
pub fewer_after : (did : Bool) (before between after : ℕ) (Q : Type 0) → between ≤ before → MatchBool did (after < between) Q → did ≡ true → after < before
fewer_after true before between after Q looked taken is = omega arith
fewer_after false before between after Q looked taken is = let e : false ≡ true = is in cc

pub fewer_taken : (lines : Lines) (old new : Option Request) (held : Held) (request : Request) → old ≡ Some request → new ≡ None →
    most_held (record { lines = lines; waiting = new; held = held }) < most_held (record { lines = lines; waiting = old; held = held })
fewer_taken lines old new held request is none = rw (is, none) (omega arith)

pub most_looked : (lines : Lines) (waiting found : Option Request) (before after : Held) → is_some waiting ≡ false → IsNextAnswer lines before found after →
    most_held (record { lines = lines; waiting = found; held = after }) ≤ most_held (record { lines = lines; waiting = waiting; held = before })
most_looked lines None None before after none answer = omega (arith, answer.3)
most_looked lines None (Some request) before after none answer = omega (arith, answer.1)
most_looked lines (Some request) found before after none answer = let e : true ≡ false = none in cc

-- what a reader that never changes its speaker holds after a request that waits, or none
abbrev holding_by : Speaker → Option Request → Held → Holding
holding_by speaker waiting held = record { lines = lines_spoken speaker; waiting = waiting; held = held }

module _ (old new : Speaker) (same : new ≡ old) where
  pub read_by : (waiting found : Option Request) (before after : Held) (came : List ℕ) (requests : List Request) →
      IsRead (holding_by old waiting before) came requests (holding_by old found after) → IsRead (holding_by old waiting before) came requests (holding_by new found after)
  read_by waiting found before after came requests read = subst (λ speaker. IsRead (holding_by old waiting before) came requests (holding_by speaker found after)) (sym same) read

  pub none_by : (found : Option Request) (after : Held) (Q : Type 0) → HoldsNone (holding_by old found after) ⊎ Q → HoldsNone (holding_by new found after) ⊎ Q
  none_by found after Q none = subst (λ speaker. HoldsNone (holding_by speaker found after) ⊎ Q) (sym same) none
