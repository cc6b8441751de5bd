use Rattle.std.proofs.Common.{◌≡◌, ◌∙◌, ◌++◌, ℕ, List, Result, Ok, Err, codes, decimal, ap, sym}
use Rattle.std.specs.Prelude.{IfOk, string_bytes}
use Rattle.mc_server.specs.Complaints.{complaint_line}
use Rattle.mc_server.proofs.checking.complaint_line.Goals as goal

-- the text is the line, if it is another text that is the line
is_line : {S E : Type 0} (bytes : S → List ℕ) (result : Result S E) (text line : List ℕ) → text ≡ line → IfOk result (λ one. bytes one ≡ text) → IfOk result (λ one. bytes one ≡ line)
is_line bytes (Ok one) text line e is = is ∙ e
is_line bytes (Err error) text line e is = is

bounds_line : List ℕ → ℕ → ℕ → ℕ → List ℕ
bounds_line name number least most =
    codes "wfmc: " ++ (name ++ (codes " " ++ (decimal number ++ (codes ": not from " ++ (decimal least ++ (codes " to " ++ (decimal most ++ codes "\n")))))))

pub returns-in-OutOfBounds : goal.returns-in-OutOfBounds
unfolding bounds_line
returns-in-OutOfBounds c =
    let line = (λ i. bounds_line (c.text-name.ensures i) c.in-OutOfBounds.number (c.least-least.ensures i) (c.most-most.ensures i)) ∙ ap complaint_line (sym c.in-OutOfBounds.is) in
    is_line string_bytes c.format.result _ _ line c.format.ensures.ok

address_line : List ℕ → List ℕ → List ℕ → List ℕ
address_line name word text = codes "wfmc: " ++ (name ++ (codes " " ++ (word ++ (codes ": " ++ (text ++ codes "\n")))))

pub returns-in-NoAddress : goal.returns-in-NoAddress
unfolding address_line
returns-in-NoAddress c =
    let line = (λ i. address_line (c.text-name-in-NoAddress.ensures i) c.in-NoAddress.word.now (c.text-text.ensures i)) ∙ ap complaint_line (sym c.in-NoAddress.is) in
    is_line string_bytes c.format-in-NoAddress.result _ _ line c.format-in-NoAddress.ensures.ok

pub returns-in-WrongPart : goal.returns-in-WrongPart
returns-in-WrongPart c =
    let line = ap (λ (text : List ℕ). codes "wfmc: " ++ (c.in-WrongPart.word.now ++ (codes ": " ++ (text ++ codes "\n")))) c.text-text-in-WrongPart.ensures ∙ ap complaint_line (sym c.in-WrongPart.is) in
    is_line string_bytes c.format-in-WrongPart.result _ _ line c.format-in-WrongPart.ensures.ok
