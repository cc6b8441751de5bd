use Rattle.std.proofs.Common.{◌≡◌, ◌∙◌, inr, refl, sym, true, false}
use Rattle.std.specs.declared.io.ErrorKind.TheVariants.{OutOfMemory}
use Rattle.mc_programs.proofs.words.refuse_words.Goals as goal

pub returns : goal.returns
returns g c =
    inr (
      (λ starved.
          let is : c.kind.result ≡ OutOfMemory = c.kind.ensures ∙ starved in
          let same = rw is at c.eq.ensures in
          let no : true ≡ false = sym same ∙ c.if-eq.false in
          cc),
      refl,
      c.tell_line.ensures,
    )
