use Rattle.std.proofs.Common.{◌%◌, sym, ap, ◌∙◌}
use Rattle.std.proofs.Math.Nat.{mod-add-mod, mod-eq_of_lt, mod_self, zero-mod}
use Rattle.mc_net.proofs.laws.streams_go_round.Goals as goal

pub returns : goal.returns
returns c = record {
  first = λ places. zero-mod places;
  next = λ done places before. sym (mod-add-mod done places 1) ∙ mod-eq_of_lt before;
  again = λ done places last. sym (mod-add-mod done places 1) ∙ (ap (λ at. at % places) last ∙ mod_self places);
  counted = λ done small. mod-eq_of_lt small;
}
