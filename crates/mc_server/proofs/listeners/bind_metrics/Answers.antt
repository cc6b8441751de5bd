use Rattle.std.proofs.Common.{◌++◌, ◌∷◌, ◌∙◌, [], List, append-nil, ap, subst, sym}
use Rattle.std.proofs.lemmas.Slice.Zip.{all_zipped_more}
use Rattle.std.specs.List.{AllZip}
use Rattle.mc_server.specs.Listeners.{IsListeningFor, ListenerAsked, listener_if}
use Rattle.mc_server.specs.NetworkWords.{metrics_name}
use Rattle.mc_server.specs.declared.network_texts.Listening.{Listening}
use Rattle.mc_server.proofs.listeners.bind_metrics.Goals as goal

pub returns-in_default : goal.returns-in_default
returns-in_default g c = record {
  outcome = λ asked told.
      subst (λ (list : List ListenerAsked). AllZip IsListeningFor list c.args.told.now.items)
      (sym (append-nil asked) ∙ ap (λ address. asked ++ listener_if metrics_name address) (sym c.in_default.is)) told;
}

pub returns : goal.returns
returns g c = record {
  outcome = λ asked told.
      let one : ListenerAsked = record { name = metrics_name; address = c.in-Some.address } in
      let more = all_zipped_more IsListeningFor asked c.args.told.now.items one c.in-Ok.line told c.in-Ok.ensures.told in
      let printed = subst (λ (lines : List Listening). AllZip IsListeningFor (asked ++ one ∷ []) lines) (sym c.in_ok-push.ensures.items) more in
      subst (λ address. AllZip IsListeningFor (asked ++ listener_if metrics_name address) c.push.new.self.items) (sym c.in-Some.is) printed;
}
