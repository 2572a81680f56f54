use Rattle.std.proofs.Common.{◌++◌, [], ◌∷◌, map, take, sym, ap, ◌∙◌}
use Rattle.std.proofs.lemmas.List.{map-append, take_all, take_more}
use Rattle.signal_model.specs.Values.{value_of}
use Rattle.sig_computed.proofs.Names.{nothing_settled, settles_names, then_settled}
use Rattle.sig_computed.proofs.all.settle_all.Goals as goal

pub loop-id-init : goal.loop-id-init
loop-id-init g c = record {
  values = λ hosts all kept. c.new-outcomes.ensures.items;
  settles = nothing_settled _ _ c.requires.can.idle;
  can = c.requires.can;
  counted = c.requires.counted;
}

pub loop-id-preserved : goal.loop-id-preserved
loop-id-preserved g c =
    let i = c.loop-id.invariant in
    let s = c.in_ok-outcome.ensures in
    let up_to = take_more c.args.ids.now c.loop-id.id-index c.id-item.result c.loop-id-test.true
    ∙ ap (λ m. take c.loop-id.id-index c.args.ids.now ++ m ∷ []) (sym c.id-item.is) in
    let one = then_settled _ _ _ _ _ _ (λ _. take c.loop-id.id-index c.args.ids.now) (λ _. c.id-item.result ∷ []) i.settles s.settles in
    let whole = settles_names _ _ _ _ _ _ (sym up_to) one in
    record {
      values = λ hosts all kept.
          c.in_ok-push.ensures.items
          ∙ ap (λ l. l ++ c.in_ok-outcome.outcome ∷ []) (i.values hosts all kept)
          ∙ ap (λ o. map (λ n. value_of hosts c.args.graph.now.state.signals n []) (take c.loop-id.id-index c.args.ids.now) ++ o ∷ [])
          (s.value hosts (i.settles.answers hosts all) (i.settles.kept hosts all kept)
          ∙ ap (λ w. value_of hosts w c.id-item.result []) i.settles.signals)
          ∙ sym (map-append (λ n. value_of hosts c.args.graph.now.state.signals n []) (take c.loop-id.id-index c.args.ids.now) (c.id-item.result ∷ []))
          ∙ ap (map (λ n. value_of hosts c.args.graph.now.state.signals n [])) (sym up_to);
      settles = whole;
      can = s.can i.can;
      counted = s.counted;
    }

pub returns-clause-values : goal.returns-clause-values
returns-clause-values g c = λ hosts all kept.
    c.loop-id.invariant.values hosts all kept
    ∙ ap (map (λ n. value_of hosts c.args.graph.now.state.signals n [])) (take_all c.loop-id.id-index c.args.ids.now c.loop-id-test.false)

pub returns-clause-settles : goal.returns-clause-settles
returns-clause-settles g c =
    settles_names _ _ _ _ _ _ (take_all c.loop-id.id-index c.args.ids.now c.loop-id-test.false) c.loop-id.invariant.settles
