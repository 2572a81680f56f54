use Rattle.std.proofs.Common.{Vec, Global, Some, option_map, ap, sym, ◌∙◌}
use Rattle.signal_model.specs.Values.{Seen}
use Rattle.effect_turns.specs.Stills.{are_kept_still}
use Rattle.effect_turns.proofs.quiet.has_still.Goals as goal

pub returns-in-Some : goal.returns-in-Some
returns-in-Some c =
    c.are_still.ensures
    ∙ ap (are_kept_still c.args.graph.now.state.signals)
    (ap Some c.as_slice.ensures.value ∙ sym (ap (option_map (λ (v : Vec Seen Global). v.items)) c.in-Some.is))

pub returns-in-None : goal.returns-in-None
returns-in-None c = ap (are_kept_still c.args.graph.now.state.signals) (sym (ap (option_map (λ (v : Vec Seen Global). v.items)) c.in-None.is))
