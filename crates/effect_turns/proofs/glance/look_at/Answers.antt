use Rattle.std.proofs.Common.{Vec, Global, [], Some, option_map, ap, sym, ◌∙◌}
use Rattle.signal_model.specs.Values.{Seen, value_of}
use Rattle.effect_model.specs.Runs.{is_effect_due}
use Rattle.effect_turns.proofs.Glanced.{kept_settles}
use Rattle.effect_turns.proofs.glance.look_at.Goals as goal

pub returns-in_ok-due-in-Some-clause-due : goal.returns-in_ok-due-in-Some-clause-due
returns-in_ok-due-in-Some-clause-due g c = λ hosts all kept.
    c.in_ok-due-in-Some.ensures.due hosts all kept
    ∙ ap (is_effect_due (λ m. value_of hosts c.args.graph.now.state.signals m []))
    (ap Some c.as_slice.ensures.value ∙ sym (ap (option_map (λ (v : Vec Seen Global). v.items)) c.in-Some.is))

pub returns-in_ok-due-in-Some-clause-after : goal.returns-in_ok-due-in-Some-clause-after
returns-in_ok-due-in-Some-clause-after g c =
    kept_settles _ _ _ _ c.args.graph.now.state.signals _ _
    (ap Some c.as_slice.ensures.value ∙ sym (ap (option_map (λ (v : Vec Seen Global). v.items)) c.in-Some.is)) c.in_ok-due-in-Some.ensures.after

pub returns-in_ok-due-in-None-clause-due : goal.returns-in_ok-due-in-None-clause-due
returns-in_ok-due-in-None-clause-due g c = λ hosts all kept.
    c.in_ok-due-in-None.ensures.due hosts all kept
    ∙ ap (is_effect_due (λ m. value_of hosts c.args.graph.now.state.signals m [])) (sym (ap (option_map (λ (v : Vec Seen Global). v.items)) c.in-None.is))

pub returns-in_ok-due-in-None-clause-after : goal.returns-in_ok-due-in-None-clause-after
returns-in_ok-due-in-None-clause-after g c =
    kept_settles _ _ _ _ c.args.graph.now.state.signals _ _
    (sym (ap (option_map (λ (v : Vec Seen Global). v.items)) c.in-None.is)) c.in_ok-due-in-None.ensures.after
