use Rattle.std.proofs.Common.{Vec, Global, Some, map, option_map, sym, ap, ◌∙◌}
use Rattle.std.specs.Prelude.{slice_get}
use Rattle.signal_model.specs.Values.{Seen}
use Rattle.effect_model.specs.Worlds.{effect_at}
use Rattle.effect_tables.specs.Placed.{effect_of}
use Rattle.effect_tables.proofs.Shared.{heard_heard}
use Rattle.effect_turns.proofs.Stills.{kept_all}
use Rattle.effect_turns.proofs.quiet.hear.Goals as goal

pub returns-clause-heard : goal.returns-clause-heard
returns-clause-heard c =
    let w = c.args.world.now in
    let x = effect_of c.in-Some.effect.now in
    let ss = c.deref-3.result.now in
    let kept = ap (option_map (λ (v : Vec Seen Global). v.items)) c.in-Some-kept.is ∙ ap Some (sym c.deref-3.ensures.value) in
    heard_heard c.args.place ss w.graph.state.signals w.heard c.hear.new.self (map effect_of w.tables.effects.items) x c.in_ok-hear.ensures
    (ap (λ xs. slice_get (map effect_of xs) c.args.place) (sym c.deref.ensures.value) ∙ c.in-Some.ensures.place) kept
    (kept_all w c.args.id x ss c.requires.quiet (ap (λ xs. effect_at c.args.id (map effect_of xs)) (sym c.deref.ensures.value) ∙ c.in-Some.ensures.lives) kept)
    c.requires.heard
