use Rattle.std.proofs.Common.{◌+◌, List, ◌∷◌, Option, map, drop, sym, ap, ◌∙◌}
use Rattle.std.specs.Option.{option_or}
use Rattle.std.proofs.lemmas.List.{drop_all, drop_more}
use Rattle.effect_world.specs.Wholes.{whole_of}
use Rattle.live_entries.specs.declared.refusal.Refusal.{Refusal}
use Rattle.live_model.specs.Names.{first_refusal}
use Rattle.live_uses.specs.declared.uses.Use.{Use}
use Rattle.live_uses.specs.Views.{use_of}
use Rattle.live_names.proofs.Nones.{none_if}
use Rattle.live_names.proofs.names.Names.first_refusal.Goals as goal

pub returns-in-Some : goal.returns-in-Some
returns-in-Some c = λ asked.
    let w = whole_of asked c.args.world.now in
    let names = c.args.self.now in
    let us = c.args.uses.now in
    let rest = drop (c.loop-used.used-index + 1) us in
    let here = drop_more us c.loop-used.used-index c.used-item.result c.loop-used-test.true ∙ ap (λ (x : Use). x ∷ rest) (sym c.used-item.is) in
    sym (c.loop-used.invariant asked ∙ ap (λ (xs : List Use). first_refusal w names (map use_of xs)) here
    ∙ ap (λ (o : Option Refusal). option_or o (first_refusal w names (map use_of rest))) (sym (c.in_ok-refusal.ensures asked) ∙ c.in-Some.is))

pub loop-used-preserved : goal.loop-used-preserved
loop-used-preserved c = λ asked.
    let w = whole_of asked c.args.world.now in
    let names = c.args.self.now in
    let us = c.args.uses.now in
    let rest = drop (c.loop-used.used-index + 1) us in
    let here = drop_more us c.loop-used.used-index c.used-item.result c.loop-used-test.true ∙ ap (λ (x : Use). x ∷ rest) (sym c.used-item.is) in
    c.loop-used.invariant asked ∙ ap (λ (xs : List Use). first_refusal w names (map use_of xs)) here
    ∙ ap (λ (o : Option Refusal). option_or o (first_refusal w names (map use_of rest))) (sym (c.in_ok-refusal.ensures asked) ∙ none_if c.in_ok-refusal.field-0 c.in_default.not-Some)

pub returns : goal.returns
returns c = λ asked.
    let w = whole_of asked c.args.world.now in
    let names = c.args.self.now in
    let us = c.args.uses.now in
    sym (c.loop-used.invariant asked ∙ ap (λ (xs : List Use). first_refusal w names (map use_of xs)) (drop_all c.loop-used.used-index us c.loop-used-test.false))
