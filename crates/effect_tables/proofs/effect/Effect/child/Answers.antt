use Rattle.std.proofs.Common.{◌++◌, ◌∷◌, [], None, ap, ◌∙◌}
use Rattle.effect_tables.specs.Bodies.{body_of}
use Rattle.effect_tables.proofs.effect.Effect.child.Goals as goal

pub returns-clause-seen : goal.returns-clause-seen
returns-clause-seen c =
    let path = c.in_ok-path.ensures ∙ ap (λ ns. ns ++ c.args.place ∷ []) c.deref.ensures.value in
    λ i. record { number = c.args.id; body = body_of c.args.site.now.origin (c.in_ok-script.ensures i) (path i); kept = None }
