use Rattle.std.proofs.Common.{ℕ, List, [], ◌∷◌, ◌++◌, ap, ◌∙◌}
use Rattle.body_text.proofs.LogBodies.{logs_body}
use Rattle.body_text.proofs.logging.body_of.Goals as goal

pub returns : goal.returns
returns c =
    let n = c.new-lists.ensures in
    logs_body c.args.name _ _ _ _ _ _ n.0 (c.in_ok-push.ensures.items ∙ ap (λ (ns : List (List ℕ)). ns ++ (c.args.name ∷ [])) n.1) n.2 n.3
    c.in_ok-statements.ensures c.body.ensures
