use Rattle.std.proofs.Common.{◌≡◌, ℕ, List, [], ◌∷◌, ◌++◌, ap, ◌∙◌}
use Rattle.sig_computed.proofs.Flagged.{flagged_behind}
use Rattle.sig_computed.proofs.visited.Visited.swap_lists.Goals as goal

pub invariant_of-self : goal.invariant_of-self
invariant_of-self c = flagged_behind c.self.inside.flags.items c.self.inside.late.items c.self.inside.ids.keys c.swap_lists.new.ids.items c.swap_lists.ensures.ids c.self.invariant

pub returns-clause-none : goal.returns-clause-none
returns-clause-none c = λ none.
    let v = c.self.inside in
    ap (λ (ls : List ℕ). ls ++ v.ids.keys) c.swap_lists.ensures.ids ∙ behind v.late.items v.ids.keys (c.self.view_is ∙ none)
  where
    behind : (xs ys : List ℕ) → xs ++ ys ≡ [] → ys ≡ []
    behind [] ys e = e
    behind (x ∷ xs) ys e = cc
