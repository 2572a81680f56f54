-- The addresses of what comes, child by child.
use Rattle.std.proofs.Common.{◌≡◌, List, [], ◌∷◌, ◌++◌, append-nil, refl, sym, ap}
use Rattle.page_model.specs.Forest.{keys}
use Rattle.tpl_model.specs.ShownNodes.Shapes.{Next, comes, stays}
use Rattle.tpl_drawn.specs.Addresses.{coming_in}

-- the first child's come before those of the others
pub first_comes : (c : Next) (cs : List Next) → coming_in (c ∷ cs) ≡ coming_in (c ∷ []) ++ coming_in cs
first_comes (stays n) cs = refl
first_comes (comes t) cs = ap (λ z. z ++ coming_in cs) (sym (append-nil (keys t)))
