-- Lists that are put together.
use Rattle.std.proofs.Common.{◌≡◌, ℕ, List, [], ◌∷◌, ◌++◌, append_assoc, append-nil, refl, sym, ap, ◌∙◌}
use Rattle.page_model.specs.Forest.{Forest, none, node, after, keys}
use Rattle.page_model.specs.Labels.{Look}

-- the keys of trees one after the other
pub keys_after : {A : Type 0} (x y : Forest A) → keys (after x y) ≡ keys x ++ keys y
keys_after none y = refl
keys_after (node m l k r) y = ap (λ z. m ∷ z) (ap (λ z. keys k ++ z) (keys_after r y) ∙ sym (append_assoc (keys k) (keys r) (keys y)))

-- a node's address before those below it
pub node_out : (old now : List ℕ) (a : ℕ) (x : Look) (k t : Forest Look) → t ≡ node a x k none → now ≡ (old ++ a ∷ []) ++ keys k → now ≡ old ++ keys t
node_out old now a x k t e h =
    h ∙ (append_assoc old (a ∷ []) (keys k) ∙ (ap (λ z. old ++ a ∷ z) (sym (append-nil (keys k))) ∙ ap (λ z. old ++ keys z) (sym e)))
