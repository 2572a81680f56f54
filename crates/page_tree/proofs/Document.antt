-- The numbers of nodes that are built from rows.
use Rattle.std.proofs.Common.{◌≡◌, ℕ, zero, suc, ◌-◌, ◌<◌, refl, sym, ap, ◌∙◌, arith, append_assoc, append-nil, List, [], ◌∷◌, ◌++◌, Option, Some, None}
use Rattle.page_model.specs.Forest.{Forest, none, keys}
use Rattle.page_model.specs.Labels.{Kind}
use Rattle.page_tree.specs.Rows.{Row, grown, grow, build, tree_in}

keys_grown : (n : ℕ) (o : Option Row) (below : List ℕ → Forest Kind) (r : Forest Kind) → keys (grown n o below r) ≡ keys (grown n o below none) ++ keys r
keys_grown n None below r = refl
keys_grown n (Some p) below r = ap (λ zs. n ∷ (zs ++ keys r)) (sym (append-nil (keys (below p.children))))

pub keys_cons : (levels : ℕ) (rows : ℕ → Option Row) (n : ℕ) (ns : List ℕ) → keys (build levels rows (n ∷ ns)) ≡ keys (build levels rows (n ∷ [])) ++ keys (build levels rows ns)
keys_cons zero rows n ns = refl
keys_cons (suc levels) rows n ns = keys_grown n (rows n) (build levels rows) (grow rows (build levels rows) ns)

-- a node's number, and then those of what stands below it
pub one_more : (levels : ℕ) (rows : ℕ → Option Row) (n : ℕ) (r : Row) (a b c ns : List ℕ) → 0 < levels → rows n ≡ Some r → b ≡ a ++ n ∷ [] → ns ≡ r.children →
    c ≡ b ++ keys (build (levels - 1) rows ns) → c ≡ a ++ keys (build levels rows (n ∷ []))
one_more zero rows n r a b c ns h e g f k = absurd (omega arith)
one_more (suc levels) rows n r a b c ns h e g f k =
    let l : suc levels - 1 ≡ levels = omega arith in
    let below : List ℕ = keys (build levels rows r.children) in
    let grew : keys (build (suc levels) rows (n ∷ [])) ≡ n ∷ (below ++ []) = ap (λ o. keys (grown n o (build levels rows) none)) e in
    rw l at k
    ∙ (ap (λ zs. zs ++ keys (build levels rows ns)) g
    ∙ (ap (λ zs. (a ++ n ∷ []) ++ keys (build levels rows zs)) f
    ∙ (append_assoc a (n ∷ []) below ∙ ap (λ zs. a ++ zs) (ap (λ zs. n ∷ zs) (sym (append-nil below)) ∙ sym grew))))

-- no nodes
pub keys_no_nodes : (levels : ℕ) (rows : ℕ → Option Row) → keys (build levels rows []) ≡ []
keys_no_nodes zero rows = refl
keys_no_nodes (suc levels) rows = refl

-- the whole tree
pub keys_all : (rows : ℕ → Option Row) (t : Forest Kind) → tree_in rows ≡ t → keys (build 33 rows (0 ∷ [])) ≡ keys t
unfolding tree_in
keys_all rows t e = ap keys e
