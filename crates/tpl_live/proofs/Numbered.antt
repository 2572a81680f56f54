-- The numbers of a page's nodes by address.
use Rattle.std.proofs.Common.{◌≡◌, ℕ, ◌+◌, ◌<◌, ◌≤◌, ◌==◌, true, false, cond, Option, Some, None, List, [], ◌∷◌, ◌++◌, append-nil, length, length-append, refl, sym, ap, subst, ◌∙◌, arith, eqb-true, inl, inr}
use Rattle.std.proofs.lemmas.Bool.{cases_Bool}
use Rattle.page_model.specs.Forest.{Forest, keys, kids, label_in, node, none, on, tally}
use Rattle.page_model.specs.Labels.{Kind, Look, Root, shown}
use Rattle.page_model.specs.Pages.{IsPage, NumberedPage, by_number, looks, page_shape, tree_of}
use Rattle.page_model.proofs.Shared.{address_above, on_looks, tally_looks}
use Rattle.tpl_drawn.specs.Comparison.{known_of}
use Rattle.tpl_drawn.specs.Marks.{Knows}
use Rattle.tpl_drawn.specs.Addresses.{AreNumbersOf}
use Rattle.tpl_model.specs.ShownNodes.Addresses.{address_of}
use Rattle.tpl_model.specs.declared.shown.Address.{Address}

-- ---- what is known

-- the numbers of the nodes below the root are those of the page
pub knows_page : (p : NumberedPage) (below : Forest (ℕ × Look)) (number : Address → Option ℕ) → p.nodes ≡ node 0 (0, Root) below none → AreNumbersOf number below →
    Knows number (known_of p)
knows_page p below number is are a =
    let c = address_of a in
    are a ∙ (known_below c below (apart c (address_above a.line a.key)) ∙ ap (λ (t : Forest (ℕ × Look)). cond (on c (looks t)) (Some (label_in (0, Root) c t).0) None) (sym is))
  where
    apart : (c : ℕ) → 0 < c → (0 == c) ≡ false
    apart c l = elim (cases_Bool (0 == c)) [ inl e ↦ (let f = eqb-true 0 c e in absurd (omega (arith, f, l))) | inr e ↦ e ]

    known_below : (c : ℕ) (below : Forest (ℕ × Look)) → (0 == c) ≡ false →
        cond (on c below) (Some (label_in (0, Root) c below).0) None
        ≡ cond (on c (looks (node 0 (0, Root) below none))) (Some (label_in (0, Root) c (node 0 (0, Root) below none)).0) None
    known_below c below z = elim (cases_Bool (on c below)) [
      | inl e ↦ (let f : on c (looks below) ≡ true = on_looks c below ∙ e in rw (z, e, f) refl)
      | inr e ↦ (let f : on c (looks below) ≡ false = on_looks c below ∙ e in rw (z, e, f) refl)
    ]

-- ---- in document order

keys_looks : (t : Forest (ℕ × Look)) → keys (looks t) ≡ keys t
keys_looks none = refl
keys_looks (node a x k r) = (λ i. a ∷ (keys_looks k i ++ keys_looks r i))

pub keys_shown : (t : Forest Look) → keys (shown t) ≡ keys t
keys_shown none = refl
keys_shown (node a x k r) = (λ i. a ∷ (keys_shown k i ++ keys_shown r i))

-- the addresses and the numbers of a page's nodes, both in document order
pub record AreListed (addresses numbers : List ℕ) (below : Forest (ℕ × Look)) : Type 0 where
  pub once : (j : ℕ) → tally j below ≤ 1
  pub addresses_are : addresses ≡ keys below
  pub numbers_are : numbers ≡ 0 ∷ keys (by_number below)

pub are_listed : (p : NumberedPage) (below : Forest Look) (tree : Forest Kind) (q : IsPage p) → page_shape p ≡ node 0 Root below none → tree ≡ tree_of p →
    AreListed (keys below) (keys tree) q.rooted.below
are_listed p below tree q shape stands =
    let b = q.rooted.below in
    let same : looks b ≡ below = sym (ap (λ (t : Forest (ℕ × Look)). kids 0 (looks t)) q.rooted.is) ∙ ap (kids 0) shape in
    record {
      once = λ j.
          let o = subst (λ (t : Forest (ℕ × Look)). tally j (looks t) ≤ 1) q.rooted.is (q.once j) in
          let s = tally_looks j b in
          omega (arith, o, s);
      addresses_are = ap keys (sym same) ∙ keys_looks b;
      numbers_are =
          ap keys (stands ∙ ap (λ (t : Forest (ℕ × Look)). shown (by_number t)) q.rooted.is)
          ∙ (ap (λ z. 0 ∷ z) (append-nil (keys (shown (by_number b))) ∙ keys_shown (by_number b)));
    }

many_numbers : (t : Forest (ℕ × Look)) → length (keys (by_number t)) ≡ length (keys t)
many_numbers none = refl
many_numbers (node a x k r) =
    let i = many_numbers k in
    let j = many_numbers r in
    let u = length-append (keys (by_number k)) (keys (by_number r)) in
    let v = length-append (keys k) (keys r) in
    omega (arith, i, j, u, v)

-- there is a number for each node that is shown and for the root
pub many_there : (p : NumberedPage) (below : Forest Look) (tree : Forest Kind) → IsPage p → page_shape p ≡ node 0 Root below none → tree ≡ tree_of p →
    length (keys below) + 1 ≡ length (keys tree)
many_there p below tree q shape stands =
    let l = are_listed p below tree q shape stands in
    let a = ap length l.addresses_are in
    let n = ap length l.numbers_are in
    let m = many_numbers q.rooted.below in
    omega (arith, a, n, m)

-- where no numbers are left to note
pub known_so : (p : NumberedPage) (below : Forest Look) (tree : Forest Kind) (number : Address → Option ℕ) (addresses numbers : List ℕ) →
    ((nodes : Forest (ℕ × Look)) (root : ℕ) → ((j : ℕ) → tally j nodes ≤ 1) → addresses ≡ keys nodes → numbers ≡ root ∷ keys (by_number nodes) → AreNumbersOf number nodes) →
    addresses ≡ keys below → numbers ≡ keys tree → (q : IsPage p) → page_shape p ≡ node 0 Root below none → tree ≡ tree_of p → Knows number (known_of p)
known_so p below tree number addresses numbers noted a n q shape stands =
    let l = are_listed p below tree q shape stands in
    knows_page p q.rooted.below number q.rooted.is (noted q.rooted.below 0 l.once (a ∙ l.addresses_are) (n ∙ l.numbers_are))
