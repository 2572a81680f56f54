-- Of the children of nodes that are compared, those stay whose numbers are said to: they are on the next page too.
use Rattle.std.proofs.Common.{◌≡◌, ℕ, ◌==◌, Bool, true, false, cond, not, Some, None, List, [], ◌∷◌, ◌++◌, map, refl, sym, ap, ◌∙◌, eq-eqb, inl, inr}
use Rattle.std.specs.List.{flat_map}
use Rattle.std.proofs.lemmas.Bool.{cases_Bool, false≢true, true≢false, or_cases}
use Rattle.page_model.specs.Edits.{listed, siblings}
use Rattle.page_model.specs.Forest.{Forest, none, node, kids, on}
use Rattle.page_model.specs.Labels.{Look}
use Rattle.page_model.specs.Pages.{IsPage, IsShape, NumberedPage, SameOrigin, number_of, page_shape, those, tree_of}
use Rattle.page_model.proofs.Shared.{or_left, or_right, in_flat}
use Rattle.tpl_drawn.specs.Comparison.{Each, IsTouched, known_of}
use Rattle.tpl_model.specs.NextPage.Lookups.{TellsKept, gone_numbers}
use Rattle.tpl_model.proofs.Shared.{child_on, children_read, from_those, in_map, map_in, stays_child, to_those, in_both, flat_same}
use Rattle.tpl_drawn.specs.Marks.{children_in, next_of}
use Rattle.tpl_model.specs.ShownNodes.Shapes.{Marked, Next}
use Rattle.tpl_live.specs.Plans.{children_staying, numbers_staying}

-- ---- lists

from_flat : (f : ℕ → List ℕ) (n : ℕ) (ws : List ℕ) → listed n (flat_map f ws) ≡ true → (a : ℕ) × (listed a ws ≡ true) × (listed n (f a) ≡ true)
from_flat f n [] h = absurd (false≢true h)
from_flat f n (w ∷ ws) h = elim (or_cases (listed n (f w)) (listed n (flat_map f ws)) (sym (in_both n (f w) (flat_map f ws)) ∙ h)) [
  | inl e ↦ (w, or_left (w == w) (listed w ws) (eq-eqb w w refl), e)
  | inr e ↦ (let i = from_flat f n ws e in (i.0, or_right (w == i.0) (listed i.0 ws) i.1, i.2))
]

-- ---- the children that stay

-- the next children of a node that have a number, by number
abbrev stayed : NumberedPage → Forest Look → ℕ → List ℕ
stayed p shape a = map (number_of p) (those (λ c. on c (page_shape p)) (siblings (kids a shape)))

one_staying : (num : ℕ → ℕ) (a : ℕ) (t : Forest Look) (cs : List Next) (ns : List ℕ) (b : Bool) → numbers_staying cs ≡ map num ns →
    numbers_staying (next_of (cond b (Some (num a)) None) t ∷ cs) ≡ map num (cond b (a ∷ ns) ns)
one_staying num a t cs ns true e = ap (λ z. num a ∷ z) e
one_staying num a t cs ns false e = e

staying_so : (p : NumberedPage) (t : Forest Look) → numbers_staying (children_in (known_of p) t) ≡ map (number_of p) (those (λ c. on c (page_shape p)) (siblings t))
staying_so p none = refl
staying_so p (node a x k r) =
    one_staying (number_of p) a (node a x k none) (children_in (known_of p) r) (those (λ c. on c (page_shape p)) (siblings r)) (on a (page_shape p)) (staying_so p r)

pub children_so : (p : NumberedPage) (shape : Forest Look) (ws : List ℕ) (ms : List Marked) → Each (IsTouched p shape) ws ms →
    children_staying ms ≡ flat_map (stayed p shape) ws
children_so p shape [] [] h = refl
children_so p shape (a ∷ ws) (m ∷ ms) h =
    let e : numbers_staying m.children ≡ stayed p shape a = ap numbers_staying h.0.children ∙ staying_so p (kids a shape) in
    (λ i. e i ++ children_so p shape ws ms h.1 i)
children_so p shape [] (m ∷ ms) h = absurd h
children_so p shape (a ∷ ws) [] h = absurd h

-- ---- they are those of the next page

-- of a compared node's old children those are said to stay that are on the next page
told_staying : (p : NumberedPage) (shape : Forest Look) (ws : List ℕ) → IsPage p → IsShape shape → SameOrigin (page_shape p) shape → (a b : ℕ) →
    listed a ws ≡ true → on a (page_shape p) ≡ true → listed b (siblings (kids a (page_shape p))) ≡ true →
    listed (number_of p b) (flat_map (stayed p shape) ws) ≡ on b shape
told_staying p shape ws q s so a b w o h =
    let old = page_shape p in
    let num = number_of p in
    let there : on b old ≡ true = child_on a b old h in
    elim (cases_Bool (on b shape)) [
      | inl e ↦ in_flat (stayed p shape) (num b) a ws w
          (map_in num b (those (λ c. on c old) (siblings (kids a shape)))
          (to_those (λ c. on c old) b (siblings (kids a shape)) (stays_child p shape a b q s so o h e) there)) ∙ sym e
      | inr e ↦ elim (cases_Bool (listed (num b) (flat_map (stayed p shape) ws))) [
        | inl f ↦ (
            let i = from_flat (stayed p shape) (num b) ws f in
            let c = in_map num (num b) (those (λ d. on d old) (siblings (kids i.0 shape))) i.2 in
            let d = from_those (λ d. on d old) c.0 (siblings (kids i.0 shape)) c.1 in
            let same : c.0 ≡ b = q.distinct c.0 b d.1 there c.2 in
            absurd (true≢false (sym (ap (λ z. on z shape) (sym same) ∙ child_on i.0 c.0 shape d.0) ∙ e)))
        | inr f ↦ f ∙ sym e
      ]
    ]

-- ---- what is read by them

-- a test that says the same of each child
abbrev SayAlike : NumberedPage → (ℕ → Bool) → (ℕ → Bool) → ℕ → Type 0
SayAlike p f g a = (b : ℕ) → listed b (siblings (kids a (page_shape p))) ≡ true → f (number_of p b) ≡ g (number_of p b)

those_same : (num : ℕ → ℕ) (f g : ℕ → Bool) (xs : List ℕ) → ((j : ℕ) → listed j xs ≡ true → f (num j) ≡ g (num j)) → those f (map num xs) ≡ those g (map num xs)
those_same num f g [] h = refl
those_same num f g (x ∷ xs) h =
    let e = h x (or_left (x == x) (listed x xs) (eq-eqb x x refl)) in
    let i = those_same num f g xs (λ j k. h j (or_right (x == j) (listed j xs) k)) in
    (λ t. cond (e t) (num x ∷ i t) (i t))

gone_same : (p : NumberedPage) (f g : ℕ → Bool) (a : ℕ) → IsPage p → on a (page_shape p) ≡ true → SayAlike p f g a →
    gone_numbers f (tree_of p) (number_of p a) ≡ gone_numbers g (tree_of p) (number_of p a)
gone_same p f g a q o h =
    let xs = siblings (kids a (page_shape p)) in
    ap (those (λ c. not (f c))) (children_read p a q o)
    ∙ (those_same (number_of p) (λ c. not (f c)) (λ c. not (g c)) xs (λ b i. ap not (h b i)) ∙ sym (ap (those (λ c. not (g c))) (children_read p a q o)))

-- ---- of all compared nodes

-- two tests of numbers that say the same of each child of each of these nodes
pub record AreAlike (p : NumberedPage) (f g : ℕ → Bool) (ws : List ℕ) : Type 0 where
  pub there : (a : ℕ) → listed a ws ≡ true → on a (page_shape p) ≡ true
  pub alike : (a : ℕ) → listed a ws ≡ true → SayAlike p f g a

pub gone_alike : (p : NumberedPage) (f g : ℕ → Bool) (ws : List ℕ) → IsPage p → AreAlike p f g ws →
    flat_map (gone_numbers f (tree_of p)) (map (number_of p) ws) ≡ flat_map (gone_numbers g (tree_of p)) (map (number_of p) ws)
gone_alike p f g ws q h =
    let num = number_of p in
    let tree = tree_of p in
    mapped (gone_numbers f tree) ws
    ∙ (flat_same (λ a. gone_numbers f tree (num a)) (λ a. gone_numbers g tree (num a)) ws (λ a i. gone_same p f g a q (h.there a i) (h.alike a i))
    ∙ sym (mapped (gone_numbers g tree) ws))
  where
    mapped : (k : ℕ → List ℕ) (xs : List ℕ) → flat_map k (map (number_of p) xs) ≡ flat_map (λ a. k (number_of p a)) xs
    mapped k [] = refl
    mapped k (x ∷ xs) = ap (λ z. k (number_of p x) ++ z) (mapped k xs)

-- what is said to stay is what is kept
pub staying_alike : (p : NumberedPage) (shape : Forest Look) (kept : ℕ → Bool) (ws : List ℕ) (ms : List Marked) → IsPage p → IsShape shape →
    SameOrigin (page_shape p) shape → TellsKept p shape kept → Each (IsTouched p shape) ws ms → ((a : ℕ) → listed a ws ≡ true → on a (page_shape p) ≡ true) →
    AreAlike p kept (λ n. listed n (children_staying ms)) ws
staying_alike p shape kept ws ms q s so tells marks there = record {
  there = there;
  alike = λ a i b h.
      tells b (child_on a b (page_shape p) h)
      ∙ (sym (told_staying p shape ws q s so a b i (there a i) h) ∙ sym (ap (listed (number_of p b)) (children_so p shape ws ms marks)));
}
