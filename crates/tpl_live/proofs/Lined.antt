-- The lines of a page's nodes, by their numbers.
use Rattle.std.proofs.Common.{◌≡◌, ◌⊎◌, ℕ, suc, ◌+◌, ◌<◌, ◌==◌, ◌||◌, true, false, cond, Option, Some, None, List, [], ◌∷◌, ◌++◌, append-nil, drop, map, refl, sym, ap, ◌∙◌, arith, eqb-true, eq-eqb, inl, inr}
use Rattle.std.proofs.lemmas.Bool.{cases_Bool, false≢true, or_cases}
use Rattle.std.proofs.lemmas.List.{map-append}
use Rattle.page_model.specs.Edits.{listed}
use Rattle.page_model.specs.Forest.{Forest, keys, node, none, numbered, on}
use Rattle.page_model.specs.Labels.{Kind, Look, Root}
use Rattle.page_model.specs.Pages.{IsPage, IsShape, NumberedPage, by_number, new_order, number_of, page_shape, place_in, renumbered, tree_of}
use Rattle.page_model.specs.Replay.{below_root}
use Rattle.page_model.proofs.Shared.{both, kept_number, not_zero, or_left, or_right, shape_after, unused_number}
use Rattle.event_model.specs.Ways.{line_in, line_on}
use Rattle.event_model.proofs.Shared.{line_of_address, line_of_node}
use Rattle.tpl_model.specs.ShownNodes.Addresses.{address_of}
use Rattle.tpl_model.specs.declared.shown.Address.{Address}
use Rattle.tpl_model.proofs.Shared.{by_number_is, in_keys}
use Rattle.tpl_drawn.specs.Lines.{lined, lined_from}
use Rattle.tpl_live.specs.Pages.{AreLined}
use Rattle.tpl_live.proofs.Followed.{listed_new, on_page}
use Rattle.tpl_live.proofs.Numbered.{keys_shown}

-- the line of an address is read off its code
line_here : (x : Address) → x.line ≡ line_in (address_of x)
line_here x = sym (line_of_address x.line x.key)

-- ---- under the next numbers

-- what was noted of earlier numbers stays
lined_low : (xs : List Address) (n k : ℕ) (m : ℕ → Option ℕ) → k < n → lined_from xs n m k ≡ m k
lined_low [] n k m l = refl
lined_low (x ∷ xs) n k m l =
    let apart : (n == k) ≡ false = elim (cases_Bool (n == k)) [ inl e ↦ (let q : n ≡ k = eqb-true n k e in absurd (omega (arith, q, l))) | inr e ↦ e ] in
    let o : k < n + 1 = omega (arith, l) in
    lined_low xs (n + 1) k (λ j. cond (n == j) (Some x.line) (m j)) o ∙ ap (λ b. cond b (Some x.line) (m k)) apart

-- an address among these has its line under the number of its place
lined_new : (xs : List Address) (n : ℕ) (m : ℕ → Option ℕ) (a : ℕ) → listed a (map address_of xs) ≡ true →
    lined_from xs n m (n + place_in a (map address_of xs)) ≡ Some (line_in a)
lined_new [] n m a h = absurd (false≢true h)
lined_new (x ∷ xs) n m a h =
    let now : ℕ → Option ℕ = λ j. cond (n == j) (Some x.line) (m j) in
    let more = lined_from xs (n + 1) now in
    elim (cases_Bool (address_of x == a)) [
      | inl e ↦ (
          let o : n < n + 1 = omega arith in
          let k : n + 0 ≡ n = omega arith in
          let same : x.line ≡ line_in a = line_here x ∙ ap line_in (eqb-true (address_of x) a e) in
          rw e (ap more k ∙ (lined_low xs (n + 1) n now o ∙ (ap (λ b. cond b (Some x.line) (m n)) (eq-eqb n n refl) ∙ ap Some same))))
      | inr e ↦ (
          let i = place_in a (map address_of xs) in
          let k : n + suc i ≡ (n + 1) + i = omega arith in
          rw e (ap more k ∙ lined_new xs (n + 1) now a (rw e at h)))
    ]

-- a node that stays keeps its line, and one that comes has its own
pub lined_next : (p : NumberedPage) (shape : Forest Look) (coming : List Address) (line : ℕ → Option ℕ) → IsPage p → IsShape shape →
    map address_of coming ≡ new_order p shape → AreLined p line → AreLined (renumbered p shape) (lined_from coming p.next line)
lined_next p shape coming line q s order old = λ a h z.
    let here : on a shape ≡ true = sym (ap (on a) (shape_after p shape)) ∙ h in
    let now = lined_from coming p.next line in
    elim (cases_Bool (on a (page_shape p))) [
      | inl f ↦ ap now (kept_number p shape a f here) ∙ (lined_low coming p.next (number_of p a) line (q.below a f) ∙ old a f z)
      | inr f ↦ ap now (unused_number p shape a f here ∙ ap (λ ns. p.next + place_in a ns) (sym order))
          ∙ lined_new coming p.next line a (ap (listed a) order ∙ listed_new p shape a q s f here)
    ]

-- ---- read off anew

-- an address among these has its line under its number, and so has one of which that was noted
lined_of : (xs : List Address) (num : ℕ → ℕ) (m : ℕ → Option ℕ) (a : ℕ) →
    ((b : ℕ) → listed b (map address_of xs) ≡ true → num a ≡ num b → a ≡ b) →
    ((listed a (map address_of xs) ≡ true) ⊎ (m (num a) ≡ Some (line_in a))) → lined xs (map num (map address_of xs)) m (num a) ≡ Some (line_in a)
lined_of [] num m a d (inl h) = absurd (false≢true h)
lined_of [] num m a d (inr h) = h
lined_of (x ∷ xs) num m a d h =
    let c = address_of x in
    let codes = map address_of xs in
    let now : ℕ → Option ℕ = λ j. cond (num c == j) (Some x.line) (m j) in
    lined_of xs num now a (λ b e. d b (or_right (c == b) (listed b codes) e))
    (elim (cases_Bool (num c == num a)) [
      | inl e ↦ (
          let one : a ≡ c = d c (or_left (c == c) (listed c codes) (eq-eqb c c refl)) (sym (eqb-true (num c) (num a) e)) in
          let same : x.line ≡ line_in a = line_here x ∙ ap line_in (sym one) in
          inr (ap (λ b. cond b (Some x.line) (m (num a))) e ∙ ap Some same))
      | inr e ↦ left c codes e h
    ])
  where
    left : (c : ℕ) (codes : List ℕ) → (num c == num a) ≡ false → ((((c == a) || listed a codes) ≡ true) ⊎ (m (num a) ≡ Some (line_in a))) →
        (listed a codes ≡ true) ⊎ (cond (num c == num a) (Some x.line) (m (num a)) ≡ Some (line_in a))
    left c codes e (inl g) = elim (or_cases (c == a) (listed a codes) g) [
      | inl f ↦ absurd (false≢true (sym e ∙ eq-eqb (num c) (num a) (ap num (eqb-true c a f))))
      | inr f ↦ inl f
    ]
    left c codes e (inr g) = inr (ap (λ b. cond b (Some x.line) (m (num a))) e ∙ g)

keys_numbered : (num : ℕ → ℕ) (t : Forest Look) → keys (numbered num t) ≡ map num (keys t)
keys_numbered num none = refl
keys_numbered num (node m x k r) =
    ap (λ ns. num m ∷ ns) ((λ i. keys_numbered num k i ++ keys_numbered num r i) ∙ sym (map-append num (keys k) (keys r)))

-- the numbers behind that of the root are those of the addresses below it
numbers_below : (p : NumberedPage) (below : Forest Look) (tree : Forest Kind) → IsPage p → page_shape p ≡ node 0 Root below none → tree ≡ tree_of p →
    drop 1 (keys tree) ≡ map (number_of p) (keys below)
numbers_below p below tree q shape stands =
    let num = number_of p in
    let all : keys tree ≡ map num (keys (page_shape p)) =
    ap keys stands ∙ (keys_shown (by_number p.nodes) ∙ (ap keys (by_number_is p q.once) ∙ keys_numbered num (page_shape p))) in
    ap (drop 1) (all ∙ ap (λ z. map num (keys z)) shape) ∙ ap (map num) (append-nil (keys below))

-- where the lines of a page's addresses were noted under the numbers of its tree
pub lined_so : (p : NumberedPage) (below : Forest Look) (tree : Forest Kind) (line : ℕ → Option ℕ) (addresses : List Address) (numbers : List ℕ) →
    ((k : ℕ) → line k ≡ lined addresses (drop 1 numbers) (λ j. None) k) → map address_of addresses ≡ keys below → numbers ≡ keys tree →
    IsPage p → page_shape p ≡ node 0 Root below none → tree ≡ tree_of p → AreLined p line
lined_so p below tree line addresses numbers noted codes all q shape stands = λ a o z.
    let num = number_of p in
    let under : drop 1 numbers ≡ map num (map address_of addresses) =
    ap (drop 1) all ∙ (numbers_below p below tree q shape stands ∙ ap (map num) (sym codes)) in
    let seen : (b : ℕ) → listed b (map address_of addresses) ≡ true → on b (page_shape p) ≡ true = λ b e.
    ap (on b) shape ∙ or_right (0 == b) (on b below || false) (or_left (on b below) false (sym (in_keys b below) ∙ (ap (listed b) (sym codes) ∙ e))) in
    let there : listed a (map address_of addresses) ≡ true = ap (listed a) codes ∙ (in_keys a below ∙ below_on a below z (sym (ap (on a) shape) ∙ o)) in
    noted (num a) ∙ (ap (λ ns. lined addresses ns (λ j. None) (num a)) under
    ∙ lined_of addresses num (λ j. None) a (λ b e f. q.distinct a b o (seen b e) f) (inl there))
  where
    below_on : (a : ℕ) (t : Forest Look) → (0 == a) ≡ false → ((0 == a) || (on a t || false)) ≡ true → on a t ≡ true
    below_on a t z h = elim (or_cases (0 == a) (on a t || false) h) [
      | inl e ↦ absurd (false≢true (sym z ∙ e))
      | inr e ↦ elim (or_cases (on a t) false e) [ inl f ↦ f | inr f ↦ absurd (false≢true f) ]
    ]

-- ---- a node's line

pub line_there : (p : NumberedPage) (tree : Forest Kind) (line : ℕ → Option ℕ) (n : ℕ) → IsPage p → tree ≡ tree_of p → AreLined p line →
    cond (below_root n tree) (line n) None ≡ cond (below_root n tree) (Some (line_on p n)) None
line_there p tree line n q stands are = elim (cases_Bool (below_root n tree)) [
  | inl e ↦ rw e (there e)
  | inr e ↦ rw e refl
]
  where
    root_number : (p : NumberedPage) → IsPage p → number_of p 0 ≡ 0
    root_number p q = ap (λ z. number_of (record { nodes = z; next = p.next }) 0) q.rooted.is

    there : below_root n tree ≡ true → line n ≡ Some (line_on p n)
    there e =
        let o = both (on n tree) _ e in
        let a = on_page p n q (sym (ap (on n) stands) ∙ o.0) in
        let apart : (0 == a.0) ≡ false = elim (cases_Bool (0 == a.0)) [
          | inl f ↦ (
              let zero_is : 0 ≡ n = sym (root_number p q) ∙ (ap (number_of p) (eqb-true 0 a.0 f) ∙ a.2) in
              absurd (false≢true (sym (not_zero n o.1) ∙ eq-eqb 0 n zero_is)))
          | inr f ↦ f
        ] in
        ap line (sym a.2) ∙ (are a.0 a.1 apart ∙ ap Some (sym (line_of_node p a.0 q a.1) ∙ ap (line_on p) a.2))
