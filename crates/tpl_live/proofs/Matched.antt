-- What comes to marked nodes has the next numbers, in the order of the marks.
use Rattle.std.proofs.Common.{◌≡◌, ℕ, suc, ◌+◌, ◌≤◌, ◌==◌, ltb, Bool, true, false, cond, Option, Some, None, List, [], ◌∷◌, ◌++◌, append_assoc, append-nil, length, length-append, refl, sym, ap, subst, ◌∙◌, arith, eq-eqb, nat_eq, inl, inr}
use Rattle.std.specs.List.{flat_map, IsDistinct}
use Rattle.std.proofs.lemmas.Bool.{cases_Bool, lt-ltb, le-ltb}
use Rattle.page_model.specs.Edits.{listed, siblings}
use Rattle.page_model.specs.Forest.{Forest, none, node, keys, kids, numbered, on}
use Rattle.page_model.specs.Labels.{Kind, Look, Sound, seen, shown}
use Rattle.page_model.specs.Pages.{IsPage, IsShape, NumberedPage, SameOrigin, carried, new_order, newcomers, number_of, page_shape, renumbered, tree_of}
use Rattle.page_model.proofs.Shared.{or_left, or_right, page_after, shape_after, by_number_with, number_with}
use Rattle.tpl_model.specs.NextPage.Arrivals.{coming}
use Rattle.tpl_model.specs.NextPage.Children.{next_children, old_children}
use Rattle.tpl_model.proofs.Shared.{children_law, kids_num, serial_law}
use Rattle.tpl_drawn.specs.Marks.{children_in, next_of}
use Rattle.tpl_drawn.specs.Addresses.{coming_below, coming_in}
use Rattle.tpl_model.specs.Sources.{in_order}
use Rattle.tpl_patch.specs.Moves.{AllFit, AllSound, AreSound, Fits, arrivals, next_numbers, number_after, number_behind}
use Rattle.tpl_model.specs.ShownNodes.Shapes.{Marked, Next}
use Rattle.tpl_drawn.specs.Comparison.{Each, IsTouched, known_of}

-- ---- the children of one node

abbrev first_key : {A : Type 0} → Forest A → ℕ
first_key none = 0
first_key (node m x k r) = m

abbrev first_kids : {A : Type 0} → Forest A → Forest A
first_kids none = none
first_kids (node m x k r) = k

abbrev first_rest : {A : Type 0} → Forest A → Forest A
first_rest none = none
first_rest (node m x k r) = r

-- the next children are these: their numbers, and what comes among them
abbrev Level : NumberedPage → Forest Look → Forest Look → List Next → ℕ → Type 0
Level p shape t cs n =
    (siblings (shown (numbered (carried p shape) t)) ≡ next_numbers n cs)
    × (coming (λ m. ltb m p.next) (shown (numbered (carried p shape) t)) ≡ shown (in_order n (arrivals cs)))

level_node : (p : NumberedPage) (shape : Forest Look) (a : ℕ) (x : Look) (k r : Forest Look) (cs : List Next) (n : ℕ) (b : Bool) → IsPage p → p.next ≤ n →
    on a (page_shape p) ≡ b →
    ((m : ℕ) → p.next ≤ m → numbered (carried p shape) (arrivals cs) ≡ in_order m (arrivals cs) → Level p shape r cs m) →
    numbered (carried p shape) (arrivals (next_of (cond b (Some (number_of p a)) None) (node a x k none) ∷ cs))
    ≡ in_order n (arrivals (next_of (cond b (Some (number_of p a)) None) (node a x k none) ∷ cs)) →
    Level p shape (node a x k r) (next_of (cond b (Some (number_of p a)) None) (node a x k none) ∷ cs) n
level_node p shape a x k r cs n true q le e later s =
    let h = later n le s in
    let old : carried p shape a ≡ number_of p a = rw e refl in
    let g : ltb (carried p shape a) p.next ≡ true = ap (λ z. ltb z p.next) old ∙ lt-ltb (number_of p a) p.next (q.below a e) in
    ((λ i. old i ∷ h.0 i), rw g h.1)
level_node p shape a x k r cs n false q le e later s =
    let num = carried p shape in
    let m = suc n + length (keys k) in
    let h = later m (omega (arith, le)) (ap first_rest s) in
    let key : num a ≡ n = ap first_key s in
    let below : numbered num k ≡ in_order (suc n) k = ap first_kids s in
    let l = length-append (keys k) [] in
    let c : m ≡ n + length (keys (node a x k none)) = omega (arith, l) in
    let g : ltb (num a) p.next ≡ false = ap (λ z. ltb z p.next) key ∙ le-ltb n p.next le in
    ((λ i. key i ∷ (h.0 ∙ ap (λ z. next_numbers z cs) c) i), rw g (λ i. node (key i) (seen x) (shown (below i)) (h.1 i)))

level : (p : NumberedPage) (shape t : Forest Look) (n : ℕ) → IsPage p → p.next ≤ n →
    numbered (carried p shape) (arrivals (children_in (known_of p) t)) ≡ in_order n (arrivals (children_in (known_of p) t)) →
    Level p shape t (children_in (known_of p) t) n
level p shape none n q le s = (refl, refl)
level p shape (node a x k r) n q le s =
    level_node p shape a x k r (children_in (known_of p) r) n (on a (page_shape p)) q le refl (λ m l e. level p shape r m q l e) s

-- what comes is new
one_arrives : (p : NumberedPage) (a : ℕ) (x : Look) (k : Forest Look) (cs : List Next) (ns : List ℕ) (b : Bool) → keys (arrivals cs) ≡ ns →
    keys (arrivals (next_of (cond b (Some (number_of p a)) None) (node a x k none) ∷ cs)) ≡ cond b [] (a ∷ keys k) ++ ns
one_arrives p a x k cs ns true e = e
one_arrives p a x k cs ns false e = ap (λ z. a ∷ (keys k ++ z)) e

arrive_keys : (p : NumberedPage) (t : Forest Look) → keys (arrivals (children_in (known_of p) t)) ≡ newcomers (λ c. on c (page_shape p)) t
arrive_keys p none = refl
arrive_keys p (node a x k r) =
    one_arrives p a x k (children_in (known_of p) r) (newcomers (λ c. on c (page_shape p)) r) (on a (page_shape p)) (arrive_keys p r)

-- the addresses of what comes among these, each with all below it
one_comes : (p : NumberedPage) (a : ℕ) (x : Look) (k : Forest Look) (cs : List Next) (ns : List ℕ) (b : Bool) → coming_in cs ≡ ns →
    coming_in (next_of (cond b (Some (number_of p a)) None) (node a x k none) ∷ cs) ≡ cond b [] (a ∷ keys k) ++ ns
one_comes p a x k cs ns true e = e
one_comes p a x k cs ns false e = (λ i. a ∷ (append-nil (keys k) i ++ e i))

come_among : (p : NumberedPage) (t : Forest Look) → coming_in (children_in (known_of p) t) ≡ newcomers (λ c. on c (page_shape p)) t
come_among p none = refl
come_among p (node a x k r) =
    one_comes p a x k (children_in (known_of p) r) (newcomers (λ c. on c (page_shape p)) r) (on a (page_shape p)) (come_among p r)

pub all_come : (p : NumberedPage) (shape : Forest Look) (ws : List ℕ) (ms : List Marked) → Each (IsTouched p shape) ws ms →
    coming_below ms ≡ flat_map (λ a. newcomers (λ c. on c (page_shape p)) (kids a shape)) ws
all_come p shape [] [] h = refl
all_come p shape (a ∷ ws) (m ∷ ms) h =
    let one : coming_in m.children ≡ newcomers (λ c. on c (page_shape p)) (kids a shape) = ap coming_in h.0.children ∙ come_among p (kids a shape) in
    (λ i. one i ++ all_come p shape ws ms h.1 i)
all_come p shape [] (m ∷ ms) h = absurd h
all_come p shape (a ∷ ws) [] h = absurd h

-- ---- sound children

sound_kids : (a : ℕ) (t : Forest Look) → Sound t → Sound (kids a t)
sound_kids a none s = tt
sound_kids a (node m x k r) s = elim (cases_Bool (m == a)) [
  | inl e ↦ rw e s.2
  | inr e ↦ elim (cases_Bool (on a k)) [ inl f ↦ rw (e, f) (sound_kids a k s.2) | inr f ↦ rw (e, f) (sound_kids a r s.3) ]
]

one_sound : (o : Option ℕ) (t : Forest Look) (cs : List Next) → Sound t → AreSound cs → AreSound (next_of o t ∷ cs)
one_sound None t cs s h = (s, h)
one_sound (Some n) t cs s h = h

sound_in : (known : ℕ → Option ℕ) (t : Forest Look) → Sound t → AreSound (children_in known t)
sound_in known none s = tt
sound_in known (node a x k r) s = one_sound (known a) (node a x k none) (children_in known r) (s.0, s.1, s.2, tt) (sound_in known r s.3)

pub all_sound : (p : NumberedPage) (shape : Forest Look) (ws : List ℕ) (ms : List Marked) → Sound shape → Each (IsTouched p shape) ws ms → AllSound ms
all_sound p shape [] [] s h = tt
all_sound p shape (a ∷ ws) (m ∷ ms) s h =
    (subst AreSound (sym h.0.children) (sound_in (known_of p) (kids a shape) (sound_kids a shape s)), all_sound p shape ws ms s h.1)
all_sound p shape [] (m ∷ ms) s h = absurd h
all_sound p shape (a ∷ ws) [] s h = absurd h

-- ---- in the next tree

-- the children of a node that stays, by its number
pub kids_next : (p : NumberedPage) (shape : Forest Look) (a : ℕ) → IsPage p → IsShape shape → on a (page_shape p) ≡ true → on a shape ≡ true →
    kids (number_of p a) (tree_of (renumbered p shape)) ≡ shown (numbered (carried p shape) (kids a shape))
kids_next p shape a q s here there =
    let num = carried p shape in
    let next = page_after p shape q s in
    let old : num a ≡ number_of p a = rw here refl in
    let same : page_shape (renumbered p shape) ≡ shape = shape_after p shape in
    ap (λ z. kids z (tree_of (renumbered p shape))) (sym old)
    ∙ (ap (λ t. kids (num a) (shown t)) (by_number_with num shape)
    ∙ kids_num num a shape
    (λ b o e. next.distinct a b (ap (on a) same ∙ there) (ap (on b) same ∙ o) (number_with num a shape there ∙ (e ∙ sym (number_with num b shape o)))))

-- what comes among children, by two tests that say the same of each
coming_alike : (f g : ℕ → Bool) (t : Forest Kind) → ((j : ℕ) → listed j (siblings t) ≡ true → f j ≡ g j) → coming f t ≡ coming g t
coming_alike f g none h = refl
coming_alike f g (node n x k r) h =
    let e = h n (or_left (n == n) (listed n (siblings r)) (eq-eqb n n refl)) in
    let later = coming_alike f g r (λ j i. h j (or_right (n == j) (listed j (siblings r)) i)) in
    elim (cases_Bool (g n)) [
      | inl c ↦ (let d = e ∙ c in rw (c, d) later)
      | inr c ↦ (let d = e ∙ c in rw (c, d) (ap (λ z. node n x k z) later))
    ]

pub all_fit : (p : NumberedPage) (shape : Forest Look) (pre ws : List ℕ) (ms : List Marked) (n : ℕ) → IsPage p → IsShape shape → SameOrigin (page_shape p) shape →
    Each (IsTouched p shape) ws ms → new_order p shape ≡ pre ++ flat_map (λ a. newcomers (λ c. on c (page_shape p)) (kids a shape)) ws → n ≡ p.next + length pre →
    AllFit (tree_of p) n ms (tree_of (renumbered p shape)) × (number_behind n ms ≡ p.next + length (new_order p shape))
all_fit p shape pre [] [] n q s so h o e =
    (tt, (let l = ap length o ∙ ap length (append-nil pre) in omega (arith, e, l)))
all_fit p shape pre (a ∷ ws) (m ∷ ms) n q s so h o e =
    let at = h.0 in
    let xs = newcomers (λ c. on c (page_shape p)) (kids a shape) in
    let rest = flat_map (λ c. newcomers (λ d. on d (page_shape p)) (kids c shape)) ws in
    let part = arrivals (children_in (known_of p) (kids a shape)) in
    let keys_are : keys part ≡ xs = arrive_keys p (kids a shape) in
    let serial : numbered (carried p shape) part ≡ in_order (p.next + length pre) part =
    serial_law p shape part pre rest q s so (o ∙ ap (λ z. pre ++ (z ++ rest)) (sym keys_are)) in
    let lv = level p shape (kids a shape) n q (omega (arith, e)) (serial ∙ ap (λ z. in_order z part) (sym e)) in
    let kn : kids m.number (tree_of (renumbered p shape)) ≡ next_children p shape a =
    ap (λ z. kids z (tree_of (renumbered p shape))) at.number ∙ kids_next p shape a q s at.here at.there in
    let olds : siblings (kids m.number (tree_of p)) ≡ old_children p a = ap (λ z. siblings (kids z (tree_of p))) at.number in
    let follows = children_law p shape q s so a at.here at.there in
    let alike = coming_alike (λ j. listed j (old_children p a)) (λ j. ltb j p.next) (next_children p shape a) follows.stood in
    let fits : Fits (siblings (kids m.number (tree_of p))) n m.children (kids m.number (tree_of (renumbered p shape))) = record {
      old_once = subst (IsDistinct nat_eq) (sym olds) follows.old_once;
      once = subst (IsDistinct nat_eq) (sym (ap siblings kn)) follows.next_once;
      numbers = ap siblings kn ∙ (lv.0 ∙ ap (next_numbers n) (sym at.children));
      arrive = (λ i. coming (λ j. listed j (olds i)) (kn i)) ∙ (alike ∙ (lv.1 ∙ ap (λ z. shown (in_order n (arrivals z))) (sym at.children)));
    } in
    let many : length (keys (arrivals m.children)) ≡ length xs = ap (λ z. length (keys (arrivals z))) at.children ∙ ap length keys_are in
    let l = length-append pre xs in
    let more = all_fit p shape (pre ++ xs) ws ms (number_after n m.children) q s so h.1 (o ∙ sym (append_assoc pre xs rest)) (omega (arith, e, many, l)) in
    ((fits, more.0), more.1)
all_fit p shape pre [] (m ∷ ms) n q s so h o e = absurd h
all_fit p shape pre (a ∷ ws) [] n q s so h o e = absurd h
