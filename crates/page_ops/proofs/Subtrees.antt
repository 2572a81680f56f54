-- The numbers and the depths of a subtree that comes.
use Rattle.std.proofs.Common.{◌≡◌, ℕ, zero, suc, ◌+◌, ◌<◌, ◌==◌, Bool, true, false, ◌||◌, refl, sym, ap, ◌∙◌, arith, cond, eqb-true, inl, inr, if◌then◌else◌, ltb, List, [], ◌∷◌, ◌++◌, length, map, take, get_or, append_assoc, append-nil, Option, Some, None}
use Rattle.std.proofs.lemmas.Bool.{cases_Bool}
use Rattle.std.proofs.lemmas.Bool.Decides.{nat_tests}
use Rattle.page_model.specs.Forest.{Forest, none, node, after, keys, on, one, tally}
use Rattle.page_model.specs.Labels.{Kind}
use Rattle.page_model.specs.Replay.{first_deep, first_used, or_else}
use Rattle.page_tree.specs.declared.sub.Sub.TheVariants as sub
use Rattle.page_tree.specs.Subs.{side_by_side, sub_tree}
use Rattle.page_tree.proofs.Shared.{tree_text, tree_element}
use Rattle.page_ops.specs.Numbers.{first_of, is_again, mark, met_again, often}

keys_after : (xs ys : Forest Kind) → keys (after xs ys) ≡ keys xs ++ keys ys
keys_after none ys = refl
keys_after (node n x k r) ys = ap (λ zs. n ∷ zs) (ap (λ zs. keys k ++ zs) (keys_after r ys) ∙ sym (append_assoc (keys k) (keys r) (keys ys)))

pub keys_text : (n : ℕ) (t : _) → keys (sub_tree (sub.Text n t)) ≡ n ∷ []
keys_text n t = ap keys (tree_text n t)

pub keys_element : (n : ℕ) (name attributes subs : _) → keys (sub_tree (sub.Element n name attributes subs)) ≡ n ∷ keys (side_by_side (map sub_tree subs.items))
keys_element n name attributes subs = ap keys (tree_element n name attributes subs) ∙ ap (λ zs. n ∷ zs) (append-nil (keys (side_by_side (map sub_tree subs.items))))

pub keys_cons : (t : Forest Kind) (ts : List (Forest Kind)) → keys (side_by_side (t ∷ ts)) ≡ keys t ++ keys (side_by_side ts)
keys_cons t ts = keys_after t (side_by_side ts)

-- ---- how often

often_both : (q : ℕ) (xs ys : List ℕ) → often q (xs ++ ys) ≡ often q xs + often q ys
often_both q [] ys = omega arith
often_both q (x ∷ xs) ys = omega (arith, often_both q xs ys)

often_keys : (q : ℕ) (t : Forest Kind) → often q (keys t) ≡ tally q t
often_keys q none = refl
often_keys q (node n x k r) = (let a = often_both q (keys k) (keys r) in let b = often_keys q k in let e = often_keys q r in omega (arith, a, b, e))

mark_more : (k : ℕ) → Some (met_again (mark k)) ≡ mark (k + 1)
mark_more zero = refl
mark_more (suc k) = (let a : ((suc k + 1) == 0) ≡ false = grind (arith, nat_tests) in let b : ltb 1 (suc k + 1) ≡ true = grind (arith, nat_tests) in let e : (suc k == 0) ≡ false = grind (arith, nat_tests) in rw (a, b, e) refl)

again_mark : (k : ℕ) → is_again (mark k) ≡ ltb 1 k
again_mark zero = refl
again_mark (suc k) = (let e : (suc k == 0) ≡ false = grind (arith, nat_tests) in rw e refl)

take_next : (i : ℕ) (ns : List ℕ) → i < length ns → take (suc i) ns ≡ take i ns ++ get_or ns i 0 ∷ []
take_next i [] l = absurd (omega arith)
take_next zero (n ∷ ns) l = refl
take_next (suc i) (n ∷ ns) l = ap (λ zs. n ∷ zs) (take_next i ns (omega arith))

take_more : (i : ℕ) (ns : List ℕ) (n : ℕ) → i < length ns → n ≡ get_or ns i 0 → take (i + 1) ns ≡ take i ns ++ n ∷ []
take_more i ns n l e = ap (λ j. take j ns) (let z : i + 1 ≡ suc i = omega arith in z) ∙ (take_next i ns l ∙ ap (λ m. take i ns ++ m ∷ []) (sym e))

-- one number more
pub noted_step : (q n i : ℕ) (ns : List ℕ) (f f' : ℕ → Option Bool) → i < length ns → n ≡ get_or ns i 0 → ((p : ℕ) → f p ≡ mark (often p (take i ns))) → f' q ≡ cond (n == q) (Some (met_again (f n))) (f q) → f' q ≡ mark (often q (take (i + 1) ns))
noted_step q n i ns f f' l e h s =
    let t : take (i + 1) ns ≡ take i ns ++ n ∷ [] = take_more i ns n l e in
    let w : often q (take (i + 1) ns) ≡ often q (take i ns) + (one (n == q) + 0) = ap (often q) t ∙ often_both q (take i ns) (n ∷ []) in
    elim (cases_Bool (n == q)) [
      | inl a ↦ (
          let same : n ≡ q = eqb-true n q a in
          let z : f' q ≡ Some (met_again (f n)) = rw a at s in
          let v : often q (take (i + 1) ns) ≡ often n (take i ns) + 1 = (let y = rw a at w in let x = ap (λ m. often m (take i ns)) same in omega (arith, y, x)) in
          z ∙ (ap (λ o. Some (met_again o)) (h n) ∙ (mark_more (often n (take i ns)) ∙ ap mark (sym v))))
      | inr a ↦ (
          let z : f' q ≡ f q = rw a at s in
          let v : often q (take (i + 1) ns) ≡ often q (take i ns) = (let y = rw a at w in omega (arith, y)) in
          z ∙ (h q ∙ ap mark (sym v)))
    ]

-- ---- the first that is used

first_both : (test : ℕ → Bool) (xs ys : List ℕ) → first_of test (xs ++ ys) ≡ or_else (first_of test xs) (first_of test ys)
first_both test [] ys = refl
first_both test (x ∷ xs) ys = elim (cases_Bool (test x)) [ inl e ↦ rw e refl | inr e ↦ rw e (first_both test xs ys) ]

first_keys : (whole part now : Forest Kind) (test : ℕ → Bool) → ((n : ℕ) → test n ≡ (on n now || ltb 1 (tally n whole))) → first_used whole part now ≡ first_of test (keys part)
first_keys whole none now test h = refl
first_keys whole (node n x k r) now test h = elim (cases_Bool (test n)) [
  | inl e ↦ (let g = sym (h n) ∙ e in rw (g, e) refl)
  | inr e ↦ (let g = sym (h n) ∙ e in rw (g, e) (rw (first_keys whole k now test h, first_keys whole r now test h) (sym (first_both test (keys k) (keys r)))))
]

pub used_is : (whole now : Forest Kind) (f : ℕ → Option Bool) (ns : List ℕ) → ns ≡ keys whole → ((q : ℕ) → f q ≡ mark (often q ns)) → first_of (λ n. on n now || is_again (f n)) ns ≡ first_used whole whole now
used_is whole now f ns e h =
    ap (first_of (λ n. on n now || is_again (f n))) e
    ∙ sym (first_keys whole whole now (λ n. on n now || is_again (f n)) (λ n. (
    let a : is_again (f n) ≡ ltb 1 (tally n whole) = ap is_again (h n) ∙ (again_mark (often n ns) ∙ ap (ltb 1) (ap (often n) e ∙ often_keys n whole)) in
    ap (λ b. on n now || b) a)))

-- ---- the first that is too deep

or_nothing : (o : Option ℕ) → or_else o None ≡ o
or_nothing None = refl
or_nothing (Some n) = refl

or_assoc : (a b d : Option ℕ) → or_else (or_else a b) d ≡ or_else a (or_else b d)
or_assoc None b d = refl
or_assoc (Some n) b d = refl

deep_after : (d : ℕ) (xs ys : Forest Kind) → first_deep d (after xs ys) ≡ or_else (first_deep d xs) (first_deep d ys)
deep_after d none ys = refl
deep_after d (node n x k r) ys = elim (cases_Bool (ltb 32 d)) [
  | inl e ↦ rw e refl
  | inr e ↦ rw e (ap (or_else (first_deep (suc d) k)) (deep_after d r ys) ∙ sym (or_assoc (first_deep (suc d) k) (first_deep d r) (first_deep d ys)))
]

pub deep_cons : (d : ℕ) (t : Forest Kind) (ts : List (Forest Kind)) → first_deep d (side_by_side (t ∷ ts)) ≡ or_else (first_deep d t) (first_deep d (side_by_side ts))
deep_cons d t ts = deep_after d t (side_by_side ts)

pub deep_text : (d n : ℕ) (t : _) → first_deep d (sub_tree (sub.Text n t)) ≡ (if ltb 32 d then Some n else None)
deep_text d n t = ap (first_deep d) (tree_text n t)

pub deep_element : (d n : ℕ) (name attributes subs : _) → first_deep d (sub_tree (sub.Element n name attributes subs)) ≡ (if ltb 32 d then Some n else first_deep (suc d) (side_by_side (map sub_tree subs.items)))
deep_element d n name attributes subs =
    ap (first_deep d) (tree_element n name attributes subs) ∙ ap (λ o. if ltb 32 d then Some n else o) (or_nothing (first_deep (suc d) (side_by_side (map sub_tree subs.items))))
