-- Names in the order of their first reading.
use Rattle.std.proofs.Common.{◌≡◌, ℕ, ◌==◌, ◌||◌, Bool, true, false, cond, List, [], ◌∷◌, ◌++◌, take, drop, refl, sym, ap, ◌∙◌}
use Rattle.std.proofs.lemmas.Bool.{eqb-true}
use Rattle.std.proofs.lemmas.List.{take-append-drop}
use Rattle.std.proofs.Math.Bool.{or_assoc, or-false}
use Rattle.std.specs.List.{AllByRecursion}
use Rattle.signal_model.specs.Signals.{is_in}
use Rattle.signal_model.proofs.Shared.{or_right}
use Rattle.signal_laws.specs.ReadLaws.{with_name, firsts_after, FirstsHoldLaw, FirstsAppendLaw, FirstsFrontLaw}
use Rattle.signal_laws.proofs.Lists.{in_append, in_head}

-- what is among the names and one that joins
joined_hold : (n : ℕ) (ns : List ℕ) (x : ℕ) → is_in n (with_name ns x) ≡ (is_in n ns || n == x)
joined_hold n ns x = go (is_in x ns) refl
  where
    go : (b : Bool) → is_in x ns ≡ b → is_in n (cond b ns (ns ++ x ∷ [])) ≡ (is_in n ns || n == x)
    go false e = in_append n ns (x ∷ []) ∙ ap (λ b. is_in n ns || b) (or-false (n == x))
    go true e = there (n == x) refl
      where
        there : (b : Bool) → (n == x) ≡ b → is_in n ns ≡ (is_in n ns || b)
        there false off = sym (or-false (is_in n ns))
        there true on = let was : is_in n ns ≡ true = ap (λ m. is_in m ns) (eqb-true n x on) ∙ e in rw was refl

pub firsts_hold_law : FirstsHoldLaw
firsts_hold_law n ns [] = sym (or-false (is_in n ns))
firsts_hold_law n ns (x ∷ xs) =
    firsts_hold_law n (with_name ns x) xs ∙ ap (λ b. b || is_in n xs) (joined_hold n ns x) ∙ or_assoc (is_in n ns) (n == x) (is_in n xs)

pub firsts_append_law : FirstsAppendLaw
firsts_append_law ns [] ys = refl
firsts_append_law ns (x ∷ xs) ys = firsts_append_law (with_name ns x) xs ys

-- each of these names is there
all_there : (ns xs : List ℕ) → AllByRecursion (λ x. is_in x (firsts_after ns xs) ≡ true) xs
all_there ns [] = tt
all_there ns (x ∷ xs) = (
  firsts_hold_law x ns (x ∷ xs) ∙ or_right (is_in x ns) (is_in x (x ∷ xs)) (in_head x xs),
  all_there (with_name ns x) xs,
)

-- names that are there don't join
firsts_same : (ns xs : List ℕ) → AllByRecursion (λ x. is_in x ns ≡ true) xs → firsts_after ns xs ≡ ns
firsts_same ns [] h = refl
firsts_same ns (x ∷ xs) h = ap (λ ms. firsts_after ms xs) (ap (λ b. cond b ns (ns ++ x ∷ [])) h.0) ∙ firsts_same ns xs h.1

-- a front and then the whole
front_first : (ns xs ys : List ℕ) → firsts_after (firsts_after ns xs) (xs ++ ys) ≡ firsts_after ns (xs ++ ys)
front_first ns xs ys =
    firsts_append_law (firsts_after ns xs) xs ys ∙ ap (λ ms. firsts_after ms ys) (firsts_same (firsts_after ns xs) xs (all_there ns xs))
    ∙ sym (firsts_append_law ns xs ys)

pub firsts_front_law : FirstsFrontLaw
firsts_front_law ns xs count =
    ap (firsts_after (firsts_after ns (take count xs))) (sym (take-append-drop count xs)) ∙ front_first ns (take count xs) (drop count xs)
    ∙ ap (firsts_after ns) (take-append-drop count xs)
