-- What stands under a name after a list has changed.
use Rattle.std.proofs.Common.{◌≡◌, ℕ, ◌==◌, Bool, true, false, cond, List, [], ◌∷◌, ◌++◌, Option, Some, None, option_map, refl, sym, ap, ◌∙◌}
use Rattle.std.specs.Option.{option_or}
use Rattle.std.proofs.lemmas.Bool.{eqb-true, eq-eqb}
use Rattle.std.proofs.lemmas.Iterator.Adapters.{option_map_id}
use Rattle.signal_model.specs.Signals.{changed, found, without}

-- ---- any list of what has names

-- it leaves what has another name
or_other : {A : Type 0} (o : Option A) (b : Bool) (x : A) → b ≡ false → option_or o (cond b (Some x) None) ≡ o
or_other None b x off = (λ i. cond (off i) (Some x) None)
or_other (Some y) b x off = refl

module _ {A : Type 0} (name : A → ℕ) where
  -- a change of n changes what is found under n, and nothing else
  pub found_changed : (m n : ℕ) (f : A → A) (xs : List A) → ((x : A) → name (f x) ≡ name x) →
      found name m (changed name n f xs) ≡ option_map (λ x. cond (m == n) (f x) x) (found name m xs)
  found_changed m n f [] same = refl
  found_changed m n f (x ∷ xs) same = go (n == name x) (m == name x) refl refl (found_changed m n f xs same)
    where
      go : (a b : Bool) → (n == name x) ≡ a → (m == name x) ≡ b →
          found name m (changed name n f xs) ≡ option_map (λ y. cond (m == n) (f y) y) (found name m xs) →
          cond (m == name (cond a (f x) x)) (Some (cond a (f x) x)) (found name m (changed name n f xs))
          ≡ option_map (λ y. cond (m == n) (f y) y) (cond b (Some x) (found name m xs))
      go true true p q ih =
          let mn : (m == n) ≡ true = eq-eqb m n (eqb-true m (name x) q ∙ sym (eqb-true n (name x) p)) in
          let here : (m == name (f x)) ≡ true = ap (λ k. m == k) (same x) ∙ q in
          (λ i. cond (here i) (Some (f x)) (found name m (changed name n f xs))) ∙ (λ i. Some (cond (sym mn i) (f x) x))
      go true false p q ih = let off : (m == name (f x)) ≡ false = ap (λ k. m == k) (same x)
          ∙ q in (λ i. cond (off i) (Some (f x)) (found name m (changed name n f xs))) ∙ ih
      go false true p q ih =
          let mn : (m == n) ≡ false = ap (λ k. k == n) (eqb-true m (name x) q) ∙ flip (name x) n p in
          (λ i. cond (q i) (Some x) (found name m (changed name n f xs))) ∙ (λ i. Some (cond (sym mn i) (f x) x))
        where
          flip : (a b : ℕ) → (b == a) ≡ false → (a == b) ≡ false
          flip a b off = elim (a == b) as (λ z. (a == b) ≡ z → z ≡ false) [
            | false ↦ λ e. refl
            | true ↦ λ e. cc (sym off ∙ eq-eqb b a (sym (eqb-true a b e)))
          ] refl
      go false false p q ih = (λ i. cond (q i) (Some x) (found name m (changed name n f xs))) ∙ ih

  -- it leaves another
  pub found_other : (m n : ℕ) (f : A → A) (xs : List A) → ((x : A) → name (f x) ≡ name x) → (m == n) ≡ false →
      found name m (changed name n f xs) ≡ found name m xs
  found_other m n f xs same off = found_changed m n f xs same ∙ (λ i. option_map (λ x. cond (off i) (f x) x) (found name m xs))
      ∙ option_map_id (found name m xs)

  -- and changes its own
  pub found_mapped : (n : ℕ) (f : A → A) (xs : List A) → ((x : A) → name (f x) ≡ name x) →
      found name n (changed name n f xs) ≡ option_map f (found name n xs)
  found_mapped n f xs same = found_changed n n f xs same ∙ (λ i. option_map (λ x. cond (eq-eqb n n refl i) (f x) x) (found name n xs))

  -- where one is found
  pub found_same : (n : ℕ) (f : A → A) (xs : List A) (x : A) → ((x : A) → name (f x) ≡ name x) → found name n xs ≡ Some x →
      found name n (changed name n f xs) ≡ Some (f x)
  found_same n f xs x same at = found_mapped n f xs same ∙ ap (option_map f) at

  -- nothing is found of what is taken out
  pub found_out : (n : ℕ) (xs : List A) → found name n (without name n xs) ≡ None
  found_out n [] = refl
  found_out n (x ∷ xs) = go (n == name x) refl (found_out n xs)
    where
      go : (b : Bool) → (n == name x) ≡ b → found name n (without name n xs) ≡ None →
          found name n (cond b (without name n xs) (x ∷ without name n xs)) ≡ None
      go true e ih = ih
      go false e ih = (λ i. cond (e i) (Some x) (found name n (without name n xs))) ∙ ih

  -- and another is left
  pub found_left : (m n : ℕ) (xs : List A) → (m == n) ≡ false → found name m (without name n xs) ≡ found name m xs
  found_left m n [] off = refl
  found_left m n (x ∷ xs) off = go (n == name x) refl (found_left m n xs off)
    where
      go : (b : Bool) → (n == name x) ≡ b → found name m (without name n xs) ≡ found name m xs →
          found name m (cond b (without name n xs) (x ∷ without name n xs)) ≡ found name m (x ∷ xs)
      go true e ih = let a : (m == name x) ≡ false = ap (λ k. m == k) (sym (eqb-true n (name x) e)) ∙ off in ih
          ∙ (λ i. cond (sym a i) (Some x) (found name m xs))
      go false e ih = ap (λ o. cond (m == name x) (Some x) o) ih

  -- one more at the end is found where none was before
  pub found_append : (n : ℕ) (xs : List A) (x : A) → found name n (xs ++ x ∷ []) ≡ option_or (found name n xs) (cond (n == name x) (Some x) None)
  found_append n [] x = refl
  found_append n (y ∷ ys) x = go (n == name y) (found_append n ys x)
    where
      go : (b : Bool) → found name n (ys ++ x ∷ []) ≡ option_or (found name n ys) (cond (n == name x) (Some x) None) →
          cond b (Some y) (found name n (ys ++ x ∷ [])) ≡ option_or (cond b (Some y) (found name n ys)) (cond (n == name x) (Some x) None)
      go true ih = refl
      go false ih = ih

  -- it leaves another
  pub found_more : (n : ℕ) (xs : List A) (x : A) → (n == name x) ≡ false → found name n (xs ++ x ∷ []) ≡ found name n xs
  found_more n xs x off = found_append n xs x ∙ or_other (found name n xs) (n == name x) x off

  -- and is found under its own name
  pub found_new : (xs : List A) (x : A) → found name (name x) xs ≡ None → found name (name x) (xs ++ x ∷ []) ≡ Some x
  found_new xs x none =
      let on : (name x == name x) ≡ true = eq-eqb (name x) (name x) refl in
      found_append (name x) xs x ∙ (λ i. option_or (none i) (cond (on i) (Some x) None))
