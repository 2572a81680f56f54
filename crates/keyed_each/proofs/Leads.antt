-- The steps judged on all keys are those judged on the keys not yet reached, and they lead to the new keys.
use Rattle.std.proofs.Common.{◌≡◌, ℕ, suc, true, false, ◌||◌, refl, sym, ap, ◌∙◌, arith, List, [], ◌∷◌, ◌++◌, length, map, Bool, Some, slice_get, Decides, append_assoc, length-append, inl, inr}
use Rattle.std.proofs.lemmas.Bool.{cases_Bool, true≢false, false≢true}
use Rattle.std.specs.List.{IsDistinct}
use Rattle.keyed_each.specs.declared.places.RowStep.{RowStep}
use Rattle.keyed_each.specs.declared.places.RowStep.TheVariants.{Keep, Insert, Move}
use Rattle.keyed_each.specs.Steps.{after_steps, inserted, kept, listed, placed, put_at, spot, steps_between, steps_from, taken}
use Rattle.keyed_each.specs.Queue.{judged, leads, left}
use Rattle.keyed_each.proofs.Distinct.{Apart, apart}
use Rattle.keyed_each.proofs.Keys.{marked_kept}

module _ {A : Type 0} (eq : A → A → Bool) (decides : (x y : A) → Decides (eq x y) (x ≡ y)) where
  same_key : (x k : A) → eq x k ≡ true → x ≡ k
  same_key x k e = (decides x k).0 e

  same_self : (k : A) → eq k k ≡ true
  same_self k = (decides k k).1 refl

  has_app : (k : A) (xs ys : List A) → listed eq k (xs ++ ys) ≡ (listed eq k xs || listed eq k ys)
  has_app k [] ys = refl
  has_app k (x ∷ xs) ys = elim (cases_Bool (eq x k)) [ inl e ↦ rw e refl | inr e ↦ rw e (has_app k xs ys) ]

  put_app : (k : A) (xs ys : List A) → put_at (length xs) k (xs ++ ys) ≡ (xs ++ k ∷ ys)
  put_app k [] ys = refl
  put_app k (x ∷ xs) ys = ap (λ zs. x ∷ zs) (put_app k xs ys)

  without_app : (k : A) (xs ys : List A) → listed eq k xs ≡ false → taken eq k (xs ++ ys) ≡ (xs ++ taken eq k ys)
  without_app k [] ys h = refl
  without_app k (x ∷ xs) ys h = elim (cases_Bool (eq x k)) [
    | inl e ↦ absurd (true≢false (rw e at h))
    | inr e ↦ rw e (ap (λ zs. x ∷ zs) (without_app k xs ys (rw e at h)))
  ]

  stands_app : (k : A) (xs ys : List A) → placed eq k (length xs) (xs ++ ys) ≡ leads eq k ys
  stands_app k [] [] = refl
  stands_app k [] (y ∷ ys) = refl
  stands_app k (x ∷ xs) ys = stands_app k xs ys

  get_app : (k : A) (xs ys : List A) → slice_get (xs ++ k ∷ ys) (length xs) ≡ Some k
  get_app k [] ys = refl
  get_app k (x ∷ xs) ys = get_app k xs ys

  front_again : (k : A) (xs : List A) → leads eq k xs ≡ true → xs ≡ (k ∷ taken eq k xs)
  front_again k [] h = absurd (false≢true h)
  front_again k (x ∷ xs) h = rw h (ap (λ z. z ∷ xs) (same_key x k h))

  other : (k m : A) (ks : List A) → listed eq k ks ≡ false → listed eq m ks ≡ true → eq k m ≡ false
  other k m ks n h = elim (cases_Bool (eq k m)) [
    | inl e ↦ (let d = same_key k m e in absurd (false≢true (sym n ∙ ap (λ i. listed eq i ks) d ∙ h)))
    | inr e ↦ e
  ]

  later : (k m : A) (ks : List A) → listed eq m ks ≡ true → listed eq m (k ∷ ks) ≡ true
  later k m ks h = elim (cases_Bool (eq k m)) [ inl e ↦ rw e refl | inr e ↦ rw e h ]

  flipped : (k m : A) → eq m k ≡ false → eq k m ≡ false
  flipped k m h = elim (cases_Bool (eq k m)) [
    | inl e ↦ (let d = same_key k m e in absurd (false≢true (sym h ∙ ap (λ i. eq i k) (sym d) ∙ same_self k)))
    | inr e ↦ e
  ]

  has_without : (k m : A) (xs : List A) → eq k m ≡ false → listed eq m (taken eq k xs) ≡ listed eq m xs
  has_without k m [] d = refl
  has_without k m (x ∷ xs) d = elim (cases_Bool (eq x k)) [
    | inl e ↦ (let s = same_key x k e in rw e (rw s (rw d refl)))
    | inr e ↦ rw e (ap (λ b. eq x m || b) (has_without k m xs d))
  ]

  apart_without : (k : A) (xs : List A) → Apart eq xs → Apart eq (taken eq k xs)
  apart_without k [] a = a
  apart_without k (x ∷ xs) a = elim (cases_Bool (eq x k)) [
    | inl e ↦ rw e a.1
    | inr e ↦ rw e (has_without k x xs (flipped k x e) ∙ a.0, apart_without k xs a.1)
  ]

  gone : (k : A) (xs : List A) → Apart eq xs → listed eq k (taken eq k xs) ≡ false
  gone k [] a = refl
  gone k (x ∷ xs) a = elim (cases_Bool (eq x k)) [
    | inl e ↦ (let s = same_key x k e in rw e (ap (λ i. listed eq i xs) (sym s) ∙ a.0))
    | inr e ↦ rw e (rw e (gone k xs a.1))
  ]

  longer : (k : A) (xs : List A) → length (xs ++ k ∷ []) ≡ suc (length xs)
  longer k xs = omega (arith, length-append xs (k ∷ []))

  clear_on : (k : A) (done ks : List A) → listed eq k ks ≡ false → ((m : A) → listed eq m (k ∷ ks) ≡ true → listed eq m done ≡ false) → (m : A) → listed eq m ks ≡ true → listed eq m (done ++ k ∷ []) ≡ false
  clear_on k done ks a c m i = has_app m done (k ∷ []) ∙ (rw (c m (later k m ks i), other k m ks a i) refl)

  pub judged_is : (old done rest ks : List A) → Apart eq rest → Apart eq ks → ((m : A) → listed eq m ks ≡ true → listed eq m done ≡ false) → steps_from eq old (length done) (done ++ rest) ks ≡ judged eq old (length done) rest ks
  judged_is old done rest [] ar ak c = refl
  judged_is old done rest (k ∷ ks) ar ak c =
      let cn : listed eq k done ≡ false = c k (rw (same_self k) refl) in
      let hn : listed eq k (done ++ rest) ≡ listed eq k rest = has_app k done rest ∙ ap (λ b. b || listed eq k rest) cn in
      elim (cases_Bool (listed eq k rest)) [
        | inl e ↦ (
            let h : listed eq k (done ++ rest) ≡ true = hn ∙ e in
            let ih = judged_is old (done ++ k ∷ []) (taken eq k rest) ks (apart_without k rest ar) ak.1 (clear_on k done ks ak.0 c) in
            let i1 = rw (longer k done) at ih in
            let i2 = rw (append_assoc done (k ∷ []) (taken eq k rest)) at i1 in
            rw (h, e) (rw (stands_app k done rest) (elim (cases_Bool (leads eq k rest)) [
              | inl s ↦ (let n : steps_from eq old (suc (length done)) (done ++ rest) ks ≡ judged eq old (suc (length done)) (taken eq k rest) ks = ap (λ zs. steps_from eq old (suc (length done)) (done ++ zs) ks) (front_again k rest s) ∙ i2 in rw s (ap (λ zs. Keep ∷ zs) n))
              | inr s ↦ rw s (rw (without_app k done rest cn, put_app k done (taken eq k rest)) (ap (λ zs. Move (spot eq k old) ∷ zs) i2))
            ])))
        | inr e ↦ (
            let h : listed eq k (done ++ rest) ≡ false = hn ∙ e in
            let ih = judged_is old (done ++ k ∷ []) rest ks ar ak.1 (clear_on k done ks ak.0 c) in
            let i1 = rw (longer k done) at ih in
            let i2 = rw (append_assoc done (k ∷ []) rest) at i1 in
            rw (h, e) (rw (put_app k done rest) (ap (λ zs. Insert (length done) ∷ zs) i2)))
      ]

  empty : (xs : List A) → ((m : A) → listed eq m xs ≡ true → false ≡ true) → xs ≡ []
  empty [] h = refl
  empty (x ∷ xs) h = absurd (false≢true (h x (rw (same_self x) refl)))

  at_spot : (k : A) (old : List A) → listed eq k old ≡ true → slice_get old (spot eq k old) ≡ Some k
  at_spot k [] h = absurd (false≢true h)
  at_spot k (x ∷ xs) h = elim (cases_Bool (eq x k)) [
    | inl e ↦ rw e (ap Some (same_key x k e))
    | inr e ↦ rw e (at_spot k xs (rw e at h))
  ]

  pub lead : (old done rest ks : List A) → Apart eq rest → Apart eq ks → ((m : A) → listed eq m ks ≡ true → listed eq m done ≡ false) → ((m : A) → listed eq m rest ≡ true → listed eq m ks ≡ true) → ((m : A) → listed eq m rest ≡ true → listed eq m old ≡ true) → after_steps eq old (done ++ ks) (length done) (judged eq old (length done) rest ks) (done ++ rest) ≡ (done ++ ks)
  lead old done rest [] ar ak c v o = ap (λ zs. done ++ zs) (empty rest v)
  lead old done rest (k ∷ ks) ar ak c v o =
      let cn : listed eq k done ≡ false = c k (rw (same_self k) refl) in
      let hn : listed eq k (done ++ rest) ≡ listed eq k rest = has_app k done rest ∙ ap (λ b. b || listed eq k rest) cn in
      elim (cases_Bool (listed eq k rest)) [
        | inl e ↦ (
            let g = gone k rest ar in
            let ih = lead old (done ++ k ∷ []) (taken eq k rest) ks (apart_without k rest ar) ak.1 (clear_on k done ks ak.0 c)
            (λ m h. (let d = other k m (taken eq k rest) g h in rw d at (v m (sym (has_without k m rest d) ∙ h))))
            (λ m h. (let d = other k m (taken eq k rest) g h in o m (sym (has_without k m rest d) ∙ h))) in
            let i1 = rw (longer k done) at ih in
            let i2 = rw (append_assoc done (k ∷ []) (taken eq k rest), append_assoc done (k ∷ []) ks) at i1 in
            rw e (elim (cases_Bool (leads eq k rest)) [
              | inl s ↦ rw s (ap (λ zs. after_steps eq old (done ++ k ∷ ks) (suc (length done)) (judged eq old (suc (length done)) (taken eq k rest) ks) (done ++ zs)) (front_again k rest s) ∙ i2)
              | inr s ↦ rw s (rw (at_spot k old (o k e), without_app k done rest cn, put_app k done (taken eq k rest)) i2)
            ]))
        | inr e ↦ (
            let ih = lead old (done ++ k ∷ []) rest ks ar ak.1 (clear_on k done ks ak.0 c)
            (λ m h. (let d = other k m rest e h in rw d at (v m h))) o in
            let i1 = rw (longer k done) at ih in
            let i2 = rw (append_assoc done (k ∷ []) rest, append_assoc done (k ∷ []) ks) at i1 in
            rw e (ap (λ z. after_steps eq old (done ++ k ∷ ks) (suc (length done)) (judged eq old (suc (length done)) rest ks) (inserted eq (length done) z (done ++ rest))) (get_app k done ks) ∙ (rw (put_app k done rest) i2)))
      ]

  has_kept : (k : A) (new xs : List A) → listed eq k (kept eq new xs) ≡ true → (listed eq k new ≡ true) × (listed eq k xs ≡ true)
  has_kept k new [] h = absurd (false≢true h)
  has_kept k new (x ∷ xs) h = elim (cases_Bool (listed eq x new)) [
    | inl e ↦ (let h' = rw e at h in elim (cases_Bool (eq x k)) [
      | inl d ↦ (let s = same_key x k d in (ap (λ i. listed eq i new) (sym s) ∙ e, rw d refl))
      | inr d ↦ (let i = has_kept k new xs (rw d at h') in (i.0, rw d i.1))
    ])
    | inr e ↦ (let i = has_kept k new xs (rw e at h) in (i.0, later x k xs i.1))
  ]

  not_kept : (k : A) (new xs : List A) → listed eq k xs ≡ false → listed eq k (kept eq new xs) ≡ false
  not_kept k new xs h = elim (cases_Bool (listed eq k (kept eq new xs))) [
    | inl e ↦ absurd (true≢false (sym (has_kept k new xs e).1 ∙ h))
    | inr e ↦ e
  ]

  pub apart_kept : (new xs : List A) → Apart eq xs → Apart eq (kept eq new xs)
  apart_kept new [] a = a
  apart_kept new (x ∷ xs) a = elim (cases_Bool (listed eq x new)) [
    | inl e ↦ rw e (not_kept x new xs a.0, apart_kept new xs a.1)
    | inr e ↦ rw e (apart_kept new xs a.1)
  ]

  pub steps_judged : (old new : List A) → Apart eq old → Apart eq new → judged eq old 0 (kept eq new old) new ≡ steps_from eq old 0 (kept eq new old) new
  steps_judged old new ao an = sym (judged_is old [] (kept eq new old) new (apart_kept new old ao) an (λ m h. refl))

  pub all_led : (old new : List A) → Apart eq old → Apart eq new → after_steps eq old new 0 (steps_from eq old 0 (kept eq new old) new) (kept eq new old) ≡ new
  all_led old new ao an =
      ap (λ ss. after_steps eq old new 0 ss (kept eq new old)) (sym (steps_judged old new ao an))
      ∙ lead old [] (kept eq new old) new (apart_kept new old ao) an (λ m h. refl) (λ m h. (has_kept m new old h).0) (λ m h. (has_kept m new old h).1)

  -- a step for each new row
  pub many_judged : (old : List A) (i : ℕ) (rest ks : List A) → length (judged eq old i rest ks) ≡ length ks
  many_judged old i rest [] = refl
  many_judged old i rest (k ∷ ks) = elim (cases_Bool (listed eq k rest)) [
    | inl e ↦ rw e (ap suc (many_judged old (suc i) (taken eq k rest) ks))
    | inr e ↦ rw e (ap suc (many_judged old (suc i) rest ks))
  ]

  -- the steps that are judged where the old keys wait that are among the new ones
  pub whole : (old new olds : List A) (waiting : List Bool) (steps : List RowStep) → IsDistinct eq old → IsDistinct eq new → olds ≡ old
      → waiting ≡ map (λ k. listed eq k new) olds → steps ≡ judged eq olds 0 (left waiting olds) new → steps ≡ steps_between eq old new
  whole old new olds waiting steps od nd o w s =
      s
      ∙ (ap (λ z. judged eq olds 0 z new) (ap (λ z. left z olds) w ∙ marked_kept eq decides new olds)
      ∙ (ap (λ z. judged eq z 0 (kept eq new z) new) o ∙ steps_judged old new (apart eq decides old od) (apart eq decides new nd)))
