-- The list of owners where one is gone.
use Rattle.std.proofs.Common.{◌≡◌, ℕ, zero, suc, ◌+◌, ◌++◌, true, false, List, [], ◌∷◌, length, Option, Some, None, refl, ap, ◌∙◌, arith, length-append}
use Rattle.std.specs.Prelude.{is_some, slice_set}
use Rattle.sig_store.specs.Stored.{entry}
use Rattle.effect_tables.specs.Owners.{closed_at, living}
use Rattle.effect_tables.proofs.Numbers.{living_fewer, living_more}

-- its row is taken out
pub taken_out : (es : List (Option ℕ)) (n i : ℕ) → i ≡ n → slice_set es i None ≡ closed_at n es
taken_out es n i e = go es i ∙ ap (λ k. closed_at k es) e
  where
    go : (xs : List (Option ℕ)) (k : ℕ) → slice_set xs k None ≡ closed_at k xs
    go [] k = refl
    go (x ∷ xs) zero = refl
    go (x ∷ xs) (suc k) = ap (λ (ys : List (Option ℕ)). x ∷ ys) (go xs k)

-- where it was gone nothing changes
gone_before : (es : List (Option ℕ)) (n : ℕ) → entry es n ≡ None → es ≡ closed_at n es
gone_before [] n h = refl
gone_before (e ∷ es) zero h = ap (λ (x : Option ℕ). x ∷ es) h
gone_before (e ∷ es) (suc n) h = ap (λ (xs : List (Option ℕ)). e ∷ xs) (gone_before es n h)

-- one more is counted
pub counted_more : (es : List (Option ℕ)) (r : ℕ) → length (living 0 (es ++ Some r ∷ [])) ≡ length (living 0 es) + 1
counted_more es r = ap length (living_more es r 0 (length es) (omega arith)) ∙ length-append (living 0 es) (length es ∷ [])

none_there : (o : Option ℕ) → is_some o ≡ false → o ≡ None
none_there None h = refl
none_there (Some r) h = cc

-- where none was there nothing changes
pub gone_none : (es : List (Option ℕ)) (n : ℕ) → is_some (entry es n) ≡ false → es ≡ closed_at n es
gone_none es n h = gone_before es n (none_there (entry es n) h)

-- and where one was there one fewer is counted
pub counted_fewer : (es : List (Option ℕ)) (n live : ℕ) → live ≡ length (living 0 es) → is_some (entry es n) ≡ true → live ≡ suc (length (living 0 (closed_at n es)))
counted_fewer es n live e h = go (entry es n) refl h
  where
    go : (o : Option ℕ) → entry es n ≡ o → is_some o ≡ true → live ≡ suc (length (living 0 (closed_at n es)))
    go None p q = cc
    go (Some r) p q = e ∙ living_fewer es 0 n r p
