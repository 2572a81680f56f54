-- The effect at the place of its number.
use Rattle.std.proofs.Common.{◌≡◌, ℕ, zero, suc, ◌==◌, ◌<◌, Bool, true, false, cond, List, [], ◌∷◌, map, length, get_or, Option, option_map, Some, None, refl, ap, ◌∙◌, arith}
use Rattle.std.specs.Prelude.{IfNone}
use Rattle.std.specs.List.{AllByRecursion}
use Rattle.effect_model.specs.Worlds.{effect_at}
use Rattle.effect_tables.specs.declared.effect.Effect.{Effect}
use Rattle.effect_tables.specs.Locations.{effect_place}
use Rattle.effect_tables.specs.Placed.{effect_of}
use Rattle.effect_tables.proofs.Numbers.{some_one}

-- at this place stands the first effect of the number
abbrev pub IsPlace : ℕ → List Effect → ℕ → Type 0
IsPlace k [] i = ⊥
IsPlace k (x ∷ xs) zero = (k == x.id) ≡ true
IsPlace k (x ∷ xs) (suc i) = ((k == x.id) ≡ false) × IsPlace k xs i

-- no effect has the number
abbrev pub IsNowhere : ℕ → List Effect → Type 0
IsNowhere k xs = AllByRecursion (λ (x : Effect). (k == x.id) ≡ false) xs

-- a place is that of the first, or one place further on among the others
behind : (k : ℕ) (x : Effect) (xs : List Effect) (o : Option ℕ) → (k == x.id) ≡ false → ((i : ℕ) → Some i ≡ o → IsPlace k xs i) → (i : ℕ) → Some i ≡ option_map suc o → IsPlace k (x ∷ xs) i
behind k x xs None off more i e = cc
behind k x xs (Some n) off more zero e = let p : 0 ≡ suc n = some_one 0 (suc n) e in absurd (omega (arith, p))
behind k x xs (Some n) off more (suc i) e =
    let p : suc i ≡ suc n = some_one (suc i) (suc n) e in
    let q : i ≡ n = omega (arith, p) in
    (off, more i (ap Some q))

pub place_is : (k : ℕ) (xs : List Effect) (i : ℕ) → Some i ≡ effect_place k xs → IsPlace k xs i
place_is k [] i e = cc
place_is k (x ∷ xs) i e = go (k == x.id) refl e (place_is k xs)
  where
    first : (j : ℕ) → (k == x.id) ≡ true → Some j ≡ Some 0 → IsPlace k (x ∷ xs) j
    first zero on h = on
    first (suc j) on h = let p : suc j ≡ 0 = some_one (suc j) 0 h in absurd (omega (arith, p))

    go : (b : Bool) → (k == x.id) ≡ b → Some i ≡ cond b (Some 0) (option_map suc (effect_place k xs)) → ((j : ℕ) → Some j ≡ effect_place k xs → IsPlace k xs j) → IsPlace k (x ∷ xs) i
    go true on h more = first i on h
    go false off h more = behind k x xs (effect_place k xs) off more i h

pub nowhere_is : (k : ℕ) (xs : List Effect) → None ≡ effect_place k xs → IsNowhere k xs
nowhere_is k [] e = tt
nowhere_is k (x ∷ xs) e = go (k == x.id) refl e (nowhere_is k xs)
  where
    on_none : (o : Option ℕ) → None ≡ option_map suc o → None ≡ o
    on_none None h = refl
    on_none (Some n) h = cc

    go : (b : Bool) → (k == x.id) ≡ b → None ≡ cond b (Some 0) (option_map suc (effect_place k xs)) → (None ≡ effect_place k xs → IsNowhere k xs) → IsNowhere k (x ∷ xs)
    go true on h more = cc
    go false off h more = (off, more (on_none (effect_place k xs) h))

pub place_within : (k : ℕ) (xs : List Effect) (i : ℕ) → IsPlace k xs i → i < length xs
place_within k [] i p = absurd p
place_within k (x ∷ xs) zero p = omega arith
place_within k (x ∷ xs) (suc i) p = let l = place_within k xs i p.1 in omega (arith, l)

-- what stands there is the effect of the number
pub placed_effect : (k : ℕ) (xs : List Effect) (i : ℕ) (d : Effect) → IsPlace k xs i → effect_at k (map effect_of xs) ≡ Some (effect_of (get_or xs i d))
placed_effect k [] i d p = absurd p
placed_effect k (x ∷ xs) zero d p = ap (λ b. cond b (Some (effect_of x)) (effect_at k (map effect_of xs))) p
placed_effect k (x ∷ xs) (suc i) d p = ap (λ b. cond b (Some (effect_of x)) (effect_at k (map effect_of xs))) p.0 ∙ placed_effect k xs i d p.1

pub no_effect : (k : ℕ) (xs : List Effect) → IsNowhere k xs → effect_at k (map effect_of xs) ≡ None
no_effect k [] n = refl
no_effect k (x ∷ xs) n = ap (λ b. cond b (Some (effect_of x)) (effect_at k (map effect_of xs))) n.0 ∙ no_effect k xs n.1

-- what is so with all is so with it
pub placed_all : (P : Effect → Type 0) (k : ℕ) (xs : List Effect) (i : ℕ) (d : Effect) → IsPlace k xs i → AllByRecursion P xs → P (get_or xs i d)
placed_all P k [] i d p all = absurd p
placed_all P k (x ∷ xs) zero d p all = all.0
placed_all P k (x ∷ xs) (suc i) d p all = placed_all P k xs i d p.1 all.1

-- what a search finds in a list that is this one
pub found_in : (k i : ℕ) (xs ys : List Effect) → ys ≡ xs → Some i ≡ effect_place k ys → IsPlace k xs i
found_in k i xs ys is e = place_is k xs i (e ∙ ap (effect_place k) is)

pub none_in : (k : ℕ) (xs ys : List Effect) → ys ≡ xs → None ≡ effect_place k ys → IsNowhere k xs
none_in k xs ys is e = nowhere_is k xs (e ∙ ap (effect_place k) is)

-- what is so where there is none
pub where_none : {A : Type 0} (P : Type 0) (o : Option A) → P → IfNone o P
where_none P None p = p
where_none P (Some x) p = tt
