-- The rows of the store after an edit, and its tree by the owners' own numbers.
use Rattle.std.proofs.Common.{◌≡◌, ℕ, zero, suc, ◌<◌, ◌==◌, ◌||◌, ◌++◌, Bool, true, false, cond, List, [], ◌∷◌, length, Option, refl, sym, ap, ◌∙◌, arith, ◌⊎◌, inl, inr}
use Rattle.std.specs.List.{AllByRecursion, filter}
use Rattle.std.proofs.lemmas.Bool.{eq-eqb, eqb-true}
use Rattle.signal_model.proofs.Shared.{or_left, or_right, tested}
use Rattle.effect_model.specs.Owners.{Thing, the_signal, the_owner, the_effect, the_page, the_watcher, Owned, nothing, thing, cleanup, same_thing}
use Rattle.sig_owner.specs.Tables.{Row, live_at, thing_at, with_holder}
use Rattle.sig_owner.specs.Renames.{renamed, renamed_thing}
use Rattle.sig_owner.specs.Trees.{has_thing}
use Rattle.sig_owner.proofs.Shared.{new_thing, other_lives, other_thing}
use Rattle.effect_tables.specs.Consistency.{IsKnown}
use Rattle.effect_tables.specs.Owners.{is_row}

-- what lives is one of the rows
pub live_below : (rows : List Row) (n : ℕ) → live_at rows n ≡ true → n < length rows
live_below [] n h = cc
live_below (r ∷ rs) zero h = omega arith
live_below (r ∷ rs) (suc n) h = let l : n < length rs = live_below rs n h in omega (arith, l)

-- ---- the tree by other numbers

pub renamed_by : (g k : ℕ → ℕ) (x : Owned) → ((m : ℕ) → has_thing (the_owner m) x ≡ true → g m ≡ k m) → renamed g x ≡ renamed k x
renamed_by g k nothing h = refl
renamed_by g k (cleanup c rest) h = ap (cleanup c) (renamed_by g k rest h)
renamed_by g k (thing t made rest) h = λ i. thing (one t (λ m e. h m (or_left (same_thing (the_owner m) t) (has_thing (the_owner m) made || has_thing (the_owner m) rest) e)) i)
    (renamed_by g k made (λ m e. h m (or_right (same_thing (the_owner m) t) (has_thing (the_owner m) made || has_thing (the_owner m) rest) (or_left (has_thing (the_owner m) made) (has_thing (the_owner m) rest) e))) i)
    (renamed_by g k rest (λ m e. h m (or_right (same_thing (the_owner m) t) (has_thing (the_owner m) made || has_thing (the_owner m) rest) (or_right (has_thing (the_owner m) made) (has_thing (the_owner m) rest) e))) i)
  where
    one : (u : Thing) → ((m : ℕ) → same_thing (the_owner m) u ≡ true → g m ≡ k m) → renamed_thing g u ≡ renamed_thing k u
    one (the_owner n) q = ap the_owner (q n (eq-eqb n n refl))
    one (the_signal n) q = refl
    one (the_effect n) q = refl
    one (the_page n) q = refl
    one (the_watcher n) q = refl

-- a thing of a row by other numbers
pub name_by : (g h : ℕ → ℕ) (owners : List (Option ℕ)) (k : ℕ) (t : Thing) → (is_row k owners ≡ true → g k ≡ h k) → IsKnown owners k t → renamed_thing g t ≡ renamed_thing h t
name_by g h owners k (the_owner n) same q = ap the_owner (ap g (sym q.0) ∙ same q.1 ∙ ap h q.0)
name_by g h owners k (the_effect n) same q = refl
name_by g h owners k (the_signal n) same q = absurd q
name_by g h owners k (the_page n) same q = absurd q
name_by g h owners k (the_watcher n) same q = absurd q

-- ---- rows

-- where one was made a row is the last, or as it was
pub record IsLast (rows : List Row) (o : Option ℕ) (t : Thing) (k : ℕ) : Type 0 where
  pub place : k ≡ length rows
  pub thing : thing_at (with_holder rows o t) k ≡ t

pub record IsOlder (rows : List Row) (o : Option ℕ) (t : Thing) (k : ℕ) : Type 0 where
  pub off : k ≡ length rows → ⊥
  pub lives : live_at (with_holder rows o t) k ≡ live_at rows k
  pub thing : thing_at (with_holder rows o t) k ≡ thing_at rows k

differ : (m n : ℕ) → (m == n) ≡ false → m ≡ n → ⊥
differ m n e q = let z : true ≡ false = sym (eq-eqb m n q) ∙ e in cc

pub made_row : (rows : List Row) (o : Option ℕ) (t : Thing) (k : ℕ) → IsLast rows o t k ⊎ IsOlder rows o t k
made_row rows o t k = elim (tested (k == length rows)) [
  | inl e ↦ (let q = eqb-true k (length rows) e in inl (record { place = q; thing = ap (thing_at (with_holder rows o t)) q ∙ new_thing rows o t }))
  | inr e ↦ (let off : k ≡ length rows → ⊥ = differ k (length rows) e in inr (record { off = off; lives = other_lives rows o t k off; thing = other_thing rows o t k off }))
]

-- ---- facts of all

-- a fact that follows from another
pub all_weaker : {A : Type 0} (P Q : A → Type 0) (xs : List A) → ((x : A) → P x → Q x) → AllByRecursion P xs → AllByRecursion Q xs
all_weaker P Q [] keeps all = tt
all_weaker P Q (x ∷ xs) keeps all = (keeps x all.0, all_weaker P Q xs keeps all.1)

-- where one is put behind
pub all_behind : {A : Type 0} (P : A → Type 0) (xs : List A) (x : A) → AllByRecursion P xs → P x → AllByRecursion P (xs ++ x ∷ [])
all_behind P [] x all one = (one, tt)
all_behind P (y ∷ ys) x all one = (all.0, all_behind P ys x all.1 one)

-- where some are left out
pub all_filtered : {A : Type 0} (P : A → Type 0) (f : A → Bool) (xs : List A) → AllByRecursion P xs → AllByRecursion P (filter f xs)
all_filtered P f [] all = tt
all_filtered P f (x ∷ xs) all = go (f x) (all_filtered P f xs all.1)
  where
    go : (b : Bool) → AllByRecursion P (filter f xs) → AllByRecursion P (cond b (x ∷ filter f xs) (filter f xs))
    go true more = (all.0, more)
    go false more = more

-- what passes unless it is known is known
pub unless_known : (owners : List (Option ℕ)) (m : ℕ) (b : Bool) → b ≡ true → (is_row m owners ≡ false → b ≡ false) → is_row m owners ≡ true
unless_known owners m b on off = go (is_row m owners) off
  where
    go : (c : Bool) → (c ≡ false → b ≡ false) → c ≡ true
    go true h = refl
    go false h = let e : b ≡ false = h refl in cc
