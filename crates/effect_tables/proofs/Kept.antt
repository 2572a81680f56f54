-- What effects keep of their runs.
use Rattle.std.proofs.Common.{◌≡◌, ℕ, zero, suc, ◌==◌, ◌<◌, ◌≤◌, false, if◌then◌else◌, List, [], ◌∷◌, map, get_or, refl, sym, ap, subst, ◌∙◌, arith}
use Rattle.std.specs.Prelude.{slice_set}
use Rattle.std.specs.List.{AllByRecursion}
use Rattle.std.proofs.lemmas.Bool.Decides.{nat_tests}
use Rattle.std.specs.Rc.{rc_value}
use Rattle.signal_model.specs.Signals.{changed}
use Rattle.signal_model.specs.Values.{Seen}
use Rattle.effect_model.specs.Owners.{the_effect}
use Rattle.effect_model.specs.Worlds as plain
use Rattle.effect_model.specs.Worlds.{World}
use Rattle.sig_owner.specs.Tables.{Row, live_at, thing_at}
use Rattle.effect_tables.specs.declared.effect.Effect.{Effect}
use Rattle.effect_tables.specs.declared.tables.Tables.{Tables}
use Rattle.effect_tables.specs.Scripts.{IsFitted, IsFitting}
use Rattle.effect_tables.specs.Consistency.{AreRising, TablesAgree, IsEffect}
use Rattle.effect_tables.specs.Runs.{IsKept, with_kept, with_reads}
use Rattle.effect_tables.specs.Placed.{effect_of, placed}
use Rattle.effect_tables.proofs.Found.{IsNowhere, IsPlace}

-- ---- one among the others

-- where an effect has this number it has kept these reads, and all else of it is as before
pub record IsKeptAt (e : ℕ) (ss : List Seen) (x y : Effect) : Type 0 where
  pub seen : effect_of y ≡ (if e == x.id then with_reads ss (effect_of x) else effect_of x)
  pub id : y.id ≡ x.id
  pub row : y.row ≡ x.row
  pub script : y.script ≡ x.script

-- so it is with all of them
abbrev pub AreKept : ℕ → List Seen → List Effect → List Effect → Type 0
AreKept e ss [] [] = Unit {0}
AreKept e ss (x ∷ xs) (y ∷ ys) = IsKeptAt e ss x y × AreKept e ss xs ys
AreKept _ _ _ _ = ⊥

-- another one stays
stays : (e : ℕ) (ss : List Seen) (x : Effect) → (e == x.id) ≡ false → IsKeptAt e ss x x
stays e ss x off = record { seen = ap (λ b. if b then with_reads ss (effect_of x) else effect_of x) (sym off); id = refl; row = refl; script = refl }

pub kept_nowhere : (e : ℕ) (ss : List Seen) (xs : List Effect) → IsNowhere e xs → AreKept e ss xs xs
kept_nowhere e ss [] n = tt
kept_nowhere e ss (x ∷ xs) n = (stays e ss x n.0, kept_nowhere e ss xs n.1)

-- those behind the one that has the number have others
pub none_behind : (e low : ℕ) (xs : List Effect) → e < low → AreRising low xs → IsNowhere e xs
none_behind e low [] l o = tt
none_behind e low (x ∷ xs) l o = let up = o.0 in (grind (arith, nat_tests, l, up), none_behind e (suc x.id) xs (omega (arith, l, up)) o.1)

pub kept_there : (e : ℕ) (ss : List Seen) (low : ℕ) (xs : List Effect) (i : ℕ) (y d : Effect) → AreRising low xs → IsPlace e xs i → IsKept ss (get_or xs i d) y → AreKept e ss xs (slice_set xs i y)
kept_there e ss low [] i y d o p k = absurd p
kept_there e ss low (x ∷ xs) zero y d o p k = (first, kept_nowhere e ss xs (none_behind e (suc x.id) xs (grind (arith, nat_tests, p)) o.1))
  where
    first : IsKeptAt e ss x y
    first = record { seen = k.seen ∙ ap (λ b. if b then with_reads ss (effect_of x) else effect_of x) (sym p); id = k.id; row = k.row; script = k.script }
kept_there e ss low (x ∷ xs) (suc i) y d o p k = (stays e ss x p.0, kept_there e ss (suc x.id) xs i y d o.1 p.1 k)

-- ---- in the tables

kept_effects : (e : ℕ) (ss : List Seen) (xs ys : List Effect) → AreKept e ss xs ys → map effect_of ys ≡ changed (λ (x : plain.Effect). x.number) e (with_reads ss) (map effect_of xs)
kept_effects e ss [] [] h = refl
kept_effects e ss [] (y ∷ ys) h = absurd h
kept_effects e ss (x ∷ xs) [] h = absurd h
kept_effects e ss (x ∷ xs) (y ∷ ys) h = λ i. h.0.seen i ∷ kept_effects e ss xs ys h.1 i

kept_alive : (e : ℕ) (ss : List Seen) (rows : List Row) (xs ys : List Effect) → AreKept e ss xs ys → AllByRecursion (IsEffect rows) xs → AllByRecursion (IsEffect rows) ys
kept_alive e ss rows [] [] h a = tt
kept_alive e ss rows [] (y ∷ ys) h a = absurd h
kept_alive e ss rows (x ∷ xs) [] h a = absurd h
kept_alive e ss rows (x ∷ xs) (y ∷ ys) h a =
    (record { lives = ap (live_at rows) h.0.row ∙ a.0.lives; thing = ap (thing_at rows) h.0.row ∙ a.0.thing ∙ ap the_effect (sym h.0.id) }, kept_alive e ss rows xs ys h.1 a.1)

kept_rising : (e : ℕ) (ss : List Seen) (n : ℕ) (xs ys : List Effect) → AreKept e ss xs ys → AreRising n xs → AreRising n ys
kept_rising e ss n [] [] h a = tt
kept_rising e ss n [] (y ∷ ys) h a = absurd h
kept_rising e ss n (x ∷ xs) [] h a = absurd h
kept_rising e ss n (x ∷ xs) (y ∷ ys) h a =
    (subst (λ k. n ≤ k) (sym h.0.id) a.0, kept_rising e ss (suc y.id) xs ys h.1 (subst (λ k. AreRising (suc k) xs) (sym h.0.id) a.1))

kept_below : (e : ℕ) (ss : List Seen) (n : ℕ) (xs ys : List Effect) → AreKept e ss xs ys → AllByRecursion (λ (x : Effect). x.id < n) xs → AllByRecursion (λ (x : Effect). x.id < n) ys
kept_below e ss n [] [] h a = tt
kept_below e ss n [] (y ∷ ys) h a = absurd h
kept_below e ss n (x ∷ xs) [] h a = absurd h
kept_below e ss n (x ∷ xs) (y ∷ ys) h a = (subst (λ k. k < n) (sym h.0.id) a.0, kept_below e ss n xs ys h.1 a.1)

kept_fitting : (e : ℕ) (ss : List Seen) (xs ys : List Effect) → AreKept e ss xs ys → AllByRecursion IsFitted xs → AllByRecursion IsFitted ys
kept_fitting e ss [] [] h a = tt
kept_fitting e ss [] (y ∷ ys) h a = absurd h
kept_fitting e ss (x ∷ xs) [] h a = absurd h
kept_fitting e ss (x ∷ xs) (y ∷ ys) h a = (subst (λ x. x) (λ i. IsFitting (rc_value (sym h.0.script i))) a.0, kept_fitting e ss xs ys h.1 a.1)

module _ (e : ℕ) (ss : List Seen) (t u : Tables) (same : u ≡ record t { effects = u.effects }) (k : AreKept e ss t.effects.items u.effects.items) where
  pub kept_holds : TablesAgree t → TablesAgree u
  kept_holds h = subst TablesAgree (sym same) (record {
    numbered = h.numbered;
    alive = record { owners = h.alive.owners; effects = kept_alive e ss t.store t.effects.items u.effects.items k h.alive.effects };
    fresh = h.fresh;
    ordered = record { rising = kept_rising e ss 0 t.effects.items u.effects.items k h.ordered.rising; below = kept_below e ss t.effects_made t.effects.items u.effects.items k h.ordered.below };
    fitting = kept_fitting e ss t.effects.items u.effects.items k h.fitting;
  })

  pub kept_does : (w : World) → placed u w ≡ with_kept e ss (placed t w)
  kept_does w = ap (λ (v : Tables). placed v w) same ∙ (λ j. record (placed t w) { effects = kept_effects e ss t.effects.items u.effects.items k j })
