-- Numbers that rise, and those of them below another one.
use Rattle.std.proofs.Common.{◌≡◌, ℕ, suc, ◌+◌, ◌<◌, ◌≤◌, ◌==◌, Bool, true, false, cond, ◌||◌, List, [], ◌∷◌, ◌++◌, map, refl, sym, ap, ◌∙◌, arith}
use Rattle.std.specs.Prelude.{nat_lt}
use Rattle.std.specs.List.{AllByRecursion}
use Rattle.std.proofs.lemmas.Bool.Decides.{nat_tests}
use Rattle.signal_model.specs.Signals.{is_in}
use Rattle.effect_model.specs.Worlds.{effect_numbers}
use Rattle.effect_tables.specs.declared.effect.Effect.{Effect}
use Rattle.effect_tables.specs.Consistency.{AreRising}
use Rattle.effect_tables.specs.Placed.{effect_of}

-- those at the front that are lower than another number, and those behind
abbrev pub below : ℕ → List ℕ → List ℕ
below low [] = []
below low (n ∷ ns) = cond (nat_lt n low) (n ∷ below low ns) []

abbrev pub behind : ℕ → List ℕ → List ℕ
behind low [] = []
behind low (n ∷ ns) = cond (nat_lt n low) (behind low ns) (n ∷ ns)

-- numbers that rise, from one on
abbrev pub AreUp : ℕ → List ℕ → Type 0
AreUp low [] = Unit {0}
AreUp low (n ∷ ns) = (low ≤ n) × AreUp (suc n) ns

pub numbers_up : (low : ℕ) (xs : List Effect) → AreRising low xs → AreUp low (effect_numbers (map effect_of xs))
numbers_up low [] up = tt
numbers_up low (x ∷ xs) up = (up.0, numbers_up (suc x.id) xs up.1)

-- none is lower than zero
pub below_none : (ns : List ℕ) → below 0 ns ≡ []
below_none [] = refl
below_none (n ∷ ns) = let off : nat_lt n 0 ≡ false = grind (arith, nat_tests) in ap (λ b. cond b (n ∷ below 0 ns) []) off

-- where they begin high, none is
none_below : (low m : ℕ) (ns : List ℕ) → AreUp low ns → m ≤ low → below m ns ≡ []
none_below low m [] up l = refl
none_below low m (n ∷ ns) up l =
    let k = up.0 in
    let off : nat_lt n m ≡ false = grind (arith, nat_tests, k, l) in
    ap (λ b. cond b (n ∷ below m ns) []) off

-- all are below a bound
pub below_all : (bound : ℕ) (ns : List ℕ) → AllByRecursion (λ n. n < bound) ns → below bound ns ≡ ns
below_all bound [] all = refl
below_all bound (n ∷ ns) all =
    let k = all.0 in
    let on : nat_lt n bound ≡ true = grind (arith, nat_tests, k) in
    ap (λ b. cond b (n ∷ below bound ns) []) on ∙ ap (λ ms. n ∷ ms) (below_all bound ns all.1)

-- those below a number are those below a lower one, and others behind them
more_by : (low m n : ℕ) (ns : List ℕ) (b : Bool) → low ≤ m → nat_lt n low ≡ b → below m ns ≡ below low ns ++ below m (behind low ns) →
    below m (n ∷ ns) ≡ cond b (n ∷ below low ns) [] ++ below m (cond b (behind low ns) (n ∷ ns))
more_by low m n ns true l e rest =
    let on : nat_lt n m ≡ true = grind (arith, nat_tests, l, e) in
    ap (λ b. cond b (n ∷ below m ns) []) on ∙ ap (λ ms. n ∷ ms) rest
more_by low m n ns false l e rest = refl

pub below_more : (low m : ℕ) (ns : List ℕ) → low ≤ m → below m ns ≡ below low ns ++ below m (behind low ns)
below_more low m [] l = refl
below_more low m (n ∷ ns) l = more_by low m n ns (nat_lt n low) l refl (below_more low m ns l)

-- one of numbers that rise isn't lower than the first
lower_by : (low m k : ℕ) (ks : List ℕ) (b : Bool) → low ≤ k → (m == k) ≡ b → (b || is_in m ks) ≡ true → (is_in m ks ≡ true → suc k ≤ m) → low ≤ m
lower_by low m k ks true f e h rest = let same : m ≡ k = grind (arith, nat_tests, e) in omega (arith, f, same)
lower_by low m k ks false f e h rest = let g = rest h in omega (arith, f, g)

not_lower : (low m : ℕ) (ks : List ℕ) → AreUp low ks → is_in m ks ≡ true → low ≤ m
not_lower low m [] up t = absurd cc
not_lower low m (k ∷ ks) up t = lower_by low m k ks (m == k) up.0 refl t (λ h. not_lower (suc k) m ks up.1 h)

-- a number itself comes last of those below the next one
next_by : (m n : ℕ) (ns : List ℕ) (b : Bool) → AreUp (suc n) ns → (m == n) ≡ b → (b || is_in m ns) ≡ true → (is_in m ns ≡ true → below (m + 1) ns ≡ below m ns ++ m ∷ []) →
    below (m + 1) (n ∷ ns) ≡ below m (n ∷ ns) ++ m ∷ []
next_by m n ns true up e t rest =
    let same : m ≡ n = grind (arith, nat_tests, e) in
    let on : nat_lt n (m + 1) ≡ true = grind (arith, nat_tests, same) in
    let off : nat_lt n m ≡ false = grind (arith, nat_tests, same) in
    ap (λ b. cond b (n ∷ below (m + 1) ns) []) on
    ∙ ap (λ ms. n ∷ ms) (none_below (suc n) (m + 1) ns up (omega (arith, same)))
    ∙ ap (λ k. k ∷ []) (sym same)
    ∙ ap (λ b. cond b (n ∷ below m ns) [] ++ m ∷ []) (sym off)
next_by m n ns false up e t rest =
    let k : suc n ≤ m = not_lower (suc n) m ns up t in
    let on : nat_lt n (m + 1) ≡ true = grind (arith, nat_tests, k) in
    let here : nat_lt n m ≡ true = grind (arith, nat_tests, k) in
    ap (λ b. cond b (n ∷ below (m + 1) ns) []) on
    ∙ ap (λ ms. n ∷ ms) (rest t)
    ∙ ap (λ b. cond b (n ∷ below m ns) [] ++ m ∷ []) (sym here)

pub below_next : (low m : ℕ) (ns : List ℕ) → AreUp low ns → is_in m ns ≡ true → below (m + 1) ns ≡ below m ns ++ m ∷ []
below_next low m [] up there = absurd cc
below_next low m (n ∷ ns) up there = next_by m n ns (m == n) up.1 refl there (λ t. below_next (suc n) m ns up.1 t)

-- what holds of all numbers between two holds of those that stand there
so_by : (P : ℕ → Type 0) (m n : ℕ) (ns : List ℕ) (b : Bool) → nat_lt n m ≡ b → (n < m → P n) → AllByRecursion P (below m ns) → AllByRecursion P (cond b (n ∷ below m ns) [])
so_by P m n ns true e f rest = (f (let l : n < m = grind (arith, nat_tests, e) in l), rest)
so_by P m n ns false e f rest = tt

below_so : (P : ℕ → Type 0) (from m : ℕ) (ns : List ℕ) → AreUp from ns → ((n : ℕ) → from ≤ n → n < m → P n) → AllByRecursion P (below m ns)
below_so P from m [] up f = tt
below_so P from m (n ∷ ns) up f =
    let k = up.0 in
    so_by P m n ns (nat_lt n m) refl (f n k) (below_so P (suc n) m ns up.1 (λ j low high. f j (omega (arith, low, k)) high))

between_by : (P : ℕ → Type 0) (low m n : ℕ) (ns : List ℕ) (b : Bool) → nat_lt n low ≡ b → AllByRecursion P (below m (behind low ns)) → (low ≤ n → AllByRecursion P (below m (n ∷ ns))) →
    AllByRecursion P (below m (cond b (behind low ns) (n ∷ ns)))
between_by P low m n ns true e rest here = rest
between_by P low m n ns false e rest here = here (let l : low ≤ n = grind (arith, nat_tests, e) in l)

pub between_so : (P : ℕ → Type 0) (from low m : ℕ) (ns : List ℕ) → AreUp from ns → ((n : ℕ) → low ≤ n → n < m → P n) → AllByRecursion P (below m (behind low ns))
between_so P from low m [] up f = tt
between_so P from low m (n ∷ ns) up f =
    between_by P low m n ns (nat_lt n low) refl (between_so P (suc n) low m ns up.1 f)
    (λ l. below_so P n m (n ∷ ns) (omega arith, up.1) (λ j k high. f j (omega (arith, k, l)) high))
