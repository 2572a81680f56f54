-- Numbers of what stands, through changes.
use Rattle.std.proofs.Common.{◌≡◌, ℕ, ◌+◌, ◌≤◌, ◌==◌, ◌||◌, Bool, true, false, cond, List, [], ◌∷◌, ◌++◌, map, Option, Some, None, refl, sym, ap, ◌∙◌}
use Rattle.std.proofs.Common.{arith}
use Rattle.std.proofs.lemmas.Bool.{eqb-true}
use Rattle.signal_model.specs.Signals.{Signals, Cell, Computed, IsGone, is_in, is_there, cell_at, computed_at, or_computed, standing, changed, found, without}
use Rattle.effect_model.specs.Owners.{Thing, the_signal, the_owner, the_effect, the_page, the_watcher}
use Rattle.effect_model.specs.Worlds.{Effect, Watcher, Refused, refused, World, tell, effect_at, effect_numbers, lives}
use Rattle.effect_model.specs.Acts.{or_refused}
use Rattle.std.specs.Option.{option_or}
use Rattle.effect_laws.specs.Rolls.{bit, times_in, cell_names, computed_names, roll_of, alive}

-- a change that leaves names leaves the list of names
pub names_changed : {A : Type 0} (name : A → ℕ) (n : ℕ) (f : A → A) → ((x : A) → name (f x) ≡ name x) → (xs : List A) →
    map name (changed name n f xs) ≡ map name xs
names_changed name n f h [] = refl
names_changed name n f h (x ∷ xs) = (λ i. here (n == name x) i ∷ names_changed name n f h xs i)
  where
    here : (b : Bool) → name (cond b (f x) x) ≡ name x
    here true = h x
    here false = refl

pub names_map : {A : Type 0} (name : A → ℕ) (f : A → A) → ((x : A) → name (f x) ≡ name x) → (xs : List A) → map name (map f xs) ≡ map name xs
names_map name f h [] = refl
names_map name f h (x ∷ xs) = (λ i. h x i ∷ names_map name f h xs i)

-- what is taken out isn't counted, and all else is
pub count_without : {A : Type 0} (name : A → ℕ) (n : ℕ) (xs : List A) (m : ℕ) →
    times_in m (map name (without name n xs)) ≡ cond (m == n) 0 (times_in m (map name xs))
count_without name n [] m = sym (none (m == n))
  where
    none : (b : Bool) → cond {A = ℕ} b 0 0 ≡ 0
    none true = refl
    none false = refl
count_without name n (x ∷ xs) m = go (n == name x) refl (m == n) refl (count_without name n xs m)
  where
    go : (b : Bool) → (n == name x) ≡ b → (d : Bool) → (m == n) ≡ d →
        times_in m (map name (without name n xs)) ≡ cond d 0 (times_in m (map name xs)) →
        times_in m (map name (cond b (without name n xs) (x ∷ without name n xs))) ≡ cond d 0 (bit (m == name x) + times_in m (map name xs))
    go true e true f h = h
    go true e false f h =
        let k : bit (m == name x) ≡ 0 = ap (λ y. bit (m == y)) (sym (eqb-true n (name x) e)) ∙ ap bit f in
        let g : times_in m (map name (without name n xs)) ≡ times_in m (map name xs) = h in
        omega arith
    go false e true f h =
        let k : bit (m == name x) ≡ 0 = ap (λ y. bit (y == name x)) (eqb-true m n f) ∙ ap bit e in
        let g : times_in m (map name (without name n xs)) ≡ 0 = h in
        omega arith
    go false e false f h = let g : times_in m (map name (without name n xs)) ≡ times_in m (map name xs) = h in omega arith

pub count_more : (n : ℕ) (ns : List ℕ) (m : ℕ) → times_in n (ns ++ m ∷ []) ≡ times_in n ns + bit (n == m)
count_more n [] m = omega arith
count_more n (x ∷ ns) m = let r : times_in n (ns ++ m ∷ []) ≡ times_in n ns + bit (n == m) = count_more n ns m in omega arith

pub map_more : {A : Type 0} {B : Type 0} (f : A → B) (xs : List A) (x : A) → map f (xs ++ x ∷ []) ≡ map f xs ++ f x ∷ []
map_more f [] x = refl
map_more f (y ∷ ys) x = ap (λ zs. f y ∷ zs) (map_more f ys x)

-- what is in a list is counted
pub in_counted : (n : ℕ) (ns : List ℕ) → is_in n ns ≡ true → 1 ≤ times_in n ns
in_counted n [] h = cc
in_counted n (m ∷ ms) h = go (n == m) h (in_counted n ms)
  where
    go : (b : Bool) → (b || is_in n ms) ≡ true → (is_in n ms ≡ true → 1 ≤ times_in n ms) → 1 ≤ bit b + times_in n ms
    go true k f = omega arith
    go false k f = let a : 1 ≤ times_in n ms = f k in omega arith

-- what is found under a name is counted there
pub found_counted : {A : Type 0} (name : A → ℕ) (n : ℕ) (xs : List A) (x : A) → found name n xs ≡ Some x → 1 ≤ times_in n (map name xs)
found_counted name n [] x h = cc
found_counted name n (y ∷ ys) x h = go (n == name y) h (found_counted name n ys x)
  where
    go : (b : Bool) → cond b (Some y) (found name n ys) ≡ Some x → (found name n ys ≡ Some x → 1 ≤ times_in n (map name ys)) →
        1 ≤ bit b + times_in n (map name ys)
    go true k f = omega arith
    go false k f = let a : 1 ≤ times_in n (map name ys) = f k in omega arith

pub effect_counted : (n : ℕ) (xs : List Effect) (x : Effect) → effect_at n xs ≡ Some x → (n ≡ x.number) × (1 ≤ times_in n (effect_numbers xs))
effect_counted n [] x h = cc
effect_counted n (y ∷ ys) x h = go (n == y.number) refl h (effect_counted n ys x)
  where
    go : (b : Bool) → (n == y.number) ≡ b → cond b (Some y) (effect_at n ys) ≡ Some x →
        (effect_at n ys ≡ Some x → (n ≡ x.number) × (1 ≤ times_in n (effect_numbers ys))) →
        (n ≡ x.number) × (1 ≤ bit b + times_in n (effect_numbers ys))
    go true e k f = let s : y ≡ x = cc in (eqb-true n y.number e ∙ ap (λ (z : Effect). z.number) s, omega arith)
    go false e k f = let a : (n ≡ x.number) × (1 ≤ times_in n (effect_numbers ys)) = f k in
        (a.0, let b : 1 ≤ times_in n (effect_numbers ys) = a.1 in omega arith)

signal_alive : (n : ℕ) (cs : List Cell) (ds : List Computed) → is_there (or_computed (cell_at n cs) (computed_at n ds)) ≡ true →
    1 ≤ times_in n (map (λ (c : Cell). c.name) cs) + times_in n (map (λ (c : Computed). c.name) ds)
signal_alive n cs ds h = go (cell_at n cs) refl (computed_at n ds) refl h
  where
    go : (x : Option Cell) → cell_at n cs ≡ x → (y : Option Computed) → computed_at n ds ≡ y → is_there (or_computed x y) ≡ true →
        1 ≤ times_in n (map (λ (c : Cell). c.name) cs) + times_in n (map (λ (c : Computed). c.name) ds)
    go (Some c) e y f k = let a : 1 ≤ times_in n (map (λ (c : Cell). c.name) cs) = found_counted (λ (c : Cell). c.name) n cs c e in omega arith
    go None e (Some d) f k = let a : 1 ≤ times_in n (map (λ (c : Computed). c.name) ds) = found_counted (λ (c : Computed). c.name) n ds d f in omega arith
    go None e None f k = cc

-- what lives is counted
pub lives_alive : (t : Thing) (w : World) → lives t w ≡ true → 1 ≤ alive t (roll_of w)
lives_alive (the_signal n) w h = signal_alive n w.signals.cells w.signals.computeds h
lives_alive (the_owner n) w h = in_counted n w.owners h
lives_alive (the_effect n) w h = in_counted n (effect_numbers w.effects) h
lives_alive (the_page n) w h = in_counted n w.pages h
lives_alive (the_watcher n) w h = in_counted n (map (λ (x : Watcher). x.number) w.watchers) h

-- ---- what is gone isn't counted

found_uncounted : {A : Type 0} (name : A → ℕ) (n : ℕ) (xs : List A) → found name n xs ≡ None → times_in n (map name xs) ≡ 0
found_uncounted name n [] h = refl
found_uncounted name n (x ∷ xs) h = go (n == name x) h (found_uncounted name n xs)
  where
    go : (b : Bool) → cond b (Some x) (found name n xs) ≡ None → (found name n xs ≡ None → times_in n (map name xs) ≡ 0) →
        bit b + times_in n (map name xs) ≡ 0
    go true k f = cc
    go false k f = let a : times_in n (map name xs) ≡ 0 = f k in omega arith

pub gone_uncounted : (n : ℕ) (w : Signals) → standing w n ≡ IsGone → times_in n (cell_names w) + times_in n (computed_names w) ≡ 0
gone_uncounted n w h = go (cell_at n w.cells) refl (computed_at n w.computeds) refl h
  where
    go : (x : Option Cell) → cell_at n w.cells ≡ x → (y : Option Computed) → computed_at n w.computeds ≡ y → or_computed x y ≡ IsGone →
        times_in n (cell_names w) + times_in n (computed_names w) ≡ 0
    go (Some c) e y f k = cc
    go None e (Some d) f k = cc
    go None e None f k =
        let a : times_in n (cell_names w) ≡ 0 = found_uncounted (λ (c : Cell). c.name) n w.cells e in
        let b : times_in n (computed_names w) ≡ 0 = found_uncounted (λ (c : Computed). c.name) n w.computeds f in omega arith

-- the first and the second of two refusals
pub neither : (a b : Option Refused) → option_or a b ≡ None → (a ≡ None) × (b ≡ None)
neither None b h = (refl, h)
neither (Some r) b h = cc

-- what holds of what is done where it isn't refused, and where a refusal is told, holds of either
pub either_way : (P : World → Type 0) (why : Option Refused) (done w : World) → (why ≡ None → P done) → ((r : Refused) → P (tell (refused r) w)) →
    P (or_refused why done w)
either_way P None done w d t = d refl
either_way P (Some r) done w d t = t r
