-- What is watched stands, whoever watches it.
use Rattle.std.proofs.Common.{◌≡◌, ◌==◌, ◌||◌, ◌++◌, ℕ, Bool, true, false, cond, List, [], ◌∷◌, map, refl, ap, ◌∙◌, arith, ◌⊎◌, inl, inr}
use Rattle.std.proofs.lemmas.Bool.{eqb-true}
use Rattle.std.proofs.lemmas.Bool.Decides.{nat_tests}
use Rattle.std.specs.List.{AllByRecursion}
use Rattle.signal_model.specs.Signals.{Signals, changed, is_in, is_there, standing, without}
use Rattle.signal_model.proofs.Shared.{either, or_left, or_right}
use Rattle.effect_model.specs.Worlds.{Watcher}
use Rattle.effect_model.specs.Acts.{forget}
use Rattle.effect_model.specs.Commands.{also_watched, armed}
use Rattle.effect_laws.proofs.Shared.{both}
use Rattle.sig_graph.specs.States.{are_there}
use Rattle.sig_effect.specs.Stores.{AreWatched}

-- the number of a watcher
abbrev number_of : Watcher → ℕ
number_of x = x.number

-- ---- lists of facts

-- a fact of each stays where one is changed
pub all_changed : {A : Type 0} (P : A → Type 0) (name : A → ℕ) (n : ℕ) (f : A → A) (xs : List A) → ((x : A) → P x → P (f x)) →
    AllByRecursion P xs → AllByRecursion P (changed name n f xs)
all_changed P name n f [] keeps all = tt
all_changed P name n f (x ∷ xs) keeps all = (go (n == name x), all_changed P name n f xs keeps all.1)
  where
    go : (b : Bool) → P (cond b (f x) x)
    go true = keeps x all.0
    go false = all.0

-- where each is changed
pub all_mapped : {A : Type 0} (P Q : A → Type 0) (f : A → A) (xs : List A) → ((x : A) → P x → Q (f x)) → AllByRecursion P xs → AllByRecursion Q (map f xs)
all_mapped P Q f [] keeps all = tt
all_mapped P Q f (x ∷ xs) keeps all = (keeps x all.0, all_mapped P Q f xs keeps all.1)

-- where some are taken out
pub all_without : {A : Type 0} (P : A → Type 0) (name : A → ℕ) (n : ℕ) (xs : List A) → AllByRecursion P xs → AllByRecursion P (without name n xs)
all_without P name n [] all = tt
all_without P name n (x ∷ xs) all = go (n == name x) (all_without P name n xs all.1)
  where
    go : (b : Bool) → AllByRecursion P (without name n xs) → AllByRecursion P (cond b (without name n xs) (x ∷ without name n xs))
    go true more = more
    go false more = (all.0, more)

-- ---- names in lists

-- what is left was there
pub in_left : (m n : ℕ) (ns : List ℕ) → is_in m (without (λ (k : ℕ). k) n ns) ≡ true → is_in m ns ≡ true
in_left m n [] h = h
in_left m n (k ∷ ks) h = go (n == k) h (in_left m n ks)
  where
    go : (b : Bool) → is_in m (cond b (without (λ (j : ℕ). j) n ks) (k ∷ without (λ (j : ℕ). j) n ks)) ≡ true →
        (is_in m (without (λ (j : ℕ). j) n ks) ≡ true → is_in m ks ≡ true) → (m == k || is_in m ks) ≡ true
    go true q more = or_right (m == k) (is_in m ks) (more q)
    go false q more = elim (either (m == k) (is_in m (without (λ (j : ℕ). j) n ks)) q) [
      | inl e ↦ or_left (m == k) (is_in m ks) e
      | inr e ↦ or_right (m == k) (is_in m ks) (more e)
    ]

-- and it is another one
pub in_apart : (m n : ℕ) (ns : List ℕ) → is_in m (without (λ (k : ℕ). k) n ns) ≡ true → (m == n) ≡ false
in_apart m n [] h = cc
in_apart m n (k ∷ ks) h = go (n == k) refl h (in_apart m n ks)
  where
    go : (b : Bool) → (n == k) ≡ b → is_in m (cond b (without (λ (j : ℕ). j) n ks) (k ∷ without (λ (j : ℕ). j) n ks)) ≡ true →
        (is_in m (without (λ (j : ℕ). j) n ks) ≡ true → (m == n) ≡ false) → (m == n) ≡ false
    go true e q more = more q
    go false e q more = elim (either (m == k) (is_in m (without (λ (j : ℕ). j) n ks)) q) [
      | inl same ↦ let is : m ≡ k = eqb-true m k same in let off : (k == n) ≡ false = grind (arith, nat_tests, e) in ap (λ j. j == n) is ∙ off
      | inr there ↦ more there
    ]

-- what is put behind is the last
in_behind : (k m : ℕ) (ns : List ℕ) → is_in k (ns ++ m ∷ []) ≡ true → (is_in k ns ≡ true) ⊎ (k ≡ m)
in_behind k m [] h = elim (either (k == m) false h) [
  | inl e ↦ inr (eqb-true k m e)
  | inr e ↦ cc
]
in_behind k m (n ∷ ns) h = elim (either (k == n) (is_in k (ns ++ m ∷ [])) h) [
  | inl e ↦ inl (or_left (k == n) (is_in k ns) e)
  | inr e ↦ elim (in_behind k m ns e) [
    | inl q ↦ inl (or_right (k == n) (is_in k ns) q)
    | inr q ↦ inr q
  ]
]

-- ---- what is watched

-- what is watched and what is to be watched stands
also_there : (w : Signals) (old ids : List ℕ) → are_there w ids ≡ true → ((n : ℕ) → is_in n old ≡ true → is_there (standing w n) ≡ true) →
    (n : ℕ) → is_in n (also_watched old ids) ≡ true → is_there (standing w n) ≡ true
also_there w old [] there h n q = h n q
also_there w old (m ∷ ms) there h n q =
    let two = both (is_there (standing w m)) (are_there w ms) there in
    also_there w (cond (is_in m old) old (old ++ m ∷ [])) ms two.1 (more (is_in m old)) n q
  where
    more : (b : Bool) (k : ℕ) → is_in k (cond b old (old ++ m ∷ [])) ≡ true → is_there (standing w k) ≡ true
    more true k e = h k e
    more false k e = elim (in_behind k m old e) [
      | inl i ↦ h k i
      | inr i ↦ ap (λ j. is_there (standing w j)) i ∙ (both (is_there (standing w m)) (are_there w ms) there).0
    ]

-- a watcher watches more
pub watched_armed : (w : Signals) (xs : List Watcher) (n : ℕ) (ids : List ℕ) → are_there w ids ≡ true → AreWatched w xs → AreWatched w (changed number_of n (armed ids) xs)
watched_armed w xs n ids there all = all_changed _ number_of n (armed ids) xs (λ x h. also_there w x.signals ids there h) all

-- or less
pub watched_less : (w : Signals) (xs : List Watcher) (n m : ℕ) → AreWatched w xs → AreWatched w (changed number_of n (forget m) xs)
watched_less w xs n m all = all_changed _ number_of n (forget m) xs (λ x h k q. h k (in_left k m x.signals q)) all
