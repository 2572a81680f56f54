-- A wired formula with its names back in place of its slots.
use Rattle.std.proofs.Common.{◌≡◌, ℕ, suc, ◌+◌, ◌<◌, Bool, true, get_or, List, [], ◌∷◌, ◌++◌, length, refl, sym, ap, arith, inl, inr}
use Rattle.std.specs.Prelude.{codes, nat_lt}
use Rattle.std.specs.List.{list_any, position_or_len}
use Rattle.std.specs.Str.{bytes_eq}
use Rattle.std.proofs.lemmas.Bool.{cases_Bool, lt-ltb}
use Rattle.std.proofs.lemmas.List.Folds.{list_any-append}
use Rattle.std.proofs.lemmas.Option.{slice_get-get_or}
use Rattle.std.proofs.lemmas.Slice.Eq.{bytes_eq-Decides}
use Rattle.formula_text.specs.declared.rough.Around.TheVariants as form
use Rattle.formula_text.specs.declared.rough.OverRows.TheVariants as each
use Rattle.formula_text.specs.Signs.{name, constant}
use Rattle.formula_text.specs.Grammar.{Draft, leaf, negation, binary, choice, of_row, one_part, each_row}
use Rattle.formula_text.specs.Refusals.{with_name, with_names, names, slot_of, slotted}
use Rattle.formula_text.specs.Canonical.{named, unslotted}

first_found : {X : Type 0} (p : X → Bool) (xs : List X) (d : X) → list_any p xs ≡ true → (position_or_len p xs < length xs) × (p (get_or xs (position_or_len p xs) d) ≡ true)
first_found p [] d h = absurd cc
first_found p (x ∷ xs) d h = elim (cases_Bool (p x)) [
  | inl holds ↦ rw holds (omega arith, holds)
  | inr fails ↦ let rest = first_found p xs d (rw fails at h) in
      let next : 1 + position_or_len p xs ≡ suc (position_or_len p xs) = omega arith in
      rw (fails, next) (omega (arith, rest.0), rest.1)
]

-- a name that is there
abbrev pub Has : List (List ℕ) → List ℕ → Type 0
Has ns n = list_any (λ m. bytes_eq m n) ns ≡ true

pub named_slot : (ns : List (List ℕ)) (n : List ℕ) → Has ns n → named ns (slot_of ns n) ≡ n
named_slot ns n h =
    let found = first_found (λ m. bytes_eq m n) ns [] h in
    let k = position_or_len (λ (m : List ℕ). bytes_eq m n) ns in
    let lt : nat_lt k (length ns) ≡ true = lt-ltb _ _ found.0 in
    rw (lt, slice_get-get_or ns k [] found.0) ((bytes_eq-Decides (get_or ns k []) n).0 found.1)

keeps : (ns ms : List (List ℕ)) (n : List ℕ) → Has ns n → Has (ns ++ ms) n
keeps ns ms n h = rw (list_any-append (λ (m : List ℕ). bytes_eq m n) ns ms, h) refl

keeps_name : (ns : List (List ℕ)) (m n : List ℕ) → Has ns n → Has (with_name ns m) n
keeps_name ns m n h = elim (cases_Bool (list_any (λ k. bytes_eq k m) ns)) [
  | inl there ↦ rw there h
  | inr fresh ↦ rw fresh (keeps ns (m ∷ []) n h)
]

keeps_names : (ns : List (List ℕ)) (x : Draft) (n : List ℕ) → Has ns n → Has (with_names ns x) n
keeps_names ns (leaf (name m)) n h = keeps_name ns m n h
keeps_names ns (leaf (constant s)) n h = h
keeps_names ns (negation x) n h = keeps_names ns x n h
keeps_names ns (of_row m) n h = h
keeps_names ns (one_part f x) n h = keeps_names ns x n h
keeps_names ns (each_row f x y) n h = keeps_names (with_names ns x) y n (keeps_names ns x n h)
keeps_names ns (binary o x y) n h = keeps_names (with_names ns x) y n (keeps_names ns x n h)
keeps_names ns (choice w x y) n h = keeps_names (with_names (with_names ns w) x) y n (keeps_names (with_names ns w) x n (keeps_names ns w n h))

-- each name of the formula is there
abbrev pub HasEach : List (List ℕ) → Draft → Type 0
HasEach ns (leaf (name n)) = Has ns n
HasEach ns (leaf (constant s)) = Unit {0}
HasEach ns (negation x) = HasEach ns x
HasEach ns (of_row n) = Unit {0}
HasEach ns (one_part f x) = HasEach ns x
HasEach ns (each_row f x y) = HasEach ns x × HasEach ns y
HasEach ns (binary o x y) = HasEach ns x × HasEach ns y
HasEach ns (choice w x y) = HasEach ns w × HasEach ns x × HasEach ns y

pub keeps_each : (ns : List (List ℕ)) (y x : Draft) → HasEach ns x → HasEach (with_names ns y) x
keeps_each ns y (leaf (name n)) h = keeps_names ns y n h
keeps_each ns y (leaf (constant s)) h = tt
keeps_each ns y (negation x) h = keeps_each ns y x h
keeps_each ns y (of_row n) h = tt
keeps_each ns y (one_part f x) h = keeps_each ns y x h
keeps_each ns y (each_row f a b) h = (keeps_each ns y a h.0, keeps_each ns y b h.1)
keeps_each ns y (binary o a b) h = (keeps_each ns y a h.0, keeps_each ns y b h.1)
keeps_each ns y (choice w a b) h = (keeps_each ns y w h.0, keeps_each ns y a h.1, keeps_each ns y b h.2)

name_there : (ns : List (List ℕ)) (n : List ℕ) → Has (with_name ns n) n
name_there ns n = elim (cases_Bool (list_any (λ k. bytes_eq k n) ns)) [
  | inl there ↦ rw there there
  | inr fresh ↦
      let last : bytes_eq n n ≡ true = (bytes_eq-Decides n n).1 refl in
      rw (fresh, list_any-append (λ (m : List ℕ). bytes_eq m n) ns (n ∷ []), fresh, last) refl
]

pub each_there : (ns : List (List ℕ)) (x : Draft) → HasEach (with_names ns x) x
each_there ns (leaf (name n)) = name_there ns n
each_there ns (leaf (constant s)) = tt
each_there ns (negation x) = each_there ns x
each_there ns (of_row n) = tt
each_there ns (one_part f x) = each_there ns x
each_there ns (each_row f x y) = (keeps_each (with_names ns x) y x (each_there ns x), each_there (with_names ns x) y)
each_there ns (binary o x y) = (keeps_each (with_names ns x) y x (each_there ns x), each_there (with_names ns x) y)
each_there ns (choice w x y) =
    let a = with_names ns w in
    let b = with_names a x in
    (keeps_each b y w (keeps_each a x w (each_there ns w)), keeps_each b y x (each_there a x), each_there b y)

pub named_again : (ns : List (List ℕ)) (x : Draft) → HasEach ns x → unslotted ns (slotted ns x) ≡ x
named_again ns (leaf (name n)) h = ap (λ (m : List ℕ). leaf (name m)) (named_slot ns n h)
named_again ns (leaf (constant s)) h = refl
named_again ns (negation x) h = ap negation (named_again ns x h)
named_again ns (of_row n) h = elim (cases_Bool (bytes_eq n (codes "key"))) [
  | inl e ↦ rw e (ap of_row (sym ((bytes_eq-Decides n (codes "key")).0 e)))
  | inr e ↦ rw e refl
]
named_again ns (one_part form.Count x) h = ap (one_part form.Count) (named_again ns x h)
named_again ns (one_part form.Untrack x) h = ap (one_part form.Untrack) (named_again ns x h)
named_again ns (each_row each.Sum x y) h = let f = named_again ns x h.0 in let g = named_again ns y h.1 in cc
named_again ns (each_row each.Keep x y) h = let f = named_again ns x h.0 in let g = named_again ns y h.1 in cc
named_again ns (binary o x y) h = let f = named_again ns x h.0 in let g = named_again ns y h.1 in cc
named_again ns (choice w x y) h = let e = named_again ns w h.0 in let f = named_again ns x h.1 in let g = named_again ns y h.2 in cc

-- the names of a formula and its slots make the formula
pub named_back : (x : Draft) → unslotted (names x) (slotted (names x) x) ≡ x
named_back x = named_again (names x) x (each_there [] x)
