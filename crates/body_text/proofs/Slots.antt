-- Names one after the other, and the slots of formulas among them.
use Rattle.std.proofs.Common.{◌≡◌, ◌<◌, ◌+◌, ℕ, true, List, [], ◌∷◌, ◌++◌, length, refl, ap, ap₂, ◌∙◌, arith, inl, inr}
use Rattle.std.specs.Prelude.{nat_lt}
use Rattle.std.specs.List.{list_any, position_or_len}
use Rattle.std.specs.Str.{bytes_eq}
use Rattle.std.proofs.lemmas.Bool.{cases_Bool, lt-ltb}
use Rattle.std.proofs.lemmas.List.{length-append}
use Rattle.std.proofs.lemmas.List.Folds.{list_any-append}
use Rattle.sig_formula.specs.Trees as tree
use Rattle.formula_text.specs.Grammar.{Draft, leaf, negation, binary, choice, of_row, one_part, each_row}
use Rattle.formula_text.specs.Refusals.{each_tree, one_tree, slot_of, slotted, with_name, with_names}
use Rattle.formula_text.specs.Signs.{name, constant}
use Rattle.formula_text.specs.Slots.{Wiring}
use Rattle.formula_text.proofs.Shared.{Has, HasEach, each_there}
use Rattle.body_text.specs.Formulas.{unwired, IsOwn}
use Rattle.line_forms.specs.Slots.{among_names, with_each}
use Rattle.line_forms.proofs.Shared as lines
use Rattle.body_text.specs.Names.{GoOn}

-- ---- formulas with their own names

-- the names of a formula behind others, from those of its wired form
pub own_names : (ns : List (List ℕ)) (w : Wiring) → IsOwn w → with_each ns w.1 ≡ with_names ns (unwired w)
own_names ns w i = ap (λ (v : Wiring). with_each ns v.1) i.0 ∙ lines.each_names ns [] (unwired w)

-- a formula among other names
pub among_is : (ns : List (List ℕ)) (w : Wiring) → IsOwn w → among_names ns w ≡ slotted ns (unwired w)
among_is ns w i = ap (among_names ns) i.0 ∙ lines.among_is ns (unwired w)

-- ---- names that go on

pub go_on : (ns : List (List ℕ)) → GoOn ns ns
go_on ns = record { kept = λ n h. (h, refl) }

pub go_further : (ns ms ks : List (List ℕ)) → GoOn ns ms → GoOn ms ks → GoOn ns ks
go_further ns ms ks g h = record { kept = λ n e. let a = g.kept n e in let b = h.kept n a.0 in (b.0, b.1 ∙ a.1) }

kept_place : (ns ms : List (List ℕ)) (n : List ℕ) → Has ns n → slot_of (ns ++ ms) n ≡ slot_of ns n
kept_place ns ms n h =
    let a = same_place ns n h in
    let k = position_or_len (λ (m : List ℕ). bytes_eq m n) ns in
    let own : nat_lt k (length ns) ≡ true = lt-ltb _ _ a.1 in
    let all : nat_lt k (length (ns ++ ms)) ≡ true = lt-ltb _ _ (omega (arith, a.1, length-append ns ms)) in
    rw (a.0, own, all) refl
  where
    same_place : (ns : List (List ℕ)) (n : List ℕ) → Has ns n
        → (position_or_len (λ m. bytes_eq m n) (ns ++ ms) ≡ position_or_len (λ m. bytes_eq m n) ns) × (position_or_len (λ m. bytes_eq m n) ns < length ns)
    same_place [] n h = absurd cc
    same_place (m ∷ ks) n h = elim (cases_Bool (bytes_eq m n)) [
      | inl e ↦ rw e (refl, omega arith)
      | inr e ↦ let rest = same_place ks n (rw e at h) in rw e (ap (λ (k : ℕ). 1 + k) rest.0, omega (arith, rest.1))
    ]

name_kept : (ns : List (List ℕ)) (n k : List ℕ) → Has ns k → Has (with_name ns n) k × (slot_of (with_name ns n) k ≡ slot_of ns k)
name_kept ns n k h = elim (cases_Bool (list_any (λ m. bytes_eq m n) ns)) [
  | inl e ↦ rw e (h, refl)
  | inr e ↦ rw e (rw (list_any-append (λ (m : List ℕ). bytes_eq m k) ns (n ∷ []), h) refl, kept_place ns (n ∷ []) k h)
]

pub goes_name : (ns : List (List ℕ)) (n : List ℕ) → GoOn ns (with_name ns n)
goes_name ns n = record { kept = name_kept ns n }

pub goes_names : (ns : List (List ℕ)) (x : Draft) → GoOn ns (with_names ns x)
goes_names ns (leaf (name n)) = goes_name ns n
goes_names ns (leaf (constant s)) = go_on ns
goes_names ns (negation x) = goes_names ns x
goes_names ns (binary o x y) = go_further ns (with_names ns x) _ (goes_names ns x) (goes_names (with_names ns x) y)
goes_names ns (choice w x y) =
    let a = with_names ns w in
    go_further ns a _ (goes_names ns w) (go_further a (with_names a x) _ (goes_names a x) (goes_names (with_names a x) y))
goes_names ns (of_row n) = go_on ns
goes_names ns (one_part f x) = goes_names ns x
goes_names ns (each_row f x y) = go_further ns (with_names ns x) _ (goes_names ns x) (goes_names (with_names ns x) y)

-- a formula's slots stay where names go on
pub same_slots : (ns ms : List (List ℕ)) (x : Draft) → GoOn ns ms → HasEach ns x → slotted ms x ≡ slotted ns x
same_slots ns ms (leaf (name n)) g h = ap tree.slot (g.kept n h).1
same_slots ns ms (leaf (constant s)) g h = refl
same_slots ns ms (negation x) g h = ap tree.negation (same_slots ns ms x g h)
same_slots ns ms (binary o x y) g h = ap₂ (tree.binary o) (same_slots ns ms x g h.0) (same_slots ns ms y g h.1)
same_slots ns ms (choice w x y) g h =
    let e = same_slots ns ms w g h.0 in
    let f = same_slots ns ms x g h.1 in
    let k = same_slots ns ms y g h.2 in
    cc
same_slots ns ms (of_row n) g h = refl
same_slots ns ms (one_part f x) g h = ap (one_tree f) (same_slots ns ms x g h)
same_slots ns ms (each_row f x y) g h = ap₂ (each_tree f) (same_slots ns ms x g h.0) (same_slots ns ms y g h.1)

-- the slots of a formula whose names were put, where names go on
pub put_slots : (ns ms : List (List ℕ)) (x : Draft) → GoOn (with_names ns x) ms → slotted ms x ≡ slotted (with_names ns x) x
put_slots ns ms x g = same_slots (with_names ns x) ms x g (each_there ns x)

-- the slot of a name that was put, where names go on
pub put_slot : (ns ms : List (List ℕ)) (n : List ℕ) → GoOn (with_name ns n) ms → slot_of ms n ≡ slot_of (with_name ns n) n
put_slot ns ms n g = (g.kept n (lines.there ns n)).1
