-- Names one after the other, and the slots of formulas among them.
use Rattle.std.proofs.Common.{◌≡◌, ◌<◌, ◌≤◌, ◌+◌, ℕ, suc, true, get_or, List, [], ◌∷◌, ◌++◌, length, map, codes, refl, ap, ap₂, subst, ◌∙◌, arith, inl, inr}
use Rattle.std.specs.Prelude.{nat_lt}
use Rattle.std.specs.List.{list_any, position_or_len}
use Rattle.std.specs.Str.{bytes_eq}
use Rattle.std.proofs.lemmas.Bool.{cases_Bool, lt-ltb}
use Rattle.std.proofs.lemmas.List.{length-append, length-map}
use Rattle.std.proofs.lemmas.Option.{slice_get-get_or}
use Rattle.std.proofs.lemmas.Slice.Eq.{bytes_eq-Decides}
use Rattle.sig_formula.specs.Trees as tree
use Rattle.formula_text.specs.declared.rough.Around.TheVariants as around
use Rattle.formula_text.specs.declared.rough.OverRows.TheVariants as over
use Rattle.formula_text.specs.Grammar.{Draft, leaf, negation, binary, choice, of_row, one_part, each_row}
use Rattle.formula_text.specs.Refusals.{names, row_tree, slot_of, slotted, with_name, with_names}
use Rattle.formula_text.specs.Signs.{name, constant}
use Rattle.formula_text.specs.Slots.{wired}
use Rattle.formula_text.proofs.Shared.{Has, HasEach, each_there, keeps_each}
use Rattle.line_forms.specs.Slots.{among_names, reslotted, slot_in, with_each}

-- ---- one name after another

keeps : (ns : List (List ℕ)) (m n : List ℕ) → Has ns n → Has (with_name ns m) n
keeps ns m n h = keeps_each ns (leaf (name m)) (leaf (name n)) h

pub there : (ns : List (List ℕ)) (n : List ℕ) → Has (with_name ns n) n
there ns n = each_there ns (leaf (name n))

keeps_all : (ns ms : List (List ℕ)) (n : List ℕ) → Has ns n → Has (with_each ns ms) n
keeps_all ns [] n h = h
keeps_all ns (m ∷ ms) n h = keeps_all (with_name ns m) ms n (keeps ns m n h)

in_each : (ns ms : List (List ℕ)) (n : List ℕ) → Has ms n → Has (with_each ns ms) n
in_each ns [] n h = absurd cc
in_each ns (m ∷ ms) n h = elim (cases_Bool (bytes_eq m n)) [
  | inl e ↦ keeps_all (with_name ns m) ms n (subst (λ (k : List ℕ). Has (with_name ns m) k) ((bytes_eq-Decides m n).0 e) (there ns m))
  | inr e ↦ in_each (with_name ns m) ms n (rw e at h)
]

each_more : (ns ms : List (List ℕ)) (n : List ℕ) → with_each ns (ms ++ n ∷ []) ≡ with_name (with_each ns ms) n
each_more ns [] n = refl
each_more ns (m ∷ ms) n = each_more (with_name ns m) ms n

pub each_name : (ns ms : List (List ℕ)) (n : List ℕ) → with_each ns (with_name ms n) ≡ with_name (with_each ns ms) n
each_name ns ms n = elim (cases_Bool (list_any (λ m. bytes_eq m n) ms)) [
  | inl h ↦ rw (h, in_each ns ms n h) refl
  | inr h ↦ rw h (each_more ns ms n)
]

pub each_names : (ns ms : List (List ℕ)) (x : Draft) → with_each ns (with_names ms x) ≡ with_names (with_each ns ms) x
each_names ns ms (leaf (name n)) = each_name ns ms n
each_names ns ms (leaf (constant s)) = refl
each_names ns ms (negation x) = each_names ns ms x
each_names ns ms (binary o x y) = each_names ns (with_names ms x) y ∙ ap (λ (ks : List (List ℕ)). with_names ks y) (each_names ns ms x)
each_names ns ms (choice w x y) =
    each_names ns (with_names (with_names ms w) x) y
    ∙ ap (λ (ks : List (List ℕ)). with_names ks y) (each_names ns (with_names ms w) x ∙ ap (λ (ks : List (List ℕ)). with_names ks x) (each_names ns ms w))
each_names ns ms (of_row n) = refl
each_names ns ms (one_part f x) = each_names ns ms x
each_names ns ms (each_row f x y) = each_names ns (with_names ms x) y ∙ ap (λ (ks : List (List ℕ)). with_names ks y) (each_names ns ms x)

few_name : (ns : List (List ℕ)) (n : List ℕ) → length (with_name ns n) ≤ length ns + 1
few_name ns n = elim (cases_Bool (list_any (λ m. bytes_eq m n) ns)) [
  | inl h ↦ rw h (omega arith)
  | inr h ↦ rw h (omega (arith, length-append ns (n ∷ [])))
]

pub few_each : (ns ms : List (List ℕ)) → length (with_each ns ms) ≤ length ns + length ms
few_each ns [] = omega arith
few_each ns (m ∷ ms) = let a = few_name ns m in let b = few_each (with_name ns m) ms in omega arith

-- ---- a formula over other names

found : (f : List ℕ → ℕ) (own : List (List ℕ)) (n : List ℕ) (d : ℕ) → Has own n
    → (position_or_len (λ m. bytes_eq m n) own < length own) × (get_or (map f own) (position_or_len (λ m. bytes_eq m n) own) d ≡ f n)
found f [] n d h = absurd cc
found f (m ∷ ms) n d h = elim (cases_Bool (bytes_eq m n)) [
  | inl e ↦ rw e (omega arith, ap f ((bytes_eq-Decides m n).0 e))
  | inr e ↦
      let rest = found f ms n d (rw e at h) in
      let next : 1 + position_or_len (λ (k : List ℕ). bytes_eq k n) ms ≡ suc (position_or_len (λ (k : List ℕ). bytes_eq k n) ms) = omega arith in
      rw (e, next) (omega (arith, rest.0), rest.1)
]

slot_there : (f : List ℕ → ℕ) (own : List (List ℕ)) (n : List ℕ) → Has own n → slot_in (map f own) (slot_of own n) ≡ f n
slot_there f own n h =
    let k = position_or_len (λ (m : List ℕ). bytes_eq m n) own in
    let at = found f own n 0 h in
    let lt : nat_lt k (length own) ≡ true = lt-ltb _ _ at.0 in
    let within : k < length (map f own) = omega (arith, length-map own f, at.0) in
    rw (lt, slice_get-get_or (map f own) k 0 within) at.1

row_kept : (slots : List ℕ) (n : List ℕ) → reslotted slots (row_tree n) ≡ row_tree n
row_kept slots n = elim (cases_Bool (bytes_eq n (codes "key"))) [ inl e ↦ rw e refl | inr e ↦ rw e refl ]

pub reslotted_is : (ns own : List (List ℕ)) (x : Draft) → HasEach own x → reslotted (map (slot_of ns) own) (slotted own x) ≡ slotted ns x
reslotted_is ns own (leaf (name n)) h = ap tree.slot (slot_there (slot_of ns) own n h)
reslotted_is ns own (leaf (constant s)) h = refl
reslotted_is ns own (negation x) h = ap tree.negation (reslotted_is ns own x h)
reslotted_is ns own (binary o x y) h = ap₂ (tree.binary o) (reslotted_is ns own x h.0) (reslotted_is ns own y h.1)
reslotted_is ns own (choice w x y) h =
    let e = reslotted_is ns own w h.0 in
    let f = reslotted_is ns own x h.1 in
    let g = reslotted_is ns own y h.2 in
    cc
reslotted_is ns own (of_row n) h = row_kept (map (slot_of ns) own) n
reslotted_is ns own (one_part around.Count x) h = ap tree.count_of (reslotted_is ns own x h)
reslotted_is ns own (one_part around.Untrack x) h = ap tree.untracked (reslotted_is ns own x h)
reslotted_is ns own (each_row over.Sum x y) h = ap₂ tree.sum_of (reslotted_is ns own x h.0) (reslotted_is ns own y h.1)
reslotted_is ns own (each_row over.Keep x y) h = ap₂ tree.rows_where (reslotted_is ns own x h.0) (reslotted_is ns own y h.1)

-- a wired formula over other names is the formula over them
pub among_is : (ns : List (List ℕ)) (x : Draft) → among_names ns (wired x) ≡ slotted ns x
among_is ns x = reslotted_is ns (names x) x (each_there [] x)
