-- Statements one after the other.
use Rattle.std.proofs.Common.{◌≡◌, ℕ, ◌+◌, List, ◌∷◌, ◌++◌, Option, Some, None, refl, sym, ap, ap₂, ◌∙◌, append_assoc, arith}
use Rattle.formula_text.specs.Refusals.{slot_of, slotted, with_name, with_names}
use Rattle.sig_untrack.specs.Stated as stated
use Rattle.sig_untrack.specs.Stated.{Stated, Rewiring, Bodies, no_bodies}
use Rattle.effect_model.specs.Lines.{formula_of, target_of}
use Rattle.formula_text.specs.Grammar.{Draft}
use Rattle.body_text.specs.Parts.{appended}
use Rattle.body_text.specs.Names.{GoOn}
use Rattle.body_text.specs.Statements.{Statements, done, plain, rewire, when, effect, body_with, effects_of, own_effects, own_rewires, placed, placed_line, rewiring_of, rewirings_of, with_formula, with_own, with_target, with_targets}
use Rattle.body_text.proofs.Slots.{go_on, go_further, goes_name, goes_names}

pub then_more : (s t u : Statements) → appended (appended s t) u ≡ appended s (appended t u)
then_more done t u = refl
then_more (plain a s) t u = ap (plain a) (then_more s t u)
then_more (rewire n x s) t u = ap (rewire n x) (then_more s t u)
then_more (when x i s) t u = ap (when x i) (then_more s t u)
then_more (effect i s) t u = ap (effect i) (then_more s t u)

pub then_targets : (ts : List (List ℕ)) (s u : Statements) → with_targets ts (appended s u) ≡ with_targets (with_targets ts s) u
then_targets ts done u = refl
then_targets ts (plain a s) u = then_targets (with_target ts (target_of a)) s u
then_targets ts (rewire n x s) u = then_targets (with_name ts n) s u
then_targets ts (when x i s) u = then_targets (with_targets ts i) s u
then_targets ts (effect i s) u = then_targets ts s u

pub then_own : (ns : List (List ℕ)) (s u : Statements) → with_own ns (appended s u) ≡ with_own (with_own ns s) u
then_own ns done u = refl
then_own ns (plain a s) u = then_own (with_formula ns (formula_of a)) s u
then_own ns (rewire n x s) u = then_own ns s u
then_own ns (when x i s) u = then_own (with_own (with_names ns x) i) s u
then_own ns (effect i s) u = then_own ns s u

pub then_effects : (s u : Statements) (others : Bodies) → effects_of (appended s u) others ≡ effects_of s (effects_of u others)
then_effects done u others = refl
then_effects (plain a s) u others = then_effects s u others
then_effects (rewire n x s) u others = then_effects s u others
then_effects (when x i s) u others = ap (effects_of i) (then_effects s u others)
then_effects (effect i s) u others = ap (body_with i (effects_of i no_bodies)) (then_effects s u others)

pub then_nested : (s u : Statements) → own_effects (appended s u) ≡ own_effects s + own_effects u
then_nested done u = omega arith
then_nested (plain a s) u = then_nested s u
then_nested (rewire n x s) u = then_nested s u
then_nested (when x i s) u = let e = then_nested s u in omega arith
then_nested (effect i s) u = let e = then_nested s u in omega arith

pub then_rewires : (s u : Statements) → own_rewires (appended s u) ≡ own_rewires s + own_rewires u
then_rewires done u = omega arith
then_rewires (plain a s) u = then_rewires s u
then_rewires (rewire n x s) u = let e = then_rewires s u in omega arith
then_rewires (when x i s) u = let e = then_rewires s u in omega arith
then_rewires (effect i s) u = then_rewires s u

pub then_rewirings : (ts : List (List ℕ)) (s u : Statements) → rewirings_of ts (appended s u) ≡ rewirings_of ts s ++ rewirings_of ts u
then_rewirings ts done u = refl
then_rewirings ts (plain a s) u = then_rewirings ts s u
then_rewirings ts (rewire n x s) u = ap (λ (rs : List Rewiring). rewiring_of (slot_of ts n) x ∷ rs) (then_rewirings ts s u)
then_rewirings ts (when x i s) u =
    ap (λ (rs : List Rewiring). rewirings_of ts i ++ rs) (then_rewirings ts s u)
    ∙ sym (append_assoc (rewirings_of ts i) (rewirings_of ts s) (rewirings_of ts u))
then_rewirings ts (effect i s) u = then_rewirings ts s u

-- statements at places behind other effects and rewirings
abbrev placed_from : List (List ℕ) → List (List ℕ) → Statements → Stated → ℕ × ℕ → Stated
placed_from ts ns s after at = placed ts ns at.0 at.1 s after

pub then_placed : (ts ns : List (List ℕ)) (e r : ℕ) (s u : Statements) (after : Stated)
    → placed ts ns e r (appended s u) after ≡ placed ts ns e r s (placed ts ns (e + own_effects s) (r + own_rewires s) u after)
then_placed ts ns e r done u after =
    let a : e ≡ e + 0 = omega arith in
    let b : r ≡ r + 0 = omega arith in
    ap₂ (λ (m n : ℕ). placed ts ns m n u after) a b
then_placed ts ns e r (plain a s) u after = ap (stated.plain (placed_line ts ns a)) (then_placed ts ns e r s u after)
then_placed ts ns e r (rewire n x s) u after =
    let b : (r + 1) + own_rewires s ≡ r + (1 + own_rewires s) = omega arith in
    ap (stated.rewire r)
    (then_placed ts ns e (r + 1) s u after ∙ ap (λ (m : ℕ). placed ts ns e (r + 1) s (placed ts ns (e + own_effects s) m u after)) b)
then_placed ts ns e r (when x i s) u after =
    let a : (e + own_effects i) + own_effects s ≡ e + (own_effects i + own_effects s) = omega arith in
    let b : (r + own_rewires i) + own_rewires s ≡ r + (own_rewires i + own_rewires s) = omega arith in
    ap (stated.when (slotted ns x) (placed ts ns e r i stated.no_more))
    (then_placed ts ns (e + own_effects i) (r + own_rewires i) s u after
    ∙ ap₂ (λ (m n : ℕ). placed ts ns (e + own_effects i) (r + own_rewires i) s (placed ts ns m n u after)) a b)
then_placed ts ns e r (effect i s) u after =
    let a : (e + 1) + own_effects s ≡ e + (1 + own_effects s) = omega arith in
    ap (stated.effect e)
    (then_placed ts ns (e + 1) r s u after ∙ ap (λ (m : ℕ). placed ts ns (e + 1) r s (placed ts ns m (r + own_rewires s) u after)) a)

-- ---- names go on

goes_formula : (ns : List (List ℕ)) (o : Option Draft) → GoOn ns (with_formula ns o)
goes_formula ns None = go_on ns
goes_formula ns (Some x) = goes_names ns x

goes_target : (ts : List (List ℕ)) (o : Option (List ℕ)) → GoOn ts (with_target ts o)
goes_target ts None = go_on ts
goes_target ts (Some n) = goes_name ts n

pub goes_own : (ns : List (List ℕ)) (s : Statements) → GoOn ns (with_own ns s)
goes_own ns done = go_on ns
goes_own ns (plain a s) = let ms = with_formula ns (formula_of a) in go_further ns ms _ (goes_formula ns (formula_of a)) (goes_own ms s)
goes_own ns (rewire n x s) = goes_own ns s
goes_own ns (when x i s) =
    let ms = with_names ns x in
    let ks = with_own ms i in
    go_further ns ms _ (goes_names ns x) (go_further ms ks _ (goes_own ms i) (goes_own ks s))
goes_own ns (effect i s) = goes_own ns s

pub goes_targets : (ts : List (List ℕ)) (s : Statements) → GoOn ts (with_targets ts s)
goes_targets ts done = go_on ts
goes_targets ts (plain a s) = let us = with_target ts (target_of a) in go_further ts us _ (goes_target ts (target_of a)) (goes_targets us s)
goes_targets ts (rewire n x s) = let us = with_name ts n in go_further ts us _ (goes_name ts n) (goes_targets us s)
goes_targets ts (when x i s) = let us = with_targets ts i in go_further ts us _ (goes_targets ts i) (goes_targets us s)
goes_targets ts (effect i s) = goes_targets ts s
