-- The names of a template, and the slots of its formulas.
use Rattle.std.proofs.Common.{◌≡◌, ◌<◌, ◌≤◌, ◌+◌, ◌*◌, ◌^◌, ℕ, suc, false, List, [], ◌∷◌, length, map, None, refl, ap, ap₂, ◌∙◌, arith}
use Rattle.std.specs.Prelude.{nat_lt}
use Rattle.std.proofs.lemmas.Bool.Decides.{nat_tests}
use Rattle.sig_formula.specs.Trees.{Tree}
use Rattle.formula_text.specs.Grammar.{Draft}
use Rattle.formula_text.specs.Refusals.{names, slotted}
use Rattle.formula_text.specs.Slots.{wired}
use Rattle.formula_text.proofs.Shared.{few_names, not_chosen}
use Rattle.line_forms.specs.Slots.{among_names}
use Rattle.line_forms.proofs.Shared.{among_is, each_names, few_each}
use Rattle.tpl_syntax.specs.declared.line.Line.{Line}
use Rattle.tpl_syntax.specs.declared.line.Line.TheVariants as line
use Rattle.tpl_syntax.specs.Grammar.{said_line}
use Rattle.tpl_syntax.specs.Refusals.{allowed, fault_of, judged, many_lines}
use Rattle.tpl_syntax.specs.Lines.{Plan, formula_of, mapped}
use Rattle.tpl_syntax.specs.Places.{Place, moved}
use Rattle.tpl_syntax.specs.Templates.{Sayings, names_of, plan_of, with_formula, with_lines}
use Rattle.tpl_syntax.specs.Views.{plan_wired, with_all, with_wired}
use Rattle.tpl_syntax.proofs.Judgements.{AllSound}

-- ---- the names of lines

line_names : (ns : List (List ℕ)) (l : Line Draft) → with_wired ns (formula_of (mapped wired l)) ≡ with_formula ns (formula_of l)
line_names ns (line.Plain m) = refl
line_names ns (line.Over p x) = each_names ns [] x

all_names : (ns : List (List ℕ)) (ls : List (Line Draft)) → with_all ns (map (mapped wired) ls) ≡ with_lines ns ls
all_names ns [] = refl
all_names ns (l ∷ ls) =
    ap (λ (ks : List (List ℕ)). with_all ks (map (mapped wired) ls)) (line_names ns l) ∙ all_names (with_formula ns (formula_of l)) ls

-- ---- lines over other names

mapped_is : {F G H : Type 0} (f : G → H) (g : F → G) (h : F → H) (l : Line F) → ((x : F) → f (g x) ≡ h x) → mapped f (mapped g l) ≡ mapped h l
mapped_is f g h (line.Plain m) e = refl
mapped_is f g h (line.Over p x) e = ap (line.Over p) (e x)

all_among : (ns : List (List ℕ)) (ls : List (Line Draft)) → map (mapped (among_names ns)) (map (mapped wired) ls) ≡ map (mapped (slotted ns)) ls
all_among ns [] = refl
all_among ns (l ∷ ls) =
    ap₂ (λ (m : Line Tree) (ms : List (Line Tree)). m ∷ ms) (mapped_is (among_names ns) wired (slotted ns) l (among_is ns)) (all_among ns ls)

-- the template of wired lines is that of the lines
pub plan_is : (ls : List (Line Draft)) → plan_wired (map (mapped wired) ls) ≡ plan_of ls
plan_is ls =
    let same = all_names [] ls in
    let whole : List (List ℕ) → Plan = λ ns. record { lines = map (mapped (among_names ns)) (map (mapped wired) ls); names = ns } in
    ap whole same ∙ ap (λ (ms : List (Line Tree)). record { lines = ms; names = names_of ls }) (all_among (names_of ls) ls)

-- ---- the names are few

few_line : (p : Place) (ns : List (List ℕ)) (l : Line Draft) → fault_of p l ≡ None → length (with_wired ns (formula_of (mapped wired l))) ≤ length ns + 64
few_line p ns (line.Plain m) e = omega arith
few_line p ns (line.Over u x) e = let a = few_each ns (names x) in let b = few_names (allowed p) x e in omega arith

few_lines : (p : Place) (ns : List (List ℕ)) (xs : Sayings) → AllSound p xs
    → length (with_all ns (map (mapped wired) (map (λ x. said_line x.1) xs))) ≤ length ns + 64 * length xs
few_lines p ns [] s = omega arith
few_lines p ns (x ∷ xs) s =
    let l = said_line x.1 in
    let a = few_line p ns l s.0 in
    let b = few_lines (moved p l) (with_wired ns (formula_of (mapped wired l))) xs s.1 in
    omega arith

judged_length : (p : Place) (xs : Sayings) → length (judged p xs) ≡ length xs
judged_length p [] = refl
judged_length p (x ∷ xs) = ap (λ (n : ℕ). suc n) (judged_length (moved p (said_line x.1)) xs)

not_many : (n : ℕ) → nat_lt 128 n ≡ false → n ≤ 128
not_many n e = grind (arith, nat_tests)

-- the names of lines that aren't refused are few
pub few : (p : Place) (xs : Sayings) → AllSound p xs → many_lines (judged p xs) ≡ None
    → length (with_all [] (map (mapped wired) (map (λ x. said_line x.1) xs))) < 2 ^ 32
few p xs s m =
    let a = few_lines p [] xs s in
    let n = not_many (length (judged p xs)) (not_chosen (nat_lt 128 (length (judged p xs))) _ None m).0 in
    let e = judged_length p xs in
    omega arith
