-- Formulas with the fewest parentheses.
use Rattle.std.proofs.Common.{◌≡◌, ℕ, ◌+◌, ◌≤◌, Bool, true, false, cond, List, [], ◌∷◌, ◌++◌, length, take, drop, Some, refl, sym, ap, subst, ◌∙◌, arith, inl, inr}
use Rattle.std.specs.Prelude.{nat_lt}
use Rattle.std.proofs.lemmas.Bool.{ltb-false, cases_Bool}
use Rattle.std.proofs.lemmas.List.{append-nil, length-map, take-append-drop, map-append}
use Rattle.sig_words.specs.Lexemes.{Lexeme}
use Rattle.formula_text.specs.Signs.{Sign, NoOperator, signs}
use Rattle.formula_text.specs.Signs as t
use Rattle.formula_text.specs.Grammar.{Draft, leaf, negation, binary, choice, of_row, one_part, each_row, Written, group, negated, chain, pick, spelled, meant, level, before, rule, Fits, Spells, IsFormula, IsLongest}
use Rattle.formula_text.specs.Parser.{expr}
use Rattle.formula_text.specs.Canonical.{grouped, minimal, written, opened, shut}
use Rattle.formula_text.proofs.Groups.{before_small, level_small}
use Rattle.formula_text.proofs.Complete.{Stops}
use Rattle.formula_text.proofs.Laws.{longest, one_meaning, reads_front}

grouped_if : (b : Bool) (w : Written) → written (cond b (group w) w) ≡ opened b ++ (written w ++ shut b)
grouped_if true w = refl
grouped_if false w = sym (append-nil (written w))

pub written_grouped : (own asked : ℕ) (w : Written) → written (grouped own asked w) ≡ opened (nat_lt own asked) ++ (written w ++ shut (nat_lt own asked))
written_grouped own asked w = grouped_if (nat_lt own asked) w

-- the form is the formula, and may stand at the place
record IsMinimal (asked : ℕ) (x : Draft) (w : Written) : Type 0 where
  fits : Fits w
  in_place : asked ≤ rule w
  meaning : meant w ≡ x

grouped_is : (own asked : ℕ) (x : Draft) (w : Written) → asked ≤ 8 → rule w ≡ own → Fits w → meant w ≡ x → IsMinimal asked x (grouped own asked w)
grouped_is own asked x w small is fits meaning = elim (cases_Bool (nat_lt own asked)) [
  | inl holds ↦ rw holds (record { fits = fits; in_place = small; meaning = meaning })
  | inr fails ↦ rw fails (record { fits = fits; in_place = omega (arith, ltb-false own asked fails, is); meaning = meaning })
]

minimal_is : (asked : ℕ) (x : Draft) → asked ≤ 8 → IsMinimal asked x (minimal asked x)
minimal_is asked (leaf l) small = record { fits = tt; in_place = small; meaning = refl }
minimal_is asked (of_row n) small = record { fits = tt; in_place = small; meaning = refl }
minimal_is asked (one_part f x) small =
    let a = minimal_is 0 x (omega arith) in
    record { fits = a.fits; in_place = small; meaning = ap (one_part f) a.meaning }
minimal_is asked (each_row f x y) small =
    let a = minimal_is 0 x (omega arith) in
    let b = minimal_is 0 y (omega arith) in
    record { fits = (a.fits, b.fits); in_place = small; meaning = let g = a.meaning in let h = b.meaning in cc }
minimal_is asked (negation x) small =
    let a = minimal_is 3 x (omega arith) in
    grouped_is 3 asked (negation x) (negated (minimal 3 x)) small refl (a.in_place, a.fits) (ap negation a.meaning)
minimal_is asked (binary o x y) small =
    let a = minimal_is (before o) x (before_small o) in
    let b = minimal_is (level o + 1) y (level_small o) in
    grouped_is (level o) asked (binary o x y) (chain o (minimal (before o) x) (minimal (level o + 1) y)) small refl (a.in_place, omega (arith, b.in_place), a.fits, b.fits)
    (let f = a.meaning in let g = b.meaning in cc)
minimal_is asked (choice w x y) small =
    let a = minimal_is 0 w (omega arith) in
    let b = minimal_is 0 x (omega arith) in
    let c = minimal_is 0 y (omega arith) in
    grouped_is 0 asked (choice w x y) (pick (minimal 0 w) (minimal 0 x) (minimal 0 y)) small refl (a.fits, b.fits, c.fits)
    (let f = a.meaning in let g = b.meaning in let h = c.meaning in cc)

pub minimal_spells : (x : Draft) → Spells (spelled (minimal 0 x)) x
minimal_spells x = let m = minimal_is 0 x (omega arith) in record { form = minimal 0 x; fits = m.fits; tokens = refl; meaning = m.meaning }

no_operator : (ss : List Sign) → NoOperator ss → Stops 1 ss
no_operator [] h = tt
no_operator (t.operator o ∷ ss) h = absurd h
no_operator (s ∷ ss) h = tt

pub one_formula : (ls : List Lexeme) (x y : Draft) → IsFormula ls x → IsFormula ls y → x ≡ y
one_formula ls x y a b = one_meaning (signs ls) x y a b

-- a formula before no operator is the longest
pub front_longest : (ls : List Lexeme) (n : ℕ) (x : Draft) → n ≤ length ls → IsFormula (take n ls) x → NoOperator (signs (drop n ls)) → IsLongest ls n x
front_longest ls n x small s stops =
    let r = reads_front (signs (take n ls)) (signs (drop n ls)) x s (no_operator (signs (drop n ls)) stops) in
    let whole : signs ls ≡ signs (take n ls) ++ signs (drop n ls) = ap signs (sym (take-append-drop n ls)) ∙ map-append t.sign (take n ls) (drop n ls) in
    let read : expr (length (signs ls)) 0 (signs ls) ≡ Some (x, r.0, signs (drop n ls)) = ap (λ (us : List Sign). expr (length us) 0 us) whole ∙ r.1 in
    longest (length (signs ls)) ls (x, r.0, signs (drop n ls)) n (omega (arith, length-map ls t.sign)) read refl small

pub minimal_longest : (x : Draft) (ls : List Lexeme) (n : ℕ) → n ≤ length ls → signs (take n ls) ≡ spelled (minimal 0 x) → NoOperator (signs (drop n ls)) → IsLongest ls n x
minimal_longest x ls n small is stops = front_longest ls n x small (subst (λ (us : List Sign). Spells us x) (sym is) (minimal_spells x)) stops
