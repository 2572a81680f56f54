-- The longest formula is what is read.
use Rattle.std.proofs.Common.{◌≡◌, ◌<◌, ℕ, ◌-◌, List, length, take, drop, Option, Some, None, option_map, refl, sym, ap, subst, ◌∙◌, arith}
use Rattle.std.proofs.lemmas.List.{drop-drop, drop-map}
use Rattle.sig_words.specs.declared.token.Token.{Token}
use Rattle.sig_words.specs.Lexemes.{Lexeme, lexeme, lexemes}
use Rattle.formula_text.specs.Signs.{signs}
use Rattle.formula_text.specs.Grammar.{Draft, spelled, IsFormula, IsLongest, HasNone}
use Rattle.formula_text.specs.Parser.{Part as Run, expr}
use Rattle.formula_text.specs.Slots.{IsRead, ReadsNone}
use Rattle.formula_text.specs.declared.rough.Rough.{Rough}
use Rattle.formula_text.specs.Rough.{draft}
use Rattle.formula_text.proofs.Shared.{expr_sound, longest, has_none, one_formula}
use Rattle.line_forms.specs.Reader.{left_of, read_formula}
use Rattle.line_forms.specs.Told.{ahead}
use Rattle.line_forms.proofs.Soundness.{split_signs}

pub longest_read : (ls : List Lexeme) (n : ℕ) (x : Draft) → IsLongest ls n x → read_formula ls ≡ Some (x, drop n ls)
unfolding read_formula
longest_read ls n x l = at (expr (length ls) 0 (signs ls)) refl
  where
    at : (o : Option Run) → expr (length ls) 0 (signs ls) ≡ o → option_map (left_of ls) (expr (length ls) 0 (signs ls)) ≡ Some (x, drop n ls)
    at None e = absurd (has_none (length ls) ls (omega arith) e n x l.spells)
    at (Some r) e =
        let took = expr_sound (length ls) 0 (signs ls) r (omega arith) e in
        let k = length ls - length r.2 in
        let m = longest (length ls) ls r k (omega arith) e (sym (split_signs ls (spelled took.form) r.2 took.tokens)) (omega arith) in
        let same : k ≡ n = let a = l.longest k r.0 m.within m.spells in let b = m.longest n x l.within l.spells in omega arith in
        let meant : r.0 ≡ x = one_formula (take n ls) r.0 x (subst (λ (j : ℕ). IsFormula (take j ls) r.0) same m.spells) l.spells in
        rw (e, same, meant) refl

pub none_read : (ls : List Lexeme) → HasNone ls → read_formula ls ≡ None
unfolding read_formula
none_read ls none = at (expr (length ls) 0 (signs ls)) refl
  where
    at : (o : Option Run) → expr (length ls) 0 (signs ls) ≡ o → option_map (left_of ls) (expr (length ls) 0 (signs ls)) ≡ None
    at None e = rw e refl
    at (Some r) e =
        let took = expr_sound (length ls) 0 (signs ls) r (omega arith) e in
        let k = length ls - length r.2 in
        let m = longest (length ls) ls r k (omega arith) e (sym (split_signs ls (spelled took.form) r.2 took.tokens)) (omega arith) in
        absurd (none k r.0 m.spells)

-- ---- from a place on

pub nothing_ahead : (line : List ℕ) (ts : List Token) (at : ℕ) → ReadsNone line ts at → read_formula (ahead line ts at) ≡ None
unfolding ahead
nothing_ahead line ts at none = none_read (lexemes line (drop at ts)) none

pub read_ahead : (line : List ℕ) (ts : List Token) (at to : ℕ) (rough : Rough) → IsRead line ts at to rough → read_formula (ahead line ts at) ≡ Some (draft line ts rough, ahead line ts to)
unfolding ahead
read_ahead line ts at to rough r =
    let ahead_of : at < to = r.reads.0 in
    let behind : drop (to - at) (lexemes line (drop at ts)) ≡ lexemes line (drop to ts) = drop-map (lexeme line) (to - at) (drop at ts) ∙ ap (lexemes line) (drop-drop (to - at) at ts ∙ ap (λ (k : ℕ). drop k ts) (omega arith)) in
    longest_read (lexemes line (drop at ts)) (to - at) (draft line ts rough) r.reads.2 ∙ ap (λ (rest : List Lexeme). Some (draft line ts rough, rest)) behind
