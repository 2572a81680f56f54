-- The open parts: the last that was put there is the first.
use Rattle.std.proofs.Common.{◌≡◌, ◌∙◌, ◌<◌, ◌-◌, ℕ, zero, suc, List, [], ◌∷◌, ◌++◌, Option, Some, None, drop, length, map, reverse, refl, sym, ap, arith}
use Rattle.std.specs.Prelude.{MatchOption, option_to_list}
use Rattle.std.proofs.lemmas.List.{reverse-append, map-append}
use Rattle.tpl_model.specs.Lines as model
use Rattle.tpl_syntax.specs.declared.line.Line.{Line}
use Rattle.sig_formula.specs.declared.formula.Formula.{Formula}
use Rattle.tpl_blocks.specs.Blocks.{begun, held, plain_line, part_of, GoesAround, IsTop, StandsBefore}
use Rattle.tpl_blocks.specs.declared.builder.Part.{Part}

-- a part is put there
pub held_push : (parts : List Part) (p : Part) → held (parts ++ p ∷ []) ≡ part_of p ∷ held parts
unfolding held
held_push parts p = ap reverse (map-append part_of parts (p ∷ [])) ∙ reverse-append (map part_of parts) (part_of p ∷ [])

-- there are none
pub held_none : held [] ≡ []
unfolding held
held_none = refl

nobody_there : (n : ℕ) (parts : List Part) → n ≡ length parts → n ≡ 0 → held parts ≡ []
nobody_there n [] e h = held_none
nobody_there n (p ∷ parts) e h = absurd (omega arith)

-- what is taken
pub top_of : (r : Option Part) (before now : List Part) (m n : ℕ) (Rest : Part → Type 0) → m ≡ length before → n ≡ length now →
    before ≡ now ++ option_to_list r → MatchOption r ((m ≡ 0) × (n ≡ 0)) Rest → IsTop r (held before) (held now)
top_of None before now m n Rest l k e c = (nobody_there m before l c.0, nobody_there n now k c.1)
top_of (Some p) before now m n Rest l k e c = ap held e ∙ held_push now p

-- where there are fewer than two, a line that goes around them says nothing
pub short : (parts : List Part) → length parts < 2 → (n : ℕ) (l : model.Line) → GoesAround n l → held parts ≡ model.with_line n l (held parts)
unfolding held
short [] h n l a = sym a.0
short (p ∷ []) h n l a = sym (a.1 (part_of p))
short (p ∷ q ∷ parts) h n l a = absurd (omega arith)

-- ---- what a line does to the parts

-- it stands before the lines of the innermost
pub line_before : (n : ℕ) (l : model.Line) (p q : model.Part) (before rest now : List model.Part) → StandsBefore n l → before ≡ p ∷ rest →
    q ∷ [] ≡ model.with_line n l (p ∷ []) → now ≡ q ∷ rest → now ≡ model.with_line n l before
line_before n l p q before rest now a e g h = h ∙ (ap (λ z. z ++ rest) g ∙ (sym (a.1 p rest) ∙ sym (ap (model.with_line n l) e)))

-- it goes around the innermost
pub line_around : (n : ℕ) (l : model.Line) (i p : model.Part) (b : model.Block) (before rest now : List model.Part) → GoesAround n l → before ≡ i ∷ p ∷ rest →
    b ≡ begun n l i p.lines → now ≡ record p { lines = b } ∷ rest → now ≡ model.with_line n l before
line_around n l i p b before rest now a e g h =
    h ∙ (ap (λ z. record p { lines = z } ∷ rest) g ∙ (sym (a.2 i p rest) ∙ sym (ap (model.with_line n l) e)))

-- one more line, the one before those that were gone over
pub one_back : (lines : List (Line Formula)) (x : Line Formula) (at : ℕ) (before now : List model.Part) → 0 < at → drop (at - 1) lines ≡ x ∷ drop at lines →
    before ≡ model.parts_from (suc at) (map plain_line (drop at lines)) → now ≡ model.with_line at (plain_line x) before →
    now ≡ model.parts_from (suc (at - 1)) (map plain_line (drop (at - 1) lines))
one_back lines x zero before now h d e f = absurd (omega arith)
one_back lines x (suc n) before now h d e f =
    let m : suc n - 1 ≡ n = omega arith in
    let d' : drop n lines ≡ x ∷ drop (suc n) lines = rw m at d in
    rw m (f ∙ (ap (model.with_line (suc n) (plain_line x)) e ∙ sym (ap (λ z. model.parts_from (suc n) (map plain_line z)) d')))
