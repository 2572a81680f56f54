-- The lines that nothing is wrong with.
use Rattle.std.proofs.Common.{◌≡◌, ◌≤◌, ◌+◌, List, [], ◌∷◌, ◌++◌, length, refl, ap, arith}
use Rattle.std.specs.Prelude.{Result, Ok, Err}
use Rattle.formula_text.specs.declared.wired.FormulaFault.{FormulaFault}
use Rattle.body_text.specs.declared.judge.ReadLine.{ReadLine}
use Rattle.body_text.specs.declared.line.Line.{Line}
use Rattle.body_text.specs.Views.{with_line, sound_lines}

with_more : (o : Result Line FormulaFault) (ls ms ns : List Line) → ms ≡ ls ++ ns → with_line o ms ≡ with_line o ls ++ ns
with_more (Ok l) ls ms ns e = ap (λ (xs : List Line). l ∷ xs) e
with_more (Err f) ls ms ns e = e

pub sound_more : (rs : List ReadLine) (r : ReadLine) → sound_lines (rs ++ r ∷ []) ≡ sound_lines rs ++ with_line r.line []
sound_more [] r = refl
sound_more (s ∷ rs) r = with_more s.line (sound_lines rs) (sound_lines (rs ++ r ∷ [])) (with_line r.line []) (sound_more rs r)

with_length : (o : Result Line FormulaFault) (ls : List Line) → length (with_line o ls) ≤ length ls + 1
with_length (Ok l) ls = omega arith
with_length (Err f) ls = omega arith

-- they are no more than were read
pub sound_length : (rs : List ReadLine) → length (sound_lines rs) ≤ length rs
sound_length [] = omega arith
sound_length (r ∷ rs) = let a = with_length r.line (sound_lines rs) in let b = sound_length rs in omega arith
