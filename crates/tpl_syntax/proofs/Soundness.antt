-- The template of lines that nothing is wrong with.
use Rattle.std.proofs.Common.{◌≡◌, List, [], ◌∷◌, ◌++◌, Option, Some, None, refl, ap}
use Rattle.formula_text.specs.Slots.{Wiring}
use Rattle.tpl_syntax.specs.declared.judge.ReadLine.{ReadLine}
use Rattle.tpl_syntax.specs.declared.line.Line.{Line}
use Rattle.tpl_syntax.specs.Views.{wired_line, with_line, sound_lines}

with_more : (o : Option (Line Wiring)) (ls ms ns : List (Line Wiring)) → ms ≡ ls ++ ns → with_line o ms ≡ with_line o ls ++ ns
with_more (Some l) ls ms ns e = ap (λ (xs : List (Line Wiring)). l ∷ xs) e
with_more None ls ms ns e = e

pub sound_more : (rs : List ReadLine) (r : ReadLine) → sound_lines (rs ++ r ∷ []) ≡ sound_lines rs ++ with_line (wired_line r.line) []
sound_more [] r = refl
sound_more (s ∷ rs) r = with_more (wired_line s.line) (sound_lines rs) (sound_lines (rs ++ r ∷ [])) (with_line (wired_line r.line) []) (sound_more rs r)
