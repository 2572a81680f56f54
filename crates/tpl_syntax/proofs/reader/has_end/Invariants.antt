use Rattle.std.proofs.Common.{◌≡◌, ◌++◌, ℕ, List, false}
use Rattle.tpl_syntax.specs.Refusals.{has_end}
use Rattle.tpl_syntax.specs.Views.{finds}
use Rattle.sig_words.specs.Literals.{plain}
use Rattle.tpl_syntax.proofs.reader.has_end.Given as goal

-- what is found with the others is found in all
abbrev pub invariant-loop-c : goal.invariant-loop-c
invariant-loop-c l = record {
  rest : (rest : List ℕ) → finds l.scan rest ≡ has_end false (plain false (l.yielded ++ rest));
  done : l.scan.found ≡ has_end false (plain false l.yielded);
}
