use Rattle.std.proofs.Common.{◌++◌, ℕ, List, map, drop}
use Rattle.script_lines.specs.Views.{line_of}
use Rattle.tpl_syntax.specs.declared.judge.ReadLine.{ReadLine}
use Rattle.tpl_syntax.specs.Places.{Place, top}
use Rattle.tpl_syntax.specs.Templates.{IsFaulty}
use Rattle.tpl_syntax.specs.Views.{AreRead, place_of}
use Rattle.tpl_syntax.proofs.read.read_lines.Given as goal

abbrev pub invariant-loop-numbered : goal.invariant-loop-numbered
invariant-loop-numbered l = record {
  faulty : (k : ℕ) → IsFaulty (place_of l.place) (map line_of (drop l.numbered-index l.lines)) k → IsFaulty top (map line_of l.lines) k;
  says : (rs : List ReadLine) (to : Place) → AreRead (place_of l.place) (map line_of (drop l.numbered-index l.lines)) rs to → AreRead top (map line_of l.lines) (l.said.items ++ rs) to;
}
