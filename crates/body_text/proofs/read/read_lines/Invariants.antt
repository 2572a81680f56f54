use Rattle.std.proofs.Common.{◌≤◌, ◌++◌, ℕ, List, map, drop}
use Rattle.script_lines.specs.Views.{line_of}
use Rattle.body_text.specs.declared.judge.ReadLine.{ReadLine}
use Rattle.body_text.specs.Verdicts.{IsFaulty}
use Rattle.body_text.specs.Views.{AreRead}
use Rattle.body_text.proofs.read.read_lines.Given as goal

abbrev pub invariant-loop-numbered : goal.invariant-loop-numbered
invariant-loop-numbered l = record {
  few : l.depth ≤ l.numbered-index;
  faulty : (k : ℕ) → IsFaulty l.allowance l.depth (map line_of (drop l.numbered-index l.lines)) k → IsFaulty l.allowance 0 (map line_of l.lines) k;
  says : (rs : List ReadLine) (to : ℕ) → AreRead l.allowance l.depth (map line_of (drop l.numbered-index l.lines)) rs to → AreRead l.allowance 0 (map line_of l.lines) (l.said.items ++ rs) to;
}
