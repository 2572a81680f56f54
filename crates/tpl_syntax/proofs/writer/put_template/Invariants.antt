use Rattle.std.proofs.Common.{◌≡◌, ◌++◌, drop, flat_map, map}
use Rattle.sig_formula.specs.Trees.{tree}
use Rattle.tpl_syntax.specs.Lines.{mapped}
use Rattle.tpl_syntax.specs.Printer.{ended_line, said_in}
use Rattle.tpl_syntax.proofs.writer.put_template.Given as goal

-- with the lines that are left
abbrev pub invariant-loop-line : goal.invariant-loop-line
invariant-loop-line l =
    l.out.items ++ flat_map ended_line (map (said_in l.names) (map (mapped tree) (drop l.line-index l.lines)))
    ≡ l.fn.out.items ++ flat_map ended_line (map (said_in l.names) (map (mapped tree) l.lines))
