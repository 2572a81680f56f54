use Rattle.std.proofs.Common.{◌≡◌, ◌<◌, ◌^◌, length, map}
use Rattle.sig_formula.specs.Trees.{tree}
use Rattle.tpl_syntax.specs.Lines.{mapped}
use Rattle.line_forms.specs.Slots.{among_names}
use Rattle.tpl_syntax.proofs.builder.lines_among.Given as goal

abbrev pub invariant-loop-line : goal.invariant-loop-line
invariant-loop-line l = length l.names < 2 ^ 32 → map (mapped tree) l.out.items ≡ map (mapped (among_names l.names)) l.yielded
