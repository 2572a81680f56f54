use Rattle.std.proofs.Common.{◌≡◌, [], drop}
use Rattle.tpl_syntax.specs.Views.{with_all}
use Rattle.tpl_syntax.proofs.builder.names_of.Given as goal

-- with those of the lines that are left
abbrev pub invariant-loop-line : goal.invariant-loop-line
invariant-loop-line l = with_all l.names.items (drop l.line-index l.lines) ≡ with_all [] l.lines
