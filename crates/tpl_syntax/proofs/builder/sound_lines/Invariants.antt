use Rattle.std.proofs.Common.{◌≡◌}
use Rattle.tpl_syntax.specs.Views.{sound_lines}
use Rattle.tpl_syntax.proofs.builder.sound_lines.Given as goal

abbrev pub invariant-loop-read : goal.invariant-loop-read
invariant-loop-read l = l.out.items ≡ sound_lines l.yielded
