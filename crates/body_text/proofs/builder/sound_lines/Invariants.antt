use Rattle.std.proofs.Common.{◌≡◌}
use Rattle.body_text.specs.Views.{sound_lines}
use Rattle.body_text.proofs.builder.sound_lines.Given as goal

abbrev pub invariant-loop-read : goal.invariant-loop-read
invariant-loop-read l = l.out.items ≡ sound_lines l.yielded
