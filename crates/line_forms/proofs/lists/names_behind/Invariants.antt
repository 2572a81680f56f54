use Rattle.std.proofs.Common.{◌≡◌, ◌++◌, ◌-◌, length, option_map}
use Rattle.line_forms.specs.Forms.{name}
use Rattle.line_forms.specs.Reader.{with_first, read_behind}
use Rattle.line_forms.specs.Told.{ahead}
use Rattle.line_forms.proofs.lists.names_behind.Given as goal

abbrev pub invariant-loop-after : goal.invariant-loop-after
invariant-loop-after l =
    option_map (λ r. (l.names.items ++ r.0, r.1)) (read_behind name (ahead l.line l.tokens l.at)) ≡ option_map (with_first l.fn.first) (read_behind name (ahead l.line l.tokens l.from))

abbrev pub decreases-loop-after : goal.decreases-loop-after
decreases-loop-after l = length l.tokens - l.at
