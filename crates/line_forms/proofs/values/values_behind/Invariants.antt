use Rattle.std.proofs.Common.{◌-◌, List, length, option_map}
use Rattle.sig_base.specs.declared.scalar.Scalar.{Scalar}
use Rattle.line_forms.specs.Forms.{value}
use Rattle.line_forms.specs.Reader.{read_behind, with_first}
use Rattle.line_forms.specs.Told.{ahead, AreToldValues, IsToldScalar}
use Rattle.line_forms.proofs.Listed.{Goes}
use Rattle.line_forms.proofs.values.values_behind.Given as goal

-- what was read so far, whatever the first value is, and how it is held
abbrev pub invariant-loop-after : goal.invariant-loop-after
invariant-loop-after l =
    (v : Scalar) → IsToldScalar v l.fn.first → (vs : List Scalar)
    × Goes value vs (ahead l.line l.tokens l.at) (option_map (with_first v) (read_behind value (ahead l.line l.tokens l.from))) × AreToldValues vs l.held

abbrev pub decreases-loop-after : goal.decreases-loop-after
decreases-loop-after l = length l.tokens - l.at
