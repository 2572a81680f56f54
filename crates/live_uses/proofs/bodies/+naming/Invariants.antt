use Rattle.std.proofs.Common.{◌≡◌, ◌++◌, drop, map}
use Rattle.sig_untrack.specs.Stated.{Stated, stated}
use Rattle.live_model.specs.Uses.{uses_of_statements}
use Rattle.live_uses.specs.Views.{named_by, use_of}
use Rattle.live_uses.proofs.bodies.+naming.Given as goal

-- with the statements that are left
abbrev pub invariant-put_statements-loop-statement : goal.invariant-put_statements-loop-statement
invariant-put_statements-loop-statement l =
    (rest : Stated) → map use_of l.uses.items ++ uses_of_statements (named_by l.named) (stated (drop l.statement-index l.statements) rest)
    ≡ map use_of l.fn.uses.items ++ uses_of_statements (named_by l.named) (stated l.statements rest)
