use Rattle.std.proofs.Common.{◌≡◌, ◌++◌, drop}
use Rattle.sig_untrack.specs.Stated.{Stated, stated}
use Rattle.body_text.specs.Texts.{held_parts, parts_text}
use Rattle.body_text.proofs.writer.+writing.Given as goal

-- with the statements that are left
abbrev pub invariant-put_statements-loop-statement : goal.invariant-put_statements-loop-statement
invariant-put_statements-loop-statement l =
    (rest : Stated) → l.out.items ++ parts_text (held_parts l.parts) (stated (drop l.statement-index l.statements) rest)
    ≡ l.fn.out.items ++ parts_text (held_parts l.parts) (stated l.statements rest)
