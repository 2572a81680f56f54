use Rattle.std.proofs.Common.{List, Option, drop}
use Rattle.sig_marks.specs.declared.readers.Readers.{Readers}
use Rattle.sig_marks.specs.Sets.{Unlinks}
use Rattle.sig_marks.proofs.links.unlink_all.Given as goal

abbrev pub invariant-loop-source : goal.invariant-loop-source
invariant-loop-source l =
    (final : List (Option Readers)) → Unlinks l.sets.entries final (drop l.source-index l.sources) l.reader → Unlinks l.fn.sets.entries final l.sources l.reader
