use Rattle.std.proofs.Common.{sym, ap, ◌∙◌}
use Rattle.std.specs.Prelude.{slice_get}
use Rattle.std.proofs.lemmas.Option.{slice_get_past}
use Rattle.sig_marks.proofs.links.reader_at.Goals as goal

pub returns-then-place-readers-clause-once : goal.returns-then-place-readers-clause-once
returns-then-place-readers-clause-once c = c.as_slice-readers.ensures.once

pub returns-else-place-readers-clause-at : goal.returns-else-place-readers-clause-at
returns-else-place-readers-clause-at c = sym (ap (λ ns. slice_get ns c.args.place) (sym c.as_slice-readers.ensures.keys) ∙ slice_get_past c.as_slice-readers.result.now c.args.place c.if-place-readers.false)

pub returns-else-place-readers-clause-once : goal.returns-else-place-readers-clause-once
returns-else-place-readers-clause-once c = c.as_slice-readers.ensures.once
