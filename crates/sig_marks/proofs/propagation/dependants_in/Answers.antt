use Rattle.std.proofs.Common.{Option, sym, ap, ◌∙◌}
use Rattle.sig_marks.specs.declared.readers.Readers.{Readers}
use Rattle.sig_marks.specs.Sets.{keys_in}
use Rattle.sig_marks.proofs.LinkedSets.{keys_at}
use Rattle.sig_marks.proofs.propagation.dependants_in.Goals as goal

pub returns-in-Some : goal.returns-in-Some
returns-in-Some c = c.as_slice.ensures.keys ∙ ap (λ (s : Option Readers). keys_in s) c.in-Some.ensures ∙ sym (keys_at c.args.sets.now.entries c.args.id)

pub returns-in-None : goal.returns-in-None
returns-in-None c = ap (λ (s : Option Readers). keys_in s) c.in-None.ensures ∙ sym (keys_at c.args.sets.now.entries c.args.id)
