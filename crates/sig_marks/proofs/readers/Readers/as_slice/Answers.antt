use Rattle.std.proofs.Common.{ℕ, sym, ap, subst}
use Rattle.indexmap.specs.IndexSet.{IndexSet}
use Rattle.signal_model.specs.Laws.{AreDistinct}
use Rattle.sig_marks.specs.declared.readers.Readers.{Readers}
use Rattle.sig_marks.specs.Sets.{keys_held}
use Rattle.sig_marks.proofs.LinkedSets.{distinct_keys}
use Rattle.sig_marks.proofs.readers.Readers.as_slice.Goals as goal

pub returns-in-Many-clause-once : goal.returns-in-Many-clause-once
returns-in-Many-clause-once c =
    let set = subst AreDistinct (ap (λ (s : IndexSet ℕ _). s.keys) c.deref.ensures) (distinct_keys c.deref.result.now.keys c.as_slice-in-Many.ensures.unique) in
    subst (λ (r : Readers). AreDistinct (keys_held r)) (sym c.in-Many.is) set
