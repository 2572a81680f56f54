use Rattle.std.proofs.Common.{◌==◌, List, ℕ, false, if◌then◌else◌, ap, sym, ◌∙◌, subst}
use Rattle.std.specs.Prelude.{slice_get}
use Rattle.signal_model.specs.Laws.{AreDistinct}
use Rattle.signal_model.specs.Signals.{is_in}
use Rattle.sig_marks.specs.Listed.{ReaderKeys}
use Rattle.sig_marks.proofs.ListedReaders.{less_distinct, less_in}
use Rattle.sig_marks.proofs.reader_list.ReaderList.remove.Goals as goal

pub invariant_of-self : goal.invariant_of-self
invariant_of-self c = subst AreDistinct (sym c.remove.ensures.items) (less_distinct c.self.inside.keys.items c.in-Some.place c.self.invariant)

pub returns-clause-off : goal.returns-clause-off
returns-clause-off c = λ d.
    let here = ap (λ (xs : List ℕ). slice_get xs c.in-Some.place) (sym c.deref.ensures.value) ∙ c.in-Some.ensures.some in
    ap (is_in d) c.remove.ensures.items ∙ less_in c.self.inside.keys.items c.in-Some.place c.args.reader d c.self.invariant here
    ∙ ap (λ (k : ReaderKeys). if c.args.reader == d then false else is_in d k.keys) c.self.view_is
