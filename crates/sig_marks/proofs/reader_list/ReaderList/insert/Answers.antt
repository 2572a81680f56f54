use Rattle.std.proofs.Common.{◌≡◌, ◌==◌, true, false, if◌then◌else◌, ap, sym, ◌∙◌, subst}
use Rattle.signal_model.specs.Laws.{AreDistinct}
use Rattle.signal_model.specs.Signals.{is_in}
use Rattle.sig_marks.specs.Listed.{ReaderKeys}
use Rattle.sig_marks.proofs.ListedReaders.{end_distinct, end_in, found_gone, found_there, same_in}
use Rattle.sig_marks.proofs.reader_list.ReaderList.insert.Goals as goal

pub returns-then-is_some : goal.returns-then-is_some
returns-then-is_some c =
    let here = found_there c.deref.result.now c.args.reader c.place_of.result c.place_of.ensures.some (sym c.is_some.ensures ∙ c.if-is_some.true) in
    let keys = c.deref.ensures.value ∙ ap (λ (k : ReaderKeys). k.keys) c.self.view_is in
    record { on = λ d. same_in c.args.self.now.keys c.args.reader d (ap (is_in c.args.reader) (sym keys) ∙ here) }

pub invariant_of-self : goal.invariant_of-self
invariant_of-self c =
    let off = found_gone c.place_of.result (is_in c.args.reader c.deref.result.now ≡ false) c.place_of.ensures.none (sym c.is_some.ensures ∙ c.if-is_some.false) in
    subst AreDistinct (sym c.push_reserved.ensures.items)
    (end_distinct c.self.inside.keys.items c.args.reader c.self.invariant (ap (is_in c.args.reader) (sym c.deref.ensures.value) ∙ off))

pub returns : goal.returns
returns c = record {
  on = λ d.
      ap (is_in d) c.push_reserved.ensures.items ∙ end_in c.self.inside.keys.items c.args.reader d
      ∙ ap (λ (k : ReaderKeys). if c.args.reader == d then true else is_in d k.keys) c.self.view_is;
}
