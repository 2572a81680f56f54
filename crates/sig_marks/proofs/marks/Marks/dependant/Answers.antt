use Rattle.std.proofs.Common.{Option, sym, ap, ◌∙◌, subst}
use Rattle.std.specs.Prelude.{slice_get}
use Rattle.sig_marks.specs.declared.readers.Readers.{Readers}
use Rattle.signal_model.specs.Laws.{AreDistinct}
use Rattle.sig_marks.specs.Tables.{MarkTable, dependants_at}
use Rattle.sig_marks.specs.Sets.{keys_in, keys_of}
use Rattle.sig_marks.proofs.LinkedSets.{keys_at}
use Rattle.sig_marks.proofs.marks.Marks.dependant.Goals as goal

pub returns-in-Some-clause-at : goal.returns-in-Some-clause-at
returns-in-Some-clause-at c =
    let ss = c.self.inside.dependants.entries in
    let here = ap (dependants_at (keys_of ss)) (sym c.number.ensures) ∙ keys_at ss c.number.result ∙ sym (ap (λ (s : Option Readers). keys_in s) c.in-Some.ensures) in
    c.reader_at.ensures.at ∙ ap (λ ns. slice_get ns c.args.place) (sym here) ∙ ap (λ (t : MarkTable). slice_get (dependants_at t.dependants c.args.id) c.args.place) c.self.view_is

pub returns-in-Some-clause-once : goal.returns-in-Some-clause-once
returns-in-Some-clause-once c =
    let ss = c.self.inside.dependants.entries in
    let here = ap (dependants_at (keys_of ss)) (sym c.number.ensures) ∙ keys_at ss c.number.result ∙ sym (ap (λ (s : Option Readers). keys_in s) c.in-Some.ensures) in
    subst (λ (t : MarkTable). AreDistinct (dependants_at t.dependants c.args.id)) c.self.view_is (subst AreDistinct (sym here) c.reader_at.ensures.once)

pub returns-in-None-clause-at : goal.returns-in-None-clause-at
returns-in-None-clause-at c =
    let ss = c.self.inside.dependants.entries in
    let here = ap (dependants_at (keys_of ss)) (sym c.number.ensures) ∙ keys_at ss c.number.result ∙ sym (ap (λ (s : Option Readers). keys_in s) c.in-None.ensures) in
    sym (ap (λ ns. slice_get ns c.args.place) here) ∙ ap (λ (t : MarkTable). slice_get (dependants_at t.dependants c.args.id) c.args.place) c.self.view_is

pub returns-in-None-clause-once : goal.returns-in-None-clause-once
returns-in-None-clause-once c =
    let ss = c.self.inside.dependants.entries in
    let here = ap (dependants_at (keys_of ss)) (sym c.number.ensures) ∙ keys_at ss c.number.result ∙ sym (ap (λ (s : Option Readers). keys_in s) c.in-None.ensures) in
    subst (λ (t : MarkTable). AreDistinct (dependants_at t.dependants c.args.id)) c.self.view_is (subst AreDistinct (sym here) tt)
