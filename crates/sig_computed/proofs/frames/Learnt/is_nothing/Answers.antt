use Rattle.std.proofs.Common.{◌≡◌, List, [], sym, ap, ◌∙◌, arith}
use Rattle.std.proofs.lemmas.Bool.{eqb-true}
use Rattle.std.proofs.lemmas.List.{nil_from_length}
use Rattle.sig_computed.specs.Lessons.{Lesson, good_seen}
use Rattle.sig_computed.proofs.Asides.{unseen}
use Rattle.sig_computed.proofs.frames.Learnt.is_nothing.Goals as goal

pub returns-clause-known : goal.returns-clause-known
returns-clause-known c = λ h.
    let e = eqb-true _ 0 (sym c.is_empty.ensures ∙ h) in
    ap (λ (l : Lesson). l.known) (sym c.self.view_is) ∙ nil_from_length c.self.inside.known.items (omega (arith, e))

pub returns-clause-reads : goal.returns-clause-reads
returns-clause-reads c = λ h.
    let e = eqb-true _ 0 (sym c.is_empty.ensures ∙ h) in
    let none : c.self.inside.known.items ≡ [] = nil_from_length c.self.inside.known.items (omega (arith, e)) in
    ap (λ (l : Lesson). l.reads) (sym c.self.view_is) ∙ ap (good_seen c.self.inside.reads.items) none ∙ unseen c.self.inside.reads.items
