use Rattle.std.proofs.Common.{◌≡◌, List, [], sym, ap, ◌∙◌, arith}
use Rattle.std.proofs.lemmas.Bool.{eqb-true}
use Rattle.std.proofs.lemmas.List.{nil_from_length}
use Rattle.sig_computed.specs.Lessons.{Lesson, good_seen}
use Rattle.sig_computed.proofs.Asides.{unseen}
use Rattle.sig_computed.proofs.frames.Learnt.forget.Goals as goal

pub returns-then-is_empty : goal.returns-then-is_empty
returns-then-is_empty c =
    let ks = c.self.inside.known.items in
    let ns = c.self.inside.reads.items in
    let e = eqb-true _ 0 (sym c.if-is_empty.ensures) in
    let none : ks ≡ [] = nil_from_length ks (omega (arith, e)) in
    record {
      known = ap (λ (l : Lesson). l.known) (sym c.self.view_is) ∙ none;
      reads = ap (λ (l : Lesson). l.reads) (sym c.self.view_is) ∙ ap (good_seen ns) none ∙ unseen ns;
    }
