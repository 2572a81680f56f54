use Rattle.std.proofs.Common.{Bool, refl, sym, ap, subst}
use Rattle.sig_computed.specs.declared.frames.Doing.{Doing}
use Rattle.sig_computed.specs.Lessons.{Lesson}
use Rattle.sig_computed.specs.Reading.{IsLearntBy, IsToldWhere}
use Rattle.sig_computed.specs.Views.{phase_of}
use Rattle.sig_computed.proofs.turns.come_back.Goals as goal

-- the slot isn't ready
pub returns-then-not-read-clause-run : goal.returns-then-not-read-clause-run
returns-then-not-read-clause-run c =
    let f = c.args.frame.now in
    ap (λ (l : Lesson). phase_of f.doing l)
    (subst (λ (b : Bool). IsToldWhere b c.args.graph.now f.id c.args.slot f.learnt c.read_slot.new.self) c.if-not-read.true c.in_ok-read.ensures)

-- it is read
pub returns-clause-run : goal.returns-clause-run
returns-clause-run c =
    let f = c.args.frame.now in (
      refl,
      subst (λ (d : Doing). IsLearntBy d c.args.graph.now f.id f.learnt c.read_slot.new.self) (sym c.requires.waits)
          (subst (λ (b : Bool). IsToldWhere b c.args.graph.now f.id c.args.slot f.learnt c.read_slot.new.self) c.if-not-read.false c.in_ok-read.ensures),
    )
