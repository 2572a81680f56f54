use Rattle.std.proofs.Common.{refl, sym, ◌∙◌, inl, inr}
use Rattle.sig_marks.proofs.marks.Marks.push.Goals as goal

pub returns-then-is_marked-clause-marks : goal.returns-then-is_marked-clause-marks
returns-then-is_marked-clause-marks c = inl (sym c.is_marked.ensures ∙ c.if-is_marked.true, refl)

pub returns-clause-marks : goal.returns-clause-marks
returns-clause-marks c = inr c.mark_on.ensures.marks
