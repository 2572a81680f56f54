use Rattle.std.proofs.Common.{sym, ap, ◌∙◌}
use Rattle.signal_model.specs.Sound.{names_of}
use Rattle.sig_computed.specs.Lessons.{Lesson}
use Rattle.sig_computed.proofs.Asides.{seen_names}
use Rattle.sig_computed.proofs.frames.Learnt.reads.Goals as goal

pub returns : goal.returns
returns c = c.deref.ensures.value ∙ sym (seen_names c.self.inside.reads.items c.self.inside.known.items c.self.invariant) ∙ ap (λ (l : Lesson). names_of l.reads) c.self.view_is
