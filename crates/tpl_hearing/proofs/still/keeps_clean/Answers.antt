use Rattle.std.proofs.Common.{sym, ap, ◌∙◌}
use Rattle.signal_model.specs.Memos.{memo_of}
use Rattle.signal_model.specs.Sound.{kept_outcome}
use Rattle.sig_graph.specs.States.{Seen}
use Rattle.tpl_hearing.proofs.Unmoved.{stands_clean}
use Rattle.tpl_hearing.proofs.still.keeps_clean.Goals as goal

pub returns-in-Clean-clause-stands : goal.returns-in-Clean-clause-stands
returns-in-Clean-clause-stands c = λ e.
    stands_clean c.args.graph.now.state.signals c.args.graph.now.state.memos c.args.id c.args.was.now c.requires (sym c.in-Clean.ensures.mark)
    (sym (ap (λ (g : Seen). kept_outcome (memo_of g.state.memos c.args.id)) c.in-Clean.ensures.same) ∙ c.keeps.ensures e)
