use Rattle.std.proofs.Common.{sym, ap, ◌∙◌}
use Rattle.signal_model.specs.Sound.{kept_outcome}
use Rattle.signal_model.specs.Memos.{memo_of}
use Rattle.sig_graph.specs.States.{Seen}
use Rattle.sig_graph.proofs.Parts.{memo_found}
use Rattle.sig_graph.proofs.graph.Graph.kept.Goals as goal

pub returns : goal.returns
returns c =
    c.kept_at.ensures
    ∙ ap kept_outcome (sym (memo_found c.self.inside.nodes.items c.self.inside.generation c.args.id)) ∙ ap (λ (s : Seen). kept_outcome (memo_of s.state.memos c.args.id)) c.self.view_is
