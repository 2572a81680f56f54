use Rattle.std.proofs.Common.{Option, sym, ap, ◌∙◌}
use Rattle.signal_model.specs.Memos.{Memo, memo_of, source_names, sources_in}
use Rattle.sig_graph.specs.States.{Seen}
use Rattle.sig_graph.proofs.Parts.{memo_found}
use Rattle.sig_graph.proofs.graph.Graph.sources.Goals as goal

pub returns : goal.returns
returns c =
    c.sources_at.ensures
    ∙ ap (λ (m : Option Memo). source_names (sources_in m)) (sym (memo_found c.self.inside.nodes.items c.self.inside.generation c.args.id)) ∙ ap (λ (s : Seen). (λ (m : Option Memo). source_names (sources_in m)) (memo_of s.state.memos c.args.id)) c.self.view_is
