use Rattle.std.proofs.Common.{sym, ap, ◌∙◌}
use Rattle.signal_model.specs.Signals.{is_computed, standing}
use Rattle.signal_model.specs.Marks.{mark_of}
use Rattle.sig_graph.specs.Looks.{is_clean_mark}
use Rattle.sig_graph.specs.States.{Seen}
use Rattle.sig_graph.proofs.Consistency.{computed_here}
use Rattle.sig_graph.proofs.Searches.{dirty_mark, unclean_checked}
use Rattle.sig_graph.proofs.graph.Graph.unclean_mark.Goals as goal

pub returns-then-is_due : goal.returns-then-is_due
returns-then-is_due c =
    dirty_mark c.self.inside.nodes.items c.self.inside.generation c.args.id (sym c.is_due.ensures ∙ c.if-is_due.true)
    ∙ ap (λ (s : Seen). mark_of s.state.signals s.state.memos c.args.id) c.self.view_is

pub returns : goal.returns
returns c =
    let xs = c.self.inside.nodes.items in
    let live = computed_here xs c.args.id (ap (λ (s : Seen). is_computed (standing s.state.signals c.args.id)) c.self.view_is ∙ c.requires.computed) in
    let unclean = ap (λ (s : Seen). is_clean_mark (mark_of s.state.signals s.state.memos c.args.id)) c.self.view_is ∙ c.requires.unclean in
    unclean_checked xs c.self.inside.generation c.args.id live (sym c.is_due.ensures ∙ c.if-is_due.false) unclean
    ∙ ap (λ (s : Seen). mark_of s.state.signals s.state.memos c.args.id) c.self.view_is
