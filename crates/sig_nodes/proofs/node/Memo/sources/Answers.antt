use Rattle.std.proofs.Common.{sym, ap, ◌∙◌}
use Rattle.signal_model.specs.Memos.{Memo, source_names}
use Rattle.sig_nodes.proofs.Sources.{names_paired}
use Rattle.sig_nodes.proofs.node.Memo.sources.Goals as goal

pub returns : goal.returns
returns c = c.as_slice.ensures ∙ sym (names_paired c.self.inside.sources.items c.self.inside.numbers.items c.self.invariant) ∙ ap (λ (m : Memo). source_names m.sources) c.self.view_is
