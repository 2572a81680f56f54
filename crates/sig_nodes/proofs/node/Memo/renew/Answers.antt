use Rattle.std.proofs.Common.{List, ℕ, length, sym, ap, ◌∙◌}
use Rattle.sig_nodes.specs.Listed.{Listed}
use Rattle.signal_model.specs.Memos.{Memo, source_names}
use Rattle.sig_nodes.specs.Computations.{paired}
use Rattle.sig_nodes.proofs.Edits.{memo_made}
use Rattle.sig_nodes.proofs.Sources.{names_paired, paired_length}
use Rattle.sig_nodes.proofs.node.Memo.renew.Goals as goal

pub invariant_of-self-2 : goal.invariant_of-self-2
invariant_of-self-2 c =
    sym (paired_length c.self.inside.sources.items c.self.inside.numbers.items c.self.invariant) ∙ ap (λ (m : Memo). length m.sources) c.self.view_is ∙ sym c.requires.numbers
    ∙ sym (ap (λ v. length v.items) c.swap.ensures.x_after)

pub returns-clause-memo : goal.returns-clause-memo
returns-clause-memo c =
    ap (λ g. memo_made c.put_outcome.new.held (paired c.self.inside.sources.items c.swap.new.x.items) g) c.of-self-inside.ensures
    ∙ ap (λ o. memo_made o (paired c.self.inside.sources.items c.swap.new.x.items) c.args.generation) c.in_ok-put_outcome.ensures.held
    ∙ ap (λ v. memo_made c.args.outcome.now (paired c.self.inside.sources.items v.items) c.args.generation) c.swap.ensures.x_after
    ∙ ap (λ (ns : List ℕ). memo_made c.args.outcome.now (paired ns c.args.numbers.now.items) c.args.generation)
    (sym (names_paired c.self.inside.sources.items c.self.inside.numbers.items c.self.invariant) ∙ ap (λ (m : Memo). source_names m.sources) c.self.view_is)

pub returns-clause-list : goal.returns-clause-list
returns-clause-list c =
    ap (λ (l : Listed). l.items) c.in_ok-list.ensures ∙ sym (names_paired c.self.inside.sources.items c.self.inside.numbers.items c.self.invariant)
    ∙ ap (λ (m : Memo). source_names m.sources) c.self.view_is
