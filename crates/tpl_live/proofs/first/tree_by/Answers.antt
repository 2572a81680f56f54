use Rattle.std.proofs.Common.{ap, subst, sym, ◌∙◌}
use Rattle.page_model.specs.Replay.{replay}
use Rattle.page_tree.specs.Queries.{IsDone}
use Rattle.tpl_live.specs.Plans.{AllBring}
use Rattle.tpl_live.proofs.Inserted.{all_bring, below_is, below_leads}
use Rattle.tpl_live.proofs.first.tree_by.Goals as goal

pub apply_all-requires-clause-brings : goal.apply_all-requires-clause-brings
apply_all-requires-clause-brings c = subst AllBring (sym c.requires.are) (all_bring 0 c.requires.below c.requires.inserted.nodes)

pub apply_all-requires-clause-leads : goal.apply_all-requires-clause-leads
apply_all-requires-clause-leads c =
    subst (λ os. IsDone (replay os c.in_ok-tree.tree)) (sym c.requires.are) (below_leads c.requires.below c.in_ok-tree.tree c.requires.inserted c.in_ok-tree.ensures)

pub returns : goal.returns
returns c = λ below inserted are.
    below_is below c.in_ok-tree.tree c.apply_all.new.tree inserted c.in_ok-tree.ensures
    (ap (λ os. replay os c.in_ok-tree.tree) (sym are) ∙ c.in_ok-apply_all.ensures)
