use Rattle.page_tree.proofs.ancestors.+climb.Given as goal

abbrev pub decreases-climb : goal.decreases-climb
decreases-climb l = l.levels
