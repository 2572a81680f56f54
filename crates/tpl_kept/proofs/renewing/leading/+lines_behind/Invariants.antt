use Rattle.tpl_kept.proofs.renewing.leading.+lines_behind.Given as goal

-- the lines that are left
abbrev pub decreases-lines_behind : goal.decreases-lines_behind
decreases-lines_behind l = l.count
