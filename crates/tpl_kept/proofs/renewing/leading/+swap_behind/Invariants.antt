use Rattle.tpl_kept.proofs.renewing.leading.+swap_behind.Given as goal

-- the texts that are left
abbrev pub decreases-swap_behind : goal.decreases-swap_behind
decreases-swap_behind l = l.count
