use Rattle.page_events.proofs.way.+put_way.Given as goal

-- so many steps are left
abbrev pub decreases-put_way : goal.decreases-put_way
decreases-put_way l = l.steps
