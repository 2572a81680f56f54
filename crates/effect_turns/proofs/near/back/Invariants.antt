use Rattle.effect_turns.proofs.near.back.Given as goal

abbrev pub invariant-back : goal.invariant-back
invariant-back l = Unit {0}

abbrev pub decreases-back : goal.decreases-back
decreases-back l = l.place
