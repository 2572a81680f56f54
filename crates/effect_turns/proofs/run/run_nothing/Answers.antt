use Rattle.std.proofs.Common.{[]}
use Rattle.effect_turns.proofs.Carried.{spends_kept}
use Rattle.effect_turns.proofs.Joined.{run_empty}
use Rattle.effect_turns.proofs.run.run_nothing.Goals as goal

pub returns-clause-done : goal.returns-clause-done
returns-clause-done c = λ slacks asked a. run_empty slacks _ _ c.args.id _ c.new-none.ensures.items (c.in_ok-keep_reads.ensures.done asked slacks a)

pub returns-clause-spent : goal.returns-clause-spent
returns-clause-spent c = λ asked a.
    let k = c.in_ok-keep_reads.ensures.done asked [] a in
    spends_kept _ _ k.worn k.most k.told
