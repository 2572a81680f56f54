use Rattle.std.proofs.Common.{[], ◌∙◌}
use Rattle.sig_owner.specs.Tables.{rows_of}
use Rattle.sig_owner.specs.Walks.{rest, steps_under}
use Rattle.sig_owner.proofs.Walks.{all_undone, goes_on, nothing_told, starts, starts_walk}
use Rattle.sig_owner.proofs.Teardowns.{teardown_steps}
use Rattle.sig_owner.proofs.walk.teardown_under.Goals as goal

pub loop-walk-init : goal.loop-walk-init
loop-walk-init c =
    let rows = rows_of c.args.holders.now.entries in
    let w = c.new-walk.result in
    let e = c.new-walk.ensures in
    record {
      walk = starts_walk rows w c.args.id e.at e.left e.pending;
      goes = nothing_told rows [] w.undoings.items [] w.ended.items (steps_under rows c.args.id) (rest rows w) e.undoings e.ended (starts rows c.requires w c.args.id e.at e.left e.pending);
    }

pub returns-clause-undoings : goal.returns-clause-undoings
returns-clause-undoings c =
    let rows = rows_of c.args.holders.now.entries in
    let v = c.step.new.self in
    let w = c.loop-walk.walk in
    let g = goes_on rows [] w.undoings.items v.undoings.items [] w.ended.items v.ended.items (steps_under rows c.args.id) (rest rows w) (rest rows v) c.loop-walk.invariant.goes c.in_ok-step.ensures.goes in
    all_undone rows v.undoings.items v.ended.items (steps_under rows c.args.id) (rest rows v) g (c.in_ok-step.ensures.end c.if-branch.false)
    ∙ teardown_steps rows c.args.id
