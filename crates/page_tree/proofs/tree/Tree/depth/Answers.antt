use Rattle.std.proofs.Common.{refl, sym, ap}
use Rattle.page_tree.specs.Rows.{look, row_in, row_of}
use Rattle.page_tree.proofs.Edits.{kept_none}
use Rattle.page_tree.proofs.Upward.{depth_is, depth_low_at}
use Rattle.page_tree.proofs.tree.Tree.depth.Goals as goal

pub returns-in_default-clause-steps : goal.returns-in_default-clause-steps
returns-in_default-clause-steps c = (let e = kept_none (look c.self.inside.nodes) c.args.self.now c.args.id c.self.view_is c.self.invariant (ap row_in (sym c.in_default.ensures.value)) in rw e refl)

pub returns-clause-steps : goal.returns-clause-steps
returns-clause-steps c = depth_is c.args.id (look c.self.inside.nodes) c.args.self.now (row_of c.in-Some.field-0.now) c.climb.result c.self.view_is c.self.invariant (ap row_in (sym c.in-Some.ensures.value)) c.climb.ensures.steps

pub returns-clause-low : goal.returns-clause-low
returns-clause-low c = depth_low_at c.args.id (look c.self.inside.nodes) c.args.self.now (row_of c.in-Some.field-0.now) c.climb.result c.self.view_is c.self.invariant (ap row_in (sym c.in-Some.ensures.value)) c.climb.ensures.steps
