use Rattle.std.proofs.Common.{refl, sym, ap, ◌∙◌, Some}
use Rattle.page_tree.specs.Rows.{look, row_in, row_of}
use Rattle.page_tree.proofs.Edits.{kept_some, kept_none}
use Rattle.page_tree.proofs.Queries.{read_kind, tree_seen}
use Rattle.page_tree.specs.Rows.{label_of}
use Rattle.page_tree.proofs.tree.Tree.kind.Goals as goal

pub returns-in_default-clause-kind : goal.returns-in_default-clause-kind
returns-in_default-clause-kind c = (let e = kept_none (look c.self.inside.nodes) c.args.self.now c.args.id c.self.view_is c.self.invariant (ap row_in (sym c.in_default.ensures.value)) in rw e refl)

pub returns-clause-kind : goal.returns-clause-kind
returns-clause-kind c =
    let k = kept_some (look c.self.inside.nodes) c.args.self.now c.args.id (row_of c.in-Some.node.now) c.self.view_is c.self.invariant (ap row_in (sym c.in-Some.ensures.value)) in
    ap Some c.kind_of.ensures ∙ read_kind c.args.id (label_of c.in-Some.node.now.label) c.args.self.now k.0 k.1

pub returns-in_default-clause-tree : goal.returns-in_default-clause-tree
returns-in_default-clause-tree c = tree_seen (look c.self.inside.nodes) c.args.self.now c.self.view_is c.self.invariant

pub returns-clause-tree : goal.returns-clause-tree
returns-clause-tree c = tree_seen (look c.self.inside.nodes) c.args.self.now c.self.view_is c.self.invariant
