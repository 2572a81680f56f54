-- What other crates may cite of this one's proofs: the equations of a subtree's tree, and how a list is put together.
pub use Rattle.page_tree.proofs.Subtrees.{tree_text, tree_element}
pub use Rattle.page_tree.proofs.Queries.{one_node, attr_fits, insert_fits}
pub use Rattle.page_tree.proofs.Lists.{last_out, no_items, step_out}
