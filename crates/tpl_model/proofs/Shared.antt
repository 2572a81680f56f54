-- What crates above may cite of these proofs.

pub use Rattle.tpl_model.proofs.Evaluated.{evaluating_law}
pub use Rattle.tpl_model.proofs.Kept.{attributes_none}
pub use Rattle.tpl_model.proofs.Made.{is_page, replays}
pub use Rattle.tpl_model.proofs.Ordered.{scratch_law}
pub use Rattle.tpl_model.proofs.Origins.{origin_law}
pub use Rattle.tpl_model.proofs.Rows.{formula_lends, rows_law}
pub use Rattle.tpl_model.proofs.Shaped.{shape_law}
pub use Rattle.tpl_model.proofs.Sized.{size_law}
-- what is kept
pub use Rattle.tpl_model.proofs.PageUpdates.Numbers.{read_law, number_law}
pub use Rattle.tpl_model.proofs.PageUpdates.Mounts.{mount_law, source_law}
pub use Rattle.tpl_model.proofs.PageUpdates.Memos.{left_off, right_off, shape_shown, shows}
pub use Rattle.tpl_model.proofs.PageUpdates.Evaluations.{steady, begins}
pub use Rattle.tpl_model.proofs.PageUpdates.Updates.{memo_agree, memo_like}
-- the order of asking, at any place of a page
pub use Rattle.tpl_model.proofs.PageUpdates.Names.{memo_upto}
-- two trees side by side
pub use Rattle.tpl_model.proofs.PageUpdates.Walk.{Single, within_whole, within_first, within_later, within_kids}
pub use Rattle.tpl_model.proofs.PageUpdates.Walk.{Half, half_first, half_later, half_kids}
pub use Rattle.tpl_model.proofs.Needs.Needed.{counted_at, counted_length, inside_law, last_law, missing_is, next_law}
pub use Rattle.tpl_model.proofs.NextPage.Marks.{marks_law, whole_law}
pub use Rattle.tpl_model.proofs.NextPage.Marks.{covers_none, covers_after, covers_node, covers_skip}
-- what is read by number, and what is told
pub use Rattle.tpl_model.proofs.NextPage.Lookups.{reads_law, removals_law, kept_law}
pub use Rattle.tpl_model.proofs.NextPage.KeptNodes.{told_law}
-- what comes, and the children that stay
pub use Rattle.tpl_model.proofs.NextPage.Arrivals.{order_law, serial_law}
pub use Rattle.tpl_model.proofs.NextPage.Children.{children_law, stays_child}
-- the operations, as they are read off
pub use Rattle.tpl_model.proofs.NextPage.Edits.{operations_law}
pub use Rattle.tpl_model.proofs.NextPage.Renewed.{update_law}
-- lists of numbers
pub use Rattle.page_model.proofs.Shared.{in_both, from_those, to_those}
pub use Rattle.tpl_model.proofs.Orders.{often_both, listed_often, often_listed, same_order, flat_same}
pub use Rattle.tpl_model.proofs.NextPage.Lookups.{map_in, in_map, children_read}
-- numbered trees
pub use Rattle.page_model.proofs.Shared.{in_keys, by_number_is, on_num, New, all_new}
pub use Rattle.tpl_model.proofs.Numbered.{kids_num, child_on}
pub use Rattle.tpl_model.proofs.Ordered.{newcomers_all}
pub use Rattle.tpl_model.proofs.ShownNodes.Codes.{same_number}
pub use Rattle.tpl_model.proofs.ShownNodes.Equations.{tree_is, tree_shown}
