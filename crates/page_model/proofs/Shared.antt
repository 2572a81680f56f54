-- What crates above may cite of these proofs: laws of pages. All else in this folder is this crate's own.

pub use Rattle.page_model.proofs.Pairs.{one_address, address_above}
pub use Rattle.page_model.proofs.Updates.{page_after, shape_after, replay_leads, kept_number, unused_number}
pub use Rattle.page_model.proofs.Fresh.{no_gaps, order_short}
pub use Rattle.page_model.proofs.Serial.{html_after}
pub use Rattle.page_model.proofs.Quiet.{edits_none}
pub use Rattle.page_model.proofs.Texts.{bare_page, bare_tree, edits_writable, tree_made}
pub use Rattle.page_model.proofs.Preservation.{tree_after}
-- facts on tests, names and lists of numbers
pub use Rattle.std.proofs.lemmas.Bool.{or_left, or_right, and_parts as both}
pub use Rattle.page_model.proofs.Everywhere.{flipped, not_same, or_false}
pub use Rattle.page_model.proofs.Removals.{in_both, or_none}
pub use Rattle.page_model.proofs.Told.{same_name}
pub use Rattle.page_model.proofs.Preservation.{other_way}
pub use Rattle.page_model.proofs.Facts.{Once}
pub use Rattle.page_model.proofs.Orders.{place_below}
pub use Rattle.page_model.proofs.Newcomers.{from_those, in_ascending_by, in_flat, to_those}
pub use Rattle.page_model.proofs.Fresh.{from_some}
-- facts on trees, for a crate that keeps one
pub use Rattle.page_model.proofs.Siblings.{after_assoc, after_none}
pub use Rattle.page_model.proofs.Everywhere.{at_away}
pub use Rattle.page_model.proofs.Tally.{has_on, kids_at, off_tally, on_at, on_tally, parent_is, tally_off, tally_on}
pub use Rattle.page_model.proofs.Facts.{Knows}
pub use Rattle.page_model.proofs.Linked.{Tells, has_parent, kids_off, knows, knows_kids, on_kids, only_known, self_on, tally_kids, tells, tells_kids}
pub use Rattle.page_model.proofs.Lifted.{tally_after}
pub use Rattle.page_model.proofs.Levels.{depth_low, depth_parent}
pub use Rattle.page_model.proofs.Parents.{has_listed, off_kids, siblings_at, siblings_moved, siblings_put, siblings_without}
pub use Rattle.page_model.proofs.Told.{on_relabelled, relabelled_off}
pub use Rattle.page_model.proofs.Orders.{in_keys, tops_on}
pub use Rattle.page_model.proofs.Whole.{kept_on, off_has, tally_pruned}
pub use Rattle.page_model.proofs.Preservation.{attr_done, below_label, done_if, found_none, if_done, not_zero, tally_inserted, tally_kept, tally_parted, text_done, unattr_done, unused}
-- facts on trees by address and by number
pub use Rattle.page_model.proofs.Shown.{label_shown, names_at, on_shown}
pub use Rattle.page_model.proofs.Keys.{label_num, on_num, on_numbered, same_num}
pub use Rattle.page_model.proofs.Looks.{by_number_is, by_number_with, number_with, on_looks, on_with, tally_looks}
pub use Rattle.page_model.proofs.Quiet.{children_none, told_none}
-- facts on a page and the one that comes next
pub use Rattle.page_model.proofs.Updates.{distinct_after, new_number, number_after, old_number, parent_at}
pub use Rattle.page_model.proofs.Gone.{New, all_gone, still_on}
pub use Rattle.page_model.proofs.Fresh.{all_new, brought_new, new_kids}
