-- What crates above may cite of these proofs. All else in this folder is this crate's own.

-- ---- how the rows look after each edit

pub use Rattle.sig_owner.proofs.Looks.{item_thing, item_lives, item_length}
pub use Rattle.sig_owner.proofs.Looks.{new_thing, new_lives, other_thing, other_lives}
pub use Rattle.sig_owner.proofs.Looks.{taken_back_thing, taken_back_length}
pub use Rattle.sig_owner.proofs.Looks.{dropped_thing, dropped_lives}
-- ---- trees

-- nothing stands under what was emptied, and what stands nowhere stands nowhere after an edit
pub use Rattle.sig_owner.proofs.TreeLaws.{under_emptied, has_put, has_emptied, has_taken}
-- a tree whose owners have other numbers is edited and taken back alike
pub use Rattle.sig_owner.proofs.Renamed.{renamed_earlier, renamed_teardown, renamed_same, renamed_under, renamed_emptied, renamed_put, renamed_taken, renamed_has}
