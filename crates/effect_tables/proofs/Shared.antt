-- What crates above may cite of these proofs.

-- what the tables stand for is at rest
pub use Rattle.effect_tables.proofs.Rest.{listed_tree, placed_rests}
-- owners by their own numbers
pub use Rattle.effect_tables.proofs.Numbers.{left_off, lives_at, living_below, number_apart, number_at, off_on, right_off, row_is, some_one, swapped}
-- facts of all
pub use Rattle.effect_tables.proofs.Rows.{all_behind, all_filtered, all_weaker, name_by, renamed_by, unless_known}
-- effects by their numbers
pub use Rattle.effect_tables.proofs.Found.{IsNowhere, IsPlace, found_in, none_in, place_within}
pub use Rattle.effect_tables.proofs.Kept.{none_behind}
-- each act, and one after the other
pub use Rattle.effect_tables.proofs.Acts.{all_rest, rests_then}
-- turns and flushes
pub use Rattle.effect_tables.proofs.Turns.{turns_rest, looks_rest}
-- each command
pub use Rattle.effect_tables.proofs.Commands.{commands_rest}
-- trees at rest
pub use Rattle.effect_tables.proofs.Trees.{listed_twice}
-- one effect more
pub use Rattle.effect_tables.proofs.Visits.{visit_more, glance_more, ran_more}
-- turns and last looks
pub use Rattle.effect_tables.proofs.Visits.{turn_world, turn_ran, look_found, look_passed}
-- worlds at rest
pub use Rattle.effect_tables.proofs.Visits.{glance_rests, rerun_rests, visit_rests, visits_rest, glances_rest, turns_so_far_rest, last_rests, body_rests}
-- flushes
pub use Rattle.effect_tables.proofs.TurnByTurn.{at_start, goes_on, at_end}
-- what is known of effects that need no look
pub use Rattle.effect_tables.proofs.Hearing.{added_heard, heard_heard, kept_heard, none_heard, same_heard, set_heard}
