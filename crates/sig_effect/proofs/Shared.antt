-- What crates above may cite of these proofs. All else in this folder is this crate's own.

-- nothing was made
pub use Rattle.sig_effect.proofs.Start.{new_agrees, new_sound, new_whole}
-- what a making does, and how the stores belong together afterwards
pub use Rattle.sig_effect.proofs.Acts.{cell_agrees, cell_does, computed_agrees, computed_does, tells_none}
-- what a set, a rewiring and an end do
pub use Rattle.sig_effect.proofs.Edits.{computed_here, dispose_agreed, dispose_done, most_left, not_accepted, remove_agrees, remove_does, rewire_agreed, rewire_done, same_does, set_accepted, set_agrees, set_there, there_by}
-- what is done in a batch, and ends it
pub use Rattle.sig_effect.proofs.Committed.{abort_agrees, abort_does, abort_named, abort_ruled, abort_told, abort_worn, accepted_over, behind_none, commit_agrees, commit_does, joining_room, joins_other, joins_same, quiet_does, quiet_nothing, value_agrees}
-- where a call settled names and left the signals, the stores belong together, and stand for the plain world that settles them
pub use Rattle.sig_effect.proofs.Asks.{agrees_settled, ask_does, settle_does, states_asked, unasked_settled}
-- what stands after each change
pub use Rattle.sig_effect.proofs.Signals.{apart_from, none_there, cell_beside, cell_made, computed_beside, computed_made, gone_now, left_now, recipe_beside, recipe_now}
pub use Rattle.sig_effect.proofs.Signals.{ruled_cell, ruled_computed, ruled_left, ruled_recipe, ruled_value}
-- nothing is being evaluated
pub use Rattle.sig_effect.proofs.Signals.{idle_made, idle_left}
-- host formulas that aren't refused, those that are free, and those that are asked
pub use Rattle.sig_effect.proofs.Acts.{free_place}
pub use Rattle.sig_effect.proofs.HostStates.{free_at, free_else, free_then}
pub use Rattle.sig_effect.proofs.Users.{uses_by}
-- what is watched stands
pub use Rattle.sig_effect.proofs.Watched.{watched_armed, watched_less}
-- what events name was made, and numbers of watchers that live
pub use Rattle.sig_effect.proofs.Names.{alive_below, named_changed, named_ended, named_gone, named_left, named_still, none_given, notices_named, runs_behind}
