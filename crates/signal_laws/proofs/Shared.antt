-- What crates above may cite of these proofs. All else in this folder is this crate's own.

-- ---- the laws

pub use Rattle.signal_laws.proofs.AfterChange.{no_memos_law, empty_law, set_law, rewire_law, dispose_law}
pub use Rattle.signal_laws.proofs.AfterCreation.{cell_law, computed_law}
pub use Rattle.signal_laws.proofs.GivenNames.{given_next_law, given_empty_law, given_more_law, given_cell_law, given_computed_law}
pub use Rattle.signal_laws.proofs.GivenNames.{given_set_law, given_rewire_law, given_dispose_law, given_settle_law}
pub use Rattle.signal_laws.proofs.PlacedVisits.{places_law}
pub use Rattle.signal_laws.proofs.CleanVisits.{clean_law, pass_law}
pub use Rattle.signal_laws.proofs.VisitStates.{settle_law, asked_law, asked_memo_law, again_law, kept_moments_law}
pub use Rattle.signal_laws.proofs.NameByName.{settle_both_law, settle_more_law}
pub use Rattle.signal_laws.proofs.CleanMoments.{clean_moments_law}
pub use Rattle.signal_laws.proofs.RecordedRuns.{scratch_runs_law, placed_runs_law, currency_law}
pub use Rattle.signal_laws.proofs.KeptPaths.{kept_cycle_law, kept_path_law, evaluated_source_law}
pub use Rattle.signal_laws.proofs.Outcomes.{reading_law, same_reads_law, next_read_law, no_host_law}
pub use Rattle.signal_laws.proofs.FirstNames.{firsts_hold_law, firsts_append_law, firsts_front_law}
-- ---- tests, lists and look-ups

pub use Rattle.signal_model.proofs.Shared.{either, or_left, or_right}
pub use Rattle.signal_laws.proofs.FailedTests.{or_fst, or_snd, or_none, not_false}
pub use Rattle.signal_laws.proofs.Lists.{all_append, all_snoc, in_head, in_tail, in_append}
pub use Rattle.signal_laws.proofs.LookUps.{found_changed, found_other, found_same, found_mapped, found_out, found_left, found_append, found_more, found_new}
pub use Rattle.signal_laws.proofs.AfterChange.{SameKind, set_kind, set_back, rewire_kind, entry_there, some_is}
-- ---- settling place by place

-- what needn't run, and what follows from its kept sources
pub use Rattle.signal_laws.proofs.AfterChange.{CalmOn, calm_on, Calm, calm_of}
pub use Rattle.signal_laws.proofs.FollowedSources.{IsRun, StandAs, step_is, follows_run}
pub use Rattle.signal_laws.proofs.VisitStates.{moved_less, moved_off}
-- what reads have, and what stands as from scratch
pub use Rattle.signal_laws.proofs.CleanVisits.{comp_is, is_read-in, is_in-read, read_value, right_source, right_memo, quiet_here, quiet_settle}
pub use Rattle.signal_laws.proofs.CleanVisits.{settle_append}
-- the names that visits have seen
pub use Rattle.signal_laws.proofs.PlacedVisits.{seen_is, seen_snoc, ordered_first}
-- what a run leaves
pub use Rattle.signal_laws.proofs.AfterRun.{new_memo, run_other, run_here, run_memo, run_stays, run_past}
-- what is kept after visits
pub use Rattle.signal_laws.proofs.VisitStates.{IsDone, AllDone, State, visit_state, visits_state, first_state, state_at}
-- what is settled stays so, and is clean
pub use Rattle.signal_laws.proofs.StillSettled.{IsSettled, settles, stays_settled, settled_same, settled_clean}
