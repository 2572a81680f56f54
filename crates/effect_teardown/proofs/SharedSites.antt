-- What crates above may cite of these proofs.

-- the body and the links at the end of a path, and what is known of them
pub use Rattle.effect_teardown.proofs.Splits.{child_body, nested_of, none_seen, part_few, part_fits, part_parts, part_seen, unlinked_seen}
-- what stands at a place of a list; a body and links at the end of the path without places
pub use Rattle.effect_teardown.proofs.Walks.{get_none, get_some, here_body, here_links, slots_of}
