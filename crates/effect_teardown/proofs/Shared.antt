-- What crates above may cite of these proofs.

-- trees stay formed
pub use Rattle.effect_teardown.proofs.Forms.{formed_listed, formed_put}
-- what the tables leave after steps, and after an edit of the store alone
pub use Rattle.effect_teardown.proofs.Taken.{taken}
-- effects that live have their rows
pub use Rattle.effect_teardown.proofs.Found.{IsFound, effect_found, effect_listed, effect_unlisted}
