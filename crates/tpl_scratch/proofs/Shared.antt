-- What crates above may cite of these proofs: nodes that are added one after the other.
pub use Rattle.tpl_scratch.proofs.Numbers.{made, with_none, with_after, with_element}
pub use Rattle.page_model.proofs.Shared.{after_none, after_assoc as after_after}
