-- What crates above may cite of these proofs: laws of the grammar and of texts, never of a function. All else in this folder is this
-- crate's own.

-- signs that spell a formula: what may follow one, the longest, and what spells none
pub use Rattle.formula_text.proofs.Complete.{Stops}
pub use Rattle.formula_text.proofs.Laws.{has_none, longest, reads_front}
pub use Rattle.formula_text.proofs.Minimal.{minimal_spells, one_formula}
pub use Rattle.formula_text.proofs.Slots.{Has, HasEach, each_there, keeps_each, named_again, named_back, named_slot}
pub use Rattle.formula_text.proofs.Sound.{Took, expr_sound}
-- the tokens of a text that was written
pub use Rattle.formula_text.proofs.Lexer.{Gap, cut_written, cuts_append}
pub use Rattle.formula_text.proofs.Quotes.{inner_form, quoted_says, quoted_utf8}
-- what can be printed, and that it is UTF-8
pub use Rattle.formula_text.proofs.RoundTrips.{Good, AllGood, good_spelled, good_symbol, good_word, printable_tokens}
pub use Rattle.formula_text.proofs.RoundTrips.{are_ascii, ascii, number_utf8, text_utf8, written_utf8}
-- a name is UTF-8
pub use Rattle.formula_text.proofs.Places.{name_utf8}
-- what a formula can be refused for, and what is known of one that isn't
pub use Rattle.formula_text.proofs.Accepted.{IsRefusal, nothing, untracked, row_here, nest, long, sources}
pub use Rattle.formula_text.proofs.Accepted.{either, few_names, formula_refusal, neither, not_chosen}
