-- What crates above may cite of these proofs: laws of tokens and of lines, never of a function. All else in this folder is this crate's own.

-- a line is cut in one way, or in none
pub use Rattle.sig_words.proofs.Uniqueness.{no_cutting, one_cutting}
pub use Rattle.sig_words.proofs.Totality.{tokens_or_none}
-- the tokens of a line, what each says, and that it is UTF-8
pub use Rattle.sig_words.proofs.EachToken.{each_token, tag_utf8, token_word_utf8, word_utf8}
pub use Rattle.sig_words.proofs.Fronts.{IsNumeric, index_drop, numeric}
pub use Rattle.sig_words.proofs.LexemeLaws.{lexeme-Literal, lexeme-Word}
pub use Rattle.sig_words.proofs.LiteralLaws.{between-quoted, each_written, literal_utf8}
