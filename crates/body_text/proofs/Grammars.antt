-- The table of rows: tokens are read as a line exactly where they spell it.
use Rattle.std.proofs.Common.{◌≡◌, true, refl, inl, inr}
use Rattle.sig_base.specs.Words.{is_name, is_reserved}
use Rattle.formula_text.specs.Signs.{last_word_sign, later_word_sign, word_sign}
use Rattle.line_forms.specs.Reader.{is_clear}
use Rattle.line_forms.specs.Rows.{rows_of, Reaches, IsGrammar}
use Rattle.body_text.specs.Grammar.{Row, row, table, bodies, cleanup_log, rewire, effect, close}

reached : (r : Row) → Reaches bodies r (rows_of (row r).0 table)
unfolding word_sign later_word_sign last_word_sign is_name is_reserved
reached cleanup_log = inr (refl, inl refl)
reached rewire = inr (refl, inl refl)
reached _ = inl refl

clear : (r : Row) → is_clear (row r).1 ≡ true
clear effect = refl
clear close = refl
clear _ = refl

pub is_grammar : IsGrammar bodies
is_grammar = record { begins = refl; reached = reached; clear = clear }
