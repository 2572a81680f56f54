-- The table of rows: tokens are read as a line exactly where they spell it.
use Rattle.std.proofs.Common.{◌≡◌, true, refl, inl}
use Rattle.line_forms.specs.Reader.{is_clear}
use Rattle.line_forms.specs.Rows.{rows_of, Reaches, IsGrammar}
use Rattle.tpl_syntax.specs.Grammar.{Row, row, table, templates, text, other}

reached : (r : Row) → Reaches templates r (rows_of (row r).0 table)
reached text = inl refl
reached _ = inl refl

clear : (r : Row) → is_clear (row r).1 ≡ true
clear other = refl
clear _ = refl

pub is_grammar : IsGrammar templates
is_grammar = record { begins = refl; reached = reached; clear = clear }
