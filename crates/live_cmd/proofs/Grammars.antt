-- The table of rows: tokens are read as a line exactly where they spell it.
use Rattle.std.proofs.Common.{◌≡◌, true, refl, inl, inr}
use Rattle.sig_base.specs.Words.{is_name, is_reserved}
use Rattle.formula_text.specs.Signs.{last_word_sign, later_word_sign, word_sign}
use Rattle.line_forms.specs.Reader.{is_clear}
use Rattle.line_forms.specs.Rows.{rows_of, Reaches, IsGrammar}
use Rattle.live_cmd.specs.declared.command.Bare.TheVariants as bares
use Rattle.live_cmd.specs.declared.command.Verb.TheVariants as verbs
use Rattle.live_cmd.specs.Grammar.{Row, row, table, commands, verb, bare, computed, rewire, tries_get, tries_set, tries_watch, tries_unwatch, close}

reached : (r : Row) → Reaches commands r (rows_of (row r).0 table)
unfolding word_sign later_word_sign last_word_sign is_name is_reserved
reached (verb verbs.Get) = inl refl
reached (bare bares.Flush) = inl refl
reached computed = inr (refl, inl refl)
reached rewire = inr (refl, inl refl)
reached tries_get = inr (refl, inl refl)
reached tries_set = inr (refl, inr (refl, inl refl))
reached tries_watch = inr (refl, inr (refl, inr (refl, inl refl)))
reached tries_unwatch = inr (refl, inr (refl, inr (refl, inr (refl, inl refl))))
reached _ = inl refl

clear : (r : Row) → is_clear (row r).1 ≡ true
unfolding word_sign later_word_sign last_word_sign is_name is_reserved
clear close = refl
clear _ = refl

pub is_grammar : IsGrammar commands
is_grammar = record { begins = refl; reached = reached; clear = clear }
