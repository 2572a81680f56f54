use Rattle.std.proofs.Common.{◌≡◌, ◌++◌, drop, option_map}
use Rattle.sig_words.specs.Lexemes.{lexemes}
use Rattle.line_forms.specs.Forms.{name}
use Rattle.line_forms.specs.Reader.{each_of}
use Rattle.line_forms.proofs.lists.names_of.Given as goal

abbrev pub invariant-loop-token : goal.invariant-loop-token
invariant-loop-token l = option_map (λ vs. l.names.items ++ vs) (each_of name (lexemes l.line (drop l.token-index l.tokens))) ≡ each_of name (lexemes l.line l.tokens)
