use Rattle.std.proofs.Common.{◌≡◌, List, Option, Some, subst}
use Rattle.std.specs.Prelude.{IfSome}
use Rattle.sig_words.specs.Lexemes.{Lexeme}
use Rattle.line_forms.specs.Forms.{Form, Args, SpellsForm}
use Rattle.line_forms.specs.Reader.{read_form}
use Rattle.line_forms.proofs.Soundness.{form_sound}
use Rattle.line_forms.proofs.Completeness.{form_complete}
use Rattle.line_forms.proofs.laws.forms_read.Goals as goal

sound : (ps : Form) (a : Args ps) (ls : List Lexeme) → read_form ps ls ≡ Some a → SpellsForm ps a ls
sound ps a ls e = subst (λ (o : Option (Args ps)). IfSome o (λ b. SpellsForm ps b ls)) e (form_sound ps ls)

pub returns : goal.returns
returns c ps a ls clear = (λ t. form_complete ps a ls t clear, λ e. sound ps a ls e)
