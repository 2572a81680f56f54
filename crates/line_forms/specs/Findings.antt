-- What a reader finds in the tokens behind a first word, by what it makes of what a line says.
use Rattle.std.specs.Prelude.{List, [], ◌∷◌, Option, None, option_map}
use Rattle.std.specs.Option.{option_or}
use Rattle.sig_words.specs.Lexemes.{Lexeme}
use Rattle.line_forms.specs.Reader.{read_form}
use Rattle.line_forms.specs.Rows.{Language, Said}

-- what is found in the tokens, as a line of this row
abbrev pub found_as : {F : Type 0} (language : Language) → (Said language → F) → language.Row → List Lexeme → Option F
found_as language f r ls = option_map (λ a. f (r, a)) (read_form (language.row r).1 ls)

-- what is found by the first of the rows that reads them
abbrev pub found_first : {F : Type 0} (language : Language) → (Said language → F) → List language.Row → List Lexeme → Option F
found_first language f [] ls = None
found_first language f (r ∷ []) ls = found_as language f r ls
found_first language f (r ∷ s ∷ rs) ls = option_or (found_as language f r ls) (found_first language f (s ∷ rs) ls)
