-- What the program holds of lines that it read.
use Rattle.std.specs.Prelude.{List, Option, Result}
use Rattle.sig_words.specs.Lexemes.{Lexeme}
use Rattle.formula_text.specs.declared.wired.FormulaFault.{FormulaFault}
use Rattle.line_forms.specs.Findings as findings
use Rattle.line_forms.specs.Told.{unless_faulty}
use Rattle.live_cmd.specs.Grammar.{Row, commands, Said, said_line, is_alone}
use Rattle.live_cmd.specs.Refusals.{fault_of}
use Rattle.live_cmd.specs.declared.line.Line.{Line}
use Rattle.live_cmd.specs.declared.line.Line.TheVariants as line
use Rattle.live_cmd.specs.declared.line.Found.{Found}

-- what a line gives, or what is wrong with it
abbrev pub line_or_fault : Said → Result Line FormulaFault
line_or_fault x = unless_faulty (fault_of x) (said_line x)

-- what is found in a line that says this
abbrev pub found_of : Said → Found
found_of x = record { alone = is_alone x; line = line_or_fault x }

-- what is found in the tokens behind the first word, as a line of this row
abbrev pub found_as : Row → List Lexeme → Option Found
found_as r ls = findings.found_as commands found_of r ls

-- what is found by the first of the rows that reads them
abbrev pub found_first : List Row → List Lexeme → Option Found
found_first rs ls = findings.found_first commands found_of rs ls
