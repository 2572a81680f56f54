-- What holds of templates that are read.
use Rattle.std.specs.Prelude.{List, Ok}
use Rattle.script_lines.specs.Lines.{NumberedLine}
use Rattle.tpl_model.specs.Laws.{IsTemplate}
use Rattle.tpl_syntax.specs.Lines.{Plan}
use Rattle.tpl_syntax.specs.Templates.{IsRead}
use Rattle.tpl_blocks.specs.Blocks.{lines_of}

-- Lines that are read as a template make one: they nest as deep as a template may, without a loop in a loop; the attributes of each element
-- are distinct, an element without an end tag is empty, and all names are names of HTML.
abbrev pub ReadLaw : Type 0
ReadLaw = (ls : List NumberedLine) (t : Plan) → IsRead ls (Ok t) → IsTemplate (lines_of t)
