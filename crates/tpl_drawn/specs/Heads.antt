-- What is shown of the first of some lines.
use Rattle.std.specs.Prelude.{ℕ, List, []}
use Rattle.sig_base.specs.Tables.{Table}
use Rattle.sig_base.specs.declared.rows.Row.{Row}
use Rattle.sig_base.specs.declared.value.Value.TheVariants as value
use Rattle.sig_base.specs.declared.value.Outcome.{Outcome}
use Rattle.sig_base.specs.declared.value.Outcome.TheVariants.{Good}
use Rattle.page_model.specs.Forest.{Forest, none, node}
use Rattle.page_model.specs.Labels.{Look, Text}
use Rattle.tpl_model.specs.Shapes.{node_text}
use Rattle.tpl_model.specs.PageUpdates.PageMemos.{PageMemo, line, loop}

-- a text of this address
abbrev pub text_at : ℕ → PageMemo → Forest Look
text_at a (line h r) = node a (Text (node_text h.outcome)) none none
text_at a m = none

-- the rows that an outcome is
abbrev pub rows_in : Outcome → List Row
rows_in (Good (value.Rows t)) = t.rows
rows_in _ = []

-- the table that an outcome is, or one without rows
abbrev pub table_in : Outcome → Table
table_in (Good (value.Rows t)) = t
table_in _ = record { fields = []; rows = [] }

-- that of a loop
abbrev pub table_of : PageMemo → Table
table_of (loop h i r) = table_in h.outcome
table_of _ = record { fields = []; rows = [] }
