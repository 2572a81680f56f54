use Rattle.std.proofs.Common.{◌≡◌, List, map, refl, sym, ap, ◌∙◌}
use Rattle.sig_base.specs.declared.value.Value.TheVariants as value
use Rattle.sig_base.specs.declared.value.Outcome.{Outcome}
use Rattle.sig_base.specs.declared.value.Outcome.TheVariants.{Good, Bad}
use Rattle.tpl_model.specs.KeptLines.Kept.{kept, rows_from}
use Rattle.tpl_model.specs.KeptLines.Kept as held
use Rattle.tpl_model.specs.PageUpdates.PageMemos.{PageMemo}
use Rattle.tpl_model.proofs.MemoEquations.{kept_loop}
use Rattle.tpl_drawn.specs.Heads.{rows_in, table_in, table_of}
use Rattle.tpl_drawn.specs.Shown.{rows_of}
use Rattle.tpl_drawn.proofs.nodes.parts.loop_of.Goals as goal

-- what is kept of rows that come from an outcome
rows_held : (o : Outcome) (ms : List PageMemo) → rows_from (table_in o) 0 (rows_in o) ms ≡ held.rows_of o ms
rows_held (Good (value.Rows t)) ms = refl
rows_held (Good (value.Bool b)) ms = refl
rows_held (Good (value.Int i)) ms = refl
rows_held (Good (value.Text t)) ms = refl
rows_held (Bad e) ms = refl

pub returns-in-Loop : goal.returns-in-Loop
returns-in-Loop c =
    let is = ap kept c.in-Loop.is ∙ kept_loop c.in-Loop.heard c.in-Loop.memos c.in-Loop.field-2 in
    (λ i. rows_from (table_of (is i)) 0 (c.rows_in.ensures i) (map kept (c.deref.ensures.value i)))
    ∙ (rows_held c.in-Loop.heard.outcome (map kept c.in-Loop.memos.items) ∙ sym (ap rows_of is))
