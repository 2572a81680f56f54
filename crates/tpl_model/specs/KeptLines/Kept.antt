-- What a page keeps of its lines, apart from where it lies in memory.
use Rattle.std.specs.Prelude.{ℕ, suc, List, ◌∷◌, map}
use Rattle.std.specs.Box.{box_value}
use Rattle.sig_base.specs.Tables.{Table}
use Rattle.sig_base.specs.declared.rows.Row.{Row}
use Rattle.sig_base.specs.declared.value.Value.TheVariants as value
use Rattle.sig_base.specs.declared.value.Outcome.{Outcome}
use Rattle.sig_base.specs.declared.value.Outcome.TheVariants.{Good}
use Rattle.tpl_model.specs.Shapes.{Here}
use Rattle.tpl_model.specs.PageUpdates.PageMemos as model
use Rattle.tpl_model.specs.declared.memo.Heard.{Heard}
use Rattle.tpl_model.specs.declared.memo.PageMemo.{PageMemo}
use Rattle.tpl_model.specs.declared.memo.PageMemo.TheOpen.{PageMemo-F}
use Rattle.tpl_model.specs.declared.memo.PageMemo.TheFolds.{fold-PageMemo}

-- what was heard of a formula
abbrev pub heard_of : Heard → model.Heard
heard_of h = record { names = h.names.items; outcome = h.outcome }

-- what is kept for rows, from place i on
abbrev pub rows_from : Table → ℕ → List Row → List model.PageMemo → model.PageMemo
rows_from t i (r ∷ rs) (m ∷ ms) =
    let here : Here = record { key = r.key; row = record { rows = t; place = i } } in
    model.row here m (rows_from t (suc i) rs ms)
rows_from t i _ _ = model.blank

-- what is kept for the rows of a loop, where its formula came to rows
abbrev pub rows_of : Outcome → List model.PageMemo → model.PageMemo
rows_of (Good (value.Rows t)) ms = rows_from t 0 t.rows ms
rows_of _ ms = model.blank

-- one line, over what is kept inside it and behind it
abbrev pub kept_node : PageMemo-F model.PageMemo → model.PageMemo
kept_node PageMemo-F.Unread = model.unread
kept_node PageMemo-F.Blank = model.blank
kept_node (PageMemo-F.Line h r) = model.line (heard_of h) (box_value r)
kept_node (PageMemo-F.Element hs i r) = model.element (map heard_of hs.items) (box_value i) (box_value r)
kept_node (PageMemo-F.Branch h i r) = model.branch (heard_of h) (box_value i) (box_value r)
kept_node (PageMemo-F.Either a b r) = model.either (box_value a) (box_value b) (box_value r)
kept_node (PageMemo-F.Loop h rows r) = model.loop (heard_of h) (rows_of h.outcome rows.items) (box_value r)

-- what is kept of all lines
unfoldable pub kept : PageMemo → model.PageMemo
kept = fold-PageMemo model.PageMemo kept_node
