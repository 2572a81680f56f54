-- What is kept of lines in some rows, while it is brought up to date where it stands.
use Rattle.std.specs.Prelude.{List, drop, map, take}
use Rattle.tpl_model.specs.KeptLines.Kept.{kept}
use Rattle.tpl_model.specs.PageUpdates.PageMemos.{PageMemo}
use Rattle.tpl_kept.specs.declared.renewing.round.Round.{Round}

-- what is up to date
abbrev pub done_of : Round → List PageMemo
done_of r = map kept (take r.at r.memos.items)

-- what was kept in the rows that are left
abbrev pub was_of : Round → List PageMemo
was_of r = map kept (drop r.at r.memos.items)
