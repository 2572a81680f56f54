-- What a look at a computed finds, and one at a source that it keeps.
use Rattle.std.specs.Prelude.{Bool, true, false, ◌||◌, Option, Some, None}
use Rattle.signal_model.specs.Marks as marks
use Rattle.signal_model.specs.Memos.{Source, differs}
use Rattle.sig_graph.specs.States.{State, is_computing}

-- whether it is the mark of what is clean
abbrev pub is_clean_mark : marks.Mark → Bool
is_clean_mark marks.Clean = true
is_clean_mark _ = false

-- whether a kept source has another number than the one that was read, or is computing
abbrev pub has_moved : State → Option Source → Bool
has_moved s None = false
has_moved s (Some source) = differs s.memos source || is_computing s source.name
