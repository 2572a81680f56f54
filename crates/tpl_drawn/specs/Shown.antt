-- What is kept of the first of some lines, and what it shows.
use Rattle.std.specs.Prelude.{Bool, true, false, not, List, []}
use Rattle.page_model.specs.Forest.{Forest, none}
use Rattle.page_model.specs.Labels.{Look}
use Rattle.tpl_model.specs.Lines.{Block, empty, text, tag, choice, each, attempt}
use Rattle.tpl_scratch.specs.Pages.{shows_branch}
use Rattle.tpl_model.specs.PageUpdates.PageMemos.{Heard, PageMemo, unread, blank, line, element, branch, loop, either}

-- whether it is kept of a text
abbrev pub is_line : PageMemo → Bool
is_line (line h r) = true
is_line m = false

-- of an element
abbrev pub is_element : PageMemo → Bool
is_element (element hs i r) = true
is_element m = false

-- of a choice
abbrev pub is_branch : PageMemo → Bool
is_branch (branch h i r) = true
is_branch m = false

-- of a loop
abbrev pub is_loop : PageMemo → Bool
is_loop (loop h i r) = true
is_loop m = false

-- of what is tried
abbrev pub is_either : PageMemo → Bool
is_either (either a b r) = true
is_either m = false

-- whether it is kept of a line as the first of these; nothing is kept where there is none
abbrev pub fits : Block → PageMemo → Bool
fits (text n f rest) m = is_line m
fits (tag n name xs inner rest) m = is_element m
fits (choice f one other rest) m = is_branch m
fits (each f inner rest) m = is_loop m
fits (attempt first second rest) m = is_either m
fits empty m = false

-- what is kept of the lines behind the first
abbrev pub later_of : PageMemo → PageMemo
later_of (line h r) = r
later_of (element hs i r) = r
later_of (branch h i r) = r
later_of (loop h i r) = r
later_of (either a b r) = r
later_of m = m

-- what is kept of that part of what is tried which is shown, by what is kept of both: the first, where the second wasn't read
abbrev pub part_of : PageMemo → PageMemo → PageMemo
part_of a unread = a
part_of a m = m

-- whether a part is shown, the first or the second, by what is kept of the second
abbrev pub shows_part : PageMemo → Bool → Bool
shows_part unread first = first
shows_part m first = not first

-- what is kept inside an element, or of the branch or the part that is shown
abbrev pub inside_of : PageMemo → PageMemo
inside_of (element hs i r) = i
inside_of (branch h i r) = i
inside_of (either a b r) = part_of a b
inside_of m = m

-- what was heard of the attributes
abbrev pub attributes_of : PageMemo → List Heard
attributes_of (element hs i r) = hs
attributes_of m = []

-- whether a branch or a part is shown, the first or the other
abbrev pub shows : PageMemo → Bool → Bool
shows (branch h i r) first = shows_branch h.outcome first
shows (either a b r) first = shows_part b first
shows m first = false

-- what is kept for the rows of a loop
abbrev pub rows_of : PageMemo → PageMemo
rows_of (loop h i r) = i
rows_of m = blank

-- nodes, where they are shown
abbrev pub where_shown : Bool → Forest Look → Forest Look
where_shown true nodes = nodes
where_shown false nodes = none
