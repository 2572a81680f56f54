-- What comes of going over lines by what became of what is kept of them.
use Rattle.std.specs.Prelude.{ℕ, Bool, true, false, List, [], ◌++◌, map, Option, Some, None, if◌then◌else◌}
use Rattle.page_model.specs.Forest.{Forest, none, node}
use Rattle.page_model.specs.Addresses.{address}
use Rattle.page_model.specs.Labels.{Root, Look, Element}
use Rattle.tpl_model.specs.Lines.{Block, empty, text, tag, choice, each, attempt}
use Rattle.tpl_model.specs.Shapes.{Here}
use Rattle.tpl_model.specs.ShownNodes.Shapes.{Marked, Next, child_of, mark_of}
use Rattle.tpl_model.specs.declared.mark.Child.{Child}
use Rattle.tpl_drawn.specs.Marks.{children_in, marks_in}
use Rattle.tpl_model.specs.KeptLines.Changes.{Change, changed, first_in, stays}
use Rattle.tpl_model.specs.PageUpdates.PageMemos.{PageMemo, nodes, row_nodes, values}
use Rattle.tpl_drawn.specs.Heads.{text_at}
use Rattle.tpl_drawn.specs.Shown.{attributes_of, inside_of, rows_of, shows}
use Rattle.tpl_drawn.specs.Comparison.{Marking, keeps_nodes, marked_by, restated_part, restating, row_marks, touched_part, touching, tried_marks}
use Rattle.tpl_model.specs.declared.change.Change as code
use Rattle.tpl_drawn.specs.declared.comparing.node_marks.Compared.{Compared}

-- the children of the node in whose inside it goes on, and the marks of nodes whose children and whose look may differ
pub record Walk : Type 0 where
  pub children : List Next
  pub touched : List Marked
  pub restated : List Marked

-- nothing came
abbrev pub idle : Walk
idle = record { children = []; touched = []; restated = [] }

-- what came before, and what comes behind it
abbrev pub further : Walk → Walk → Walk
further v w = record { children = v.children ++ w.children; touched = v.touched ++ w.touched; restated = v.restated ++ w.restated }

-- what came, where something is shown
abbrev pub where_gone : Bool → Walk → Walk
where_gone true w = w
where_gone false w = idle

-- children, where they are listed
abbrev pub where_listed : {A : Type 0} → (listed : Bool) → List A → List A
where_listed listed cs = if listed then cs else []

-- what came, without the children unless they are listed
abbrev pub as_listed : (listed : Bool) → Walk → Walk
as_listed listed w = record { children = where_listed listed w.children; touched = w.touched; restated = w.restated }

-- what came so far, as the code has it
abbrev pub walk_of : List Child → Compared → Walk
walk_of children out = record { children = map child_of children; touched = map mark_of out.touched.items; restated = map mark_of out.restated.items }

-- of lines, in the row of that key
abbrev pub of_lines : (ℕ → Option ℕ) → Option (List ℕ) → Block → PageMemo → Change → Walk
of_lines known k b m c = record {
  children = children_in known (nodes k b m);
  touched = marked_by touching touched_part known k b m c;
  restated = marked_by restating restated_part known k b m c;
}

-- what became of lines, where it is told; all of it stays where it isn't
abbrev pub or_stays : Option code.Change → Change
or_stays None = stays
or_stays (Some c) = changed c

-- of nodes that were made anew
abbrev pub of_made : (ℕ → Option ℕ) → Forest Look → Walk
of_made known shape = record {
  children = children_in known shape;
  touched = map touched_part (marks_in known shape);
  restated = map restated_part (marks_in known shape);
}

-- of what is tried, whose nodes stay where it is the same, and otherwise were made anew
abbrev pub of_tried : (ℕ → Option ℕ) → (same : Bool) → Forest Look → Walk
of_tried known same shape = record {
  children = children_in known shape;
  touched = tried_marks touched_part known same shape;
  restated = tried_marks restated_part known same shape;
}

-- of a text that was heard again, which may be as it was heard before
abbrev pub of_text : (ℕ → Option ℕ) → (same : Bool) → Forest Look → Walk
of_text known same shape = record { children = children_in known shape; touched = []; restated = if same then [] else marks_in known shape }

-- the marks of an element that was heard again, of this number and look, and of what is inside it
abbrev pub marks_of : Marking → (Marked → Marked) → (ℕ → Option ℕ) → Option (List ℕ) → (same : Bool) → Option ℕ → Look → Block → PageMemo → Change →
    List Marked
marks_of mark part known k same n x inner i inside =
    mark same (keeps_nodes inner (first_in inside)) n x (children_in known (nodes k inner i)) (marked_by mark part known k inner i (first_in inside))

-- of an element that has this number and was heard again, its marks alone
abbrev pub of_marks : (ℕ → Option ℕ) → Option (List ℕ) → (same : Bool) → Option ℕ → Look → Block → PageMemo → Change → Walk
of_marks known k same n x inner i inside = record {
  children = [];
  touched = marks_of touching touched_part known k same n x inner i inside;
  restated = marks_of restating restated_part known k same n x inner i inside;
}

-- of its inside, with its own mark for the children
abbrev pub of_inside : (ℕ → Option ℕ) → Option (List ℕ) → ℕ → Block → PageMemo → Change → Walk
of_inside known k n inner i inside = record {
  children = [];
  touched = marks_of touching touched_part known k true (Some n) Root inner i inside;
  restated = marked_by restating restated_part known k inner i (first_in inside);
}

-- of an element of this address that was heard again
abbrev pub of_element : (ℕ → Option ℕ) → Option (List ℕ) → (same : Bool) → ℕ → Look → Block → PageMemo → Change → Walk
of_element known k same a x inner i inside = record {
  children = children_in known (node a x (nodes k inner i) none);
  touched = (of_marks known k same (known a) x inner i inside).touched;
  restated = (of_marks known k same (known a) x inner i inside).restated;
}

-- of rows
abbrev pub of_rows : (ℕ → Option ℕ) → Block → PageMemo → Change → Walk
of_rows known inner i inside = record {
  children = children_in known (row_nodes (λ h m. nodes (Some h.key) inner m) i);
  touched = row_marks (λ (here : Here) (m : PageMemo) (d : Change). marked_by touching touched_part known (Some here.key) inner m d) i inside;
  restated = row_marks (λ (here : Here) (m : PageMemo) (d : Change). marked_by restating restated_part known (Some here.key) inner m d) i inside;
}

-- of the first of some lines, which was heard again
abbrev pub of_first : (ℕ → Option ℕ) → Option (List ℕ) → (same : Bool) → Block → PageMemo → Change → Walk
of_first known k same (text n f rest) m inside = of_text known same (text_at (address n k) m)
of_first known k same (tag n name xs inner rest) m inside =
    of_element known k same (address n k) (Element name (values xs (attributes_of m))) inner (inside_of m) inside
of_first known k same (choice f one other rest) m inside =
    further (where_gone (shows m true) (of_lines known k one (inside_of m) (first_in inside)))
    (where_gone (shows m false) (of_lines known k other (inside_of m) (first_in inside)))
of_first known k same (each f inner rest) m inside = of_rows known inner (rows_of m) inside
of_first known k same (attempt first second rest) m inside =
    further (where_gone (shows m true) (of_tried known same (nodes k first (inside_of m))))
    (where_gone (shows m false) (of_tried known same (nodes k second (inside_of m))))
of_first known k same empty m inside = idle
