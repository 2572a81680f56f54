-- Lines that are gone over, part by part.
use Rattle.std.proofs.Common.{◌≡◌, ◌&&◌, ℕ, Bool, true, false, not, Option, Some, None, List, [], ◌∷◌, ◌++◌, append_assoc, append-nil, map, slice_get, unwrap_or, if◌then◌else◌, refl, sym, ap, ◌∙◌}
use Rattle.std.proofs.lemmas.Bool.{false≢true}
use Rattle.sig_base.specs.declared.value.Value.TheVariants as value
use Rattle.sig_base.specs.declared.value.Outcome.{Outcome}
use Rattle.sig_base.specs.declared.value.Outcome.TheVariants.{Good, Bad}
use Rattle.page_model.specs.Addresses.{address}
use Rattle.page_model.specs.Forest.{Forest, none, node}
use Rattle.page_model.specs.Labels.{Root, Look, Text}
use Rattle.tpl_model.specs.KeptLines.Changes.{Change, stays, made, over, also, nothing, chain, changed, first_in, is_stays}
use Rattle.tpl_model.specs.declared.change.Change as code
use Rattle.tpl_drawn.specs.Marks.{children_in, marked_at, marks_in}
use Rattle.tpl_drawn.proofs.Numbered.Marks.{children_after}
use Rattle.tpl_model.specs.Shapes.{node_text}
use Rattle.tpl_model.specs.Lines.{Block, empty, text, tag, choice, each, attempt}
use Rattle.tpl_drawn.specs.Shown.{fits, later_of, part_of, shows_part}
use Rattle.tpl_drawn.proofs.Placed.Placed.{unfit_shown}
use Rattle.tpl_scratch.specs.Pages.{shows_branch}
use Rattle.tpl_model.specs.ShownNodes.Shapes.{Marked, Next}
use Rattle.tpl_model.specs.PageUpdates.PageMemos.{PageMemo, unread, blank, line, element, branch, loop, row, either, nodes, part_shown, picks, row_nodes}
use Rattle.tpl_drawn.proofs.Compares.Tops.{stays_keep}
use Rattle.tpl_drawn.proofs.Shaped.Behind.{behind}
use Rattle.tpl_drawn.specs.Comparison.{Marking, keeps_nodes, marked_by, marked_unless, restated_part, restating, touched_part, touching}
use Rattle.tpl_drawn.specs.Walks.{Walk, as_listed, further, idle, where_listed, of_element, of_first, of_inside, of_lines, of_made, of_marks, of_tried, where_gone}

-- ---- one part behind another

pub further_idle : (w : Walk) → further w idle ≡ w
further_idle w = λ i. record {
  children = append-nil w.children i;
  touched = append-nil w.touched i;
  restated = append-nil w.restated i;
}

further_further : (u v w : Walk) → further (further u v) w ≡ further u (further v w)
further_further u v w = λ i. record {
  children = append_assoc u.children v.children w.children i;
  touched = append_assoc u.touched v.touched w.touched i;
  restated = append_assoc u.restated v.restated w.restated i;
}

-- nothing came
pub none_gone : (a w : Walk) → w ≡ idle → a ≡ further a w
none_gone a w e = sym (ap (further a) e ∙ further_idle a)

-- two parts, one behind the other
pub both_gone : (a b c v w : Walk) → b ≡ further a v → c ≡ further b w → c ≡ further a (further v w)
both_gone a b c v w e h = h ∙ (ap (λ z. further z w) e ∙ further_further a v w)

-- parts with their children are the whole with its children, and so it is without
pub listed_both : (listed : Bool) (v w : Walk) → further (as_listed listed v) (as_listed listed w) ≡ as_listed listed (further v w)
listed_both true v w = refl
listed_both false v w = refl

pub listed_idle : (listed : Bool) → as_listed listed idle ≡ idle
listed_idle true = refl
listed_idle false = refl

-- nothing came of a part
pub none_listed : (listed : Bool) (a w : Walk) → w ≡ idle → a ≡ further a (as_listed listed w)
none_listed listed a w e = none_gone a (as_listed listed w) (ap (as_listed listed) e ∙ listed_idle listed)

-- what came of parts is what comes of the whole
pub parts_gone : (listed : Bool) (a b c v w x : Walk) → x ≡ further v w → b ≡ further a (as_listed listed v) → c ≡ further b (as_listed listed w) →
    c ≡ further a (as_listed listed x)
parts_gone listed a b c v w x parts e h =
    both_gone a b c (as_listed listed v) (as_listed listed w) e h ∙ ap (further a) (listed_both listed v w ∙ ap (as_listed listed) (sym parts))

-- ---- lines of other kinds, lines that stay, and those that were made anew

-- what is kept of another line isn't gone over
unfit_marked : (mark : Marking) (part : Marked → Marked) (known : ℕ → Option ℕ) (k : Option (List ℕ)) (b : Block) (m : PageMemo) (c : Change) →
    fits b m ≡ false → marked_by mark part known k b m c ≡ []
unfit_marked mark part known k empty m c e = refl
unfit_marked mark part known k (text n f rest) (line h r) c e = absurd (false≢true (sym e))
unfit_marked mark part known k (text n f rest) m c e = refl
unfit_marked mark part known k (tag n name xs inner rest) (element hs i r) c e = absurd (false≢true (sym e))
unfit_marked mark part known k (tag n name xs inner rest) m c e = refl
unfit_marked mark part known k (choice f one other rest) (branch h i r) c e = absurd (false≢true (sym e))
unfit_marked mark part known k (choice f one other rest) m c e = refl
unfit_marked mark part known k (each f inner rest) (loop h i r) c e = absurd (false≢true (sym e))
unfit_marked mark part known k (each f inner rest) m c e = refl
unfit_marked mark part known k (attempt first second rest) (either a b r) c e = absurd (false≢true (sym e))
unfit_marked mark part known k (attempt first second rest) m c e = refl

pub unfit_gone : (known : ℕ → Option ℕ) (k : Option (List ℕ)) (b : Block) (m : PageMemo) (c : Change) → fits b m ≡ false → of_lines known k b m c ≡ idle
unfit_gone known k b m c e = λ i. record {
  children = ap (children_in known) (unfit_shown k b m e) i;
  touched = unfit_marked touching touched_part known k b m c e i;
  restated = unfit_marked restating restated_part known k b m c e i;
}

-- what stays is told in one way
pub stays_alone : (c : Change) → is_stays c ≡ true → c ≡ stays
stays_alone stays e = refl
stays_alone made e = absurd (false≢true e)
stays_alone (over s i l) e = absurd (false≢true e)
stays_alone (also c d) e = absurd (false≢true e)
stays_alone nothing e = absurd (false≢true e)

-- of lines that stay nothing is marked
pub stays_marked : (mark : Marking) (part : Marked → Marked) (known : ℕ → Option ℕ) (k : Option (List ℕ)) (b : Block) (m : PageMemo) →
    marked_by mark part known k b m stays ≡ []
stays_marked mark part known k empty m = refl
stays_marked mark part known k (text n f rest) (line h r) = refl
stays_marked mark part known k (text n f rest) m = refl
stays_marked mark part known k (tag n name xs inner rest) (element hs i r) = refl
stays_marked mark part known k (tag n name xs inner rest) m = refl
stays_marked mark part known k (choice f one other rest) (branch h i r) = refl
stays_marked mark part known k (choice f one other rest) m = refl
stays_marked mark part known k (each f inner rest) (loop h i r) = refl
stays_marked mark part known k (each f inner rest) m = refl
stays_marked mark part known k (attempt first second rest) (either a b r) = refl
stays_marked mark part known k (attempt first second rest) m = refl

-- children alone
abbrev pub alone : List Next → Walk
alone cs = record { children = cs; touched = []; restated = [] }

pub alone_listed : (listed : Bool) (cs : List Next) (w : Walk) → alone cs ≡ w → alone (where_listed listed cs) ≡ as_listed listed w
alone_listed listed cs w e = ap (as_listed listed) e

pub stays_gone : (known : ℕ → Option ℕ) (k : Option (List ℕ)) (b : Block) (m : PageMemo) → alone (children_in known (nodes k b m)) ≡ of_lines known k b m stays
stays_gone known k b m = λ i. record {
  children = children_in known (nodes k b m);
  touched = sym (stays_marked touching touched_part known k b m) i;
  restated = sym (stays_marked restating restated_part known k b m) i;
}

-- children alone were put
pub put_staying_gone : (before now : List Next) (w x : Walk) {cs : List Next} → alone cs ≡ x → w.children ≡ before → now ≡ before ++ cs →
    record { children = now; touched = w.touched; restated = w.restated } ≡ further w x
put_staying_gone before now w x e f put = λ i. record {
  children = (put ∙ ((λ j. sym f j ++ (e j).children))) i;
  touched = (sym (append-nil w.touched) ∙ ap (λ z. w.touched ++ z.touched) e) i;
  restated = (sym (append-nil w.restated) ∙ ap (λ z. w.restated ++ z.restated) e) i;
}

-- of lines that were made anew all is marked
made_marked : (mark : Marking) (part : Marked → Marked) (known : ℕ → Option ℕ) (k : Option (List ℕ)) (b : Block) (m : PageMemo) →
    map part (marks_in known (nodes k b m)) ≡ marked_by mark part known k b m made
made_marked mark part known k empty m = refl
made_marked mark part known k (text n f rest) (line h r) = refl
made_marked mark part known k (text n f rest) m = refl
made_marked mark part known k (tag n name xs inner rest) (element hs i r) = refl
made_marked mark part known k (tag n name xs inner rest) m = refl
made_marked mark part known k (choice f one other rest) (branch h i r) = refl
made_marked mark part known k (choice f one other rest) m = refl
made_marked mark part known k (each f inner rest) (loop h i r) = refl
made_marked mark part known k (each f inner rest) m = refl
made_marked mark part known k (attempt first second rest) (either a b r) = refl
made_marked mark part known k (attempt first second rest) m = refl

pub made_gone : (known : ℕ → Option ℕ) (k : Option (List ℕ)) (b : Block) (m : PageMemo) → of_made known (nodes k b m) ≡ of_lines known k b m made
made_gone known k b m = λ i. record {
  children = children_in known (nodes k b m);
  touched = made_marked touching touched_part known k b m i;
  restated = made_marked restating restated_part known k b m i;
}

-- ---- the first line, and those behind it

-- a mark with none below it
pub unless_alone : (s : Bool) (n : Option ℕ) (x : Look) → marked_unless s n x [] [] ≡ (if s then [] else marked_at n x [] [])
unless_alone true None x = refl
unless_alone true (Some n) x = refl
unless_alone false None x = refl
unless_alone false (Some n) x = refl

-- a node without a number
unless_new : (s : Bool) (x : Look) (cs : List Next) (below : List Marked) → [] ≡ marked_unless s None x cs below
unless_new true x cs below = refl
unless_new false x cs below = refl

-- of two branches that one which is shown
picked_gone : (known : ℕ → Option ℕ) (o : Outcome) (f g : Forest Look) (t u v w : List Marked) →
    record { children = children_in known (picks o f g none); touched = picks o t u []; restated = picks o v w [] }
    ≡ further (where_gone (shows_branch o true) (record { children = children_in known f; touched = t; restated = v }))
    (where_gone (shows_branch o false) (record { children = children_in known g; touched = u; restated = w }))
picked_gone known (Good (value.Bool true)) f g t u v w = sym (further_idle (record { children = children_in known f; touched = t; restated = v }))
picked_gone known (Good (value.Bool false)) f g t u v w = refl
picked_gone known (Good (value.Int i)) f g t u v w = refl
picked_gone known (Good (value.Text s)) f g t u v w = refl
picked_gone known (Good (value.Rows s)) f g t u v w = refl
picked_gone known (Bad e) f g t u v w = refl

-- of two parts that one which is shown
part_gone : (known : ℕ → Option ℕ) (k : Option (List ℕ)) (s : Bool) (first second : Block) (a b : PageMemo) →
    of_tried known s (part_shown b (nodes k first a) (nodes k second b))
    ≡ further (where_gone (shows_part b true) (of_tried known s (nodes k first (part_of a b))))
    (where_gone (shows_part b false) (of_tried known s (nodes k second (part_of a b))))
part_gone known k s first second a unread = sym (further_idle (of_tried known s (nodes k first a)))
part_gone known k s first second a blank = refl
part_gone known k s first second a (line h r) = refl
part_gone known k s first second a (element hs i r) = refl
part_gone known k s first second a (branch h i r) = refl
part_gone known k s first second a (loop h i r) = refl
part_gone known k s first second a (row h i r) = refl
part_gone known k s first second a (either x y r) = refl

-- what comes of lines, part by part
first_parts : (known : ℕ → Option ℕ) (k : Option (List ℕ)) (s : Bool) (b : Block) (m : PageMemo) (i l : Change) → fits b m ≡ true →
    of_lines known k b m (over s i l) ≡ further (of_first known k s b m i) (of_lines known k (behind b) (later_of m) l)
first_parts known k s (text n f rest) (line h r) i l fit =
    let a = address n k in
    let x : Look = Text (node_text h.outcome) in
    λ j. record {
      children = children_in known (nodes k (text n f rest) (line h r));
      touched = unless_alone true (known a) Root j ++ marked_by touching touched_part known k rest r l;
      restated = (unless_alone s (known a) x ∙ ap (λ z. if s then [] else z) (sym (append-nil (marked_at (known a) x [] [])))) j
          ++ marked_by restating restated_part known k rest r l;
    }
first_parts known k s (tag n name xs inner rest) (element hs i' r) i l fit = refl
first_parts known k s (choice f one other rest) (branch h i' r) i l fit =
    (λ j. record {
      children = children_after known (picks h.outcome (nodes k one i') (nodes k other i') none) (nodes k rest r) j;
      touched = marked_by touching touched_part known k (choice f one other rest) (branch h i' r) (over s i l);
      restated = marked_by restating restated_part known k (choice f one other rest) (branch h i' r) (over s i l);
    })
    ∙ ap (λ z. further z (of_lines known k rest r l))
    (picked_gone known h.outcome (nodes k one i') (nodes k other i') (marked_by touching touched_part known k one i' (first_in i))
    (marked_by touching touched_part known k other i' (first_in i)) (marked_by restating restated_part known k one i' (first_in i))
    (marked_by restating restated_part known k other i' (first_in i)))
first_parts known k s (each f inner rest) (loop h i' r) i l fit = λ j. record {
  children = children_after known (row_nodes (λ h m. nodes (Some h.key) inner m) i') (nodes k rest r) j;
  touched = marked_by touching touched_part known k (each f inner rest) (loop h i' r) (over s i l);
  restated = marked_by restating restated_part known k (each f inner rest) (loop h i' r) (over s i l);
}
first_parts known k s (attempt first second rest) (either a b r) i l fit =
    (λ j. record {
      children = children_after known (part_shown b (nodes k first a) (nodes k second b)) (nodes k rest r) j;
      touched = marked_by touching touched_part known k (attempt first second rest) (either a b r) (over s i l);
      restated = marked_by restating restated_part known k (attempt first second rest) (either a b r) (over s i l);
    })
    ∙ ap (λ z. further z (of_lines known k rest r l)) (part_gone known k s first second a b)
first_parts known k s (text n f rest) m i l fit = absurd (false≢true fit)
first_parts known k s (tag n name xs inner rest) m i l fit = absurd (false≢true fit)
first_parts known k s (choice f one other rest) m i l fit = absurd (false≢true fit)
first_parts known k s (each f inner rest) m i l fit = absurd (false≢true fit)
first_parts known k s (attempt first second rest) m i l fit = absurd (false≢true fit)
first_parts known k s empty m i l fit = absurd (false≢true fit)

pub first_gone : (listed : Bool) (known : ℕ → Option ℕ) (k : Option (List ℕ)) (s : Bool) (b rest : Block) (m : PageMemo) (i l : Change) (before mid now : Walk) →
    fits b m ≡ true → rest ≡ behind b → mid ≡ further before (as_listed listed (of_first known k s b m i)) →
    now ≡ further mid (as_listed listed (of_lines known k rest (later_of m) l)) → now ≡ further before (as_listed listed (of_lines known k b m (over s i l)))
first_gone listed known k s b rest m i l before mid now fit is e h =
    parts_gone listed before mid now (of_first known k s b m i) (of_lines known k (behind b) (later_of m) l) (of_lines known k b m (over s i l))
    (first_parts known k s b m i l fit) e (h ∙ ap (λ z. further mid (as_listed listed (of_lines known k z (later_of m) l))) is)

-- the nodes of a part stay
pub tried_stays : (known : ℕ → Option ℕ) (s : Bool) (f : Forest Look) → s ≡ true → alone (children_in known f) ≡ of_tried known s f
tried_stays known s f e = ap (λ z. of_tried known z f) (sym e)

-- and otherwise they were made anew
pub tried_made : (known : ℕ → Option ℕ) (s : Bool) (f : Forest Look) → s ≡ false → of_made known f ≡ of_tried known s f
tried_made known s f e = ap (λ z. of_tried known z f) (sym e)

-- ---- an element

-- where its inside stays, there are no marks
pub inside_stays : (known : ℕ → Option ℕ) (k : Option (List ℕ)) (n : ℕ) (inner : Block) (m : PageMemo) (i : Change) → is_stays (first_in i) ≡ true →
    of_inside known k n inner m i ≡ idle
inside_stays known k n inner m i e = all_stay (first_in i) e
  where
    inside_of_change : Change → Walk
    inside_of_change c = record {
      children = [];
      touched = touching true (keeps_nodes inner c) (Some n) Root (children_in known (nodes k inner m)) (marked_by touching touched_part known k inner m c);
      restated = marked_by restating restated_part known k inner m c;
    }

    all_stay : (c : Change) → is_stays c ≡ true → inside_of_change c ≡ idle
    all_stay stays e = λ j. record {
      children = [];
      touched = (ap (λ z. touching true z (Some n) Root (children_in known (nodes k inner m)) (marked_by touching touched_part known k inner m stays))
          (stays_keep inner) ∙ stays_marked touching touched_part known k inner m) j;
      restated = stays_marked restating restated_part known k inner m j;
    }
    all_stay made e = absurd (false≢true e)
    all_stay (over s i l) e = absurd (false≢true e)
    all_stay (also c d) e = absurd (false≢true e)
    all_stay nothing e = absurd (false≢true e)

-- its inside was gone over, and its mark stands behind
pub inside_goes : (known : ℕ → Option ℕ) (k : Option (List ℕ)) (n : ℕ) (inner : Block) (m : PageMemo) (i : Change) (cs : List Next) (t r : List Marked)
    (before now : Walk) → keeps_nodes inner (first_in i) ≡ false → record { children = cs; touched = t; restated = r } ≡ further before (of_lines known k inner m (first_in i)) →
    before.children ≡ [] → now.children ≡ [] → now.touched ≡ t ++ record { number = n; look = Root; children = cs } ∷ [] → now.restated ≡ r →
    now ≡ further before (of_inside known k n inner m i)
inside_goes known k n inner m i cs t r before now goes e none_before none_now put same =
    let x = of_lines known k inner m (first_in i) in
    let all : cs ≡ x.children = ap (λ w. w.children) e ∙ ap (λ z. z ++ x.children) none_before in
    let mark : List Next → Marked = λ z. record { number = n; look = Root; children = z } in
    λ j. record {
      children = (none_now ∙ sym (append-nil before.children ∙ none_before)) j;
      touched = (put ∙ (ap (λ z. z ++ mark cs ∷ []) (ap (λ w. w.touched) e) ∙ (append_assoc before.touched x.touched (mark cs ∷ [])
          ∙ (ap (λ z. before.touched ++ (x.touched ++ mark z ∷ [])) all
          ∙ ap (λ b. before.touched ++ marked_unless b (Some n) Root x.children x.touched) (sym goes))))) j;
      restated = (same ∙ ap (λ w. w.restated) e) j;
    }

-- its inside was gone over and keeps its topmost nodes
pub inside_keeps : (known : ℕ → Option ℕ) (k : Option (List ℕ)) (n : ℕ) (inner : Block) (m : PageMemo) (i : Change) (listed : Bool) (cs : List Next)
    (t r : List Marked) (before now : Walk) → keeps_nodes inner (first_in i) ≡ true →
    record { children = cs; touched = t; restated = r } ≡ further before (as_listed listed (of_lines known k inner m (first_in i))) →
    before.children ≡ [] → now.children ≡ [] → now.touched ≡ t → now.restated ≡ r → now ≡ further before (of_inside known k n inner m i)
inside_keeps known k n inner m i listed cs t r before now keeps e none_before none_now put same =
    let x = of_lines known k inner m (first_in i) in
    λ j. record {
      children = (none_now ∙ sym (append-nil before.children ∙ none_before)) j;
      touched = (put ∙ (ap (λ w. w.touched) e ∙ ap (λ b. before.touched ++ marked_unless b (Some n) Root x.children x.touched) (sym keeps))) j;
      restated = (same ∙ ap (λ w. w.restated) e) j;
    }

-- an element that has a number, with its mark for the look
pub kept_goes : (known : ℕ → Option ℕ) (k : Option (List ℕ)) (s : Bool) (n : ℕ) (x : Look) (inner : Block) (m : PageMemo) (i : Change) (before inside now : Walk) →
    s ≡ false → inside ≡ further before (of_inside known k n inner m i) → now.children ≡ inside.children → now.touched ≡ inside.touched →
    now.restated ≡ inside.restated ++ record { number = n; look = x; children = [] } ∷ [] →
    now ≡ further before (of_marks known k s (Some n) x inner m i)
kept_goes known k s n x inner m i before inside now heard e f g put = λ j. record {
  children = (f ∙ ap (λ w. w.children) e) j;
  touched = (g ∙ ap (λ w. w.touched) e) j;
  restated = (put ∙ (ap (λ w. w.restated ++ record { number = n; look = x; children = [] } ∷ []) e
      ∙ (append_assoc before.restated (marked_by restating restated_part known k inner m (first_in i)) (record { number = n; look = x; children = [] } ∷ [])
      ∙ ap (λ b. before.restated ++ marked_unless b (Some n) x [] (marked_by restating restated_part known k inner m (first_in i))) (sym heard)))) j;
}

-- one whose attributes were heard so before
pub kept_same : (known : ℕ → Option ℕ) (k : Option (List ℕ)) (s : Bool) (n : ℕ) (x : Look) (inner : Block) (m : PageMemo) (i : Change) (before now : Walk) →
    s ≡ true → now ≡ further before (of_inside known k n inner m i) → now ≡ further before (of_marks known k s (Some n) x inner m i)
kept_same known k s n x inner m i before now heard e = e ∙ ap (λ b. further before (record {
  children = [];
  touched = (of_inside known k n inner m i).touched;
  restated = marked_unless b (Some n) x [] (marked_by restating restated_part known k inner m (first_in i));
})) (sym heard)

-- an element without a number isn't marked
pub unknown_element : (known : ℕ → Option ℕ) (k : Option (List ℕ)) (s : Bool) (a : ℕ) (x : Look) (inner : Block) (m : PageMemo) (i : Change) → known a ≡ None →
    alone (children_in known (node a x (nodes k inner m) none)) ≡ of_element known k s a x inner m i
unknown_element known k s a x inner m i e =
    let keeps = keeps_nodes inner (first_in i) in
    let cs = children_in known (nodes k inner m) in
    let touched = marked_by touching touched_part known k inner m (first_in i) in
    let restated = marked_by restating restated_part known k inner m (first_in i) in
    λ j. record {
      children = children_in known (node a x (nodes k inner m) none);
      touched = (unless_new keeps Root cs touched ∙ ap (λ z. marked_unless keeps z Root cs touched) (sym e)) j;
      restated = (unless_new s x [] restated ∙ ap (λ z. marked_unless s z x [] restated) (sym e)) j;
    }

-- an element as a child, and its marks
pub element_goes : (listed : Bool) (known : ℕ → Option ℕ) (k : Option (List ℕ)) (s : Bool) (a n : ℕ) (x : Look) (inner : Block) (m : PageMemo) (i : Change) (cs ds : List Next)
    (before now : Walk) → known a ≡ Some n → ds ≡ cs ++ where_listed listed (children_in known (node a x (nodes k inner m) none)) → now ≡ further before (of_marks known k s (Some n) x inner m i) →
    record { children = ds; touched = now.touched; restated = now.restated }
    ≡ further (record { children = cs; touched = before.touched; restated = before.restated }) (as_listed listed (of_element known k s a x inner m i))
element_goes listed known k s a n x inner m i cs ds before now e put f = λ j. record {
  children = put j;
  touched = (ap (λ w. w.touched) f ∙ ap (λ z. before.touched ++ (of_marks known k s z x inner m i).touched) (sym e)) j;
  restated = (ap (λ w. w.restated) f ∙ ap (λ z. before.restated ++ (of_marks known k s z x inner m i).restated) (sym e)) j;
}

-- nothing comes of an element that was heard so before, where all inside it stays and its children aren't listed
quiet_element : (known : ℕ → Option ℕ) (k : Option (List ℕ)) (a : ℕ) (x : Look) (inner : Block) (m : PageMemo) (c : Change) → is_stays c ≡ true →
    (touching true (keeps_nodes inner c) (known a) x (children_in known (nodes k inner m)) (marked_by touching touched_part known k inner m c) ≡ [])
    × (restating true (keeps_nodes inner c) (known a) x (children_in known (nodes k inner m)) (marked_by restating restated_part known k inner m c) ≡ [])
quiet_element known k a x inner m stays e = (
  ap (λ z. marked_unless z (known a) Root (children_in known (nodes k inner m)) (marked_by touching touched_part known k inner m stays)) (stays_keep inner)
      ∙ (ap (marked_unless true (known a) Root (children_in known (nodes k inner m))) (stays_marked touching touched_part known k inner m)
      ∙ unless_none (known a) Root (children_in known (nodes k inner m))),
  ap (marked_unless true (known a) x []) (stays_marked restating restated_part known k inner m) ∙ unless_none (known a) x [],
)
  where
    unless_none : (n : Option ℕ) (y : Look) (cs : List Next) → marked_unless true n y cs [] ≡ []
    unless_none None y cs = refl
    unless_none (Some n) y cs = refl
quiet_element known k a x inner m made e = absurd (false≢true e)
quiet_element known k a x inner m (over s i l) e = absurd (false≢true e)
quiet_element known k a x inner m (also c d) e = absurd (false≢true e)
quiet_element known k a x inner m nothing e = absurd (false≢true e)

pub element_quiet : (listed s : Bool) (known : ℕ → Option ℕ) (k : Option (List ℕ)) (a : ℕ) (x : Look) (inner : Block) (m : PageMemo) (i : Change) →
    ((not listed && s) && is_stays (first_in i)) ≡ true → as_listed listed (of_element known k s a x inner m i) ≡ idle
element_quiet true s known k a x inner m i e = absurd (false≢true e)
element_quiet false false known k a x inner m i e = absurd (false≢true e)
element_quiet false true known k a x inner m i e =
    let q = quiet_element known k a x inner m (first_in i) e in
    λ j. record { children = []; touched = q.0 j; restated = q.1 j }

-- ---- branches

pub branch_off : (listed b : Bool) (w a : Walk) → b ≡ false → a ≡ further a (as_listed listed (where_gone b w))
branch_off listed b w a e = none_listed listed a (where_gone b w) (ap (λ z. where_gone z w) e)

pub branch_on : (listed b : Bool) (w a c : Walk) → b ≡ true → c ≡ further a (as_listed listed w) → c ≡ further a (as_listed listed (where_gone b w))
branch_on listed b w a c e h = h ∙ ap (λ z. further a (as_listed listed (where_gone z w))) (sym e)

-- ---- the first of some parts

pub first_none : (cs : List code.Change) → slice_get cs 0 ≡ None → made ≡ first_in (chain (map changed cs))
first_none [] e = refl
first_none (c ∷ cs) e = cc

pub first_some : (cs : List code.Change) (c : code.Change) → slice_get cs 0 ≡ Some c → changed c ≡ first_in (chain (map changed cs))
first_some [] c e = cc
first_some (d ∷ cs) c e = ap changed (sym (ap (λ z. unwrap_or z d) e))
