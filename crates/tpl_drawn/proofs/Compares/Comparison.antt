-- What is marked of the next page is all that differs.
use Rattle.std.proofs.Common.{◌≡◌, ℕ, ◌==◌, Bool, true, false, List, [], Some, None, refl, sym, ap, subst, ◌∙◌, eq-eqb}
use Rattle.sig_base.specs.declared.value.Outcome.{Outcome}
use Rattle.page_model.specs.Edits.{siblings}
use Rattle.page_model.specs.Forest.{Forest, none, node, kids, label_in}
use Rattle.page_model.specs.Labels.{Root, Look, Kind}
use Rattle.page_model.specs.Pages.{IsShape, NumberedPage, SameOrigin, number_of, page_shape}
use Rattle.page_model.proofs.Shared.{self_on}
use Rattle.tpl_model.specs.Laws.{GivesRows, IsTemplate}
use Rattle.tpl_model.specs.Lines.{Line, block_of}
use Rattle.tpl_model.specs.Sources.{evaluating}
use Rattle.tpl_model.proofs.Shared.{origin_law, shape_law, all_new, Half, Single, shape_shown, within_whole}
use Rattle.tpl_model.specs.KeptLines.Outcomes.{Outcomes}
use Rattle.tpl_model.specs.KeptLines.Memos.{Agrees}
use Rattle.tpl_model.specs.KeptLines.Changes.{Change, Tells}
use Rattle.tpl_model.specs.ShownNodes.Shapes.{Marked}
use Rattle.tpl_drawn.specs.Marks.{children_in}
use Rattle.tpl_model.specs.PageUpdates.Differences.{SameChildren, SameLook, Within}
use Rattle.tpl_model.specs.PageUpdates.PageMemos.{PageMemo, nodes}
use Rattle.tpl_model.specs.PageUpdates.Updates.{Keeps, memo_on, memo_shape, shape_on}
use Rattle.tpl_drawn.specs.Comparison.{CompareLaw, Compared, IsRestated, IsTouched, keeps_nodes, known_of, marked_by, marked_unless, restated_in, restated_part, restating, touched_in, touched_part, touching}
use Rattle.tpl_drawn.proofs.Compares.Coverage.{Covered, covered_bare, covered_marked}
use Rattle.tpl_drawn.proofs.Compares.Sides.{Beside, beside_kids}
use Rattle.tpl_drawn.proofs.Compares.Tops.{kept_siblings}
use Rattle.tpl_drawn.proofs.Compares.WalkMarks.{Rules, walk}

-- what a node of a part has in the whole
kids_there : (whole : Forest Look) (a : ℕ) (x : Look) (k : Forest Look) → Within whole (node a x k none) → kids a whole ≡ k
kids_there whole a x k w = (let here : (a == a) ≡ true = eq-eqb a a refl in w.kids_there a (self_on a x k none) ∙ rw here refl)

look_there : (whole : Forest Look) (a : ℕ) (x : Look) (k : Forest Look) → Within whole (node a x k none) → label_in Root a whole ≡ x
look_there whole a x k w = (let here : (a == a) ≡ true = eq-eqb a a refl in w.look_there a (self_on a x k none) ∙ rw here refl)

-- ---- marks for the children

one_touched : (p : NumberedPage) (new : Forest Look) (a : ℕ) (x x' : Look) (k k' : Forest Look) (keeps : Bool) (below : List Marked) →
    Half (page_shape p) new (node a x k none) (node a x' k' none) → (keeps ≡ true → siblings k ≡ siblings k') →
    Covered (page_shape p) (IsTouched p new) (SameChildren (page_shape p) new) k' below →
    Covered (page_shape p) (IsTouched p new) (SameChildren (page_shape p) new) (node a x' k' none)
    (marked_unless keeps (Some (number_of p a)) Root (children_in (known_of p) k') below)
one_touched p new a x x' k k' true below h s c =
    covered_bare (page_shape p) (IsTouched p new) (SameChildren (page_shape p) new) a x' k' below
    (ap siblings (kids_there (page_shape p) a x k h.within_old) ∙ (s refl ∙ ap siblings (sym (kids_there new a x' k' h.within_new)))) c
one_touched p new a x x' k k' false below h s c =
    covered_marked (page_shape p) (IsTouched p new) (SameChildren (page_shape p) new) a x' k' below
    (record { number = number_of p a; look = Root; children = children_in (known_of p) k' })
    (h.within_old.there a (self_on a x k none)) (
    record {
      here = h.within_old.there a (self_on a x k none);
      there = h.within_new.there a (self_on a x' k' none);
      number = refl;
      children = ap (children_in (known_of p)) (sym (kids_there new a x' k' h.within_new));
    }) c

touching_rules : (p : NumberedPage) (new : Forest Look) → Rules p new touching touched_part (IsTouched p new) (SameChildren (page_shape p) new)
touching_rules p new = record {
  marks = λ a x k h n e f. record { here = h; there = n; number = refl; children = ap (children_in (known_of p)) (sym e) };
  skip = λ q w v j h. ap siblings (w.kids_there j h ∙ sym (v.kids_there j h));
  step = λ a x x' k k' s keeps below h e f c. one_touched p new a x x' k k' keeps below h f c;
}

-- ---- marks for the look

one_restated : (p : NumberedPage) (new : Forest Look) (a : ℕ) (x x' : Look) (k k' : Forest Look) (s : Bool) (below : List Marked) →
    Half (page_shape p) new (node a x k none) (node a x' k' none) → (s ≡ true → x ≡ x') →
    Covered (page_shape p) (IsRestated p new) (SameLook (page_shape p) new) k' below →
    Covered (page_shape p) (IsRestated p new) (SameLook (page_shape p) new) (node a x' k' none) (marked_unless s (Some (number_of p a)) x' [] below)
one_restated p new a x x' k k' true below h e c =
    covered_bare (page_shape p) (IsRestated p new) (SameLook (page_shape p) new) a x' k' below
    (look_there (page_shape p) a x k h.within_old ∙ (e refl ∙ sym (look_there new a x' k' h.within_new))) c
one_restated p new a x x' k k' false below h e c =
    covered_marked (page_shape p) (IsRestated p new) (SameLook (page_shape p) new) a x' k' below (record { number = number_of p a; look = x'; children = [] })
    (h.within_old.there a (self_on a x k none)) (
    record {
      here = h.within_old.there a (self_on a x k none);
      there = h.within_new.there a (self_on a x' k' none);
      number = refl;
      look = sym (look_there new a x' k' h.within_new);
    }) c

restating_rules : (p : NumberedPage) (new : Forest Look) → Rules p new restating restated_part (IsRestated p new) (SameLook (page_shape p) new)
restating_rules p new = record {
  marks = λ a x k h n e f. record { here = h; there = n; number = refl; look = sym f };
  skip = λ q w v j h. w.look_there j h ∙ sym (v.look_there j h);
  step = λ a x x' k k' s keeps below h e f c. one_restated p new a x x' k k' s below h e c;
}

-- ---- the whole page

-- what is kept now from scratch
on_now : (lines : List Line) (links : List ℕ) (before : Outcomes) (source now : ℕ → Outcome) (was : PageMemo) (p : NumberedPage) (tree : Forest Kind)
    (c : Change) → IsTemplate lines → Agrees before source → Keeps lines links source was p tree → GivesRows (evaluating links now) →
    let m = memo_on lines links now in Tells (block_of lines) links None before m c →
    Compared p (memo_shape lines m) (touched_in (known_of p) (block_of lines) m c) (restated_in (known_of p) (block_of lines) m c)
on_now lines links before source now was p tree c template agrees keeps rows tells =
    let b = block_of lines in
    let old : Forest Look = page_shape p in
    let t : Forest Look = nodes None b (memo_on lines links source) in
    let t' : Forest Look = nodes None b (memo_on lines links now) in
    let new : Forest Look = memo_shape lines (memo_on lines links now) in
    let stood : old ≡ node 0 Root t none = keeps.shape ∙ ap (memo_shape lines) keeps.memo in
    let shape : IsShape new = subst IsShape (sym (shape_shown lines links now)) (shape_law lines (evaluating links now) template rows) in
    let showed : old ≡ shape_on lines links source = stood ∙ shape_shown lines links source in
    let origin : SameOrigin old new = subst (λ z. SameOrigin z new) (sym showed)
    (subst (SameOrigin (shape_on lines links source)) (sym (shape_shown lines links now)) (origin_law lines (evaluating links source) (evaluating links now) template)) in
    let whole : Beside old new (node 0 Root t none) (node 0 Root t' none) = record {
      half = record {
        within_old = subst (Within old) stood (within_whole old);
        single_old = subst Single stood keeps.page.once;
        within_new = within_whole new;
        single_new = shape.once;
      };
      fresh = all_new p new keeps.page shape origin;
    } in
    let below = beside_kids old new 0 Root Root t t' whole in
    let touched = walk p new touching touched_part (IsTouched p new) (SameChildren old new) links before source now (touching_rules p new) agrees b None None None c (λ f. refl) below tells in
    let restated = walk p new restating restated_part (IsRestated p new) (SameLook old new) links before source now (restating_rules p new) agrees b None None None c (λ f. refl) below tells in
    let tops = keeps_nodes b c in
    let marks_below = marked_by touching touched_part (known_of p) None b (memo_on lines links now) c in
    let root = subst (λ z. Covered old (IsTouched p new) (SameChildren old new) (node 0 Root t' none) (marked_unless tops (Some z) Root (children_in (known_of p) t') marks_below))
    (ap (λ (z : Forest (ℕ × Look)). (label_in (0, Root) 0 z).0) keeps.page.rooted.is)
    (one_touched p new 0 Root Root t t' tops marks_below whole.half (λ e. kept_siblings links before source now agrees b None None None c (λ f. refl) tells e) touched) in
    let looks_root = covered_bare old (IsRestated p new) (SameLook old new) 0 Root t' _ (ap (label_in Root 0) stood) restated in
    record {
      children = root.addresses;
      looks = looks_root.addresses;
      are_touched = root.each;
      are_restated = looks_root.each;
      sees = record { children = root.covers; looks = looks_root.covers };
    }

pub compare_law : CompareLaw
compare_law lines links before source now was m p tree c template agrees keeps rows is tells =
    let P : PageMemo → Type 0 = λ z. Tells (block_of lines) links None before z c →
    Compared p (memo_shape lines z) (touched_in (known_of p) (block_of lines) z c) (restated_in (known_of p) (block_of lines) z c) in
    subst P (sym is) (on_now lines links before source now was p tree c template agrees keeps rows) tells
