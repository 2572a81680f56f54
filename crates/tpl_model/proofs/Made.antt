-- Pages that are made from a template, step by step.
use Rattle.std.proofs.Common.{◌≡◌, ℕ, ◌==◌, true, false, sym, subst, eqb-true, inl, inr, List, None}
use Rattle.std.proofs.lemmas.Bool.{cases_Bool, false≢true}
use Rattle.page_model.specs.Forest.{Forest, none, node, on, parent, label_in}
use Rattle.page_model.specs.Labels.{Root, Look, Alike}
use Rattle.page_model.specs.Pages.{IsPage, NumberedPage, SameOrigin, bare, edits_between, renumbered, page_shape, tree_of}
use Rattle.page_model.specs.Replay.{Done, replay}
use Rattle.page_model.proofs.Shared.{bare_page, page_after, replay_leads, shape_after}
use Rattle.tpl_model.specs.Lines.{Line, block_of}
use Rattle.tpl_model.specs.Shapes.{Evaluating, shape_of, shown_lines}
use Rattle.tpl_model.specs.Laws.{IsTemplate, GivesRows, IsMade, begun, carried_on}
use Rattle.tpl_model.proofs.Shaped.{shape_law}
use Rattle.tpl_model.proofs.Origins.{From, Each, given, root_parent, origin_law}

abbrev alone : Forest Look
alone = node 0 Root none none

only_root : (a : ℕ) → on a alone ≡ true → 0 ≡ a
only_root a h = elim (cases_Bool (0 == a)) [
  | inl e ↦ eqb-true 0 a e
  | inr e ↦ absurd (false≢true (rw e at h))
]

-- a page that is made from a template is a page
pub is_page : (lines : List Line) (old : NumberedPage) → IsTemplate lines → IsMade lines old → IsPage old
is_page lines _ f begun = bare_page
is_page lines _ f (carried_on {p = p} evaluate g m) = page_after p (shape_of evaluate lines) (is_page lines p f m)
    (shape_law lines evaluate f g)

bare_origin : (lines : List Line) (evaluate : Evaluating) → SameOrigin (page_shape bare) (shape_of evaluate lines)
bare_origin lines evaluate =
    let t = (shown_lines evaluate lines).nodes in
    let whole : Forest Look = node 0 Root t none in
    let v : Each (From (block_of lines) None 0) 0 t = given evaluate (block_of lines) false None 0 in
    record {
      parents = λ a h i. (let q = only_root a h in subst (λ j. parent j alone ≡ parent j whole) q (sym (root_parent
          (block_of lines) t v)));
      lines = λ a h i. (let q = only_root a h in subst (λ j. Alike (label_in Root j alone) (label_in Root j whole)) q tt);
    }

-- a page that is made from a template has one origin with each shape of it
pub origin : (lines : List Line) (old : NumberedPage) (evaluate : Evaluating) → IsTemplate lines → IsMade lines old →
    SameOrigin (page_shape old) (shape_of evaluate lines)
origin lines _ evaluate f begun = bare_origin lines evaluate
origin lines _ evaluate f (carried_on {p = p} earlier g m) =
    subst (λ s. SameOrigin s (shape_of evaluate lines)) (sym (shape_after p (shape_of earlier lines)))
    (origin_law lines earlier evaluate f)

-- the replay law for the pages of a template
pub replays : (lines : List Line) (old : NumberedPage) (evaluate : Evaluating) → IsTemplate lines → IsMade lines old →
    GivesRows evaluate →
    replay (edits_between old (renumbered old (shape_of evaluate lines))) (tree_of old) ≡ Done (tree_of (renumbered old
    (shape_of evaluate lines)))
replays lines old evaluate f m g = replay_leads old (shape_of evaluate lines) (is_page lines old f m) (shape_law lines evaluate f g)
    (origin lines old evaluate f m)
