-- Nodes that are inserted below the root, one behind the other.
use Rattle.std.proofs.Common.{◌≡◌, ◌+◌, ℕ, suc, List, [], ◌∷◌, ◌++◌, length, length-append, map, refl, sym, ap, subst, ◌∙◌, arith, append_assoc}
use Rattle.page_model.specs.Edits.{siblings}
use Rattle.page_model.specs.Forest.{Forest, none, node, after, keys}
use Rattle.page_model.specs.Labels.{Kind, Look, Root, Sound, shown}
use Rattle.page_model.specs.Replay.{Answer, Done, Op, Refused, replay, then_on}
use Rattle.page_model.specs.Trees.{AreNodes}
use Rattle.page_tree.specs.declared.sub.Sub.{Sub}
use Rattle.page_tree.specs.Queries.{IsDone}
use Rattle.page_tree.specs.Subs.{insertion, side_by_side, sub_tree}
use Rattle.page_tree.proofs.Shared.{one_node}
use Rattle.tpl_model.specs.Lines.{Block}
use Rattle.tpl_model.specs.ShownNodes.Shapes.{all_shown}
use Rattle.tpl_model.specs.Sources.{in_order}
use Rattle.tpl_model.specs.declared.shown.Shown.{Shown}
use Rattle.tpl_scratch.specs.Pages.{Numbered, with_nodes}
use Rattle.tpl_model.specs.PageUpdates.PageMemos.{PageMemo}
use Rattle.tpl_live.specs.Pages.{AreInserted, Leads, below_in, inserts, shown_in}
use Rattle.tpl_live.specs.Plans.{AllBring}

-- the first of some nodes
pub first_inserted : (n i : ℕ) (s rest : Forest Kind) → siblings s ≡ n ∷ [] → inserts i (after s rest) ≡ insertion 0 i s ∷ inserts (suc i) rest
first_inserted n i s rest e =
    let w = one_node n s e in
    subst (λ z. inserts i (after z rest) ≡ insertion 0 i z ∷ inserts (suc i) rest) (sym w.2) refl

pub first_done : (a : Answer) (f : Forest Kind → Answer) → IsDone (then_on a f) → IsDone a
first_done (Done t) f h = tt
first_done (Refused why) f h = h

-- what they bring are nodes
pub all_bring : (i : ℕ) (below : Forest Kind) → AreNodes below → AllBring (inserts i below)
all_bring i none are = tt
all_bring i (node n x k r) are = ((are.0, are.1, tt), all_bring (suc i) r are.2)

-- ---- as operations

pub one_longer : {A : Type 0} (before now : List A) (o : A) → now ≡ before ++ o ∷ [] → length before + 1 ≡ length now
one_longer before now o e =
    let h = length-append before (o ∷ []) in
    let g = ap length e in
    omega (arith, h, g)

-- one more behind those before
pub one_written : (before : List Op) (now : List Op) (o : Op) (i n : ℕ) (s rest all : Forest Kind) → now ≡ before ++ o ∷ [] → o ≡ insertion 0 i s →
    siblings s ≡ n ∷ [] → before ++ inserts i (after s rest) ≡ inserts 0 all → now ++ inserts (i + 1) rest ≡ inserts 0 all
one_written before now o i n s rest all e f one h =
    let g : i + 1 ≡ suc i = omega arith in
    ap (λ z. z ++ inserts (i + 1) rest) (e ∙ ap (λ z. before ++ z ∷ []) f)
    ∙ (append_assoc before (insertion 0 i s ∷ []) (inserts (i + 1) rest)
    ∙ (ap (λ z. before ++ (insertion 0 i s ∷ inserts z rest)) g ∙ (ap (λ z. before ++ z) (sym (first_inserted n i s rest one)) ∙ h)))

-- ---- the first tree

-- nodes that lines show, put to none, from number 1 on
pub record PutFirst (b : Block) (m : PageMemo) (looks : Forest Look) (subs : List Sub) (next : ℕ) : Type 0 where
  pub drawn : looks ≡ shown_in b m
  pub nodes : side_by_side (map sub_tree subs) ≡ below_in b m
  pub count : next ≡ 1 + length (keys (shown_in b m))

pub put_first : (b : Block) (m : PageMemo) (before : List Shown) (looks : Forest Look) (subs : List Sub) (next : ℕ) (start : Numbered) → before ≡ [] →
    looks ≡ after (all_shown before) (shown_in b m) → Sound (shown_in b m) → start ≡ record { nodes = none; next = 1 } →
    (Sound looks → record { nodes = side_by_side (map sub_tree subs); next = next } ≡ with_nodes start looks) → PutFirst b m looks subs next
put_first b m before looks subs next start none_before are sound e put =
    let is : looks ≡ shown_in b m = are ∙ ap (λ z. after (all_shown z) (shown_in b m)) none_before in
    let all : record { nodes = side_by_side (map sub_tree subs); next = next } ≡ with_nodes (record { nodes = none; next = 1 }) (shown_in b m) =
    put (subst (λ (z : Forest Look). Sound z) (sym is) sound) ∙ (λ i. with_nodes (e i) (is i)) in
    record { drawn = is; nodes = ap (λ (z : Numbered). z.nodes) all; count = ap (λ (z : Numbered). z.next) all }

many_in_order : (n : ℕ) (t : Forest Look) → length (keys (shown (in_order n t))) ≡ length (keys t)
many_in_order n none = refl
many_in_order n (node a x k r) =
    let later = suc n + length (keys k) in
    let i = many_in_order (suc n) k in
    let j = many_in_order later r in
    let u = length-append (keys (shown (in_order (suc n) k))) (keys (shown (in_order later r))) in
    let v = length-append (keys k) (keys r) in
    omega (arith, i, j, u, v)

-- the tree has a number for each of these nodes, and for the root
pub many_inserted : (b : Block) (m : PageMemo) (looks : Forest Look) (tree : Forest Kind) → looks ≡ shown_in b m → tree ≡ node 0 Root (below_in b m) none →
    length (keys looks) + 1 ≡ length (keys tree)
many_inserted b m looks tree is e =
    let a = ap (λ (z : Forest Look). length (keys z)) is in
    let t = ap (λ (z : Forest Kind). length (keys z)) e in
    let n = many_in_order 1 (shown_in b m) in
    let u = length-append (keys (below_in b m)) [] in
    omega (arith, a, t, n, u)

-- nodes that can be inserted lead somewhere
pub below_leads : (below tree : Forest Kind) → AreInserted below → tree ≡ node 0 Root none none → Leads (inserts 0 below) tree
below_leads below tree are e = subst IsDone (sym (ap (replay (inserts 0 below)) e ∙ are.leads)) tt

-- and this is the tree
pub below_is : (below tree now : Forest Kind) → AreInserted below → tree ≡ node 0 Root none none → replay (inserts 0 below) tree ≡ Done now →
    now ≡ node 0 Root below none
below_is below tree now are e led = done_inj (sym led ∙ (ap (replay (inserts 0 below)) e ∙ are.leads))
  where
    tree_in : Answer → Forest Kind
    tree_in (Done t) = t
    tree_in (Refused why) = none

    done_inj : {t u : Forest Kind} → Done t ≡ Done u → t ≡ u
    done_inj h = ap tree_in h
