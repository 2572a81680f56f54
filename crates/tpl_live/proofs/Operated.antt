-- The operations that are read off by marks are the edits between the two pages, and lead from the one tree to the other.
use Rattle.std.proofs.Common.{◌≡◌, ℕ, Bool, Option, List, [], ◌∷◌, ◌++◌, map, refl, sym, ap, subst, ◌∙◌, arith}
use Rattle.std.specs.List.{flat_map}
use Rattle.std.specs.List.Sorted.{IsPermutation}
use Rattle.page_model.specs.Edits.{ascending, listed}
use Rattle.page_model.specs.Forest.{Forest, kids, label_in, on}
use Rattle.page_model.specs.Labels.{Root, Kind, Look, Sound}
use Rattle.page_model.specs.Pages.{IsPage, IsShape, NumberedPage, SameOrigin, ascending_by, edits_between, new_order, newcomers, number_of, page_shape, renumbered, tree_of}
use Rattle.page_model.specs.Replay.{Done, Op, OpAttr, OpInsert, OpMove, OpRemove, OpText, OpUnattr, replay}
use Rattle.page_model.specs.Texts.{AreWritable, IsWritable}
use Rattle.page_model.specs.Trees.{Brings}
use Rattle.page_model.proofs.Shared.{edits_writable}
use Rattle.tpl_drawn.specs.Comparison.{Compared, Each, IsRestated, IsTouched, known_of, restated_in, touched_in}
use Rattle.tpl_model.specs.KeptLines.Changes.{Change}
use Rattle.tpl_model.specs.NextPage.Children.{children_moved, next_children}
use Rattle.tpl_model.specs.NextPage.Operations.{children_done, look_done, operations}
use Rattle.tpl_model.specs.NextPage.Lookups.{gone_numbers}
use Rattle.tpl_model.specs.NextPage.Marks.{Sees}
use Rattle.tpl_model.specs.NextPage.KeptNodes.{told_on}
use Rattle.tpl_model.specs.NextPage.Updates.{is_kept}
use Rattle.tpl_model.proofs.Shared.{kept_law, marks_law, operations_law}
use Rattle.tpl_patch.specs.Attributes.{mark_told}
use Rattle.tpl_drawn.specs.Marks.{Knows}
use Rattle.tpl_drawn.specs.Addresses.{among, coming_below}
use Rattle.tpl_model.specs.Lines.{Block}
use Rattle.tpl_patch.specs.Moves.{AllFit, AllSound, moved_between, number_behind}
use Rattle.tpl_model.specs.ShownNodes.Shapes.{Marked}
use Rattle.tpl_model.specs.declared.shown.Address.{Address}
use Rattle.tpl_model.specs.PageUpdates.PageMemos.{PageMemo}
use Rattle.tpl_live.specs.Pages.{lines_shape}
use Rattle.tpl_live.specs.Plans.{AllBring, Compares, LeadOn, children_staying, moving, numbers_of, ops_towards}
use Rattle.tpl_live.proofs.Matched.{all_come, all_fit, all_sound, kids_next}
use Rattle.tpl_live.proofs.LeftOut.{covers_left, each_left, rising_left}
use Rattle.tpl_live.proofs.Orders.{Rising, address_in, moved_so, numbers_so, restated_marks, sees_so, stays_sorted, touched_marks}
use Rattle.tpl_live.proofs.Survivors.{gone_alike, staying_alike}

moves_so : (p : NumberedPage) (shape : Forest Look) (ws : List ℕ) (ms : List Marked) → IsPage p → IsShape shape → Each (IsTouched p shape) ws ms →
    flat_map (children_done p shape) ws ≡ moved_between (tree_of p) (tree_of (renumbered p shape)) ms
moves_so p shape [] [] q s h = refl
moves_so p shape (a ∷ ws) (m ∷ ms) q s h =
    let at = h.0 in
    let after = tree_of (renumbered p shape) in
    let kn : kids m.number after ≡ next_children p shape a = ap (λ z. kids z after) at.number ∙ kids_next p shape a q s at.here at.there in
    let one : children_done p shape a ≡ children_moved (tree_of p) m.number (kids m.number after) =
    (λ i. children_moved (tree_of p) (sym at.number i) (sym kn i)) in
    (λ i. one i ++ moves_so p shape ws ms q s h.1 i)
moves_so p shape [] (m ∷ ms) q s h = absurd h
moves_so p shape (a ∷ ws) [] q s h = absurd h

looks_so : (p : NumberedPage) (shape : Forest Look) (ws : List ℕ) (ms : List Marked) → Each (IsRestated p shape) ws ms →
    flat_map (look_done p shape) ws ≡ flat_map (mark_told (tree_of p)) ms
looks_so p shape [] [] h = refl
looks_so p shape (a ∷ ws) (m ∷ ms) h =
    let at = h.0 in
    let one : look_done p shape a ≡ mark_told (tree_of p) m =
    (λ i. told_on (sym at.number i) (label_in Root (sym at.number i) (tree_of p)) (sym at.look i)) in
    (λ i. one i ++ looks_so p shape ws ms h.1 i)
looks_so p shape [] (m ∷ ms) h = absurd h
looks_so p shape (a ∷ ws) [] h = absurd h

-- What is known of the marks of nodes whose children may differ and of those that may say something else: what comes is sound and has the next
-- numbers, and the operations are the edits, which lead to the next tree.
pub record Operate (p : NumberedPage) (shape : Forest Look) (touched restated : List Marked) : Type 0 where
  pub sound : AllSound touched
  pub fits : AllFit (tree_of p) p.next touched (tree_of (renumbered p shape))
  pub next : number_behind p.next touched ≡ (renumbered p shape).next
  pub order : coming_below touched ≡ new_order p shape
  pub edits : edits_between p (renumbered p shape) ≡ ops_towards (tree_of p) (tree_of (renumbered p shape)) touched restated
  pub replays : replay (ops_towards (tree_of p) (tree_of (renumbered p shape)) touched restated) (tree_of p) ≡ Done (tree_of (renumbered p shape))

pub operate : (p : NumberedPage) (shape : Forest Look) (ts0 rs0 all rs : List Marked) → IsPage p → Sound (page_shape p) → IsShape shape →
    SameOrigin (page_shape p) shape → Compared p shape ts0 rs0 → IsPermutation ts0 all → IsPermutation rs0 rs → Rising (numbers_of all) →
    Rising (numbers_of rs) → Operate p shape (moving (tree_of p) all) rs
operate p shape ts0 rs0 all rs q snd s so cmp ts_moved rs_moved all_up rs_up =
    let ts = moving (tree_of p) all in
    let old = page_shape p in
    let num = number_of p in
    let kept : ℕ → Bool = is_kept p shape in
    let staying : ℕ → Bool = λ n. listed n (children_staying ts) in
    let cs = map (address_in p) ts in
    let ls = map (address_in p) rs in
    let ct_all = moved_so p (IsTouched p shape) cmp.children ts0 all q (touched_marks p shape) cmp.are_touched ts_moved in
    let at : Each (IsTouched p shape) cs ts = each_left p (IsTouched p shape) (tree_of p) all ct_all.at in
    let cr = moved_so p (IsRestated p shape) cmp.looks rs0 rs q (restated_marks p shape) cmp.are_restated rs_moved in
    let sees_all = sees_so old shape (map (address_in p) all) cmp.children ls cmp.looks ct_all.often cr.often cmp.sees in
    let sees : Sees old shape shape cs ls = record { children = covers_left p shape all q ct_all.at sees_all.children; looks = sees_all.looks } in
    let nums : map num cs ≡ numbers_of ts = numbers_so p (IsTouched p shape) cs ts (touched_marks p shape) at in
    let told_nums : map num ls ≡ numbers_of rs = numbers_so p (IsRestated p shape) ls rs (restated_marks p shape) cr.at in
    let sorted : ascending_by num cs ≡ cs = stays_sorted num cs (subst Rising (sym nums) (rising_left (tree_of p) all all_up)) in
    let told_sorted : ascending_by num ls ≡ ls = stays_sorted num ls (subst Rising (sym told_nums) rs_up) in
    let alike = staying_alike p shape kept cs ts q s so (kept_law p shape q) at sees.children.there in
    let leads = operations_law p shape kept cs ls q snd s so (kept_law p shape q) sees in
    let gives = marks_law p shape cs ls q s so sees in
    let order = gives.order ∙ ap (flat_map (λ a. newcomers (λ c. on c old) (kids a shape))) sorted in
    let fit = all_fit p shape [] cs ts p.next q s so at order (omega arith) in
    let gone = ap (λ z. map OpRemove (ascending z)) (gone_alike p kept staying cs q alike ∙ ap (flat_map (gone_numbers staying (tree_of p))) nums) in
    let moves = ap (flat_map (children_done p shape)) sorted ∙ moves_so p shape cs ts q s at in
    let told = ap (flat_map (look_done p shape)) told_sorted ∙ looks_so p shape ls rs cr.at in
    let same : operations p shape kept cs ls ≡ ops_towards (tree_of p) (tree_of (renumbered p shape)) ts rs = (λ i. (gone i ++ moves i) ++ told i) in
    record {
      sound = all_sound p shape cs ts s.sound at;
      fits = fit.0;
      next = fit.1;
      order = all_come p shape cs ts at ∙ sym order;
      edits = leads.edits ∙ same;
      replays = ap (λ z. replay z (tree_of p)) (sym same) ∙ leads.replays;
    }

-- ---- in the terms of the code

-- each edit brings nodes
all_bring : (os : List Op) → AreWritable os → AllBring os
all_bring [] h = tt
all_bring (o ∷ os) h = (brings_one o h.0, all_bring os h.1)
  where
    brings_one : (o : Op) → IsWritable o → Brings o
    brings_one (OpRemove n) w = tt
    brings_one (OpInsert p i n x k) w = w.1
    brings_one (OpMove n i) w = tt
    brings_one (OpText n t) w = tt
    brings_one (OpAttr n i name value) w = tt
    brings_one (OpUnattr n name) w = tt

-- the page and what is kept of its lines next, with marks by what is known of the page's numbers
pub compare : (p : NumberedPage) (b : Block) (m : PageMemo) (c : Change) (number : Address → Option ℕ) (tree : Forest Kind) (next : ℕ)
    (all ts rs : List Marked) → Compares p b m c number tree next →
    ((known : ℕ → Option ℕ) → Knows (among tree number) known → IsPermutation (touched_in known b m c) all) →
    ((known : ℕ → Option ℕ) → Knows (among tree number) known → IsPermutation (restated_in known b m c) rs) → Rising (numbers_of all) →
    Rising (numbers_of rs) → ts ≡ moving tree all → Operate p (lines_shape b m) ts rs
compare p b m c number tree next all ts rs h touched restated all_up rs_up left =
    subst (λ z. Operate p (lines_shape b m) z rs) (sym (left ∙ ap (λ z. moving z all) h.stands))
    (operate p (lines_shape b m) (touched_in (known_of p) b m c) (restated_in (known_of p) b m c) all rs h.page h.sound h.formed h.origin h.compared
    (touched (known_of p) h.known.knows) (restated (known_of p) h.known.knows) all_up rs_up)

pub lead_on : (p : NumberedPage) (shape : Forest Look) (ts rs : List Marked) (os : List Op) (next : ℕ) → IsPage p → IsShape shape → Operate p shape ts rs →
    os ≡ ops_towards (tree_of p) (tree_of (renumbered p shape)) ts rs → next ≡ number_behind p.next ts → LeadOn p shape os next
lead_on p shape ts rs os next q s o e n = record {
  edits = o.edits ∙ sym e;
  replays = ap (λ z. replay z (tree_of p)) e ∙ o.replays;
  brings = subst AllBring (o.edits ∙ sym e) (all_bring (edits_between p (renumbered p shape)) (edits_writable p shape q s));
  count = n ∙ o.next;
}
