-- The operations of a page that comes up to date, in the terms of the code.
use Rattle.std.proofs.Common.{◌≡◌, ℕ, ◌+◌, ◌<◌, Bool, Option, List, [], ◌∷◌, ◌++◌, append_assoc, drop, get_or, length, map, refl, sym, ap, subst, ◌∙◌, arith}
use Rattle.std.specs.List.{flat_map}
use Rattle.std.specs.List.Sorted.{IsNonDecreasingBy}
use Rattle.std.proofs.lemmas.List.{drop_more, length-map}
use Rattle.page_model.specs.Edits.{ascending, listed}
use Rattle.page_model.specs.Forest.{Forest, none}
use Rattle.page_model.specs.Labels.{Kind, Look}
use Rattle.page_model.specs.Pages.{NumberedPage, new_order, renumbered, tree_of}
use Rattle.page_model.specs.Replay.{Answer, Done, Op, OpRemove, Refused, do_op, replay, then_on}
use Rattle.page_model.specs.Trees.{Brings}
use Rattle.page_tree.specs.Queries.{IsDone}
use Rattle.tpl_model.specs.KeptLines.Changes.{Change}
use Rattle.tpl_model.specs.NextPage.Lookups.{gone_numbers}
use Rattle.tpl_patch.specs.Attributes.{mark_told}
use Rattle.tpl_drawn.specs.Addresses.{coming_below}
use Rattle.tpl_model.specs.Lines.{Block}
use Rattle.tpl_patch.specs.Moves.{AllFit, moved_between, number_behind}
use Rattle.tpl_model.specs.ShownNodes.Addresses.{address_of}
use Rattle.tpl_model.specs.ShownNodes.Shapes.{Marked, mark_of}
use Rattle.tpl_model.specs.declared.mark.Mark.{Mark}
use Rattle.tpl_model.specs.declared.shown.Address.{Address}
use Rattle.tpl_model.specs.PageUpdates.PageMemos.{PageMemo}
use Rattle.tpl_live.specs.Pages.{lines_shape}
use Rattle.tpl_live.specs.Plans.{AllBring, Compares, LeadOn, children_staying, numbers_of, ops_towards}
use Rattle.tpl_live.proofs.Inserted.{first_done}
use Rattle.tpl_live.proofs.Operated.{Operate, lead_on}
use Rattle.tpl_live.proofs.Orders.{Rising, rising}

-- ---- the list of operations

pub planned : (tree next_tree : Forest Kind) (ts rs : List Marked) (kept : ℕ → Bool) (ps cs : List ℕ) (a b c : List Op) →
    ((n : ℕ) → kept n ≡ listed n cs) → ps ≡ numbers_of ts → cs ≡ children_staying ts → a ≡ map OpRemove (ascending (flat_map (gone_numbers kept tree) ps)) →
    b ≡ a ++ moved_between tree next_tree ts → c ≡ b ++ flat_map (mark_told tree) rs → c ≡ ops_towards tree next_tree ts rs
planned tree next_tree ts rs kept ps cs a b c tells parents children removed moved told =
    let k : kept ≡ (λ n. listed n (children_staying ts)) = (λ i n. (tells n ∙ ap (listed n) children) i) in
    let r : a ≡ map OpRemove (ascending (flat_map (gone_numbers (λ n. listed n (children_staying ts)) tree) (numbers_of ts))) =
    removed ∙ (λ i. map OpRemove (ascending (flat_map (gone_numbers (k i) tree) (parents i)))) in
    told ∙ ap (λ z. z ++ flat_map (mark_told tree) rs) (moved ∙ ap (λ z. z ++ moved_between tree next_tree ts) r)

-- what is put for the next of a list, behind what was put for those before it
pub one_more : {A B : Type 0} (f : A → List B) (x : A) (xs rest : List A) (all before after : List B) → xs ≡ x ∷ rest → after ≡ before ++ f x →
    before ++ flat_map f xs ≡ all → after ++ flat_map f rest ≡ all
one_more f x xs rest all before after e put h =
    ap (λ z. z ++ flat_map f rest) put ∙ (append_assoc before (f x) (flat_map f rest) ∙ (sym (ap (λ z. before ++ flat_map f z) e) ∙ h))

-- ---- marks in order

numbers_map : (ms : List Mark) → numbers_of (map mark_of ms) ≡ map (λ (m : Mark). m.number) ms
numbers_map [] = refl
numbers_map (m ∷ ms) = ap (λ z. m.number ∷ z) (numbers_map ms)

pub sorted_marks : (ms : List Mark) → IsNonDecreasingBy (λ (m : Mark). m.number) ms → Rising (numbers_of (map mark_of ms))
sorted_marks ms h = subst Rising (sym (numbers_map ms)) (rising (λ (m : Mark). m.number) ms h)

pub compared_so : (p : NumberedPage) (b : Block) (m : PageMemo) (c : Change) (number : Address → Option ℕ) (tree : Forest Kind) (next : ℕ)
    (ts rs : List Marked) (os : List Op) (n : ℕ) → Compares p b m c number tree next → Operate p (lines_shape b m) ts rs →
    ((after : Forest Kind) → AllFit tree next ts after → os ≡ ops_towards tree after ts rs) → n ≡ number_behind next ts →
    LeadOn p (lines_shape b m) os n
compared_so p b m c number tree next ts rs os n h o plan count =
    let shape = lines_shape b m in
    let after = tree_of (renumbered p shape) in
    lead_on p shape ts rs os n h.page h.formed o
    (plan after (subst (λ z. AllFit z next ts after) (sym h.stands) (subst (λ z. AllFit (tree_of p) z ts after) (sym h.count) o.fits))
    ∙ ap (λ z. ops_towards z after ts rs) h.stands)
    (count ∙ ap (λ z. number_behind z ts) h.count)

-- what comes has the numbers from the next unused one on
pub many_come : (p : NumberedPage) (shape : Forest Look) (ts rs : List Marked) (next n : ℕ) (coming : List Address) → next ≡ p.next → Operate p shape ts rs →
    n ≡ number_behind next ts → map address_of coming ≡ coming_below ts → n ≡ next + length coming
many_come p shape ts rs next n coming count o is come =
    let a : n ≡ p.next + length (new_order p shape) = is ∙ (ap (λ z. number_behind z ts) count ∙ o.next) in
    let b : length coming ≡ length (new_order p shape) = sym (length-map coming address_of) ∙ ap length (come ∙ o.order) in
    omega (arith, a, b, count)

-- ---- operations one after the other

-- what is left to do leads where all leads
pub record ToDo (os : List Op) (tree : Forest Kind) (last : Answer) : Type 0 where
  pub leads : replay os tree ≡ last
  pub brings : AllBring os

-- the next operation can be done
pub record CanDo (o : Op) (tree : Forest Kind) : Type 0 where
  pub brings : Brings o
  pub fits : IsDone (do_op o tree)

pub left_split : {A B : Type 0} (f : A → B) (xs : List A) (i : ℕ) (x : A) → i < length xs → x ≡ get_or xs i x → map f (drop i xs) ≡ f x ∷ map f (drop (i + 1) xs)
left_split f xs i x lt is = ap (map f) (drop_more xs i x lt ∙ ap (λ z. z ∷ drop (i + 1) xs) (sym is))

pub next_fits : (os rest : List Op) (o : Op) (tree : Forest Kind) (last : Answer) → os ≡ o ∷ rest → ToDo os tree last → IsDone last → CanDo o tree
next_fits os rest o tree last e t done = record {
  brings = (subst AllBring e t.brings).0;
  fits = first_done (do_op o tree) (replay rest) (subst (λ z. IsDone (replay z tree)) e (subst IsDone (sym t.leads) done));
}

pub next_done : (os rest : List Op) (o : Op) (tree now : Forest Kind) (last : Answer) → os ≡ o ∷ rest → ToDo os tree last → do_op o tree ≡ Done now → ToDo rest now last
next_done os rest o tree now last e t did = record {
  leads = sym (ap (λ z. then_on z (replay rest)) did) ∙ (sym (ap (λ z. replay z tree) e) ∙ t.leads);
  brings = (subst AllBring e t.brings).1;
}

pub all_done : (os : List Op) (tree : Forest Kind) (last : Answer) → os ≡ [] → ToDo os tree last → last ≡ Done tree
all_done os tree last e t = sym t.leads ∙ ap (λ z. replay z tree) e

-- ---- where they lead

-- the operations can be done
pub leads_there : (p : NumberedPage) (shape : Forest Look) (tree : Forest Kind) (os : List Op) (next : ℕ) → tree ≡ tree_of p → LeadOn p shape os next → IsDone (replay os tree)
leads_there p shape tree os next e l = subst IsDone (sym (ap (replay os) e ∙ l.replays)) tt

tree_in : Answer → Forest Kind
tree_in (Done t) = t
tree_in (Refused why) = none

-- and this is the tree then
pub tree_there : (p : NumberedPage) (shape : Forest Look) (tree now : Forest Kind) (os : List Op) (next : ℕ) → tree ≡ tree_of p → LeadOn p shape os next →
    replay os tree ≡ Done now → now ≡ tree_of (renumbered p shape)
unfolding tree_in
tree_there p shape tree now os next e l done = ap tree_in (sym done ∙ (ap (replay os) e ∙ l.replays))
