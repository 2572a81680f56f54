-- Where the operations lead, in the terms of the code.
use Rattle.std.proofs.Common.{◌≡◌, ℕ, ◌+◌, List, length, map, Option, sym, subst}
use Rattle.page_model.specs.Forest.{Forest, keys}
use Rattle.page_model.specs.Labels.{Kind}
use Rattle.page_model.specs.Pages.{IsPage, NumberedPage, new_order, page_shape, renumbered, tree_of}
use Rattle.page_model.specs.Replay.{Done, Op, replay}
use Rattle.page_model.proofs.Shared.{page_after, shape_after}
use Rattle.tpl_model.specs.KeptLines.Changes.{Change}
use Rattle.tpl_drawn.specs.Addresses.{noted_from}
use Rattle.tpl_drawn.specs.Lines.{lined_from}
use Rattle.tpl_model.specs.Lines.{Block}
use Rattle.tpl_model.specs.ShownNodes.Addresses.{address_of}
use Rattle.tpl_model.specs.declared.shown.Address.{Address}
use Rattle.tpl_model.specs.PageUpdates.PageMemos.{PageMemo}
use Rattle.tpl_live.specs.Pages.{AreKnown, AreLined, lines_shape, shown_in}
use Rattle.tpl_live.specs.Plans.{Carries, Compares, LeadOn}
use Rattle.tpl_live.proofs.Followed.{follows}
use Rattle.tpl_live.proofs.Lined.{lined_next}
use Rattle.tpl_live.proofs.Numbered.{many_there}
use Rattle.tpl_live.proofs.Planned.{tree_there}

-- the tree that the operations led to is that of the next page
pub tree_now : (p : NumberedPage) (b : Block) (m : PageMemo) (c : Change) (number : Address → Option ℕ) (tree now : Forest Kind) (before : ℕ) (os : List Op)
    (next : ℕ) → Compares p b m c number tree before → LeadOn p (lines_shape b m) os next → replay os tree ≡ Done now →
    now ≡ tree_of (renumbered p (lines_shape b m))
tree_now p b m c number tree now before os next h l done = tree_there p (lines_shape b m) tree now os next h.stands l done

-- it has a number for each node that is shown and for the root
pub many_now : (p : NumberedPage) (b : Block) (m : PageMemo) (c : Change) (number : Address → Option ℕ) (tree now : Forest Kind) (before : ℕ) (os : List Op)
    (next : ℕ) → Compares p b m c number tree before → LeadOn p (lines_shape b m) os next → replay os tree ≡ Done now →
    length (keys (shown_in b m)) + 1 ≡ length (keys now)
many_now p b m c number tree now before os next h l done =
    many_there (renumbered p (lines_shape b m)) (shown_in b m) now (page_after p (lines_shape b m) h.page h.formed) (shape_after p (lines_shape b m))
    (tree_now p b m c number tree now before os next h l done)

-- what is noted of the next page once what came was noted
pub carried_on : (p : NumberedPage) (b : Block) (m : PageMemo) (c : Change) (number known : Address → Option ℕ) (tree now : Forest Kind) (before : ℕ)
    (os : List Op) (next : ℕ) (coming : List Address) → Compares p b m c number tree before → LeadOn p (lines_shape b m) os next → replay os tree ≡ Done now →
    map address_of coming ≡ new_order p (lines_shape b m) →
    ((q : NumberedPage) → IsPage q → page_shape q ≡ lines_shape b m → now ≡ tree_of q → AreKnown q now (noted_from coming before number) → AreKnown q now known) →
    Carries p (lines_shape b m) os next now known
carried_on p b m c number known tree now before os next coming h l done order renumbers =
    let shape = lines_shape b m in
    let r = renumbered p shape in
    let trees = tree_now p b m c number tree now before os next h l done in
    let old : AreKnown p (tree_of p) number = subst (λ z. AreKnown p z number) h.stands h.known in
    let all : AreKnown r (tree_of r) (noted_from coming p.next number) = follows p shape coming number h.page h.formed h.origin order old in
    record {
      leads = l;
      stands = trees;
      known = renumbers r (page_after p shape h.page h.formed) (shape_after p shape) trees
          (subst (λ z. AreKnown r z (noted_from coming before number)) (sym trees)
          (subst (λ z. AreKnown r (tree_of r) (noted_from coming z number)) (sym h.count) all));
    }

-- the lines of its nodes, likewise
pub lined_on : (p : NumberedPage) (b : Block) (m : PageMemo) (c : Change) (number : Address → Option ℕ) (before_line line : ℕ → Option ℕ) (tree now : Forest Kind)
    (before : ℕ) (os : List Op) (next : ℕ) (coming : List Address) → Compares p b m c number tree before → LeadOn p (lines_shape b m) os next →
    replay os tree ≡ Done now → map address_of coming ≡ new_order p (lines_shape b m) →
    ((q : NumberedPage) → IsPage q → page_shape q ≡ lines_shape b m → now ≡ tree_of q → AreLined q (lined_from coming before before_line) → AreLined q line) →
    AreLined p before_line → AreLined (renumbered p (lines_shape b m)) line
lined_on p b m c number before_line line tree now before os next coming h l done order renumbers old =
    let shape = lines_shape b m in
    let r = renumbered p shape in
    let trees = tree_now p b m c number tree now before os next h l done in
    renumbers r (page_after p shape h.page h.formed) (shape_after p shape) trees
    (subst (λ z. AreLined r (lined_from coming z before_line)) (sym h.count) (lined_next p shape coming before_line h.page h.formed order old))
