-- A page that is mounted: what is made from scratch, with the numbers of document order.
use Rattle.std.proofs.Common.{◌≡◌, ℕ, suc, ◌+◌, ◌≤◌, ◌==◌, true, false, refl, sym, ap, subst, ◌∙◌, arith, eqb-true, inl, inr, List, [], ◌∷◌, ◌++◌, append-nil, length, length-append, None}
use Rattle.std.proofs.lemmas.Bool.{cases_Bool}
use Rattle.sig_base.specs.declared.value.Outcome.{Outcome}
use Rattle.page_model.specs.Edits.{child_edits, listed, put_at}
use Rattle.page_model.specs.Forest.{Forest, none, node, keys, kids, numbered, on, tally}
use Rattle.page_model.specs.Labels.{Root, Kind, Look, Sound, seen, shown}
use Rattle.page_model.specs.Pages.{IsPage, bare, by_number, carried, edits_between, new_order, newcomers, page_shape, tree_of, with_numbers}
use Rattle.page_model.proofs.Shared.{on_tally, by_number_with}
use Rattle.page_model.specs.Replay.{Done, OpInsert, replay}
use Rattle.tpl_model.specs.Laws.{GivesRows, IsTemplate}
use Rattle.tpl_model.specs.Lines.{Line, block_of}
use Rattle.tpl_model.specs.Shapes.{shown_lines}
use Rattle.tpl_model.specs.Sources.{evaluating, in_order}
use Rattle.tpl_model.proofs.Shared.{scratch_law, shape_law, in_both, mount_law, shape_shown, newcomers_all}
use Rattle.tpl_model.specs.PageUpdates.PageMemos.{PageMemo, nodes}
use Rattle.tpl_model.specs.PageUpdates.Updates.{Keeps, Mounted, memo_on, memo_shape, next_page, shape_on}
use Rattle.tpl_live.specs.Pages.{Standing, inserts, numbered_as, page_in, shape_in}

-- ---- numbers

-- the numbers of a tree are found again at the places of its nodes
pub numbers_back : (num : ℕ → ℕ) (xs : Forest Look) → numbered_as xs (shown (by_number (with_numbers num xs))) ≡ with_numbers num xs
numbers_back num none = refl
numbers_back num (node a x k r) = (λ i. node a (num a, x) (numbers_back num k i) (numbers_back num r i))

-- ---- insertions

put_last : (ns : List ℕ) (n : ℕ) → put_at (length ns) n ns ≡ ns ++ n ∷ []
put_last [] n = refl
put_last (m ∷ ns) n = ap (λ z. m ∷ z) (put_last ns n)

not_listed : (j n : ℕ) (ns : List ℕ) → listed j ns ≡ false → suc n ≤ j → listed j (ns ++ n ∷ []) ≡ false
not_listed j n ns e l = in_both j ns (n ∷ []) ∙ rw e (elim (cases_Bool (n == j)) [
  | inl t ↦ (let same = eqb-true n j t in absurd (omega (arith, l, same)))
  | inr t ↦ rw t refl
])

-- where no number was there, all are inserted, one behind the other
all_inserted : (n i : ℕ) (now : List ℕ) (xs : Forest Look) → length now ≡ i → ((j : ℕ) → n ≤ j → listed j now ≡ false) →
    child_edits 0 i now (shown (in_order n xs)) ≡ inserts i (shown (in_order n xs))
all_inserted n i now none l new = refl
all_inserted n i now (node a x k r) l new =
    let e : listed n now ≡ false = new n (omega arith) in
    let next = suc n + length (keys k) in
    let put : put_at i n now ≡ now ++ n ∷ [] = ap (λ z. put_at z n now) (sym l) ∙ put_last now n in
    let more : child_edits 0 (suc i) (now ++ n ∷ []) (shown (in_order next r)) ≡ inserts (suc i) (shown (in_order next r)) =
    all_inserted next (suc i) (now ++ n ∷ []) r (let h = length-append now (n ∷ []) in omega (arith, h, l))
    (λ j le. not_listed j n now (new j (omega (arith, le))) (omega (arith, le))) in
    rw e (ap (λ z. OpInsert 0 i n (seen x) (shown (in_order (suc n) k)) ∷ z) (ap (λ z. child_edits 0 (suc i) z (shown (in_order next r))) put ∙ more))

-- ---- the first numbers

-- an address below the root isn't the root's
fresh : (t : Forest Look) → ((a : ℕ) → tally a (node 0 Root t none) ≤ 1) → (a : ℕ) → on a t ≡ true → on a (page_shape bare) ≡ false
fresh t once a i = elim (cases_Bool (0 == a)) [
  | inl e ↦ (let u = rw e at (once a) in let v = on_tally a t i in absurd (omega (arith, u, v)))
  | inr e ↦ rw e refl
]

-- the first page has a number for each node
first_order : (t : Forest Look) → ((a : ℕ) → tally a (node 0 Root t none) ≤ 1) → new_order bare (node 0 Root t none) ≡ keys t
first_order t once =
    append-nil (newcomers (λ a. on a (page_shape bare)) t) ∙ newcomers_all (λ a. on a (page_shape bare)) t (fresh t once)

-- ---- a mount

-- what is known of a page that is mounted: its nodes, and where their insertions lead
pub record MountedAs (lines : List Line) (links : List ℕ) (source : ℕ → Outcome) (s : Standing) (below : Forest Kind) : Type 0 where
  pub keeps : Keeps lines links source s.memo (page_in s) s.tree
  pub sound : Sound (page_shape (page_in s))
  pub page : page_in s ≡ next_page lines links source bare
  pub edits : edits_between bare (next_page lines links source bare) ≡ inserts 0 below

-- a page as it is put together
put_together : (lines : List Line) (links : List ℕ) (source : ℕ → Outcome) (s : Standing) (below : Forest Kind) →
    Mounted lines links source → IsTemplate lines → GivesRows (evaluating links source) → s.lines ≡ block_of lines → s.memo ≡ memo_on lines links source →
    below ≡ shown (in_order 1 (nodes None (block_of lines) s.memo)) → s.next ≡ 1 + length (keys (nodes None (block_of lines) s.memo)) →
    s.tree ≡ node 0 Root below none → MountedAs lines links source s below
put_together lines links source s below m t g own memo nodes_are next tree =
    let eval = evaluating links source in
    let shown_nodes = (shown_lines eval lines).nodes in
    let shape = shape_on lines links source in
    let page = next_page lines links source bare in
    let is_shape = shape_law lines eval t g in
    let same_shape : memo_shape lines s.memo ≡ shape = ap (memo_shape lines) memo ∙ shape_shown lines links source in
    let same_nodes : nodes None (block_of lines) s.memo ≡ shown_nodes = ap (kids 0) same_shape in
    let first : below ≡ shown (in_order 1 shown_nodes) = nodes_are ∙ ap (λ z. shown (in_order 1 z)) same_nodes in
    let trees : s.tree ≡ tree_of page = tree ∙ (ap (λ z. node 0 Root z none) first ∙ sym (scratch_law lines eval t g)) in
    let looks_own : shape_in s ≡ shape = ap (λ z. node 0 Root (nodes None z s.memo) none) own ∙ same_shape in
    let count : s.next ≡ page.next =
    next ∙ (ap (λ z. 1 + length (keys z)) same_nodes ∙ ap (λ z. 1 + length z) (sym (first_order shown_nodes is_shape.once))) in
    let all : (page_in s).nodes ≡ page.nodes =
    (λ i. numbered_as (looks_own i) (trees i)) ∙ numbers_back (carried bare shape) shape in
    let same : page_in s ≡ page = (λ i. record { nodes = all i; next = count i }) in
    let children : shown (numbered (carried bare shape) shown_nodes) ≡ below =
    ap shown (sym (by_number_with (carried bare shape) shown_nodes)) ∙ (ap (kids 0) (scratch_law lines eval t g) ∙ sym first) in
    record {
      keeps = record {
        memo = memo;
        shape = ap page_shape same ∙ (m.keeps.shape ∙ ap (memo_shape lines) (sym memo));
        page = subst IsPage (sym same) m.keeps.page;
        stands = trees ∙ ap tree_of (sym same);
      };
      sound = subst Sound (sym (ap page_shape same ∙ (m.keeps.shape ∙ shape_shown lines links source))) is_shape.sound;
      page = same;
      edits = m.gives.edits
          ∙ (append-nil (child_edits 0 0 [] (shown (numbered (carried bare shape) shown_nodes)) ++ [])
          ∙ (append-nil (child_edits 0 0 [] (shown (numbered (carried bare shape) shown_nodes)))
          ∙ (ap (child_edits 0 0 []) (children ∙ first)
          ∙ (all_inserted 1 0 [] shown_nodes refl (λ j l. refl) ∙ ap (inserts 0) (sym first)))));
    }

-- where a page is made from scratch, it is mounted
pub mounted : (lines : List Line) (links : List ℕ) (source : ℕ → Outcome) (s : Standing) (below : Forest Kind) →
    IsTemplate lines → GivesRows (evaluating links source) → s.lines ≡ block_of lines → s.memo ≡ memo_on lines links source →
    below ≡ shown (in_order 1 (nodes None (block_of lines) s.memo)) → s.next ≡ 1 + length (keys (nodes None (block_of lines) s.memo)) →
    s.tree ≡ node 0 Root below none → MountedAs lines links source s below
mounted lines links source s below t g own memo nodes_are next tree =
    put_together lines links source s below (mount_law lines links source t g) t g own memo nodes_are next tree

-- the insertions lead from the root alone to the tree, before the tree stands
pub leads : (lines : List Line) (links : List ℕ) (source : ℕ → Outcome) (m : PageMemo) (below : Forest Kind) →
    IsTemplate lines → GivesRows (evaluating links source) → m ≡ memo_on lines links source →
    below ≡ shown (in_order 1 (nodes None (block_of lines) m)) → replay (inserts 0 below) (node 0 Root none none) ≡ Done (node 0 Root below none)
leads lines links source m below t g memo nodes_are =
    let s : Standing = record {
      lines = block_of lines;
      links = links;
      heard = [];
      memo = m;
      next = 1 + length (keys (nodes None (block_of lines) m));
      tree = node 0 Root below none;
      number = λ a. None;
      line = λ n. None;
    } in
    let law = mount_law lines links source t g in
    let x = put_together lines links source s below law t g refl memo nodes_are refl refl in
    ap (λ z. replay z (tree_of bare)) (sym x.edits ∙ law.gives.edits) ∙ (law.leads ∙ ap Done (ap tree_of (sym x.page) ∙ sym x.keeps.stands))
