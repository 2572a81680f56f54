-- Nodes that come, as numbered subtrees.
use Rattle.std.proofs.Common.{◌≡◌, ◌<◌, ◌+◌, ℕ, true, false, refl, sym, ap, subst, ◌∙◌, arith, append_assoc, List, [], ◌∷◌, ◌++◌, length, Option, Some, None}
use Rattle.std.proofs.lemmas.Bool.{false≢true}
use Rattle.page_model.specs.Forest.{Forest, none, node, after, count, keys}
use Rattle.page_model.specs.Labels as label
use Rattle.page_model.specs.Labels.{Look, Sound, with_value}
use Rattle.page_tree.proofs.Shared.{last_out}
use Rattle.tpl_scratch.specs.Pages.{Numbered, with_nodes}
use Rattle.tpl_scratch.proofs.Shared.{after_none, with_after, with_none}
use Rattle.tpl_model.specs.ShownNodes.Addresses.{address_of}
use Rattle.tpl_model.specs.ShownNodes.Shapes.{Next, all_shown, comes, look_of, shown_tree, stays}
use Rattle.tpl_model.specs.declared.shown.Look as shapes
use Rattle.tpl_model.specs.declared.shown.Look.TheVariants as look
use Rattle.tpl_model.specs.declared.shown.Shown.{Shown}
use Rattle.tpl_model.specs.declared.shown.Shown.TheViews.{out-Shown}
use Rattle.tpl_model.proofs.Shared.{tree_is}
use Rattle.tpl_patch.specs.Moves.{AreSound, arrivals, next_numbers}

-- ---- attributes

pub one_present : (name : List ℕ) (o : Option (List ℕ)) (rest : List (List ℕ × List ℕ)) → with_value name o rest ≡ with_value name o [] ++ rest
one_present name None rest = refl
one_present name (Some v) rest = refl

-- ---- nodes

sound_parts : (t u : Forest Look) → Sound (after t u) → Sound t × Sound u
sound_parts none u s = (tt, s)
sound_parts (node m x k r) u s = (let i = sound_parts r u s.3 in ((s.0, s.1, s.2, i.0), i.1))

-- what stands below a node
pub below_sound : (s : Shown) (ks : List Shown) → ks ≡ (out-Shown s).children.items → Sound (shown_tree s) → Sound (all_shown ks)
below_sound s ks e h = subst (λ z. Sound (all_shown z)) (sym e) (subst (λ (z : Forest Look). Sound z) (tree_is s) h).2

no_children : (k : Forest Look) → (0 < count k → false ≡ true) → k ≡ none
no_children none h = refl
no_children (node m x k r) h = absurd (false≢true (h (omega arith)))

-- a text has nothing below it
text_node : (s : Shown) (t : List ℕ) → (out-Shown s).look ≡ look.Text t → Sound (shown_tree s) → shown_tree s ≡ node (address_of (out-Shown s).address) (label.Text t) none none
text_node s t e h =
    let a = address_of (out-Shown s).address in
    let k = all_shown (out-Shown s).children.items in
    let is : shown_tree s ≡ node a (label.Text t) k none = tree_is s ∙ ap (λ l. node a (look_of l) k none) e in
    is ∙ ap (λ z. node a (label.Text t) z none) (no_children k (subst (λ (z : Forest Look). Sound z) is h).0)

pub text_came : (n now : Numbered) (s : Shown) (t u : List ℕ) → (out-Shown s).look ≡ look.Text t → Sound (shown_tree s) → u ≡ t →
    now ≡ with_nodes n (node 0 (label.Text u) none none) → now ≡ with_nodes n (shown_tree s)
text_came n now s t u e h q put =
    put ∙ (ap (λ z. with_nodes n (node 0 (label.Text z) none none)) q ∙ sym (ap (with_nodes n) (text_node s t e h)))

pub element_came : (n now : Numbered) (s : Shown) (l : shapes.Look) (name : List ℕ) (xs : List (List ℕ × Option (List ℕ))) (ks : List Shown) → (out-Shown s).look ≡ l →
    look_of l ≡ label.Element name xs → ks ≡ (out-Shown s).children.items →
    ((a : ℕ) → now ≡ with_nodes n (node a (label.Element name xs) (all_shown ks) none)) → now ≡ with_nodes n (shown_tree s)
element_came n now s l name xs ks e f g put =
    let a = address_of (out-Shown s).address in
    put a
    ∙ (ap (λ z. with_nodes n (node a (label.Element name xs) (all_shown z) none)) g
    ∙ (ap (λ z. with_nodes n (node a z (all_shown (out-Shown s).children.items) none)) (sym (ap look_of e ∙ f)) ∙ sym (ap (with_nodes n) (tree_is s))))

-- nodes that are left come behind those so far
pub record ArePut (left : List Shown) (now total : Numbered) : Type 0 where
  pub sound : Sound (all_shown left)
  pub put : with_nodes now (all_shown left) ≡ total

-- one node more
pub one_put : (left rest : List Shown) (x : Shown) (before now total : Numbered) → left ≡ x ∷ rest →
    (Sound (shown_tree x) → now ≡ with_nodes before (shown_tree x)) → ArePut left before total → ArePut rest now total
one_put left rest x before now total e put are =
    let s = sound_parts (shown_tree x) (all_shown rest) (subst (λ z. Sound (all_shown z)) e are.sound) in
    record {
      sound = s.1;
      put = ap (λ z. with_nodes z (all_shown rest)) (put s.0)
          ∙ (with_after before (shown_tree x) (all_shown rest) ∙ (ap (λ z. with_nodes before (all_shown z)) (sym e) ∙ are.put));
    }

pub all_put : (left : List Shown) (now total : Numbered) → left ≡ [] → ArePut left now total → now ≡ total
all_put left now total e are = sym (with_none now) ∙ (ap (λ z. with_nodes now (all_shown z)) (sym e) ∙ are.put)

-- ---- the children of a node

-- the first of them, and the others
pub child_sound : (cs rest : List Next) (c : Next) → cs ≡ c ∷ rest → AreSound cs → AreSound (c ∷ []) × AreSound rest
child_sound cs rest (stays m) e s = (tt, subst AreSound e s)
child_sound cs rest (comes t) e s = (let h = subst AreSound e s in ((h.0, tt), h.1))

one_arrives : (c : Next) (rest : List Next) → after (arrivals (c ∷ [])) (arrivals rest) ≡ arrivals (c ∷ rest)
one_arrives (stays m) rest = refl
one_arrives (comes t) rest = ap (λ z. after z (arrivals rest)) (after_none t)

pub child_came : (cs rest : List Next) (c : Next) (a b total : Numbered) → cs ≡ c ∷ rest → b ≡ with_nodes a (arrivals (c ∷ [])) →
    with_nodes a (arrivals cs) ≡ total → with_nodes b (arrivals rest) ≡ total
child_came cs rest c a b total e put before =
    ap (λ z. with_nodes z (arrivals rest)) put
    ∙ (with_after a (arrivals (c ∷ [])) (arrivals rest) ∙ (ap (with_nodes a) (one_arrives c rest) ∙ (ap (λ z. with_nodes a (arrivals z)) (sym e) ∙ before)))

pub children_came : (cs : List Next) (b total : Numbered) → cs ≡ [] → with_nodes b (arrivals cs) ≡ total → b ≡ total
children_came cs b total e before = sym (with_none b) ∙ (ap (λ z. with_nodes b (arrivals z)) (sym e) ∙ before)

pub child_numbered : (cs rest : List Next) (c : Next) (n m : ℕ) (before now total : List ℕ) → cs ≡ c ∷ rest → now ≡ before ++ next_numbers n (c ∷ []) →
    m ≡ n + length (keys (arrivals (c ∷ []))) → before ++ next_numbers n cs ≡ total → now ++ next_numbers m rest ≡ total
child_numbered cs rest (stays i) n m before now total e put count was =
    let q : m ≡ n = omega (arith, count) in
    ap (λ z. z ++ next_numbers m rest) put
    ∙ (append_assoc before (i ∷ []) (next_numbers m rest)
    ∙ (ap (λ z. before ++ i ∷ next_numbers z rest) q ∙ (ap (λ z. before ++ next_numbers n z) (sym e) ∙ was)))
child_numbered cs rest (comes t) n m before now total e put count was =
    let q : m ≡ n + length (keys t) = count ∙ ap (λ z. n + length (keys z)) (after_none t) in
    ap (λ z. z ++ next_numbers m rest) put
    ∙ (append_assoc before (n ∷ []) (next_numbers m rest)
    ∙ (ap (λ z. before ++ n ∷ next_numbers z rest) q ∙ (ap (λ z. before ++ next_numbers n z) (sym e) ∙ was)))

pub children_numbered : (cs : List Next) (n : ℕ) (now total : List ℕ) → cs ≡ [] → now ++ next_numbers n cs ≡ total → now ≡ total
children_numbered cs n now total e was = last_out now (next_numbers n cs) total (ap (next_numbers n) e) was
