-- Steps that are spelled out as operations.
use Rattle.std.proofs.Common.{◌≡◌, ◌+◌, ◌<◌, ℕ, suc, nat_eq, refl, sym, ap, subst, ◌∙◌, arith, add-one, append_assoc, append-nil, List, [], ◌∷◌, ◌++◌, drop, length, map, slice_get, Some}
use Rattle.std.specs.List.{IsDistinct}
use Rattle.std.proofs.lemmas.List.{drop_more}
use Rattle.std.proofs.lemmas.Option.{get_or_from_slice_get}
use Rattle.keyed_each.specs.Steps.{steps_between}
use Rattle.keyed_each.specs.declared.places.RowStep.{RowStep}
use Rattle.keyed_each.specs.declared.places.RowStep.TheVariants.{Insert, Move}
use Rattle.page_model.specs.Edits.{listed, siblings}
use Rattle.page_model.specs.Forest.{Forest, after, kids}
use Rattle.page_model.specs.Labels.{Kind, shown}
use Rattle.page_model.specs.Replay.{Op, OpMove}
use Rattle.page_tree.specs.declared.sub.Sub.{Sub}
use Rattle.page_tree.specs.Subs.{insertion, side_by_side, sub_tree}
use Rattle.page_tree.proofs.Shared.{one_node}
use Rattle.tpl_model.specs.NextPage.Arrivals.{coming}
use Rattle.tpl_model.specs.NextPage.Children.{children_moved}
use Rattle.tpl_model.specs.Sources.{in_order}
use Rattle.tpl_model.specs.ShownNodes.Shapes.{Marked, Next}
use Rattle.tpl_patch.specs.Moves.{AllFit, AllSound, AreSound, Fits, arrivals, moved_between, next_numbers, number_after, number_behind}
use Rattle.tpl_patch.specs.Spelled.{spelled}
use Rattle.tpl_patch.proofs.Edits.{linked}

-- ---- one step

-- the trees of subtrees
abbrev pub side : List Sub → Forest Kind
side subs = side_by_side (map sub_tree subs)

pub move_spelled : (p i n j : ℕ) (ns : List ℕ) (steps : List RowStep) (u : Forest Kind) (os ps : List Op) → ps ≡ os ++ OpMove n i ∷ [] →
    ps ++ spelled p (suc i) ns steps u ≡ os ++ spelled p i (n ∷ ns) (Move j ∷ steps) u
move_spelled p i n j ns steps u os ps h = ap (λ z. z ++ spelled p (suc i) ns steps u) h ∙ append_assoc os (OpMove n i ∷ []) (spelled p (suc i) ns steps u)

pub no_arrival : (p i n j : ℕ) (ns : List ℕ) (steps : List RowStep) (subs left : List Sub) (os : List Op) → subs ≡ left → length subs ≡ 0 →
    os ++ spelled p (suc i) ns steps (side left) ≡ os ++ spelled p i (n ∷ ns) (Insert j ∷ steps) (side subs)
no_arrival p i n j ns steps [] left os e h = ap (λ z. os ++ spelled p (suc i) ns steps (side z)) (sym e)
no_arrival p i n j ns steps (x ∷ subs) left os e h = absurd (omega (arith, h))

arrives : (p i n j m : ℕ) (ns : List ℕ) (steps : List RowStep) (t u : Forest Kind) → siblings t ≡ m ∷ [] →
    insertion p i t ∷ spelled p (suc i) ns steps u ≡ spelled p i (n ∷ ns) (Insert j ∷ steps) (after t u)
arrives p i n j m ns steps t u e =
    let w = one_node m t e in
    subst (λ z. insertion p i z ∷ spelled p (suc i) ns steps u ≡ spelled p i (n ∷ ns) (Insert j ∷ steps) (after z u)) (sym w.2) refl

pub one_arrival : (p i n j m : ℕ) (ns : List ℕ) (steps : List RowStep) (s : Sub) (subs left : List Sub) (os ps : List Op) → subs ≡ s ∷ left →
    siblings (sub_tree s) ≡ m ∷ [] → ps ≡ os ++ insertion p i (sub_tree s) ∷ [] →
    ps ++ spelled p (suc i) ns steps (side left) ≡ os ++ spelled p i (n ∷ ns) (Insert j ∷ steps) (side subs)
one_arrival p i n j m ns steps s subs left os ps e one h =
    let o = insertion p i (sub_tree s) in
    ap (λ z. z ++ spelled p (suc i) ns steps (side left)) h
    ∙ (append_assoc os (o ∷ []) (spelled p (suc i) ns steps (side left))
    ∙ (ap (λ z. os ++ z) (arrives p i n j m ns steps (sub_tree s) (side left) one)
    ∙ ap (λ z. os ++ spelled p i (n ∷ ns) (Insert j ∷ steps) (side z)) (sym e)))

-- ---- all steps

pub one_spelled : (p i n : ℕ) (s : RowStep) (ns more : List ℕ) (steps rest : List RowStep) (u v : Forest Kind) (os ps total : List Op) →
    ns ≡ n ∷ more → steps ≡ s ∷ rest →
    ((ms : List ℕ) (ss : List RowStep) → ps ++ spelled p (suc i) ms ss v ≡ os ++ spelled p i (n ∷ ms) (s ∷ ss) u) →
    os ++ spelled p i ns steps u ≡ total → ps ++ spelled p (i + 1) more rest v ≡ total
one_spelled p i n s ns more steps rest u v os ps total e f put before =
    ap (λ z. ps ++ spelled p z more rest v) (add-one i) ∙ (put more rest ∙ ((λ t. os ++ spelled p i (sym e t) (sym f t) u) ∙ before))

pub all_spelled : (p i : ℕ) (ns : List ℕ) (steps : List RowStep) (u : Forest Kind) (os total : List Op) → ns ≡ [] → os ++ spelled p i ns steps u ≡ total → os ≡ total
all_spelled p i ns steps u os total e before = sym (append-nil os) ∙ (ap (λ z. os ++ spelled p i z steps u) (sym e) ∙ before)

-- the step that stands first behind those before a place
pub step_there : (steps : List RowStep) (i : ℕ) (s : RowStep) → i < length steps → slice_get steps i ≡ Some s → drop i steps ≡ s ∷ drop (i + 1) steps
step_there steps i s h e = drop_more steps i s h ∙ ap (λ z. z ∷ drop (i + 1) steps) (get_or_from_slice_get steps i s s e)

-- ---- nodes

-- the steps for the children of a node, spelled out, are the edits of its children
pub node_moved : (tree : Forest Kind) (p n : ℕ) (cs : List Next) (row : Forest Kind) (olds numbers : List ℕ) (steps : List RowStep) (u : Forest Kind)
    (os ps : List Op) → Fits (siblings (kids p tree)) n cs row → olds ≡ siblings (kids p tree) → numbers ≡ next_numbers n cs →
    (IsDistinct nat_eq olds → IsDistinct nat_eq numbers → steps ≡ steps_between nat_eq olds numbers) → u ≡ shown (in_order n (arrivals cs)) →
    ps ≡ os ++ spelled p 0 numbers steps u → ps ≡ os ++ children_moved tree p row
node_moved tree p n cs row olds numbers steps u os ps fits e count placed come put =
    let same : numbers ≡ siblings row = count ∙ sym fits.numbers in
    let s : steps ≡ steps_between nat_eq olds numbers =
    placed (subst (IsDistinct nat_eq) (sym e) fits.old_once) (subst (IsDistinct nat_eq) (sym same) fits.once) in
    let arrive : u ≡ coming (λ m. listed m (siblings (kids p tree))) row = come ∙ sym fits.arrive in
    put
    ∙ (ap (λ z. os ++ spelled p 0 numbers z u) s
    ∙ ((λ t. os ++ spelled p 0 (same t) (steps_between nat_eq (e t) (same t)) (arrive t))
    ∙ ap (λ z. os ++ z) (sym (linked p (siblings (kids p tree)) row fits.once))))

-- The operations so far, and those on the marked nodes that are left, are all.
pub record AreMoved (tree : Forest Kind) (all left : List Marked) (first n : ℕ) (os ps : List Op) : Type 0 where
  pub sound : AllSound left
  pub number : number_behind n left ≡ number_behind first all
  pub ops : (next : Forest Kind) → AllFit tree first all next →
      AllFit tree n left next × (ps ++ moved_between tree next left ≡ os ++ moved_between tree next all)

pub none_moved : (tree : Forest Kind) (all : List Marked) (first : ℕ) (os : List Op) → AllSound all →
    AreMoved tree all all first first os os
none_moved tree all first os s = record { sound = s; number = refl; ops = λ next fit. (fit, refl) }

pub next_sound : (tree : Forest Kind) (all left rest : List Marked) (m : Marked) (first n : ℕ) (os ps : List Op) → left ≡ m ∷ rest →
    AreMoved tree all left first n os ps → AreSound m.children
next_sound tree all left rest m first n os ps e are = (subst AllSound e are.sound).0

pub one_moved : (tree : Forest Kind) (all left rest : List Marked) (m : Marked) (first n n' : ℕ) (os ps qs : List Op) → left ≡ m ∷ rest →
    n' ≡ number_after n m.children →
    ((row : Forest Kind) → Fits (siblings (kids m.number tree)) n m.children row → qs ≡ ps ++ children_moved tree m.number row) →
    AreMoved tree all left first n os ps → AreMoved tree all rest first n' os qs
one_moved tree all left rest m first n n' os ps qs e count put are = record {
  sound = (subst AllSound e are.sound).1;
  number = ap (λ z. number_behind z rest) count ∙ (ap (number_behind n) (sym e) ∙ are.number);
  ops = λ next fit.
      let was = are.ops next fit in
      let here = subst (λ z. AllFit tree n z next) e was.0 in
      let done = put (kids m.number next) here.0 in
      let one = children_moved tree m.number (kids m.number next) in (
        subst (λ z. AllFit tree z rest next) (sym count) here.1,
        ap (λ z. z ++ moved_between tree next rest) done
            ∙ (append_assoc ps one (moved_between tree next rest)
            ∙ (ap (λ z. ps ++ moved_between tree next z) (sym e) ∙ was.1)),
      );
}

pub all_moved : (tree : Forest Kind) (all left : List Marked) (first n : ℕ) (os ps : List Op) → left ≡ [] →
    AreMoved tree all left first n os ps →
    (n ≡ number_behind first all) × ((next : Forest Kind) → AllFit tree first all next → ps ≡ os ++ moved_between tree next all)
all_moved tree all left first n os ps e are = (
  ap (number_behind n) (sym e) ∙ are.number,
  λ next fit. sym (append-nil ps) ∙ (ap (λ z. ps ++ moved_between tree next z) (sym e) ∙ (are.ops next fit).1),
)
