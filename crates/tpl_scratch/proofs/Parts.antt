-- What lines show, one part after the other.
use Rattle.std.proofs.Common.{◌≡◌, ℕ, suc, ◌+◌, add-one, Bool, true, false, refl, sym, ap, subst, ◌∙◌, inl, inr, List, [], ◌∷◌, ◌++◌, length, drop, append_assoc, append-nil, Option, Some, None, Result}
use Rattle.std.specs.List.{slice_get}
use Rattle.std.specs.Prelude.{option_map, ◌≤◌, ◌&&◌, ◌||◌}
use Rattle.std.specs.Result.{IfErr, IsErrAnd}
use Rattle.std.proofs.lemmas.Bool.{and_parts, and_right, cases_Bool, false≢true, or_right}
use Rattle.std.proofs.lemmas.List.{drop_more, drop_all}
use Rattle.std.proofs.lemmas.Option.{get_or_from_slice_get, slice_get_within}
use Rattle.std.proofs.lemmas.Result.{err_from_is_err_and}
use Rattle.tpl_model.proofs.Shared.{right_off}
use Rattle.page_model.proofs.Shared.{or_none}
use Rattle.sig_base.specs.Tables.{Table}
use Rattle.sig_base.specs.declared.rows.Row.{Row}
use Rattle.sig_base.specs.declared.value.Value.TheVariants as value
use Rattle.sig_base.specs.declared.value.Outcome.{Outcome}
use Rattle.sig_base.specs.declared.value.Outcome.TheVariants.{Good, Bad}
use Rattle.sig_formula.specs.Trees.{Tree}
use Rattle.sig_formula.specs.declared.formula.RowRef.{RowRef}
use Rattle.signal_model.specs.Sound.{names_of}
use Rattle.signal_model.specs.Values.{Evaluation}
use Rattle.page_model.specs.Addresses.{address}
use Rattle.page_model.specs.Forest.{none, node, after}
use Rattle.page_model.specs.Labels.{Text, present, with_value}
use Rattle.tpl_model.specs.Lines.{Block, choice, each}
use Rattle.tpl_model.specs.Shapes.{Here, Showing, attempted, attribute_value, attributes_of, attributes_told, chosen, each_row, is_fault, key_here, node_text, nothing, row_here, shown_block, then_shown, formula_shown}
use Rattle.tpl_model.specs.Sources.{first_missing, on_known}
use Rattle.tpl_scratch.specs.declared.show.Attributes.{Attributes}
use Rattle.tpl_scratch.specs.declared.show.Branches.{Branches}
use Rattle.tpl_scratch.specs.declared.stop.Stop.{Stop}
use Rattle.tpl_scratch.specs.declared.stop.Stop.TheVariants as stop
use Rattle.tpl_scratch.specs.Pages.{Numbered, beside, no_children, unless_ended, with_all, with_node, with_nodes, each_shown, element_shown, rows_of, rows_shown, shown_where, shows_branch, text_shown}
use Rattle.tpl_scratch.specs.Pages.{AreBranches, HasAttributes, IsFound, IsHere, PutsAttribute, Shows, Stops}
use Rattle.tpl_scratch.proofs.Unknowns.{missing_later, stops_first, stops_later, stops_same}
use Rattle.tpl_scratch.proofs.Numbers.{made, with_none, with_after, with_element}

-- nothing is shown
pub nothing_shows : (known : List (Option Outcome)) (ends : Bool) (n : Numbered) → Shows known ends nothing n n false
nothing_shows known ends n = record { reads = refl; fault = refl; nodes = λ h. sym (with_none n) }

-- what is shown in any case is shown where showing ends at a fault
pub in_any : (known : List (Option Outcome)) (ends : Bool) (x : Showing) (a b : Numbered) (f : Bool) → Shows known false x a b f → Shows known ends x a b f
in_any known ends x a b f s = record { reads = s.reads; fault = s.fault; nodes = λ h. s.nodes refl }

-- ---- one part behind another

-- the first ended it
then_off : (ends : Bool) (x y : Showing) → (ends && x.failed) ≡ true → then_shown ends x y ≡ record x { nodes = none }
then_off ends x y h = rw h refl

-- it goes on
then_on : (ends : Bool) (x y : Showing) → (ends && x.failed) ≡ false →
    then_shown ends x y ≡ record { nodes = after x.nodes y.nodes; reads = x.reads ++ y.reads; failed = x.failed || y.failed }
then_on ends x y h = rw h refl

or_assoc : (a b c : Bool) → ((a || b) || c) ≡ (a || (b || c))
or_assoc true b c = refl
or_assoc false b c = refl

-- showing ended, so it doesn't go on
never_both : {A : Type 0} (ends f g : Bool) → (ends && f) ≡ true → (f ≡ true → g ≡ true) → (ends && g) ≡ false → A
never_both true true g h up k = absurd (false≢true (sym k ∙ up refl))
never_both true false g h up k = absurd cc
never_both false f g h up k = absurd cc

-- one part and then another
pub then_shows : (known : List (Option Outcome)) (ends : Bool) (x y : Showing) (a b c : Numbered) (f g : Bool) → Shows known ends x a b f → Shows known ends y b c g →
    Shows known ends (then_shown ends x y) a c (f || g)
then_shows known ends x y a b c f g h k = elim (cases_Bool (ends && f)) [
  | inl e ↦
      let e' : (ends && x.failed) ≡ true = ap (λ z. ends && z) (sym h.fault) ∙ e in
      let on : f ≡ true = (and_parts ends f e).1 in
      subst (λ z. Shows known ends z a c (f || g)) (sym (then_off ends x y e')) (record {
        reads = h.reads;
        fault = rw on (sym on ∙ h.fault);
        nodes = λ q. never_both ends f (f || g) e (λ t. rw t refl) q;
      })
  | inr e ↦
      let e' : (ends && x.failed) ≡ false = ap (λ z. ends && z) (sym h.fault) ∙ e in
      subst (λ z. Shows known ends z a c (f || g)) (sym (then_on ends x y e')) (record {
        reads = missing_later known x.reads y.reads h.reads ∙ k.reads;
        fault = ap (λ z. z || g) h.fault ∙ ap (λ z. x.failed || z) k.fault;
        nodes = λ q. k.nodes (right_off ends f g q) ∙ ap (λ n. with_nodes n y.nodes) (h.nodes e) ∙ with_after a x.nodes y.nodes;
      })
]

-- the first part ended all
pub then_ended : (known : List (Option Outcome)) (ends : Bool) (x y : Showing) (a b : Numbered) (f : Bool) → Shows known ends x a b f → (ends && f) ≡ true →
    Shows known ends (then_shown ends x y) a b true
then_ended known ends x y a b f h e =
    let e' : (ends && x.failed) ≡ true = ap (λ z. ends && z) (sym h.fault) ∙ e in
    subst (λ z. Shows known ends z a b true) (sym (then_off ends x y e')) (record {
      reads = h.reads;
      fault = sym (and_parts ends x.failed e').1;
      nodes = λ q. never_both ends f true e (λ t. refl) q;
    })

-- what stops the first part stops both
pub then_stops : (known : List (Option Outcome)) (ends : Bool) (x y : Showing) (e : Stop) → Stops known x.reads e → Stops known (then_shown ends x y).reads e
then_stops known ends x y e h = elim (cases_Bool (ends && x.failed)) [
  | inl t ↦ subst (λ (z : Showing). Stops known z.reads e) (sym (then_off ends x y t)) h
  | inr t ↦ subst (λ (z : Showing). Stops known z.reads e) (sym (then_on ends x y t)) (stops_first known x.reads y.reads e h)
]

-- and so does what stops the second
pub later_stops : (known : List (Option Outcome)) (ends : Bool) (x y : Showing) (a b : Numbered) (f : Bool) (e : Stop) → Shows known ends x a b f → (ends && f) ≡ false →
    Stops known y.reads e → Stops known (then_shown ends x y).reads e
later_stops known ends x y a b f e h on k =
    let t : (ends && x.failed) ≡ false = ap (λ z. ends && z) (sym h.fault) ∙ on in
    subst (λ (z : Showing). Stops known z.reads e) (sym (then_on ends x y t)) (stops_later known x.reads y.reads e h.reads k)

-- so it is for whatever was shown before
pub rest_stops : {T : Type 0} (known : List (Option Outcome)) (ends : Bool) (y : Showing) (now : Numbered) (failed : Bool) (r : Result T Stop) (e : Stop) →
    IsErrAnd r (λ z. z ≡ e) → (ends && failed) ≡ false → Stops known y.reads e →
    IfErr r (λ z. (x : Showing) (before : Numbered) → Shows known ends x before now failed → Stops known (then_shown ends x y).reads z)
rest_stops known ends y now failed r e h on k =
    let p = err_from_is_err_and r h in
    rw (p.1, p.2) (λ x before s. later_stops known ends x y before now failed e s on k)

-- ---- parts of a whole

-- some parts of a whole were shown, and whether one met a fault is told; this is left of it
pub record Left (known : List (Option Outcome)) (ends : Bool) (rest all : Showing) (before now : Numbered) (failed : Bool) : Type 0 where
  pub reads : first_missing known rest.reads ≡ first_missing known all.reads
  pub fault : (failed || rest.failed) ≡ all.failed
  pub nodes : (ends && all.failed) ≡ false → with_nodes now rest.nodes ≡ with_nodes before all.nodes

-- nothing was shown so far
pub all_left : (known : List (Option Outcome)) (ends : Bool) (all : Showing) (n : Numbered) → Left known ends all all n n false
all_left known ends all n = record { reads = refl; fault = refl; nodes = λ h. refl }

-- one more part was shown
pub left_on : (known : List (Option Outcome)) (ends : Bool) (x y all : Showing) (before mid now : Numbered) (any f : Bool) →
    Left known ends (then_shown ends x y) all before mid any → Shows known ends x mid now f → (ends && f) ≡ false → Left known ends y all before now (any || f)
left_on known ends x y all before mid now any f left h on =
    let t : (ends && x.failed) ≡ false = ap (λ z. ends && z) (sym h.fault) ∙ on in
    let l = subst (λ z. Left known ends z all before mid any) (then_on ends x y t) left in
    record {
      reads = sym (missing_later known x.reads y.reads h.reads) ∙ l.reads;
      fault = or_assoc any f y.failed ∙ ap (λ z. any || (z || y.failed)) h.fault ∙ l.fault;
      nodes = λ q. ap (λ n. with_nodes n y.nodes) (h.nodes on) ∙ with_after mid x.nodes y.nodes ∙ l.nodes q;
    }

-- one more part was shown, and ended all
pub left_ended : (known : List (Option Outcome)) (ends : Bool) (x y all : Showing) (before mid now : Numbered) (any f : Bool) →
    Left known ends (then_shown ends x y) all before mid any → Shows known ends x mid now f → (ends && f) ≡ true → Shows known ends all before now true
left_ended known ends x y all before mid now any f left h off =
    let t : (ends && x.failed) ≡ true = ap (λ z. ends && z) (sym h.fault) ∙ off in
    let l = subst (λ z. Left known ends z all before mid any) (then_off ends x y t) left in
    record {
      reads = sym l.reads ∙ h.reads;
      fault = sym (or_right any x.failed (and_parts ends x.failed t).1) ∙ l.fault;
      nodes = λ q. never_both ends f true off (λ e. refl) q;
    }

-- all was shown
pub left_none : (known : List (Option Outcome)) (ends : Bool) (all : Showing) (before now : Numbered) (any : Bool) → Left known ends nothing all before now any →
    Shows known ends all before now any
left_none known ends all before now any l =
    let same : any ≡ all.failed = sym (or_none any) ∙ l.fault in
    record { reads = sym l.reads; fault = same; nodes = λ q. sym (with_none now) ∙ l.nodes (ap (λ z. ends && z) (sym same) ∙ q) }

-- what stops the next part stops all
pub left_stops : (known : List (Option Outcome)) (ends : Bool) (x y all : Showing) (before now : Numbered) (any : Bool) (e : Stop) →
    Left known ends (then_shown ends x y) all before now any → Stops known x.reads e → Stops known all.reads e
left_stops known ends x y all before now any e l h = stops_same known (then_shown ends x y).reads all.reads e l.reads (then_stops known ends x y e h)

-- ---- one formula

-- a formula is read, and nothing is shown of it
pub told_shows : (known : List (Option Outcome)) (ends : Bool) (e : Evaluation) (o : Outcome) (n : Numbered) → IsFound known e o →
    Shows known ends (formula_shown e none) n n (is_fault o)
told_shows known ends e o n f = record { reads = f.reads; fault = ap is_fault f.outcome; nodes = λ h. sym (with_none n) }

-- what stopped a part is handed on
pub handed_on : {T : Type 0} (known : List (Option Outcome)) (reads : List ℕ) (r : Result T Stop) (e : Stop) → IsErrAnd r (λ y. y ≡ e) → Stops known reads e →
    IfErr r (λ x. Stops known reads x)
handed_on known reads r e h s = let p = err_from_is_err_and r h in rw (p.1, p.2) s

-- a text
pub text_shows : (known : List (Option Outcome)) (here : Option Here) (line : ℕ) (f : Tree) (o : Outcome) (t : List ℕ) (a b : Numbered) (failed : Bool) →
    IsFound known (on_known known (row_here here) f) o → failed ≡ is_fault o → t ≡ node_text o → b ≡ with_nodes a (node 0 (Text t) none none) →
    Shows known false (text_shown (on_known known) here line f) a b failed
text_shows known here line f o t a b failed i k e is = record {
  reads = i.reads;
  fault = k ∙ ap is_fault i.outcome;
  nodes = λ h. is ∙ ap (λ x. with_nodes a (node (address line (key_here here)) (Text x) none none)) (e ∙ ap node_text i.outcome);
}

-- ---- attributes

-- some attributes are read, and these are left
pub record AreLeft (known : List (Option Outcome)) (ends : Bool) (row : Option RowRef) (all rest : List (List ℕ × Tree)) (found : List (List ℕ × List ℕ))
    (failed : Bool) : Type 0 where
  pub told : (n : Numbered) → Left known ends (attributes_told ends (on_known known) row rest) (attributes_told ends (on_known known) row all) n n failed
  pub values : found ++ present (attributes_of (on_known known) row rest) ≡ present (attributes_of (on_known known) row all)

with_more : (name : List ℕ) (v : Option (List ℕ)) (rest : List (List ℕ × List ℕ)) → with_value name v [] ++ rest ≡ with_value name v rest
with_more name None rest = refl
with_more name (Some v) rest = refl

-- no attribute is read
pub attributes_left : (known : List (Option Outcome)) (ends : Bool) (row : Option RowRef) (all : List (List ℕ × Tree)) → AreLeft known ends row all all [] false
attributes_left known ends row all = record { told = λ n. all_left known ends (attributes_told ends (on_known known) row all) n; values = refl }

-- the formula of an attribute is read
put_shows : (known : List (Option Outcome)) (ends : Bool) (row : Option RowRef) (name : List ℕ) (f : Tree) (values now : List (List ℕ × List ℕ)) (fault : Bool) (n : Numbered) →
    PutsAttribute known row name f values now fault → Shows known ends (formula_shown (on_known known row f) none) n n fault
put_shows known ends row name f values now fault n p =
    subst (λ b. Shows known ends (formula_shown (on_known known row f) none) n n b) (sym p.fault) (told_shows known ends (on_known known row f) p.outcome n p.found)

pub fewer_left : (known : List (Option Outcome)) (ends : Bool) (row : Option RowRef) (all : List (List ℕ × Tree)) (name : List ℕ) (f : Tree) (rest : List (List ℕ × Tree))
    (values now : List (List ℕ × List ℕ)) (failed fault : Bool) → AreLeft known ends row all ((name, f) ∷ rest) values failed →
    PutsAttribute known row name f values now fault → (ends && fault) ≡ false → AreLeft known ends row all rest now (failed || fault)
fewer_left known ends row all name f rest values now failed fault i p on =
    let E = on_known known row f in
    let more = present (attributes_of (on_known known) row rest) in
    let same : attribute_value p.outcome ≡ attribute_value E.outcome = ap attribute_value p.found.outcome in
    record {
      told = λ n. left_on known ends (formula_shown E none) (attributes_told ends (on_known known) row rest) (attributes_told ends (on_known known) row all) n n n failed fault
          (i.told n) (put_shows known ends row name f values now fault n p) on;
      values = ap (λ x. x ++ more) p.put ∙ append_assoc values (with_value name (attribute_value p.outcome) []) more
          ∙ ap (λ x. values ++ x) (with_more name (attribute_value p.outcome) more ∙ ap (λ x. with_value name x more) same) ∙ i.values;
    }

-- an attribute met a fault, and nothing more is read
pub left_at_fault : (known : List (Option Outcome)) (ends : Bool) (row : Option RowRef) (all : List (List ℕ × Tree)) (name : List ℕ) (f : Tree) (rest : List (List ℕ × Tree))
    (values now : List (List ℕ × List ℕ)) (failed fault : Bool) (found : Attributes) → AreLeft known ends row all ((name, f) ∷ rest) values failed →
    PutsAttribute known row name f values now fault → (ends && fault) ≡ true → found.failed ≡ true → HasAttributes known ends row all found
left_at_fault known ends row all name f rest values now failed fault found i p off is = record {
  told = λ n. subst (λ b. Shows known ends (attributes_told ends (on_known known) row all) n n b) (sym is)
      (left_ended known ends (formula_shown (on_known known row f) none) (attributes_told ends (on_known known) row rest) (attributes_told ends (on_known known) row all) n n n
      failed fault (i.told n) (put_shows known ends row name f values now fault n p) off);
  values = λ q. never_both ends fault found.failed off (λ e. is) q;
}

pub none_left : (known : List (Option Outcome)) (ends : Bool) (row : Option RowRef) (all : List (List ℕ × Tree)) (found : Attributes) →
    AreLeft known ends row all [] found.values.items found.failed → HasAttributes known ends row all found
none_left known ends row all found i = record {
  told = λ n. left_none known ends (attributes_told ends (on_known known) row all) n n found.failed (i.told n);
  values = λ q. sym (append-nil found.values.items) ∙ i.values;
}

-- what stops an attribute stops all
pub attribute_stops : (known : List (Option Outcome)) (ends : Bool) (row : Option RowRef) (all : List (List ℕ × Tree)) (name : List ℕ) (f : Tree) (rest : List (List ℕ × Tree))
    (values : List (List ℕ × List ℕ)) (failed : Bool) (e : Stop) → AreLeft known ends row all ((name, f) ∷ rest) values failed →
    Stops known (names_of (on_known known row f).reads) e → Stops known (attributes_told ends (on_known known) row all).reads e
attribute_stops known ends row all name f rest values failed e i h =
    let n = made none 0 in
    left_stops known ends (formula_shown (on_known known row f) none) (attributes_told ends (on_known known) row rest) (attributes_told ends (on_known known) row all) n n failed e
    (i.told n) h

-- ---- elements

-- where showing goes on behind both parts, it went on behind the first
first_goes : (known : List (Option Outcome)) (ends : Bool) (x y : Showing) (a b c : Numbered) (f g : Bool) → Shows known ends x a b f → Shows known ends (then_shown ends x y) a c g →
    (ends && g) ≡ false → (ends && f) ≡ false
first_goes known ends x y a b c f g h k q = elim (cases_Bool (ends && f)) [
  | inl e ↦
      let e' : (ends && x.failed) ≡ true = ap (λ z. ends && z) (sym h.fault) ∙ e in
      let both : g ≡ x.failed = k.fault ∙ ap (λ (z : Showing). z.failed) (then_off ends x y e') in
      never_both ends f g e (λ t. both ∙ sym h.fault ∙ t) q
  | inr e ↦ e
]

pub element_shows : (known : List (Option Outcome)) (ends : Bool) (here : Option Here) (line : ℕ) (name : List ℕ) (xs : List (List ℕ × Tree)) (inner : Block)
    (found : Attributes) (a b children : Numbered) (failed : Bool) → HasAttributes known ends (row_here here) xs found →
    Shows known ends (then_shown ends (attributes_told ends (on_known known) (row_here here) xs) (shown_block (on_known known) ends here inner)) (no_children a) children failed →
    b ≡ with_node a name found.values.items children → Shows known ends (element_shown (on_known known) ends here line name xs inner) a b failed
element_shows known ends here line name xs inner found a b children failed h k is =
    let told = attributes_told ends (on_known known) (row_here here) xs in
    let lines = shown_block (on_known known) ends here inner in
    let values = attributes_of (on_known known) (row_here here) xs in
    record {
      reads = k.reads;
      fault = k.fault;
      nodes = λ q. is ∙ with_element a (address line (key_here here)) name values (then_shown ends told lines).nodes found.values.items children
          (h.values (first_goes known ends told lines (no_children a) (no_children a) children found.failed failed (h.told (no_children a)) k q)) (k.nodes q);
    }

-- what stops the attributes stops the element
pub attributes_stop : (known : List (Option Outcome)) (ends : Bool) (here : Option Here) (line : ℕ) (name : List ℕ) (xs : List (List ℕ × Tree)) (inner : Block) (e : Stop) →
    Stops known (attributes_told ends (on_known known) (row_here here) xs).reads e → Stops known (element_shown (on_known known) ends here line name xs inner).reads e
attributes_stop known ends here line name xs inner e h =
    then_stops known ends (attributes_told ends (on_known known) (row_here here) xs) (shown_block (on_known known) ends here inner) e h

-- ---- rows

-- the lines were shown for some rows, and those after these are left
abbrev pub RowsLeft : List (Option Outcome) → Bool → Block → Table → Numbered → Numbered → ℕ → List Row → Bool → Type 0
RowsLeft known ends inner t before now i rest failed =
    Left known ends (rows_shown (on_known known) ends inner t i rest) (rows_shown (on_known known) ends inner t 0 t.rows) before now failed

-- no row was gone over so far
pub all_rows_left : (known : List (Option Outcome)) (ends : Bool) (inner : Block) (t : Table) (n : Numbered) → RowsLeft known ends inner t n n 0 t.rows false
all_rows_left known ends inner t n = all_left known ends (rows_shown (on_known known) ends inner t 0 t.rows) n

-- the row at a place
row_is : (t : Table) (i : ℕ) (r : Row) (h : Here) → slice_get t.rows i ≡ Some r → IsHere t i h → h ≡ record { key = r.key; row = record { rows = t; place = i } }
row_is t i r h e is =
    let k : Some r.key ≡ Some h.key = ap (option_map (λ (x : Row). x.key)) (sym e) ∙ is.0 in
    let key : h.key ≡ r.key = cc in
    ap {A = List ℕ} {B = Here} (λ x. record { key = x; row = h.row }) key ∙ ap {A = RowRef} {B = Here} (λ x. record { key = r.key; row = x }) is.1

-- the row that a place has
row_there : (o : Option Row) (k : List ℕ) → option_map (λ (x : Row). x.key) o ≡ Some k → (r : Row) × (o ≡ Some r)
row_there None k e = cc
row_there (Some r) k e = (r, refl)

drop_at : {A : Type 0} (xs : List A) (i : ℕ) (x : A) → slice_get xs i ≡ Some x → drop i xs ≡ x ∷ drop (i + 1) xs
drop_at xs i x e =
    drop_more xs i x (slice_get_within xs i x e) ∙ ap (λ y. y ∷ drop (i + 1) xs) (get_or_from_slice_get xs i x x e)

-- the lines of the next row stand before those of the rows behind it
next_row : (known : List (Option Outcome)) (ends : Bool) (inner : Block) (t : Table) (before mid : Numbered) (i : ℕ) (h : Here) (failed : Bool) →
    RowsLeft known ends inner t before mid i (drop i t.rows) failed → IsHere t i h →
    Left known ends (then_shown ends (shown_block (on_known known) ends (Some h) inner) (rows_shown (on_known known) ends inner t (suc i) (drop (i + 1) t.rows)))
    (rows_shown (on_known known) ends inner t 0 t.rows) before mid failed
next_row known ends inner t before mid i h failed left is =
    let r = row_there (slice_get t.rows i) h.key is.0 in
    let l = subst (λ rs. RowsLeft known ends inner t before mid i rs failed) (drop_at t.rows i r.0 r.1) left in
    subst (λ x. Left known ends (then_shown ends (shown_block (on_known known) ends (Some x) inner) (rows_shown (on_known known) ends inner t (suc i) (drop (i + 1) t.rows)))
    (rows_shown (on_known known) ends inner t 0 t.rows) before mid failed) (sym (row_is t i r.0 h r.1 is)) l

pub rows_on : (known : List (Option Outcome)) (ends : Bool) (inner : Block) (t : Table) (before mid now : Numbered) (i : ℕ) (h : Here) (failed fault : Bool) →
    RowsLeft known ends inner t before mid i (drop i t.rows) failed → IsHere t i h → Shows known ends (shown_block (on_known known) ends (Some h) inner) mid now fault →
    (ends && fault) ≡ false → RowsLeft known ends inner t before now (i + 1) (drop (i + 1) t.rows) (failed || fault)
rows_on known ends inner t before mid now i h failed fault left is shows on =
    subst (λ j. RowsLeft known ends inner t before now j (drop (i + 1) t.rows) (failed || fault)) (sym (add-one i))
    (left_on known ends (shown_block (on_known known) ends (Some h) inner) (rows_shown (on_known known) ends inner t (suc i) (drop (i + 1) t.rows))
    (rows_shown (on_known known) ends inner t 0 t.rows) before mid now failed fault (next_row known ends inner t before mid i h failed left is) shows on)

pub rows_ended : (known : List (Option Outcome)) (ends : Bool) (inner : Block) (t : Table) (before mid now : Numbered) (i : ℕ) (h : Here) (failed fault : Bool) →
    RowsLeft known ends inner t before mid i (drop i t.rows) failed → IsHere t i h → Shows known ends (shown_block (on_known known) ends (Some h) inner) mid now fault →
    (ends && fault) ≡ true → Shows known ends (rows_shown (on_known known) ends inner t 0 t.rows) before now true
rows_ended known ends inner t before mid now i h failed fault left is shows off =
    left_ended known ends (shown_block (on_known known) ends (Some h) inner) (rows_shown (on_known known) ends inner t (suc i) (drop (i + 1) t.rows))
    (rows_shown (on_known known) ends inner t 0 t.rows) before mid now failed fault (next_row known ends inner t before mid i h failed left is) shows off

pub rows_stop : (known : List (Option Outcome)) (ends : Bool) (inner : Block) (t : Table) (before mid : Numbered) (i : ℕ) (h : Here) (failed : Bool) (e : Stop) →
    RowsLeft known ends inner t before mid i (drop i t.rows) failed → IsHere t i h → Stops known (shown_block (on_known known) ends (Some h) inner).reads e →
    Stops known (rows_shown (on_known known) ends inner t 0 t.rows).reads e
rows_stop known ends inner t before mid i h failed e left is stops =
    left_stops known ends (shown_block (on_known known) ends (Some h) inner) (rows_shown (on_known known) ends inner t (suc i) (drop (i + 1) t.rows))
    (rows_shown (on_known known) ends inner t 0 t.rows) before mid failed e (next_row known ends inner t before mid i h failed left is) stops

pub rows_done : (known : List (Option Outcome)) (ends : Bool) (inner : Block) (t : Table) (before now : Numbered) (i : ℕ) (failed : Bool) →
    RowsLeft known ends inner t before now i (drop i t.rows) failed → length t.rows ≤ i →
    Shows known ends (rows_shown (on_known known) ends inner t 0 t.rows) before now failed
rows_done known ends inner t before now i failed left h =
    left_none known ends (rows_shown (on_known known) ends inner t 0 t.rows) before now failed
    (subst (λ rs. RowsLeft known ends inner t before now i rs failed) (drop_all i t.rows h) left)

-- rows by what an outcome is
each_is : (known : List (Option Outcome)) (ends : Bool) (o : Outcome) (inner : Block) →
    each_row ends (λ h. shown_block (on_known known) ends (Some h) inner) o ≡ each_shown (on_known known) ends (rows_of o) inner
each_is known ends (Good (value.Rows t)) inner = refl
each_is known ends (Good (value.Bool b)) inner = refl
each_is known ends (Good (value.Int n)) inner = refl
each_is known ends (Good (value.Text t)) inner = refl
each_is known ends (Bad e) inner = refl

-- ---- what is shown by what a formula comes to

-- of nothing at all nothing stops
nothing_stops : (known : List (Option Outcome)) (reads : List ℕ) (e : Stop) → Stops known [] e → Stops known reads e
nothing_stops known reads (stop.Ask i) h = absurd (let k : None ≡ Some i = h in cc)
nothing_stops known reads stop.NoMemory h = tt

-- what stops what is shown of a formula stops both, where nothing is shown of a fault
told_stops : (known : List (Option Outcome)) (ends : Bool) (E : Evaluation) (o : Outcome) (c : Showing) (x : Stop) → IsFound known E o → (is_fault o ≡ true → c ≡ nothing) →
    Stops known c.reads x → Stops known (then_shown ends (formula_shown E none) c).reads x
told_stops known ends E o c x i quiet s = elim (cases_Bool (ends && is_fault o)) [
  | inl e ↦ nothing_stops known (then_shown ends (formula_shown E none) c).reads x
      (subst (λ (z : Showing). Stops known z.reads x) (quiet (and_parts ends (is_fault o) e).1) s)
  | inr e ↦ (let n = made none 0 in later_stops known ends (formula_shown E none) c n n (is_fault o) x (told_shows known ends E o n i) e s)
]

-- nothing is added
nothing_was : (known : List (Option Outcome)) (ends : Bool) (n m : Numbered) (f : Bool) → Shows known ends nothing n m f → (f ≡ false) × (m ≡ n)
nothing_was known ends n m f h = (h.fault, h.nodes (and_right ends f h.fault) ∙ with_none n)

-- nothing is added behind a part
none_behind : (known : List (Option Outcome)) (ends : Bool) (x : Showing) (n m l : Numbered) (a b : Bool) → Shows known ends x n m a → Shows known ends nothing m l b →
    Shows known ends x n l (a || b)
none_behind known ends x n m l a b h k =
    let none = nothing_was known ends m l b k in
    let same : (a || b) ≡ a = rw none.0 (or_none a) in
    subst (λ f. Shows known ends x n l f) (sym same) (subst (λ z. Shows known ends x n z a) (sym none.1) h)

-- nothing is added before a part
none_before : (known : List (Option Outcome)) (ends : Bool) (x : Showing) (n m l : Numbered) (a b : Bool) → Shows known ends nothing n m a → Shows known ends x m l b →
    Shows known ends x n l (a || b)
none_before known ends x n m l a b h k =
    let none = nothing_was known ends n m a h in
    let same : (a || b) ≡ b = rw none.0 refl in
    subst (λ f. Shows known ends x n l f) (sym same) (subst (λ z. Shows known ends x z l b) none.1 k)

-- one branch where it is shown, and then the other where that is
both_shown : (known : List (Option Outcome)) (ends : Bool) (here : Option Here) (o : Outcome) (one other : Block) (n m l : Numbered) (a b : Bool) →
    Shows known ends (shown_where (on_known known) ends here (shows_branch o true) one) n m a →
    Shows known ends (shown_where (on_known known) ends here (shows_branch o false) other) m l b →
    Shows known ends (chosen o (shown_block (on_known known) ends here one) (shown_block (on_known known) ends here other)) n l (a || b)
both_shown known ends here (Good (value.Bool true)) one other n m l a b h k = none_behind known ends (shown_block (on_known known) ends here one) n m l a b h k
both_shown known ends here (Good (value.Bool false)) one other n m l a b h k = none_before known ends (shown_block (on_known known) ends here other) n m l a b h k
both_shown known ends here (Good (value.Int i)) one other n m l a b h k = none_before known ends nothing n m l a b h k
both_shown known ends here (Good (value.Text t)) one other n m l a b h k = none_before known ends nothing n m l a b h k
both_shown known ends here (Good (value.Rows t)) one other n m l a b h k = none_before known ends nothing n m l a b h k
both_shown known ends here (Bad e) one other n m l a b h k = none_before known ends nothing n m l a b h k

-- what stops a branch stops the choice
one_stops : (known : List (Option Outcome)) (ends : Bool) (here : Option Here) (o : Outcome) (one other : Block) (x : Stop) →
    Stops known (shown_where (on_known known) ends here (shows_branch o true) one).reads x →
    Stops known (chosen o (shown_block (on_known known) ends here one) (shown_block (on_known known) ends here other)).reads x
one_stops known ends here (Good (value.Bool true)) one other x h = h
one_stops known ends here (Good (value.Bool false)) one other x h = nothing_stops known (shown_block (on_known known) ends here other).reads x h
one_stops known ends here (Good (value.Int i)) one other x h = h
one_stops known ends here (Good (value.Text t)) one other x h = h
one_stops known ends here (Good (value.Rows t)) one other x h = h
one_stops known ends here (Bad e) one other x h = h

other_stops : (known : List (Option Outcome)) (ends : Bool) (here : Option Here) (o : Outcome) (one other : Block) (x : Stop) →
    Stops known (shown_where (on_known known) ends here (shows_branch o false) other).reads x →
    Stops known (chosen o (shown_block (on_known known) ends here one) (shown_block (on_known known) ends here other)).reads x
other_stops known ends here (Good (value.Bool true)) one other x h = nothing_stops known (shown_block (on_known known) ends here one).reads x h
other_stops known ends here (Good (value.Bool false)) one other x h = h
other_stops known ends here (Good (value.Int i)) one other x h = h
other_stops known ends here (Good (value.Text t)) one other x h = h
other_stops known ends here (Good (value.Rows t)) one other x h = h
other_stops known ends here (Bad e) one other x h = h

no_branch : (o : Outcome) (one other : Showing) → is_fault o ≡ true → chosen o one other ≡ nothing
no_branch (Good v) one other h = absurd cc
no_branch (Bad e) one other h = refl

-- a test, and the branch that is shown
abbrev pub choice_shown : List (Option Outcome) → Bool → Option Here → Tree → Block → Block → Showing
choice_shown known ends here f one other =
    let E = on_known known (row_here here) f in
    then_shown ends (formula_shown E none) (chosen E.outcome (shown_block (on_known known) ends here one) (shown_block (on_known known) ends here other))

-- a test is read, and a branch is shown
pub choice_shows : (known : List (Option Outcome)) (ends : Bool) (here : Option Here) (f : Tree) (one other : Block) (s : Branches) (n m l : Numbered) (a b failed : Bool) →
    AreBranches known (on_known known (row_here here) f) s → Shows known ends (shown_where (on_known known) ends here s.one one) n m a →
    Shows known ends (shown_where (on_known known) ends here s.other other) m l b → failed ≡ (s.failed || (a || b)) →
    Shows known ends (choice_shown known ends here f one other) n l failed
choice_shows known ends here f one other s n m l a b failed i h k is =
    let E = on_known known (row_here here) f in
    let o = i.outcome in
    let h' = subst (λ x. Shows known ends (shown_where (on_known known) ends here x one) n m a) i.one h in
    let k' = subst (λ x. Shows known ends (shown_where (on_known known) ends here x other) m l b) i.other k in
    let both = subst (λ x. Shows known ends (chosen x (shown_block (on_known known) ends here one) (shown_block (on_known known) ends here other)) n l (a || b)) i.found.outcome
    (both_shown known ends here o one other n m l a b h' k') in
    subst (λ x. Shows known ends (choice_shown known ends here f one other) n l x) (sym (is ∙ ap (λ x. x || (a || b)) i.failed))
    (then_shows known ends (formula_shown E none) (chosen E.outcome (shown_block (on_known known) ends here one) (shown_block (on_known known) ends here other)) n n l
    (is_fault o) (a || b) (told_shows known ends E o n i.found) both)

pub test_stops : (known : List (Option Outcome)) (ends : Bool) (here : Option Here) (f : Tree) (one other rest : Block) (x : Stop) →
    Stops known (names_of (on_known known (row_here here) f).reads) x → Stops known (shown_block (on_known known) ends here (choice f one other rest)).reads x
test_stops known ends here f one other rest x h =
    let E = on_known known (row_here here) f in
    let c = chosen E.outcome (shown_block (on_known known) ends here one) (shown_block (on_known known) ends here other) in
    then_stops known ends (choice_shown known ends here f one other) (shown_block (on_known known) ends here rest) x (then_stops known ends (formula_shown E none) c x h)

-- a branch stops
within_choice : (known : List (Option Outcome)) (ends : Bool) (here : Option Here) (f : Tree) (one other rest : Block) (o : Outcome) (x : Stop) →
    IsFound known (on_known known (row_here here) f) o →
    Stops known (chosen o (shown_block (on_known known) ends here one) (shown_block (on_known known) ends here other)).reads x →
    Stops known (shown_block (on_known known) ends here (choice f one other rest)).reads x
within_choice known ends here f one other rest o x i s =
    let E = on_known known (row_here here) f in
    let one_shown = shown_block (on_known known) ends here one in
    let other_shown = shown_block (on_known known) ends here other in
    let c = chosen E.outcome one_shown other_shown in
    let t : Stops known c.reads x = subst (λ y. Stops known (chosen y one_shown other_shown).reads x) i.outcome s in
    then_stops known ends (choice_shown known ends here f one other) (shown_block (on_known known) ends here rest) x
    (told_stops known ends E o c x i (λ e. no_branch E.outcome one_shown other_shown (ap is_fault (sym i.outcome) ∙ e)) t)

pub first_stops : (known : List (Option Outcome)) (ends : Bool) (here : Option Here) (f : Tree) (one other rest : Block) (s : Branches) (x : Stop) →
    AreBranches known (on_known known (row_here here) f) s → Stops known (shown_where (on_known known) ends here s.one one).reads x →
    Stops known (shown_block (on_known known) ends here (choice f one other rest)).reads x
first_stops known ends here f one other rest s x i h =
    within_choice known ends here f one other rest i.outcome x i.found
    (one_stops known ends here i.outcome one other x (subst (λ b. Stops known (shown_where (on_known known) ends here b one).reads x) i.one h))

pub second_stops : (known : List (Option Outcome)) (ends : Bool) (here : Option Here) (f : Tree) (one other rest : Block) (s : Branches) (x : Stop) →
    AreBranches known (on_known known (row_here here) f) s → Stops known (shown_where (on_known known) ends here s.other other).reads x →
    Stops known (shown_block (on_known known) ends here (choice f one other rest)).reads x
second_stops known ends here f one other rest s x i h =
    within_choice known ends here f one other rest i.outcome x i.found
    (other_stops known ends here i.outcome one other x (subst (λ b. Stops known (shown_where (on_known known) ends here b other).reads x) i.other h))

-- rows, and the lines for each
abbrev pub loop_shown : List (Option Outcome) → Bool → Option Here → Tree → Block → Showing
loop_shown known ends here f inner =
    let E = on_known known (row_here here) f in
    then_shown ends (formula_shown E none) (each_row ends (λ h. shown_block (on_known known) ends (Some h) inner) E.outcome)

each_same : (known : List (Option Outcome)) (ends : Bool) (E : Evaluation) (inner : Block) (o : Outcome) (b : Option Table) → IsFound known E o → b ≡ rows_of o →
    each_shown (on_known known) ends b inner ≡ each_row ends (λ h. shown_block (on_known known) ends (Some h) inner) E.outcome
each_same known ends E inner o b i e = ap (λ x. each_shown (on_known known) ends x inner) (e ∙ ap rows_of i.outcome) ∙ sym (each_is known ends E.outcome inner)

-- rows are read, and lines are shown for each
pub each_shows : (known : List (Option Outcome)) (ends : Bool) (here : Option Here) (f : Tree) (inner : Block) (o : Outcome) (b : Option Table) (n m : Numbered)
    (fault inside failed : Bool) → IsFound known (on_known known (row_here here) f) o → b ≡ rows_of o → fault ≡ is_fault o →
    Shows known ends (each_shown (on_known known) ends b inner) n m inside → failed ≡ (fault || inside) → Shows known ends (loop_shown known ends here f inner) n m failed
each_shows known ends here f inner o b n m fault inside failed i e k s is =
    let E = on_known known (row_here here) f in
    let t = subst (λ x. Shows known ends x n m inside) (each_same known ends E inner o b i e) s in
    subst (λ x. Shows known ends (loop_shown known ends here f inner) n m x) (sym (is ∙ ap (λ x. x || inside) k))
    (then_shows known ends (formula_shown E none) (each_row ends (λ h. shown_block (on_known known) ends (Some h) inner) E.outcome) n n m
    (is_fault o) inside (told_shows known ends E o n i) t)

pub rows_read_stop : (known : List (Option Outcome)) (ends : Bool) (here : Option Here) (f : Tree) (inner rest : Block) (x : Stop) →
    Stops known (names_of (on_known known (row_here here) f).reads) x → Stops known (shown_block (on_known known) ends here (each f inner rest)).reads x
rows_read_stop known ends here f inner rest x h =
    let E = on_known known (row_here here) f in
    let c = each_row ends (λ h. shown_block (on_known known) ends (Some h) inner) E.outcome in
    then_stops known ends (loop_shown known ends here f inner) (shown_block (on_known known) ends here rest) x (then_stops known ends (formula_shown E none) c x h)

no_rows : (known : List (Option Outcome)) (ends : Bool) (o : Outcome) (inner : Block) → is_fault o ≡ true →
    each_row ends (λ h. shown_block (on_known known) ends (Some h) inner) o ≡ nothing
no_rows known ends (Good v) inner h = absurd cc
no_rows known ends (Bad e) inner h = refl

pub lines_stop : (known : List (Option Outcome)) (ends : Bool) (here : Option Here) (f : Tree) (inner rest : Block) (o : Outcome) (b : Option Table) (x : Stop) →
    IsFound known (on_known known (row_here here) f) o → b ≡ rows_of o → Stops known (each_shown (on_known known) ends b inner).reads x →
    Stops known (shown_block (on_known known) ends here (each f inner rest)).reads x
lines_stop known ends here f inner rest o b x i e s =
    let E = on_known known (row_here here) f in
    let c = each_row ends (λ h. shown_block (on_known known) ends (Some h) inner) E.outcome in
    then_stops known ends (loop_shown known ends here f inner) (shown_block (on_known known) ends here rest) x
    (told_stops known ends E o c x i (λ t. no_rows known ends E.outcome inner (ap is_fault (sym i.outcome) ∙ t))
    (subst (λ (y : Showing). Stops known y.reads x) (each_same known ends E inner o b i e) s))

-- ---- what is tried

-- the first part met no fault, or met one
attempt_on : (x y : Showing) → x.failed ≡ false → attempted x y ≡ x
attempt_on x y h = rw h refl

attempt_off : (x y : Showing) → x.failed ≡ true → attempted x y ≡ record y { reads = x.reads ++ y.reads }
attempt_off x y h = rw h refl

-- the first part is shown
first_shows : (known : List (Option Outcome)) (ends : Bool) (x y : Showing) (n t now : Numbered) (ended : Bool) → Shows known true x (beside n) t ended → ended ≡ false →
    now ≡ with_all n t → Shows known ends (attempted x y) n now false
first_shows known ends x y n t now ended s e is =
    let none : x.failed ≡ false = sym s.fault ∙ e in
    let made_so : t ≡ with_nodes (beside n) x.nodes = s.nodes e in
    subst (λ z. Shows known ends z n now false) (sym (attempt_on x y none))
    (record { reads = s.reads; fault = sym none; nodes = λ q. is ∙ ap (with_all n) made_so })

-- the second part is shown in its place
second_shows : (known : List (Option Outcome)) (ends : Bool) (x y : Showing) (n t now : Numbered) (ended failed : Bool) → Shows known true x (beside n) t ended → ended ≡ true →
    Shows known ends y n now failed → Shows known ends (attempted x y) n now failed
second_shows known ends x y n t now ended failed s e k =
    subst (λ z. Shows known ends z n now failed) (sym (attempt_off x y (sym s.fault ∙ e)))
    (record { reads = missing_later known x.reads y.reads s.reads ∙ k.reads; fault = k.fault; nodes = k.nodes })

-- what stops the first part stops both
pub tried_stops : (known : List (Option Outcome)) (x y : Showing) (e : Stop) → Stops known x.reads e → Stops known (attempted x y).reads e
tried_stops known x y e h = elim (cases_Bool x.failed) [
  | inl t ↦ subst (λ (z : Showing). Stops known z.reads e) (sym (attempt_off x y t)) (stops_first known x.reads y.reads e h)
  | inr t ↦ subst (λ (z : Showing). Stops known z.reads e) (sym (attempt_on x y t)) h
]

-- and so does what stops the second where it is shown
second_part_stops : (known : List (Option Outcome)) (x y : Showing) (n t : Numbered) (ended : Bool) (e : Stop) → Shows known true x n t ended → ended ≡ true →
    Stops known y.reads e → Stops known (attempted x y).reads e
second_part_stops known x y n t ended e s is h =
    subst (λ (z : Showing). Stops known z.reads e) (sym (attempt_off x y (sym s.fault ∙ is))) (stops_later known x.reads y.reads e s.reads h)

-- as the code goes over them: the first part is put behind what stands unless it ended, and then the second is shown where it did
pub attempt_shows : (known : List (Option Outcome)) (ends : Bool) (here : Option Here) (x : Showing) (second : Block) (n t m now : Numbered) (ended failed : Bool) →
    Shows known true x (beside n) t ended → m ≡ unless_ended ended n t → Shows known ends (shown_where (on_known known) ends here ended second) m now failed →
    Shows known ends (attempted x (shown_block (on_known known) ends here second)) n now failed
attempt_shows known ends here x second n t m now true failed s e k =
    second_shows known ends x (shown_block (on_known known) ends here second) n t now true failed s refl
    (subst (λ z. Shows known ends (shown_block (on_known known) ends here second) z now failed) e k)
attempt_shows known ends here x second n t m now false failed s e k =
    let none = nothing_was known ends m now failed k in
    let y = shown_block (on_known known) ends here second in
    subst (λ f. Shows known ends (attempted x y) n now f) (sym none.0)
    (first_shows known ends x y n t now false s refl (none.1 ∙ e))

pub instead_stops : (known : List (Option Outcome)) (ends : Bool) (here : Option Here) (x : Showing) (second : Block) (n t : Numbered) (ended : Bool) (e : Stop) →
    Shows known true x n t ended → Stops known (shown_where (on_known known) ends here ended second).reads e →
    Stops known (attempted x (shown_block (on_known known) ends here second)).reads e
instead_stops known ends here x second n t true e s h = second_part_stops known x (shown_block (on_known known) ends here second) n t true e s refl h
instead_stops known ends here x second n t false e s h = nothing_stops known (attempted x (shown_block (on_known known) ends here second)).reads e h
