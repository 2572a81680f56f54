-- What holds of every block that is shown, by its lines alone.
use Rattle.std.proofs.Common.{◌≡◌, ℕ, zero, suc, Bool, true, false, ◌&&◌, refl, sym, ◌∙◌, inl, inr, List, [], ◌∷◌, Option, Some}
use Rattle.std.proofs.lemmas.Bool.{cases_Bool, false≢true}
use Rattle.html_out.specs.Html.{is_void}
use Rattle.sig_base.specs.Tables.{Table}
use Rattle.sig_base.specs.declared.rows.Row.{Row}
use Rattle.sig_base.specs.declared.value.Value.TheVariants as value
use Rattle.sig_base.specs.declared.value.Outcome.{Outcome}
use Rattle.sig_base.specs.declared.value.Outcome.TheVariants.{Good, Bad}
use Rattle.sig_formula.specs.Trees.{Tree}
use Rattle.sig_formula.specs.declared.formula.RowRef.{RowRef}
use Rattle.page_model.specs.Addresses.{address}
use Rattle.page_model.specs.Forest.{Forest, none, node, after}
use Rattle.page_model.specs.Labels.{Text, Element, Look, Distinct, GoodLabel, GoodNames, named}
use Rattle.tpl_model.specs.Lines.{Block, empty, text, tag, choice, each, attempt}
use Rattle.tpl_model.specs.Shapes.{Evaluating, Here, key_here, row_here, Showing, formula_shown, then_shown, within, chosen, rows_from, each_row, attempted, attributes_of, attributes_told, node_text, shown_block}
use Rattle.tpl_model.specs.Laws.{Fits}

-- a property of shown nodes, at a depth that is left, where lines stand in rows of these keys
pub record Closed (P : ℕ → Forest Look → Type 0) (C : Option (List ℕ) → Type 0) : Type 0 where
  pub nil : (d : ℕ) → P d none
  pub join : (d : ℕ) (x y : Forest Look) → P d x → P d y → P d (after x y)
  pub leaf : (d n : ℕ) (c : Option (List ℕ)) (t : List ℕ) → C c → P d (node (address n c) (Text t) none none)
  pub branch : (d n : ℕ) (c : Option (List ℕ)) (name : List ℕ) (xs : List (List ℕ × Option (List ℕ))) (k : Forest Look) → C c →
      Distinct xs → GoodLabel (Element name xs) → (is_void name ≡ true → k ≡ none) → P d k →
      P (suc d) (node (address n c) (Element name xs) k none)
  pub more : (d : ℕ) (x : Forest Look) → P d x → P (suc d) x

pub then_has : (P : Forest Look → Type 0) (ends : Bool) (x y : Showing) → P none → P (after x.nodes y.nodes) →
    P (then_shown ends x y).nodes
then_has P ends x y p q = elim (cases_Bool (ends && x.failed)) [
  | inl e ↦ rw e p
  | inr e ↦ rw e q
]

named_of : (evaluate : Evaluating) (row : Option RowRef) (name : List ℕ) (xs : List (List ℕ × Tree)) →
    named name (attributes_of evaluate row xs) ≡ named name xs
named_of evaluate row name [] = refl
named_of evaluate row name (a ∷ xs) = rw (named_of evaluate row name xs) refl

distinct_of : (evaluate : Evaluating) (row : Option RowRef) (xs : List (List ℕ × Tree)) → Distinct xs →
    Distinct (attributes_of evaluate row xs)
distinct_of evaluate row [] h = tt
distinct_of evaluate row (a ∷ xs) h = (named_of evaluate row a.0 xs ∙ h.0, distinct_of evaluate row xs h.1)

good_of : (evaluate : Evaluating) (row : Option RowRef) (xs : List (List ℕ × Tree)) → GoodNames xs →
    GoodNames (attributes_of evaluate row xs)
good_of evaluate row [] h = tt
good_of evaluate row (a ∷ xs) h = (h.0, good_of evaluate row xs h.1)

pub attributes_none : (ends : Bool) (evaluate : Evaluating) (row : Option RowRef) (xs : List (List ℕ × Tree)) →
    (attributes_told ends evaluate row xs).nodes ≡ none
attributes_none ends evaluate row [] = refl
attributes_none ends evaluate row (a ∷ xs) = then_has (λ t. t ≡ none) ends (formula_shown (evaluate row a.1) none)
    (attributes_told ends evaluate row xs) refl (attributes_none ends evaluate row xs)

-- what is inside an element: the attributes show no nodes
pub inside_has : (P : Forest Look → Type 0) (ends : Bool) (x y : Showing) → x.nodes ≡ none → P none → P y.nodes →
    P (then_shown ends x y).nodes
inside_has P ends x y e p q = then_has P ends x y p (rw e q)

rows_has : (P : Forest Look → Type 0) → P none → ((x y : Forest Look) → P x → P y → P (after x y)) → (ends : Bool) (go : Here →
    Showing) → ((h : Here) → P (go h).nodes) → (t : Table) (i : ℕ) (rs : List Row) → P (rows_from ends go t i rs).nodes
rows_has P nil join ends go h t i [] = nil
rows_has P nil join ends go h t i (r ∷ rs) =
    let here : Here = record { key = r.key; row = record { rows = t; place = i } } in
    let rest = rows_has P nil join ends go h t (suc i) rs in
    then_has P ends (go here) (rows_from ends go t (suc i) rs) nil (join (go here).nodes (rows_from ends go t (suc i) rs).nodes
    (h here) rest)

pub each_has : (P : Forest Look → Type 0) → P none → ((x y : Forest Look) → P x → P y → P (after x y)) → (ends : Bool) (go : Here →
    Showing) → ((h : Here) → P (go h).nodes) → (o : Outcome) → P (each_row ends go o).nodes
each_has P nil join ends go h (Good (value.Rows t)) = rows_has P nil join ends go h t 0 t.rows
each_has P nil join ends go h (Good (value.Bool b)) = nil
each_has P nil join ends go h (Good (value.Int n)) = nil
each_has P nil join ends go h (Good (value.Text t)) = nil
each_has P nil join ends go h (Bad e) = nil

pub chosen_has : (P : Forest Look → Type 0) → P none → (o : Outcome) (x y : Showing) → P x.nodes → P y.nodes → P (chosen o x y).nodes
chosen_has P nil (Good (value.Bool true)) x y p q = p
chosen_has P nil (Good (value.Bool false)) x y p q = q
chosen_has P nil (Good (value.Rows t)) x y p q = nil
chosen_has P nil (Good (value.Int n)) x y p q = nil
chosen_has P nil (Good (value.Text t)) x y p q = nil
chosen_has P nil (Bad e) x y p q = nil

pub attempted_has : (P : Forest Look → Type 0) (x y : Showing) → P x.nodes → P y.nodes → P (attempted x y).nodes
attempted_has P x y p q = elim (cases_Bool x.failed) [
  | inl e ↦ rw e q
  | inr e ↦ rw e p
]

pub shown_has : (P : ℕ → Forest Look → Type 0) (C : Option (List ℕ) → Type 0) → Closed P C →
    (evaluate : Evaluating) (b : Block) (ends : Bool) (here : Option Here) (d : ℕ) (in_row : Bool) → Fits b d in_row →
    C (key_here here) → (in_row ≡ false → (key : List ℕ) → C (Some key)) → P d (shown_block evaluate ends here b).nodes
shown_has P C c evaluate empty ends here d in_row f h g = c.nil d
shown_has P C c evaluate (text n t rest) ends here d in_row f h g =
    let e = evaluate (row_here here) t in
    let later = shown_has P C c evaluate rest ends here d in_row f h g in
    let own = c.leaf d n (key_here here) _ h in
    then_has (P d) ends (formula_shown e (node (address n (key_here here)) (Text (node_text e.outcome)) none none))
    (shown_block evaluate ends here rest) (c.nil d) (c.join d _ _ own later)
shown_has P C c evaluate (tag n name xs inner rest) ends here zero in_row f h g = absurd f
shown_has P C c evaluate (tag n name xs inner rest) ends here (suc d) in_row f h g =
    let inside = then_shown ends (attributes_told ends evaluate (row_here here) xs) (shown_block evaluate ends here inner) in
    let bare = attributes_none ends evaluate (row_here here) xs in
    let below : P d inside.nodes = inside_has (P d) ends (attributes_told ends evaluate (row_here here) xs)
    (shown_block evaluate ends here inner) bare (c.nil d) (shown_has P C c evaluate inner ends here d in_row f.2 h g) in
    let void : is_void name ≡ true → inside.nodes ≡ none = λ v. inside_has (λ t. t ≡ none) ends (attributes_told ends evaluate
    (row_here here) xs) (shown_block evaluate ends here inner) bare refl (rw (f.1 v) refl) in
    let own = c.branch d n (key_here here) name (attributes_of evaluate (row_here here) xs) inside.nodes h (distinct_of evaluate
    (row_here here) xs f.0) (f.4.0, good_of evaluate (row_here here) xs f.4.1) void below in
    let later = shown_has P C c evaluate rest ends here (suc d) in_row f.3 h g in
    then_has (P (suc d)) ends (within (address n (key_here here)) (Element name (attributes_of evaluate (row_here here) xs)) inside)
    (shown_block evaluate ends here rest) (c.nil (suc d)) (c.join (suc d) _ _ own later)
shown_has P C c evaluate (choice t one other rest) ends here zero in_row f h g = absurd f
shown_has P C c evaluate (choice t one other rest) ends here (suc d) in_row f h g =
    let e = evaluate (row_here here) t in
    let own = inside_has (P (suc d)) ends (formula_shown e none) (chosen e.outcome (shown_block evaluate ends here one)
    (shown_block evaluate ends here other)) refl (c.nil (suc d))
    (c.more d _ (chosen_has (P d) (c.nil d) e.outcome (shown_block evaluate ends here one) (shown_block evaluate ends here other)
    (shown_has P C c evaluate one ends here d in_row f.0 h g) (shown_has P C c evaluate other ends here d in_row f.1 h g))) in
    let later = shown_has P C c evaluate rest ends here (suc d) in_row f.2 h g in
    then_has (P (suc d)) ends (then_shown ends (formula_shown e none) (chosen e.outcome (shown_block evaluate ends here one)
    (shown_block evaluate ends here other))) (shown_block evaluate ends here rest) (c.nil (suc d)) (c.join (suc d) _ _ own later)
shown_has P C c evaluate (each t inner rest) ends here zero in_row f h g = absurd f
shown_has P C c evaluate (each t inner rest) ends here (suc d) in_row f h g =
    let e = evaluate (row_here here) t in
    let go : Here → Showing = λ r. shown_block evaluate ends (Some r) inner in
    let one : (r : Here) → P d (go r).nodes = λ r. shown_has P C c evaluate inner ends (Some r) d true f.1 (g f.0 r.key) (λ q. absurd
    (false≢true (sym q))) in
    let own = inside_has (P (suc d)) ends (formula_shown e none) (each_row ends go e.outcome) refl (c.nil (suc d)) (c.more d _ (each_has (P d)
    (c.nil d) (c.join d) ends go one e.outcome)) in
    let later = shown_has P C c evaluate rest ends here (suc d) in_row f.2 h g in
    then_has (P (suc d)) ends (then_shown ends (formula_shown e none) (each_row ends go e.outcome)) (shown_block evaluate ends here rest) (c.nil
    (suc d)) (c.join (suc d) _ _ own later)
shown_has P C c evaluate (attempt first second rest) ends here zero in_row f h g = absurd f
shown_has P C c evaluate (attempt first second rest) ends here (suc d) in_row f h g =
    let own = c.more d _ (attempted_has (P d) (shown_block evaluate true here first) (shown_block evaluate ends here second)
    (shown_has P C c evaluate first true here d in_row f.0 h g) (shown_has P C c evaluate second ends here d in_row f.1 h g)) in
    let later = shown_has P C c evaluate rest ends here (suc d) in_row f.2 h g in
    then_has (P (suc d)) ends (attempted (shown_block evaluate true here first) (shown_block evaluate ends here second))
    (shown_block evaluate ends here rest) (c.nil (suc d)) (c.join (suc d) _ _ own later)
