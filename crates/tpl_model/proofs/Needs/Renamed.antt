-- What a template shows rests on the outcomes of what its slots stand for, and not on what these are called.
use Rattle.std.proofs.Common.{◌≡◌, ℕ, zero, suc, ◌<◌, Bool, true, false, ◌&&◌, ◌||◌, refl, sym, ap, ap₂, ◌∙◌, inl, inr, List, [], ◌∷◌, map, length, Option, Some, None}
use Rattle.std.specs.Prelude.{slice_index, nat_lt}
use Rattle.std.proofs.lemmas.Bool.{cases_Bool, ltb-true}
use Rattle.std.proofs.lemmas.List.{map-append}
use Rattle.sig_base.specs.Tables.{Table}
use Rattle.sig_base.specs.declared.rows.Row.{Row}
use Rattle.sig_base.specs.declared.value.Value.{Value}
use Rattle.sig_base.specs.declared.value.Value.TheVariants as value
use Rattle.sig_base.specs.declared.value.Known.{Known}
use Rattle.sig_base.specs.declared.value.Step.{Step}
use Rattle.sig_base.specs.declared.value.Step.TheVariants.{Read, Done, Fail}
use Rattle.sig_base.specs.declared.value.Outcome.{Outcome}
use Rattle.sig_base.specs.declared.value.Outcome.TheVariants.{Good, Bad}
use Rattle.sig_formula.specs.Trees.{Tree}
use Rattle.sig_formula.specs.Evaluation as formulas
use Rattle.sig_formula.specs.declared.formula.RowRef.{RowRef}
use Rattle.signal_model.specs.Recipes.{formula, is_known, judged, no_hosts}
use Rattle.signal_model.specs.Values.{Evaluation, Seen, after_read, after_step, asked_within, learnt, read_first, unknown_slots}
use Rattle.page_model.specs.Addresses.{address}
use Rattle.page_model.specs.Forest.{Forest, after, node, none}
use Rattle.page_model.specs.Labels.{Element, Look, Text}
use Rattle.tpl_model.specs.Lines.{Block, Line, attempt, block_of, choice, each, empty, tag, text}
use Rattle.tpl_model.specs.Shapes.{Evaluating, Here, Showing, attempted, attribute_value, attributes_of, attributes_told, chosen, each_row, is_fault, key_here, node_text, row_here, rows_from, shown_block, shown_lines, then_shown, formula_shown, within}
use Rattle.tpl_model.specs.Sources.{evaluating}
use Rattle.tpl_model.specs.Needs.Outcomes.{shown_anew}

-- ---- one formula

-- the same evaluation of names that are called anew
abbrev pub called_anew : (ℕ → ℕ) → Evaluation → Evaluation
called_anew g e = record { reads = map (λ (s : Seen). record { name = g s.name; outcome = s.outcome }) e.reads; outcome = e.outcome }

-- slots stand for names that are called anew, and these have the outcomes of the others
pub record AreCalled (g : ℕ → ℕ) (links later : List ℕ) (source other : ℕ → Outcome) : Type 0 where
  pub count : length later ≡ length links
  pub names : (n : ℕ) → n < length links → slice_index later n ≡ g (slice_index links n)
  pub outcomes : (n : ℕ) → n < length links → other (slice_index later n) ≡ source (slice_index links n)

read_anew : (g : ℕ → ℕ) (m : ℕ) (o : Outcome) (go anew : Value → Evaluation) → ((v : Value) → anew v ≡ called_anew g (go v)) →
    after_read (g m) o anew ≡ called_anew g (after_read m o go)
read_anew g m (Bad e) go anew h = refl
read_anew g m (Good v) go anew h = ap (read_first (record { name = g m; outcome = Good v })) (h v)

step_anew : (g : ℕ → ℕ) (links later : List ℕ) (source other : ℕ → Outcome) → AreCalled g links later source other → (known : List Known) (t : Step)
    (go anew : ℕ → Value → Evaluation) → ((n : ℕ) (v : Value) → anew n v ≡ called_anew g (go n v)) →
    after_step (judged (length links) known t) later other anew ≡ called_anew g (after_step (judged (length links) known t) links source go)
step_anew g links later source other c known (Done v) go anew h = refl
step_anew g links later source other c known (Fail e) go anew h = refl
step_anew g links later source other c known (Read n) go anew h = elim (cases_Bool (nat_lt n (length links))) [
  | inl e ↦ elim (cases_Bool (is_known n known)) [
    | inl f ↦ rw e (rw f refl)
    | inr f ↦ (
        let lt : n < length links = ltb-true n (length links) e in
        let one : after_read (slice_index later n) (other (slice_index later n)) (anew n)
        ≡ called_anew g (after_read (slice_index links n) (source (slice_index links n)) (go n))
        = ap₂ (λ m o. after_read m o (anew n)) (c.names n lt) (c.outcomes n lt)
        ∙ read_anew g (slice_index links n) (source (slice_index links n)) (go n) (anew n) (h n) in
        rw e (rw f one))
  ]
  | inr e ↦ rw e refl
]

within_anew : (g : ℕ → ℕ) (links later : List ℕ) (source other : ℕ → Outcome) → AreCalled g links later source other → (turns : ℕ)
    (row : Option RowRef) (f : Tree) (known : List Known) →
    asked_within turns no_hosts (record { expression = formula row f; slots = later }) other known
    ≡ called_anew g (asked_within turns no_hosts (record { expression = formula row f; slots = links }) source known)
within_anew g links later source other c zero row f known = refl
within_anew g links later source other c (suc turns) row f known =
    ap (λ count. after_step (judged count known (formulas.answer_of f row known)) later other
    (λ n v. asked_within turns no_hosts (record { expression = formula row f; slots = later }) other (learnt known n v))) c.count
    ∙ step_anew g links later source other c known (formulas.answer_of f row known)
    (λ n v. asked_within turns no_hosts (record { expression = formula row f; slots = links }) source (learnt known n v))
    (λ n v. asked_within turns no_hosts (record { expression = formula row f; slots = later }) other (learnt known n v))
    (λ n v. within_anew g links later source other c turns row f (learnt known n v))

formula_anew : (g : ℕ → ℕ) (links later : List ℕ) (source other : ℕ → Outcome) → AreCalled g links later source other → (row : Option RowRef) (f : Tree) →
    evaluating later other row f ≡ called_anew g (evaluating links source row f)
formula_anew g links later source other c row f =
    ap (λ count. asked_within (suc (unknown_slots count [])) no_hosts (record { expression = formula row f; slots = later }) other []) c.count
    ∙ within_anew g links later source other c (suc (unknown_slots (length links) [])) row f []

-- ---- what is shown

-- formulas are evaluated the same, on names that are called anew
abbrev pub on_anew : (ℕ → ℕ) → Evaluating → Evaluating
on_anew g evaluate row f = called_anew g (evaluate row f)

then_anew : (g : ℕ → ℕ) (ends : Bool) (x y : Showing) → then_shown ends (shown_anew g x) (shown_anew g y) ≡ shown_anew g (then_shown ends x y)
then_anew g ends x y = elim (cases_Bool (ends && x.failed)) [
  | inl e ↦ rw e refl
  | inr e ↦ (
      let one : (r : List ℕ) → Showing = λ r. record { nodes = after x.nodes y.nodes; reads = r; failed = x.failed || y.failed } in
      rw e (ap one (sym (map-append g x.reads y.reads))))
]

names_anew : (g : ℕ → ℕ) (rs : List Seen) →
    map (λ (s : Seen). s.name) (map (λ (s : Seen). record { name = g s.name; outcome = s.outcome }) rs) ≡ map g (map (λ (s : Seen). s.name) rs)
names_anew g [] = refl
names_anew g (r ∷ rs) = ap (λ ns. g r.name ∷ ns) (names_anew g rs)

told_anew : (g : ℕ → ℕ) (e : Evaluation) (nodes : Forest Look) → formula_shown (called_anew g e) nodes ≡ shown_anew g (formula_shown e nodes)
told_anew g e nodes = ap (λ (r : List ℕ). record { nodes = nodes; reads = r; failed = is_fault e.outcome }) (names_anew g e.reads)

attributes_anew : (g : ℕ → ℕ) (evaluate : Evaluating) (ends : Bool) (row : Option RowRef) (xs : List (List ℕ × Tree)) →
    attributes_told ends (on_anew g evaluate) row xs ≡ shown_anew g (attributes_told ends evaluate row xs)
attributes_anew g evaluate ends row [] = refl
attributes_anew g evaluate ends row (x ∷ xs) =
    ap₂ (then_shown ends) (told_anew g (evaluate row x.1) none) (attributes_anew g evaluate ends row xs)
    ∙ then_anew g ends (formula_shown (evaluate row x.1) none) (attributes_told ends evaluate row xs)

values_anew : (g : ℕ → ℕ) (evaluate : Evaluating) (row : Option RowRef) (xs : List (List ℕ × Tree)) →
    attributes_of (on_anew g evaluate) row xs ≡ attributes_of evaluate row xs
values_anew g evaluate row [] = refl
values_anew g evaluate row (x ∷ xs) = ap (λ vs. (x.0, attribute_value (evaluate row x.1).outcome) ∷ vs) (values_anew g evaluate row xs)

chosen_anew : (g : ℕ → ℕ) (o : Outcome) (x y : Showing) → chosen o (shown_anew g x) (shown_anew g y) ≡ shown_anew g (chosen o x y)
chosen_anew g (Good (value.Bool true)) x y = refl
chosen_anew g (Good (value.Bool false)) x y = refl
chosen_anew g (Good (value.Int n)) x y = refl
chosen_anew g (Good (value.Text t)) x y = refl
chosen_anew g (Good (value.Rows t)) x y = refl
chosen_anew g (Bad e) x y = refl

rows_anew : (g : ℕ → ℕ) (ends : Bool) (go anew : Here → Showing) → ((h : Here) → anew h ≡ shown_anew g (go h)) → (t : Table) (i : ℕ) (rs : List Row) →
    rows_from ends anew t i rs ≡ shown_anew g (rows_from ends go t i rs)
rows_anew g ends go anew h t i [] = refl
rows_anew g ends go anew h t i (r ∷ rs) =
    let here : Here = record { key = r.key; row = record { rows = t; place = i } } in
    ap₂ (then_shown ends) (h here) (rows_anew g ends go anew h t (suc i) rs) ∙ then_anew g ends (go here) (rows_from ends go t (suc i) rs)

each_anew : (g : ℕ → ℕ) (ends : Bool) (go anew : Here → Showing) → ((h : Here) → anew h ≡ shown_anew g (go h)) → (o : Outcome) →
    each_row ends anew o ≡ shown_anew g (each_row ends go o)
each_anew g ends go anew h (Good (value.Rows t)) = rows_anew g ends go anew h t 0 t.rows
each_anew g ends go anew h (Good (value.Bool b)) = refl
each_anew g ends go anew h (Good (value.Int n)) = refl
each_anew g ends go anew h (Good (value.Text t)) = refl
each_anew g ends go anew h (Bad e) = refl

attempted_anew : (g : ℕ → ℕ) (x y : Showing) → attempted (shown_anew g x) (shown_anew g y) ≡ shown_anew g (attempted x y)
attempted_anew g x y = elim (cases_Bool x.failed) [
  | inl e ↦ (
      let one : (r : List ℕ) → Showing = λ r. record { nodes = y.nodes; reads = r; failed = y.failed } in
      rw e (ap one (sym (map-append g x.reads y.reads))))
  | inr e ↦ rw e refl
]

block_anew : (g : ℕ → ℕ) (evaluate : Evaluating) (b : Block) (ends : Bool) (here : Option Here) →
    shown_block (on_anew g evaluate) ends here b ≡ shown_anew g (shown_block evaluate ends here b)
block_anew g evaluate empty ends here = refl
block_anew g evaluate (text n f rest) ends here =
    let e = evaluate (row_here here) f in
    let nodes : Forest Look = node (address n (key_here here)) (Text (node_text e.outcome)) none none in
    ap₂ (then_shown ends) (told_anew g e nodes) (block_anew g evaluate rest ends here)
    ∙ then_anew g ends (formula_shown e nodes) (shown_block evaluate ends here rest)
block_anew g evaluate (tag n name xs inner rest) ends here =
    let a = address n (key_here here) in
    let r = row_here here in
    let whole : List (List ℕ × Option (List ℕ)) → Showing → Showing → Showing = λ vs x y. then_shown ends (within a (Element name vs) x) y in
    let values = attributes_of evaluate r xs in
    let first = attributes_told ends evaluate r xs in
    let below = shown_block evaluate ends here inner in
    let inside : then_shown ends (attributes_told ends (on_anew g evaluate) r xs) (shown_block (on_anew g evaluate) ends here inner)
    ≡ shown_anew g (then_shown ends first below)
    = ap₂ (then_shown ends) (attributes_anew g evaluate ends r xs) (block_anew g evaluate inner ends here) ∙ then_anew g ends first below in
    ap (λ vs. whole vs (then_shown ends (attributes_told ends (on_anew g evaluate) r xs) (shown_block (on_anew g evaluate) ends here inner))
    (shown_block (on_anew g evaluate) ends here rest)) (values_anew g evaluate r xs)
    ∙ ap₂ (whole values) inside (block_anew g evaluate rest ends here)
    ∙ then_anew g ends (within a (Element name values) (then_shown ends first below)) (shown_block evaluate ends here rest)
block_anew g evaluate (choice f one other rest) ends here =
    let e = evaluate (row_here here) f in
    let x = shown_block evaluate ends here one in
    let y = shown_block evaluate ends here other in
    let inside = ap₂ (then_shown ends) (told_anew g e none)
    (ap₂ (chosen e.outcome) (block_anew g evaluate one ends here) (block_anew g evaluate other ends here) ∙ chosen_anew g e.outcome x y)
    ∙ then_anew g ends (formula_shown e none) (chosen e.outcome x y) in
    ap₂ (then_shown ends) inside (block_anew g evaluate rest ends here)
    ∙ then_anew g ends (then_shown ends (formula_shown e none) (chosen e.outcome x y)) (shown_block evaluate ends here rest)
block_anew g evaluate (each f inner rest) ends here =
    let e = evaluate (row_here here) f in
    let go : Here → Showing = λ h. shown_block evaluate ends (Some h) inner in
    let anew : Here → Showing = λ h. shown_block (on_anew g evaluate) ends (Some h) inner in
    let inside = ap₂ (then_shown ends) (told_anew g e none) (each_anew g ends go anew (λ h. block_anew g evaluate inner ends (Some h)) e.outcome)
    ∙ then_anew g ends (formula_shown e none) (each_row ends go e.outcome) in
    ap₂ (then_shown ends) inside (block_anew g evaluate rest ends here)
    ∙ then_anew g ends (then_shown ends (formula_shown e none) (each_row ends go e.outcome)) (shown_block evaluate ends here rest)
block_anew g evaluate (attempt first second rest) ends here =
    let x = shown_block evaluate true here first in
    let y = shown_block evaluate ends here second in
    ap₂ (then_shown ends)
    (ap₂ attempted (block_anew g evaluate first true here) (block_anew g evaluate second ends here) ∙ attempted_anew g x y)
    (block_anew g evaluate rest ends here)
    ∙ then_anew g ends (attempted x y) (shown_block evaluate ends here rest)

-- what a template shows on names that are called anew
pub lines_anew : (g : ℕ → ℕ) (lines : List Line) (links later : List ℕ) (source other : ℕ → Outcome) → AreCalled g links later source other →
    shown_lines (evaluating later other) lines ≡ shown_anew g (shown_lines (evaluating links source) lines)
lines_anew g lines links later source other c =
    let same : evaluating later other ≡ on_anew g (evaluating links source) = λ i row f. formula_anew g links later source other c row f i in
    ap (λ (z : Evaluating). shown_lines z lines) same ∙ block_anew g (evaluating links source) (block_of lines) false None
