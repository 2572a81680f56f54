-- What a template shows rests on the outcomes of the names that it reads, and on no others.
use Rattle.std.proofs.Common.{◌≡◌, ℕ, zero, suc, ◌==◌, Bool, true, false, ◌||◌, ◌&&◌, refl, sym, ap, ◌∙◌, eq-eqb, inl, inr, List, [], ◌∷◌, ◌++◌, map, length, Option, Some, None}
use Rattle.std.specs.Prelude.{slice_index}
use Rattle.std.proofs.lemmas.Bool.{cases_Bool, false≢true}
use Rattle.sig_base.specs.Tables.{Table}
use Rattle.sig_base.specs.declared.rows.Row.{Row}
use Rattle.sig_base.specs.declared.value.Value.{Value}
use Rattle.sig_base.specs.declared.value.Value.TheVariants as value
use Rattle.sig_base.specs.declared.value.Known.{Known}
use Rattle.sig_base.specs.declared.value.Step.{Step}
use Rattle.sig_base.specs.declared.value.Step.TheVariants.{Read, Done, Fail}
use Rattle.sig_base.specs.declared.value.Outcome.{Outcome}
use Rattle.sig_base.specs.declared.value.Outcome.TheVariants.{Good, Bad}
use Rattle.sig_formula.specs.declared.formula.RowRef.{RowRef}
use Rattle.sig_formula.specs.Trees.{Tree}
use Rattle.sig_formula.specs.Evaluation as formulas
use Rattle.signal_model.specs.Recipes.{no_hosts, formula, judged}
use Rattle.signal_model.specs.Signals.{is_in}
use Rattle.signal_model.specs.Values.{Seen, Evaluation, read_first, after_read, after_step, learnt, asked_within, unknown_slots}
use Rattle.page_model.specs.Addresses.{address}
use Rattle.page_model.specs.Forest.{Forest, none, node}
use Rattle.page_model.specs.Labels.{Text, Element, Look}
use Rattle.tpl_model.specs.Lines.{Block, empty, text, tag, choice, each, attempt, block_of}
use Rattle.tpl_model.specs.Shapes.{Here, key_here, row_here, Showing, is_fault, formula_shown, then_shown, within, chosen, rows_from, each_row, attempted, node_text, attribute_value, attributes_of, attributes_told, shown_block}
use Rattle.tpl_model.specs.Sources.{evaluating}
use Rattle.tpl_model.specs.Laws.{AgreeLaw}

abbrev Agree : (ℕ → Outcome) → (ℕ → Outcome) → List ℕ → Type 0
Agree s s' ns = (n : ℕ) → is_in n ns ≡ true → s n ≡ s' n

in_left : (n : ℕ) (xs ys : List ℕ) → is_in n xs ≡ true → is_in n (xs ++ ys) ≡ true
in_left n [] ys h = absurd (false≢true h)
in_left n (x ∷ xs) ys h = elim (cases_Bool (n == x)) [
  | inl e ↦ rw e refl
  | inr e ↦ rw e (in_left n xs ys (rw e at h))
]

in_right : (n : ℕ) (xs ys : List ℕ) → is_in n ys ≡ true → is_in n (xs ++ ys) ≡ true
in_right n [] ys h = h
in_right n (x ∷ xs) ys h = elim (cases_Bool (n == x)) [
  | inl e ↦ rw e refl
  | inr e ↦ rw e (in_right n xs ys h)
]

in_tail : (n m : ℕ) (xs : List ℕ) → is_in n xs ≡ true → is_in n (m ∷ xs) ≡ true
in_tail n m xs h = in_right n (m ∷ []) xs h

left : (s s' : ℕ → Outcome) (xs ys : List ℕ) → Agree s s' (xs ++ ys) → Agree s s' xs
left s s' xs ys a n h = a n (in_left n xs ys h)

right : (s s' : ℕ → Outcome) (xs ys : List ℕ) → Agree s s' (xs ++ ys) → Agree s s' ys
right s s' xs ys a n h = a n (in_right n xs ys h)

-- ---- one formula

abbrev names : Evaluation → List ℕ
names e = map (λ (r : Seen). r.name) e.reads

first_read : (m : ℕ) (o : Outcome) (go : Value → Evaluation) → is_in m (names (after_read m o go)) ≡ true
first_read m (Good v) go = (let e = eq-eqb m m refl in rw e refl)
first_read m (Bad e) go = (let h = eq-eqb m m refl in rw h refl)

read_agree : (s s' : ℕ → Outcome) (m : ℕ) (o : Outcome) (go go' : Value → Evaluation) → ((v : Value) → Agree s s' (names (go v)) →
    go v ≡ go' v) → Agree s s' (names (after_read m o go)) → after_read m o go ≡ after_read m o go'
read_agree s s' m (Bad e) go go' h a = refl
read_agree s s' m (Good v) go go' h a = ap (read_first (record { name = m; outcome = Good v })) (h v (λ n i. a n (in_tail n m (names
    (go v)) i)))

step_agree : (s s' : ℕ → Outcome) (t : Step) (links : List ℕ) (go go' : ℕ → Value → Evaluation) → ((n : ℕ) (v : Value) →
    Agree s s' (names (go n v)) → go n v ≡ go' n v) → Agree s s' (names (after_step t links s go)) →
    after_step t links s go ≡ after_step t links s' go'
step_agree s s' (Done v) links go go' h a = refl
step_agree s s' (Fail e) links go go' h a = refl
step_agree s s' (Read n) links go go' h a =
    let m = slice_index links n in
    read_agree s s' m (s m) (go n) (go' n) (h n) a ∙ ap (λ o. after_read m o (go' n)) (a m (first_read m (s m) (go n)))

within_agree : (s s' : ℕ → Outcome) (turns : ℕ) (links : List ℕ) (row : Option RowRef) (f : Tree) (known : List Known) →
    Agree s s' (names (asked_within turns no_hosts (record { expression = formula row f; slots = links }) s known)) →
    asked_within turns no_hosts (record { expression = formula row f; slots = links }) s known ≡ asked_within turns no_hosts
    (record { expression = formula row f; slots = links }) s' known
within_agree s s' zero links row f known a = refl
within_agree s s' (suc turns) links row f known a =
    step_agree s s' (judged (length links) known (formulas.answer_of f row known)) links
    (λ n v. asked_within turns no_hosts (record { expression = formula row f; slots = links }) s (learnt known n v))
    (λ n v. asked_within turns no_hosts (record { expression = formula row f; slots = links }) s' (learnt known n v))
    (λ n v b. within_agree s s' turns links row f (learnt known n v) b) a

pub formula_agree : (s s' : ℕ → Outcome) (links : List ℕ) (row : Option RowRef) (f : Tree) →
    Agree s s' (names (evaluating links s row f)) → evaluating links s row f ≡ evaluating links s' row f
formula_agree s s' links row f a = within_agree s s' (suc (unknown_slots (length links) [])) links row f [] a

-- ---- what is shown

abbrev Alike : (ℕ → Outcome) → (ℕ → Outcome) → Showing → Showing → Type 0
Alike s s' x x' = Agree s s' x.reads → x ≡ x'

then_agree : (s s' : ℕ → Outcome) (ends : Bool) (x x' y y' : Showing) → Alike s s' x x' → (Agree s s' x.reads → Alike s s' y y') →
    Alike s s' (then_shown ends x y) (then_shown ends x' y')
then_agree s s' ends x x' y y' h k a = elim (cases_Bool (ends && x.failed)) [
  | inl e ↦ (
      let b : Agree s s' x.reads = rw e at a in
      let same : then_shown ends x y ≡ then_shown ends x y' = rw e refl in
      same ∙ ap (λ z. then_shown ends z y') (h b))
  | inr e ↦ (
      let b : Agree s s' (x.reads ++ y.reads) = rw e at a in
      let c = left s s' x.reads y.reads b in
      ap (λ z. then_shown ends x z) (k c (right s s' x.reads y.reads b)) ∙ ap (λ z. then_shown ends z y') (h c))
]

told_agree : (s s' : ℕ → Outcome) (links : List ℕ) (row : Option RowRef) (f : Tree) (show : Evaluation → Forest Look) →
    Alike s s' (formula_shown (evaluating links s row f) (show (evaluating links s row f))) (formula_shown (evaluating links s' row f) (show
    (evaluating links s' row f)))
told_agree s s' links row f show a = ap (λ e. formula_shown e (show e)) (formula_agree s s' links row f a)

attributes_agree : (s s' : ℕ → Outcome) (links : List ℕ) (ends : Bool) (row : Option RowRef) (xs : List (List ℕ × Tree)) →
    Alike s s' (attributes_told ends (evaluating links s) row xs) (attributes_told ends (evaluating links s') row xs)
attributes_agree s s' links ends row [] a = refl
attributes_agree s s' links ends row (x ∷ xs) a =
    then_agree s s' ends (formula_shown (evaluating links s row x.1) none) (formula_shown (evaluating links s' row x.1) none) (attributes_told ends
    (evaluating links s) row xs) (attributes_told ends (evaluating links s') row xs)
    (told_agree s s' links row x.1 (λ e. none)) (λ b. attributes_agree s s' links ends row xs) a

not_ended : (ends f g : Bool) → (ends && (f || g)) ≡ false → (ends && g) ≡ false
not_ended false f g h = refl
not_ended true true g h = absurd (false≢true (sym h))
not_ended true false g h = h

-- where no attribute ends the part, all were read
values_agree : (s s' : ℕ → Outcome) (links : List ℕ) (ends : Bool) (row : Option RowRef) (xs : List (List ℕ × Tree)) →
    (ends && (attributes_told ends (evaluating links s) row xs).failed) ≡ false →
    Agree s s' (attributes_told ends (evaluating links s) row xs).reads →
    attributes_of (evaluating links s) row xs ≡ attributes_of (evaluating links s') row xs
values_agree s s' links ends row [] h a = refl
values_agree s s' links ends row (x ∷ xs) h a =
    let e = evaluating links s row x.1 in
    let rest = attributes_told ends (evaluating links s) row xs in
    elim (cases_Bool (ends && is_fault e.outcome)) [
      | inl u ↦ absurd (false≢true (sym (rw u at h) ∙ u))
      | inr u ↦ (
          let b : Agree s s' (names e ++ rest.reads) = rw u at a in
          let i : (ends && (is_fault e.outcome || rest.failed)) ≡ false = rw u at h in
          let p = formula_agree s s' links row x.1 (left s s' (names e) rest.reads b) in
          let q = values_agree s s' links ends row xs (not_ended ends (is_fault e.outcome) rest.failed i) (right s s'
          (names e) rest.reads b) in
          ap (λ z. (x.0, attribute_value z.outcome) ∷ attributes_of (evaluating links s) row xs) p
          ∙ ap (λ z. (x.0, attribute_value (evaluating links s' row x.1).outcome) ∷ z) q)
    ]

chosen_agree : (s s' : ℕ → Outcome) (o : Outcome) (x x' y y' : Showing) → Alike s s' x x' → Alike s s' y y' →
    Alike s s' (chosen o x y) (chosen o x' y')
chosen_agree s s' (Good (value.Bool true)) x x' y y' h k a = h a
chosen_agree s s' (Good (value.Bool false)) x x' y y' h k a = k a
chosen_agree s s' (Good (value.Int n)) x x' y y' h k a = refl
chosen_agree s s' (Good (value.Text t)) x x' y y' h k a = refl
chosen_agree s s' (Good (value.Rows t)) x x' y y' h k a = refl
chosen_agree s s' (Bad e) x x' y y' h k a = refl

rows_agree : (s s' : ℕ → Outcome) (ends : Bool) (go go' : Here → Showing) → ((h : Here) → Alike s s' (go h) (go' h)) →
    (t : Table) (i : ℕ) (rs : List Row) → Alike s s' (rows_from ends go t i rs) (rows_from ends go' t i rs)
rows_agree s s' ends go go' h t i [] a = refl
rows_agree s s' ends go go' h t i (r ∷ rs) a =
    let here : Here = record { key = r.key; row = record { rows = t; place = i } } in
    then_agree s s' ends (go here) (go' here) (rows_from ends go t (suc i) rs) (rows_from ends go' t (suc i) rs) (h here)
    (λ b. rows_agree s s' ends go go' h t (suc i) rs) a

each_agree : (s s' : ℕ → Outcome) (ends : Bool) (go go' : Here → Showing) → ((h : Here) → Alike s s' (go h) (go' h)) → (o : Outcome) →
    Alike s s' (each_row ends go o) (each_row ends go' o)
each_agree s s' ends go go' h (Good (value.Rows t)) a = rows_agree s s' ends go go' h t 0 t.rows a
each_agree s s' ends go go' h (Good (value.Bool b)) a = refl
each_agree s s' ends go go' h (Good (value.Int n)) a = refl
each_agree s s' ends go go' h (Good (value.Text t)) a = refl
each_agree s s' ends go go' h (Bad e) a = refl

attempted_agree : (s s' : ℕ → Outcome) (x x' y y' : Showing) → Alike s s' x x' → Alike s s' y y' →
    Alike s s' (attempted x y) (attempted x' y')
attempted_agree s s' x x' y y' h k a = elim (cases_Bool x.failed) [
  | inl e ↦ (
      let b : Agree s s' (x.reads ++ y.reads) = rw e at a in
      ap (λ z. attempted x z) (k (right s s' x.reads y.reads b)) ∙ ap (λ z. attempted z y') (h (left s s' x.reads y.reads b)))
  | inr e ↦ (
      let b : Agree s s' x.reads = rw e at a in
      let same : attempted x y ≡ attempted x y' = rw e refl in
      same ∙ ap (λ z. attempted z y') (h b))
]

-- an element whose attributes end the part leaves no node
tag_agree : (s s' : ℕ → Outcome) (links : List ℕ) (ends : Bool) (row : Option RowRef) (i : ℕ) (name : List ℕ) (xs : List
    (List ℕ × Tree)) (x x' y y' : Showing) → Alike s s' x x' → Alike s s' y y' →
    Alike s s'
    (then_shown ends (within i (Element name (attributes_of (evaluating links s) row xs)) (then_shown ends (attributes_told ends
    (evaluating links s) row xs) x)) y)
    (then_shown ends (within i (Element name (attributes_of (evaluating links s') row xs)) (then_shown ends (attributes_told ends
    (evaluating links s') row xs) x')) y')
tag_agree s s' links ends row i name xs x x' y y' h k a =
    let t = attributes_told ends (evaluating links s) row xs in
    let t' = attributes_told ends (evaluating links s') row xs in
    let label : Look = Element name (attributes_of (evaluating links s) row xs) in
    let label' : Look = Element name (attributes_of (evaluating links s') row xs) in
    let inner = then_shown ends t x in
    let inner' = then_shown ends t' x' in
    let inside : Alike s s' inner inner' = then_agree s s' ends t t' x x' (attributes_agree s s' links ends row xs) (λ b. h) in
    elim (cases_Bool (ends && t.failed)) [
      | inl e ↦ (
          let one : (l : Look) (z : Showing) → then_shown ends (within i l inner) z ≡ record t { nodes = none } = λ l z. rw (e, e) refl in
          let b : Agree s s' t.reads = rw (e, e) at a in
          let c : Agree s s' inner.reads = rw e b in
          one label y ∙ (sym (one label' y') ∙ ap (λ z. then_shown ends (within i label' z) y') (inside c)))
      | inr e ↦ (
          let whole : Agree s s' inner.reads → label ≡ label' = λ c.
          ap (λ z. Element name z) (values_agree s s' links ends row xs e (left s s' t.reads x.reads (let d : Agree s s'
          (t.reads ++ x.reads) = rw e at c in d))) in
          let f : Alike s s' (within i label inner) (within i label' inner') = λ c. ap (λ z. within i z inner) (whole c)
          ∙ ap (λ z. within i label' z) (inside c) in
          then_agree s s' ends (within i label inner) (within i label' inner') y y' f (λ b. k) a)
    ]

pub shown_agree : (s s' : ℕ → Outcome) (links : List ℕ) (b : Block) (ends : Bool) (here : Option Here) →
    Alike s s' (shown_block (evaluating links s) ends here b) (shown_block (evaluating links s') ends here b)
shown_agree s s' links empty ends here a = refl
shown_agree s s' links (text n f rest) ends here a =
    let c = key_here here in
    let r = row_here here in
    let e = evaluating links s r f in
    let e' = evaluating links s' r f in
    let show : Evaluation → Forest Look = λ z. node (address n c) (Text (node_text z.outcome)) none none in
    then_agree s s' ends (formula_shown e (show e)) (formula_shown e' (show e')) (shown_block (evaluating links s) ends here rest) (shown_block
    (evaluating links s') ends here rest)
    (told_agree s s' links r f show) (λ b. shown_agree s s' links rest ends here) a
shown_agree s s' links (tag n name xs inner rest) ends here a =
    tag_agree s s' links ends (row_here here) (address n (key_here here)) name xs (shown_block (evaluating links s) ends here inner)
    (shown_block (evaluating links s') ends here inner) (shown_block (evaluating links s) ends here rest) (shown_block
    (evaluating links s') ends here rest)
    (shown_agree s s' links inner ends here) (shown_agree s s' links rest ends here) a
shown_agree s s' links (choice f one other rest) ends here a =
    let r = row_here here in
    let e = evaluating links s r f in
    let e' = evaluating links s' r f in
    let x = shown_block (evaluating links s) ends here one in
    let x' = shown_block (evaluating links s') ends here one in
    let y = shown_block (evaluating links s) ends here other in
    let y' = shown_block (evaluating links s') ends here other in
    let first : Alike s s' (then_shown ends (formula_shown e none) (chosen e.outcome x y)) (then_shown ends (formula_shown e' none)
    (chosen e'.outcome x' y')) =
    then_agree s s' ends (formula_shown e none) (formula_shown e' none) (chosen e.outcome x y) (chosen e'.outcome x' y') (told_agree s s' links r f
    (λ z. none))
    (λ b c. chosen_agree s s' e.outcome x x' y y' (shown_agree s s' links one ends here) (shown_agree s s' links other ends here) c
    ∙ ap (λ (z : Evaluation). chosen z.outcome x' y') (formula_agree s s' links r f b)) in
    then_agree s s' ends (then_shown ends (formula_shown e none) (chosen e.outcome x y)) (then_shown ends (formula_shown e' none)
    (chosen e'.outcome x' y')) (shown_block (evaluating links s) ends here rest) (shown_block (evaluating links s') ends here rest)
    first (λ b. shown_agree s s' links rest ends here) a
shown_agree s s' links (each f inner rest) ends here a =
    let r = row_here here in
    let e = evaluating links s r f in
    let e' = evaluating links s' r f in
    let go : Here → Showing = λ h. shown_block (evaluating links s) ends (Some h) inner in
    let go' : Here → Showing = λ h. shown_block (evaluating links s') ends (Some h) inner in
    let first : Alike s s' (then_shown ends (formula_shown e none) (each_row ends go e.outcome)) (then_shown ends (formula_shown e' none)
    (each_row ends go' e'.outcome)) =
    then_agree s s' ends (formula_shown e none) (formula_shown e' none) (each_row ends go e.outcome) (each_row ends go' e'.outcome)
    (told_agree s s' links r f (λ z. none))
    (λ b c. each_agree s s' ends go go' (λ h. shown_agree s s' links inner ends (Some h)) e.outcome c
    ∙ ap (λ (z : Evaluation). each_row ends go' z.outcome) (formula_agree s s' links r f b)) in
    then_agree s s' ends (then_shown ends (formula_shown e none) (each_row ends go e.outcome)) (then_shown ends (formula_shown e' none)
    (each_row ends go' e'.outcome)) (shown_block (evaluating links s) ends here rest) (shown_block (evaluating links s') ends here rest)
    first (λ b. shown_agree s s' links rest ends here) a
shown_agree s s' links (attempt one other rest) ends here a =
    let x = shown_block (evaluating links s) true here one in
    let x' = shown_block (evaluating links s') true here one in
    let y = shown_block (evaluating links s) ends here other in
    let y' = shown_block (evaluating links s') ends here other in
    then_agree s s' ends (attempted x y) (attempted x' y') (shown_block (evaluating links s) ends here rest) (shown_block
    (evaluating links s') ends here rest)
    (attempted_agree s s' x x' y y' (shown_agree s s' links one true here) (shown_agree s s' links other ends here))
    (λ b. shown_agree s s' links rest ends here) a

pub agree_law : AgreeLaw
agree_law lines links s s' a = shown_agree s s' links (block_of lines) false None a
