-- Marks that a walk puts by what became of lines.
use Rattle.std.proofs.Common.{◌≡◌, ℕ, zero, suc, ◌+◌, ◌&&◌, Bool, true, false, List, [], ◌∷◌, Option, Some, None, refl, sym, ap, subst, ◌∙◌, arith, inl, inr}
use Rattle.std.specs.List.{slice_get}
use Rattle.std.specs.Str.{bytes_eq}
use Rattle.std.proofs.lemmas.Bool.{cases_Bool, false≢true}
use lib.Pointwise.{pointwise}
use Rattle.sig_base.specs.Tables.{Table, same_row-Decides}
use Rattle.sig_base.specs.declared.rows.Row.{Row}
use Rattle.sig_base.specs.declared.value.Value.TheVariants as value
use Rattle.sig_base.specs.declared.value.Outcome.{Outcome}
use Rattle.sig_base.specs.declared.value.Outcome.TheVariants.{Good, Bad}
use Rattle.sig_formula.specs.Trees.{Tree}
use Rattle.sig_formula.specs.declared.formula.RowRef.{RowRef}
use Rattle.page_model.specs.Addresses.{address}
use Rattle.page_model.specs.Edits.{siblings}
use Rattle.page_model.specs.Forest.{Forest, none, node, on}
use Rattle.page_model.specs.Labels.{Text, Element, Look}
use Rattle.page_model.specs.Pages.{NumberedPage, number_of, page_shape}
use Rattle.page_model.proofs.Shared.{self_on}
use Rattle.tpl_model.specs.Lines.{Block, empty, text, tag, choice, each, attempt}
use Rattle.tpl_model.specs.Shapes.{Here, row_here, node_text}
use Rattle.tpl_model.specs.Sources.{evaluating, same_here, same_place}
use Rattle.tpl_model.specs.KeptLines.Outcomes.{Outcomes}
use Rattle.tpl_drawn.specs.Shown.{attributes_of}
use Rattle.tpl_model.specs.ShownNodes.Shapes.{Marked}
use Rattle.tpl_drawn.specs.Marks.{children_in}
use Rattle.tpl_model.specs.KeptLines.Memos.{Agrees, table_in, truth_in}
use Rattle.tpl_model.specs.KeptLines.Changes.{BranchTells, Change, RowsTell, Tells, WasRow, stays, made, over, also, nothing, first_in, is_made}
use Rattle.tpl_model.specs.PageUpdates.Differences.{Within}
use Rattle.tpl_model.specs.PageUpdates.PageMemos.{PageMemo, blank, hearing, attributes_heard, each_memo, nodes, picks, row_nodes, rows_memo, values}
use Rattle.tpl_model.proofs.Shared.{Half, Single, memo_like, steady, within_first, within_later}
use Rattle.tpl_drawn.specs.Comparison.{Marking, keeps_nodes, known_of, marked_by, row_marks, tried_marks}
use Rattle.tpl_drawn.proofs.Compares.Coverage.{AreMarks, Covered, covered_after, covered_made, covered_none, covered_skip}
use Rattle.tpl_drawn.proofs.Compares.Sides.{Alike, Beside, Side, beside_first, beside_kids, beside_later, kept, made_is, same_kept, side_first, side_later, side_of, tried_kept, tried_nodes, tried_same, truth_is}
use Rattle.tpl_drawn.proofs.Compares.Tops.{kept_siblings}

-- A way to mark: what a mark is, what holds where all stays, and a node that stood over what stands below it. Where its line was heard so before it
-- says the same, and where its inside keeps its topmost nodes, the same stand below it.
pub record Rules (p : NumberedPage) (new : Forest Look) (mark : Marking) (part : Marked → Marked) (Is : ℕ → Marked → Type 0) (Same : ℕ → Type 0) : Type 0 where
  pub marks : AreMarks p new part Is
  pub skip : (q : Forest Look) → Within (page_shape p) q → Within new q → (j : ℕ) → on j q ≡ true → Same j
  pub step : (a : ℕ) (x x' : Look) (k k' : Forest Look) (s keeps : Bool) (below : List Marked) → Half (page_shape p) new (node a x k none) (node a x' k' none) →
      (s ≡ true → x ≡ x') → (keeps ≡ true → siblings k ≡ siblings k') → Covered (page_shape p) Is Same k' below →
      Covered (page_shape p) Is Same (node a x' k' none) (mark s keeps (Some (number_of p a)) x' (children_in (known_of p) k') below)

-- ---- rows

-- the row that stands at a place
row_there : (x : Option Row) (r : Row) → same_place x (Some r) ≡ true → x ≡ Some r
row_there None r h = absurd (false≢true h)
row_there (Some s) r h = ap Some ((same_row-Decides s r).0 h)

second_holds : (a b : Bool) → (a && b) ≡ true → b ≡ true
second_holds true b h = h
second_holds false b h = absurd (false≢true h)

-- rows that are there are rows of an outcome that is rows
rows_are : (o : Outcome) (n : ℕ) (r : Row) → slice_get (table_in o).rows n ≡ Some r → o ≡ Good (value.Rows (table_in o))
rows_are (Good (value.Rows t)) n r h = refl
rows_are (Good (value.Bool b)) n r h = absurd (let q : None ≡ Some r = h in cc)
rows_are (Good (value.Int b)) n r h = absurd (let q : None ≡ Some r = h in cc)
rows_are (Good (value.Text b)) n r h = absurd (let q : None ≡ Some r = h in cc)
rows_are (Bad b) n r h = absurd (let q : None ≡ Some r = h in cc)

-- a row among those of before
row_within : (whole : Forest Look) (show : Here → PageMemo → Forest Look) (go : Here → PageMemo) (t : Table) (i : ℕ) (rs : List Row) (n place : ℕ) (r : Row) →
    i + n ≡ place → slice_get rs n ≡ Some r → Within whole (row_nodes show (rows_memo false go t i rs)) → Single (row_nodes show (rows_memo false go t i rs)) →
    let here : Here = record { key = r.key; row = record { rows = t; place = place } } in Within whole (show here (go here)) × Single (show here (go here))
row_within whole show go t i [] n place r e h w l = absurd (let q : None ≡ Some r = h in cc)
row_within whole show go t i (s ∷ rs) zero place r e h w l =
    let here : Here = record { key = s.key; row = record { rows = t; place = i } } in
    let a = within_first whole (show here (go here)) (row_nodes show (rows_memo false go t (suc i) rs)) w l in
    let q : s ≡ r = (let z : Some s ≡ Some r = h in cc) in
    let f : i ≡ place = omega (arith, e) in
    let P : Row → ℕ → Type 0 = λ y j. (
    let x : Here = record { key = y.key; row = record { rows = t; place = j } } in
    Within whole (show x (go x)) × Single (show x (go x))) in
    subst (λ j. P r j) f (subst (λ y. P y i) q a)
row_within whole show go t i (s ∷ rs) (suc n) place r e h w l =
    let here : Here = record { key = s.key; row = record { rows = t; place = i } } in
    let b = within_later whole (show here (go here)) (row_nodes show (rows_memo false go t (suc i) rs)) w l in
    row_within whole show go t (suc i) rs n place r (omega (arith, e)) h b.0 b.1

-- what a change of a row tells
abbrev RowTells : Tree → Block → List ℕ → Option RowRef → Outcomes → Here → PageMemo → Change → Type 0
RowTells f inner links place before here m d = (is_made d ≡ false → WasRow f links place before here.row) × Tells inner links (Some here.row) before m d

-- ---- lines

module _ (p : NumberedPage) (new : Forest Look) (mark : Marking) (part : Marked → Marked) (Is : ℕ → Marked → Type 0) (Same : ℕ → Type 0) (links : List ℕ) (before : Outcomes) (source now : ℕ → Outcome) where
  abbrev Covers : Forest Look → List Marked → Type 0
  Covers = Covered (page_shape p) Is Same

  abbrev marks : Option (List ℕ) → Block → PageMemo → Change → List Marked
  marks = marked_by mark part (known_of p)

  -- marks of lines are put right, where the lines stood on the page before
  abbrev Goes : Block → Type 0
  Goes b = (k : Option (List ℕ)) (here here' : Option Here) (c : Change) → Alike links source here here' →
      Beside (page_shape p) new (nodes k b (kept links source here b)) (nodes k b (kept links now here' b)) →
      Tells b links (row_here here') before (kept links now here' b) c →
      Covers (nodes k b (kept links now here' b)) (marks k b (kept links now here' b) c)

  -- lines that stay
  stayed : Rules p new mark part Is Same → (k : Option (List ℕ)) (b : Block) (m m' : PageMemo) →
      m ≡ m' → Beside (page_shape p) new (nodes k b m) (nodes k b m') → Covers (nodes k b m') []
  stayed rules k b m m' e d =
      covered_skip (page_shape p) Is Same (nodes k b m') (rules.skip (nodes k b m') (subst (Within (page_shape p)) (ap (nodes k b) e) d.half.within_old) d.half.within_new)

  -- lines that were made anew
  fresh : Rules p new mark part Is Same → (b : Block) (k : Option (List ℕ)) (here : Option Here) →
      Side (page_shape p) new (nodes k b (kept links now here b)) → Covers (nodes k b (kept links now here b)) (marks k b (kept links now here b) made)
  fresh rules empty k here d = covered_none (page_shape p) Is Same
  fresh rules (text n f rest) k here d =
      covered_made p new part Is Same rules.marks (nodes k (text n f rest) (kept links now here (text n f rest))) d.within d.single d.fresh
  fresh rules (tag n name xs inner rest) k here d =
      covered_made p new part Is Same rules.marks (nodes k (tag n name xs inner rest) (kept links now here (tag n name xs inner rest))) d.within d.single d.fresh
  fresh rules (choice f one other rest) k here d =
      covered_made p new part Is Same rules.marks (nodes k (choice f one other rest) (kept links now here (choice f one other rest))) d.within d.single d.fresh
  fresh rules (each f inner rest) k here d =
      covered_made p new part Is Same rules.marks (nodes k (each f inner rest) (kept links now here (each f inner rest))) d.within d.single d.fresh
  fresh rules (attempt first second rest) k here d =
      covered_made p new part Is Same rules.marks (nodes k (attempt first second rest) (kept links now here (attempt first second rest))) d.within d.single d.fresh

  -- a node that stood on the page, over what stands below it
  stood : Rules p new mark part Is Same → (a : ℕ) (x x' : Look) (k k' : Forest Look) (s keeps : Bool) (below : List Marked) →
      Beside (page_shape p) new (node a x k none) (node a x' k' none) → (s ≡ true → x ≡ x') → (keeps ≡ true → siblings k ≡ siblings k') → Covers k' below →
      Covers (node a x' k' none) (mark s keeps (known_of p a) x' (children_in (known_of p) k') below)
  stood rules a x x' k k' s keeps below d same kept_below c =
      let here : on a (page_shape p) ≡ true = d.half.within_old.there a (self_on a x k none) in
      let known : known_of p a ≡ Some (number_of p a) = rw here refl in
      let P : Option ℕ → Type 0 = λ z. Covers (node a x' k' none) (mark s keeps z x' (children_in (known_of p) k') below) in
      subst P (sym known) (rules.step a x x' k k' s keeps below d.half same kept_below c)

  -- the branch that is shown
  picked : Rules p new mark part Is Same → (one other : Block) → Goes one → Goes other → (k : Option (List ℕ)) (here here' : Option Here) (o o' : Outcome) (c : Change) →
      Alike links source here here' → (is_made c ≡ false → truth_in o ≡ truth_in o') →
      let i = picks o (kept links source here one) (kept links source here other) blank in
      let i' = picks o' (kept links now here' one) (kept links now here' other) blank in
      Beside (page_shape p) new (picks o (nodes k one i) (nodes k other i) none) (picks o' (nodes k one i') (nodes k other i') none) →
      BranchTells (truth_in o') (Tells one links (row_here here') before i' c) (Tells other links (row_here here') before i' c) →
      Covers (picks o' (nodes k one i') (nodes k other i') none) (picks o' (marks k one i' c) (marks k other i' c) [])
  picked rules one other ones others k here here' o (Good (value.Bool true)) c like same d t =
      let a = kept links source here one in
      let b = kept links source here other in
      let q = nodes k one (kept links now here' one) in
      let P : Outcome → Type 0 = λ z. Beside (page_shape p) new (picks z (nodes k one (picks z a b blank)) (nodes k other (picks z a b blank)) none) q in
      let R : Change → Type 0 = λ z. Covers q (marks k one (kept links now here' one) z) in
      elim (cases_Bool (is_made c)) [
        | inl e ↦ subst R (sym (made_is c e)) (fresh rules one k here' (side_of (page_shape p) new (picks o (nodes k one (picks o a b blank)) (nodes k other (picks o a b blank)) none) q d))
        | inr e ↦ ones k here here' c like (subst P (truth_is o true (same e)) d) t
      ]
  picked rules one other ones others k here here' o (Good (value.Bool false)) c like same d t =
      let a = kept links source here one in
      let b = kept links source here other in
      let q = nodes k other (kept links now here' other) in
      let P : Outcome → Type 0 = λ z. Beside (page_shape p) new (picks z (nodes k one (picks z a b blank)) (nodes k other (picks z a b blank)) none) q in
      let R : Change → Type 0 = λ z. Covers q (marks k other (kept links now here' other) z) in
      elim (cases_Bool (is_made c)) [
        | inl e ↦ subst R (sym (made_is c e)) (fresh rules other k here' (side_of (page_shape p) new (picks o (nodes k one (picks o a b blank)) (nodes k other (picks o a b blank)) none) q d))
        | inr e ↦ others k here here' c like (subst P (truth_is o false (same e)) d) t
      ]
  picked rules one other ones others k here here' o (Good (value.Int n)) c like same d t = covered_none (page_shape p) Is Same
  picked rules one other ones others k here here' o (Good (value.Text n)) c like same d t = covered_none (page_shape p) Is Same
  picked rules one other ones others k here here' o (Good (value.Rows n)) c like same d t = covered_none (page_shape p) Is Same
  picked rules one other ones others k here here' o (Bad e) c like same d t = covered_none (page_shape p) Is Same

  -- one row, beside the rows of before
  one_row : Rules p new mark part Is Same → Agrees before source → (f : Tree) (inner : Block) → Goes inner → (here here' : Option Here) → Alike links source here here' →
      let show : Here → PageMemo → Forest Look = λ s m. nodes (Some s.key) inner m in
      let o = (hearing (evaluating links source) (row_here here) f).outcome in
      let old = row_nodes show (each_memo false (λ s. kept links source (Some s) inner) o) in
      Within (page_shape p) old → Single old → (s : Here) (r : Row) → slice_get s.row.rows.rows s.row.place ≡ Some r → r.key ≡ s.key →
      (d : Change) → Side (page_shape p) new (show s (kept links now (Some s) inner)) → RowTells f inner links (row_here here') before s (kept links now (Some s) inner) d →
      Covers (show s (kept links now (Some s) inner)) (marks (Some s.key) inner (kept links now (Some s) inner) d)
  one_row rules agrees f inner goes here here' like w l s r at own d side t =
      let show : Here → PageMemo → Forest Look = λ s m. nodes (Some s.key) inner m in
      let go : Here → PageMemo = λ s. kept links source (Some s) inner in
      let o = (hearing (evaluating links source) (row_here here) f).outcome in
      let o' = (hearing (evaluating links source) (row_here here') f).outcome in
      let m = kept links now (Some s) inner in
      let R : Change → Type 0 = λ z. Covers (show s m) (marks (Some s.key) inner m z) in
      elim (cases_Bool (is_made d)) [
        | inl e ↦ subst R (sym (made_is d e)) (fresh rules inner (Some s.key) (Some s) side)
        | inr e ↦ (
            let was = t.0 e in
            let tab = table_in o' in
            let same : same_here (record { rows = tab; place = was.place }) s.row ≡ true = was.same source agrees in
            let found : same_place (slice_get tab.rows was.place) (slice_get s.row.rows.rows s.row.place) ≡ true =
            second_holds (pointwise bytes_eq tab.fields s.row.rows.fields) (same_place (slice_get tab.rows was.place) (slice_get s.row.rows.rows s.row.place)) same in
            let there : slice_get tab.rows was.place ≡ Some r = row_there (slice_get tab.rows was.place) r (ap (same_place (slice_get tab.rows was.place)) (sym at) ∙ found) in
            let is : o ≡ Good (value.Rows tab) = ap (λ z. z.outcome) (like f) ∙ rows_are o' was.place r there in
            let P : Outcome → Type 0 = λ z. Within (page_shape p) (row_nodes show (each_memo false go z)) × Single (row_nodes show (each_memo false go z)) in
            let h : Here = record { key = r.key; row = record { rows = tab; place = was.place } } in
            let u = subst P is (w, l) in
            let v = row_within (page_shape p) show go tab 0 tab.rows was.place was.place r (omega arith) there u.0 u.1 in
            let Q : List ℕ → Type 0 = λ z. Within (page_shape p) (nodes (Some z) inner (go h)) × Single (nodes (Some z) inner (go h)) in
            let v' = subst Q own v in
            let heard : Alike links source (Some h) (Some s) = λ g. (steady (λ n. false) source now links (λ n y. absurd (false≢true y))).rows h.row s.row g same in
            goes (Some s.key) (Some h) (Some s) d heard (record {
              half = record { within_old = v'.0; single_old = v'.1; within_new = side.within; single_new = side.single };
              fresh = side.fresh;
            }) t.1)
      ]

  -- rows one after the other, beside those of before
  rows_walk : Rules p new mark part Is Same → Agrees before source → (f : Tree) (inner : Block) → Goes inner → (here here' : Option Here) → Alike links source here here' →
      let show : Here → PageMemo → Forest Look = λ s m. nodes (Some s.key) inner m in
      let o = (hearing (evaluating links source) (row_here here) f).outcome in
      let old = row_nodes show (each_memo false (λ s. kept links source (Some s) inner) o) in
      Within (page_shape p) old → Single old → (t : Table) (i : ℕ) (rs : List Row) → ((j : ℕ) → slice_get rs j ≡ slice_get t.rows (i + j)) → (c : Change) →
      let rows = rows_memo false (λ s. kept links now (Some s) inner) t i rs in
      Side (page_shape p) new (row_nodes show rows) → RowsTell (RowTells f inner links (row_here here') before) rows c →
      Covers (row_nodes show rows) (row_marks (λ (s : Here) (m : PageMemo) (d : Change). marks (Some s.key) inner m d) rows c)
  rows_walk rules agrees f inner goes here here' like w l t i [] at c side tells = covered_none (page_shape p) Is Same
  rows_walk rules agrees f inner goes here here' like w l t i (r ∷ rs) at (also d ds) side tells =
      let show : Here → PageMemo → Forest Look = λ s m. nodes (Some s.key) inner m in
      let go : Here → PageMemo = λ s. kept links now (Some s) inner in
      let s : Here = record { key = r.key; row = record { rows = t; place = i } } in
      let next = rows_memo false go t (suc i) rs in
      let place : slice_get t.rows i ≡ Some r = (let z : i + 0 ≡ i = omega arith in ap (slice_get t.rows) (sym z) ∙ sym (at 0)) in
      let onward : (j : ℕ) → slice_get rs j ≡ slice_get t.rows (suc i + j) = λ j. (let z : i + suc j ≡ suc i + j = omega arith in at (suc j) ∙ ap (slice_get t.rows) z) in
      covered_after (page_shape p) Is Same (show s (go s)) (row_nodes show next) (marks (Some s.key) inner (go s) d)
      (row_marks (λ (s : Here) (m : PageMemo) (d : Change). marks (Some s.key) inner m d) next ds)
      (one_row rules agrees f inner goes here here' like w l s r place refl d (side_first (page_shape p) new (show s (go s)) (row_nodes show next) side) tells.0)
      (rows_walk rules agrees f inner goes here here' like w l t (suc i) rs onward ds (side_later (page_shape p) new (show s (go s)) (row_nodes show next) side) tells.1)
  rows_walk rules agrees f inner goes here here' like w l t i (r ∷ rs) at stays side tells = absurd tells
  rows_walk rules agrees f inner goes here here' like w l t i (r ∷ rs) at made side tells = absurd tells
  rows_walk rules agrees f inner goes here here' like w l t i (r ∷ rs) at (over s inside later) side tells = absurd tells
  rows_walk rules agrees f inner goes here here' like w l t i (r ∷ rs) at nothing side tells = absurd tells

  -- the rows of a loop
  looped : Rules p new mark part Is Same → Agrees before source → (f : Tree) (inner : Block) → Goes inner → (here here' : Option Here) → Alike links source here here' →
      let show : Here → PageMemo → Forest Look = λ s m. nodes (Some s.key) inner m in
      let o = (hearing (evaluating links source) (row_here here) f).outcome in
      let old = row_nodes show (each_memo false (λ s. kept links source (Some s) inner) o) in
      Within (page_shape p) old → Single old → (o' : Outcome) (c : Change) →
      let rows = each_memo false (λ s. kept links now (Some s) inner) o' in
      Side (page_shape p) new (row_nodes show rows) → RowsTell (RowTells f inner links (row_here here') before) rows c →
      Covers (row_nodes show rows) (row_marks (λ (s : Here) (m : PageMemo) (d : Change). marks (Some s.key) inner m d) rows c)
  looped rules agrees f inner goes here here' like w l (Good (value.Rows t)) c side tells =
      rows_walk rules agrees f inner goes here here' like w l t 0 t.rows (λ j. (let z : 0 + j ≡ j = omega arith in ap (slice_get t.rows) (sym z))) c side tells
  looped rules agrees f inner goes here here' like w l (Good (value.Bool b)) c side tells = covered_none (page_shape p) Is Same
  looped rules agrees f inner goes here here' like w l (Good (value.Int b)) c side tells = covered_none (page_shape p) Is Same
  looped rules agrees f inner goes here here' like w l (Good (value.Text b)) c side tells = covered_none (page_shape p) Is Same
  looped rules agrees f inner goes here here' like w l (Bad b) c side tells = covered_none (page_shape p) Is Same

  -- the part of what is tried that is shown
  tried : Rules p new mark part Is Same → (q q' : Forest Look) (s : Bool) → Beside (page_shape p) new q q' → (s ≡ true → q ≡ q') →
      Covers q' (tried_marks part (known_of p) s q')
  tried rules q q' true d same =
      covered_skip (page_shape p) Is Same q' (rules.skip q' (subst (Within (page_shape p)) (same refl) d.half.within_old) d.half.within_new)
  tried rules q q' false d same =
      let side = side_of (page_shape p) new q q' d in covered_made p new part Is Same rules.marks q' side.within side.single side.fresh

  -- Marks are put right, line by line.
  pub walk : Rules p new mark part Is Same → Agrees before source → (b : Block) → Goes b
  walk rules agrees empty k here here' c like d t = covered_none (page_shape p) Is Same
  walk rules agrees (text n f rest) k here here' stays like d t =
      let b : Block = text n f rest in
      stayed rules k b (kept links source here b) (kept links now here' b) (same_kept links before source now agrees b here here' like t) d
  walk rules agrees (text n f rest) k here here' made like d t =
      let b : Block = text n f rest in
      fresh rules b k here' (side_of (page_shape p) new (nodes k b (kept links source here b)) (nodes k b (kept links now here' b)) d)
  walk rules agrees (text n f rest) k here here' (over s inside later) like d t =
      let h = hearing (evaluating links source) (row_here here) f in
      let h' = hearing (evaluating links now) (row_here here') f in
      let a = address n k in
      let x : Look = Text (node_text h.outcome) in
      let x' : Look = Text (node_text h'.outcome) in
      let r = nodes k rest (kept links source here rest) in
      let r' = nodes k rest (kept links now here' rest) in
      covered_after (page_shape p) Is Same (node a x' none none) r' (mark s true (known_of p a) x' [] []) (marks k rest (kept links now here' rest) later)
      (stood rules a x x' none none s true [] (beside_first (page_shape p) new (node a x none none) r (node a x' none none) r' d)
      (λ e. ap (λ z. Text (node_text z.outcome)) (like f ∙ sym ((t.0 e).is source agrees))) (λ e. refl) (covered_none (page_shape p) Is Same))
      (walk rules agrees rest k here here' later like (beside_later (page_shape p) new (node a x none none) r (node a x' none none) r' d) t.1)
  walk rules agrees (text n f rest) k here here' (also first others) like d t = absurd t
  walk rules agrees (text n f rest) k here here' nothing like d t = absurd t
  walk rules agrees (tag n name xs inner rest) k here here' stays like d t =
      let b : Block = tag n name xs inner rest in
      stayed rules k b (kept links source here b) (kept links now here' b) (same_kept links before source now agrees b here here' like t) d
  walk rules agrees (tag n name xs inner rest) k here here' made like d t =
      let b : Block = tag n name xs inner rest in
      fresh rules b k here' (side_of (page_shape p) new (nodes k b (kept links source here b)) (nodes k b (kept links now here' b)) d)
  walk rules agrees (tag n name xs inner rest) k here here' (over s inside later) like d t =
      let hs = attributes_heard false (hearing (evaluating links source)) (row_here here) xs in
      let hs' = attributes_heard false (hearing (evaluating links now)) (row_here here') xs in
      let a = address n k in
      let x : Look = Element name (values xs hs) in
      let x' : Look = Element name (values xs hs') in
      let i = nodes k inner (kept links source here inner) in
      let i' = nodes k inner (kept links now here' inner) in
      let r = nodes k rest (kept links source here rest) in
      let r' = nodes k rest (kept links now here' rest) in
      let below = marks k inner (kept links now here' inner) (first_in inside) in
      let own = beside_first (page_shape p) new (node a x i none) r (node a x' i' none) r' d in
      let keeps = keeps_nodes inner (first_in inside) in
      covered_after (page_shape p) Is Same (node a x' i' none) r' (mark s keeps (known_of p a) x' (children_in (known_of p) i') below)
      (marks k rest (kept links now here' rest) later)
      (stood rules a x x' i i' s keeps below own
      (λ e. ap (λ z. Element name (values xs z)) (ap attributes_of (memo_like (hearing (evaluating links source)) (tag n name xs inner rest) false here here' like)
      ∙ sym ((t.0 e).is source agrees)))
      (λ e. kept_siblings links before source now agrees inner k here here' (first_in inside) like t.1.0 e)
      (walk rules agrees inner k here here' (first_in inside) like (beside_kids (page_shape p) new a x x' i i' own) t.1.0))
      (walk rules agrees rest k here here' later like (beside_later (page_shape p) new (node a x i none) r (node a x' i' none) r' d) t.1.1)
  walk rules agrees (tag n name xs inner rest) k here here' (also first others) like d t = absurd t
  walk rules agrees (tag n name xs inner rest) k here here' nothing like d t = absurd t
  walk rules agrees (choice f one other rest) k here here' stays like d t =
      let b : Block = choice f one other rest in
      stayed rules k b (kept links source here b) (kept links now here' b) (same_kept links before source now agrees b here here' like t) d
  walk rules agrees (choice f one other rest) k here here' made like d t =
      let b : Block = choice f one other rest in
      fresh rules b k here' (side_of (page_shape p) new (nodes k b (kept links source here b)) (nodes k b (kept links now here' b)) d)
  walk rules agrees (choice f one other rest) k here here' (over s inside later) like d t =
      let o = (hearing (evaluating links source) (row_here here) f).outcome in
      let o' = (hearing (evaluating links now) (row_here here') f).outcome in
      let i = picks o (kept links source here one) (kept links source here other) blank in
      let i' = picks o' (kept links now here' one) (kept links now here' other) blank in
      let q = picks o (nodes k one i) (nodes k other i) none in
      let q' = picks o' (nodes k one i') (nodes k other i') none in
      let r = nodes k rest (kept links source here rest) in
      let r' = nodes k rest (kept links now here' rest) in
      let c = first_in inside in
      covered_after (page_shape p) Is Same q' r' (picks o' (marks k one i' c) (marks k other i' c) []) (marks k rest (kept links now here' rest) later)
      (picked rules one other (walk rules agrees one) (walk rules agrees other) k here here' o o' c like
      (λ e. ap (λ z. truth_in z.outcome) (like f) ∙ (t.0 e).is source agrees)
      (beside_first (page_shape p) new q r q' r' d) t.1.0)
      (walk rules agrees rest k here here' later like (beside_later (page_shape p) new q r q' r' d) t.1.1)
  walk rules agrees (choice f one other rest) k here here' (also first others) like d t = absurd t
  walk rules agrees (choice f one other rest) k here here' nothing like d t = absurd t
  walk rules agrees (each f inner rest) k here here' stays like d t =
      let b : Block = each f inner rest in
      stayed rules k b (kept links source here b) (kept links now here' b) (same_kept links before source now agrees b here here' like t) d
  walk rules agrees (each f inner rest) k here here' made like d t =
      let b : Block = each f inner rest in
      fresh rules b k here' (side_of (page_shape p) new (nodes k b (kept links source here b)) (nodes k b (kept links now here' b)) d)
  walk rules agrees (each f inner rest) k here here' (over s inside later) like d t =
      let o = (hearing (evaluating links source) (row_here here) f).outcome in
      let o' = (hearing (evaluating links now) (row_here here') f).outcome in
      let show : Here → PageMemo → Forest Look = λ s m. nodes (Some s.key) inner m in
      let q = row_nodes show (each_memo false (λ s. kept links source (Some s) inner) o) in
      let rows = each_memo false (λ s. kept links now (Some s) inner) o' in
      let q' = row_nodes show rows in
      let r = nodes k rest (kept links source here rest) in
      let r' = nodes k rest (kept links now here' rest) in
      let own = beside_first (page_shape p) new q r q' r' d in
      covered_after (page_shape p) Is Same q' r' (row_marks (λ (s : Here) (m : PageMemo) (e : Change). marks (Some s.key) inner m e) rows inside)
      (marks k rest (kept links now here' rest) later)
      (looped rules agrees f inner (walk rules agrees inner) here here' like own.half.within_old own.half.single_old o' inside (side_of (page_shape p) new q q' own) t.1.0)
      (walk rules agrees rest k here here' later like (beside_later (page_shape p) new q r q' r' d) t.1.1)
  walk rules agrees (each f inner rest) k here here' (also first others) like d t = absurd t
  walk rules agrees (each f inner rest) k here here' nothing like d t = absurd t
  walk rules agrees (attempt first second rest) k here here' stays like d t =
      let b : Block = attempt first second rest in
      stayed rules k b (kept links source here b) (kept links now here' b) (same_kept links before source now agrees b here here' like t) d
  walk rules agrees (attempt first second rest) k here here' made like d t =
      let b : Block = attempt first second rest in
      fresh rules b k here' (side_of (page_shape p) new (nodes k b (kept links source here b)) (nodes k b (kept links now here' b)) d)
  walk rules agrees (attempt first second rest) k here here' (over s inside later) like d t =
      let q = tried_nodes k first second (tried_kept links source here first second) in
      let q' = tried_nodes k first second (tried_kept links now here' first second) in
      let r = nodes k rest (kept links source here rest) in
      let r' = nodes k rest (kept links now here' rest) in
      covered_after (page_shape p) Is Same q' r' (tried_marks part (known_of p) s q') (marks k rest (kept links now here' rest) later)
      (tried rules q q' s (beside_first (page_shape p) new q r q' r' d)
      (λ e. ap (tried_nodes k first second) (tried_same links before source now agrees first second here here' like (t.0 e))))
      (walk rules agrees rest k here here' later like (beside_later (page_shape p) new q r q' r' d) t.1)
  walk rules agrees (attempt first second rest) k here here' (also one others) like d t = absurd t
  walk rules agrees (attempt first second rest) k here here' nothing like d t = absurd t
