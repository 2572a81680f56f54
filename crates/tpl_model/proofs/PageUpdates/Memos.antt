-- What is kept of a template's lines shows what the lines show.
use Rattle.std.proofs.Common.{◌≡◌, ℕ, suc, Bool, true, false, ◌||◌, ◌&&◌, refl, sym, ap, ◌∙◌, append-nil, inl, inr, List, [], ◌∷◌, ◌++◌, Option, Some, None}
use Rattle.std.proofs.lemmas.Bool.{cases_Bool, false≢true, true≢false}
use Rattle.page_model.proofs.Shared.{or_none}
use Rattle.sig_base.specs.Tables.{Table}
use Rattle.sig_base.specs.declared.rows.Row.{Row}
use Rattle.sig_base.specs.declared.value.Value.TheVariants as value
use Rattle.sig_base.specs.declared.value.Outcome.{Outcome}
use Rattle.sig_base.specs.declared.value.Outcome.TheVariants.{Good, Bad}
use Rattle.sig_formula.specs.Trees.{Tree}
use Rattle.sig_formula.specs.declared.formula.RowRef.{RowRef}
use Rattle.page_model.specs.Addresses.{address}
use Rattle.page_model.specs.Forest.{Forest, none, node, after}
use Rattle.page_model.specs.Labels.{Root, Text, Element, Look}
use Rattle.tpl_model.specs.Lines.{Line, Block, block_of, empty, text, tag, choice, each, attempt}
use Rattle.tpl_model.specs.Shapes.{Evaluating, Here, key_here, row_here, Showing, is_fault, formula_shown, then_shown, within, chosen, rows_from, each_row, attempted, node_text, attribute_value, attributes_of, attributes_told, shown_block}
use Rattle.tpl_model.specs.PageUpdates.PageMemos.{hearing, Hearing, PageMemo, blank, unless, where_ended, part_shown, any_fault, all_names, failed, names, values, picks, row_nodes, nodes, attributes_heard, rows_memo, each_memo, memo_of}
use Rattle.tpl_model.proofs.Kept.{attributes_none}
use Rattle.tpl_model.specs.Sources.{evaluating}
use Rattle.tpl_model.specs.PageUpdates.Updates.{memo_on, memo_shape, shape_on}

-- the names, whether a fault was met, and, where none ended the part, the nodes
pub record Shows (ends : Bool) (ns : List ℕ) (f : Bool) (t : Forest Look) (x : Showing) : Type 0 where
  pub reads : ns ≡ x.reads
  pub fault : f ≡ x.failed
  pub nodes : (ends && f) ≡ false → t ≡ x.nodes

pub left_off : (ends f g : Bool) → (ends && (f || g)) ≡ false → (ends && f) ≡ false
left_off false f g h = refl
left_off true true g h = h
left_off true false g h = refl

pub right_off : (ends f g : Bool) → (ends && (f || g)) ≡ false → (ends && g) ≡ false
right_off false f g h = refl
right_off true true g h = absurd (true≢false h)
right_off true false g h = h

shows_then : (ends : Bool) (ns : List ℕ) (f : Bool) (t : Forest Look) (x : Showing) (m : PageMemo) (show : PageMemo → Forest Look) (y : Showing) → Shows ends ns f t x → Shows ends (names m) (failed m) (show m) y →
    Shows ends (ns ++ names (unless (ends && f) m)) (f || failed (unless (ends && f) m)) (after t (show (unless (ends && f) m))) (then_shown ends x y)
shows_then ends ns f t x m show y a b = elim (cases_Bool (ends && f)) [
  | inl e ↦ (
      let e' : (ends && x.failed) ≡ true = ap (λ z. ends && z) (sym a.fault) ∙ e in
      let s : then_shown ends x y ≡ record x { nodes = none } = rw e' refl in
      rw (e, s) (record {
        reads = append-nil ns ∙ a.reads;
        fault = or_none f ∙ a.fault;
        nodes = λ h. absurd (false≢true (sym h ∙ (ap (λ z. ends && z) (or_none f) ∙ e)));
      }))
  | inr e ↦ (
      let e' : (ends && x.failed) ≡ false = ap (λ z. ends && z) (sym a.fault) ∙ e in
      let s : then_shown ends x y ≡ record { nodes = after x.nodes y.nodes; reads = x.reads ++ y.reads; failed = x.failed || y.failed } = rw e' refl in
      rw (e, s) (record {
        reads = ap (λ z. z ++ names m) a.reads ∙ ap (λ z. x.reads ++ z) b.reads;
        fault = ap (λ z. z || failed m) a.fault ∙ ap (λ z. x.failed || z) b.fault;
        nodes = λ h. ap (λ z. after z (show m)) (a.nodes e) ∙ ap (after x.nodes) (b.nodes (right_off ends f (failed m) h));
      }))
]

shows_told : (ends : Bool) (eval : Evaluating) (r : Option RowRef) (f : Tree) (t : Forest Look) → Shows ends (hearing eval r f).names (is_fault (hearing eval r f).outcome) t (formula_shown (eval r f) t)
shows_told ends eval r f t = record { reads = refl; fault = refl; nodes = λ h. refl }

shows_attributes : (ends : Bool) (eval : Evaluating) (r : Option RowRef) (xs : List (List ℕ × Tree)) → let hs = attributes_heard ends (hearing eval) r xs in Shows ends (all_names hs) (any_fault hs) none (attributes_told ends eval r xs)
shows_attributes ends eval r [] = record { reads = refl; fault = refl; nodes = λ h. refl }
shows_attributes ends eval r (x ∷ xs) =
    let e = eval r x.1 in
    let i = shows_attributes ends eval r xs in
    let rest = attributes_told ends eval r xs in
    let n = attributes_none ends eval r (x ∷ xs) in
    elim (cases_Bool (ends && is_fault e.outcome)) [
      | inl c ↦ (
          rw c (record { reads = append-nil (hearing eval r x.1).names; fault = or_none (is_fault e.outcome); nodes = λ h. refl }))
      | inr c ↦ (
          rw c (record {
            reads = ap (λ z. (hearing eval r x.1).names ++ z) i.reads;
            fault = ap (λ z. is_fault e.outcome || z) i.fault;
            nodes = λ h. i.nodes (right_off ends (is_fault e.outcome) (any_fault (attributes_heard ends (hearing eval) r xs)) h);
          }))
    ]

values_of : (ends : Bool) (eval : Evaluating) (r : Option RowRef) (xs : List (List ℕ × Tree)) → (ends && any_fault (attributes_heard ends (hearing eval) r xs)) ≡ false → values xs (attributes_heard ends (hearing eval) r xs) ≡ attributes_of eval r xs
values_of ends eval r [] h = refl
values_of ends eval r (x ∷ xs) h =
    let e = eval r x.1 in
    elim (cases_Bool (ends && is_fault e.outcome)) [
      | inl c ↦ (let h' : (ends && (is_fault e.outcome || false)) ≡ false = rw c at h in absurd (false≢true (sym (left_off ends (is_fault e.outcome) false h') ∙ c)))
      | inr c ↦ (
          let h' : (ends && (is_fault e.outcome || any_fault (attributes_heard ends (hearing eval) r xs))) ≡ false = rw c at h in
          rw c (ap (λ z. (x.0, attribute_value e.outcome) ∷ z) (values_of ends eval r xs (right_off ends (is_fault e.outcome) (any_fault (attributes_heard ends (hearing eval) r xs)) h'))))
    ]

shows_picks : (ends : Bool) (o : Outcome) (m n : PageMemo) (s t : PageMemo → Forest Look) (x y : Showing) → Shows ends (names m) (failed m) (s m) x → Shows ends (names n) (failed n) (t n) y →
    let p = picks o m n blank in Shows ends (names p) (failed p) (picks o (s p) (t p) none) (chosen o x y)
shows_picks ends (Good (value.Bool true)) m n s t x y a b = a
shows_picks ends (Good (value.Bool false)) m n s t x y a b = b
shows_picks ends (Good (value.Int i)) m n s t x y a b = record { reads = refl; fault = refl; nodes = λ h. refl }
shows_picks ends (Good (value.Text i)) m n s t x y a b = record { reads = refl; fault = refl; nodes = λ h. refl }
shows_picks ends (Good (value.Rows i)) m n s t x y a b = record { reads = refl; fault = refl; nodes = λ h. refl }
shows_picks ends (Bad e) m n s t x y a b = record { reads = refl; fault = refl; nodes = λ h. refl }

shows_rows : (ends : Bool) (go : Here → PageMemo) (show : Here → PageMemo → Forest Look) (real : Here → Showing) → ((h : Here) → Shows ends (names (go h)) (failed (go h)) (show h (go h)) (real h)) → (t : Table) (i : ℕ) (rs : List Row) →
    let m = rows_memo ends go t i rs in Shows ends (names m) (failed m) (row_nodes show m) (rows_from ends real t i rs)
shows_rows ends go show real a t i [] = record { reads = refl; fault = refl; nodes = λ h. refl }
shows_rows ends go show real a t i (r ∷ rs) =
    let here : Here = record { key = r.key; row = record { rows = t; place = i } } in
    shows_then ends (names (go here)) (failed (go here)) (show here (go here)) (real here) (rows_memo ends go t (suc i) rs) (row_nodes show) (rows_from ends real t (suc i) rs) (a here) (shows_rows ends go show real a t (suc i) rs)

shows_each : (ends : Bool) (go : Here → PageMemo) (show : Here → PageMemo → Forest Look) (real : Here → Showing) → ((h : Here) → Shows ends (names (go h)) (failed (go h)) (show h (go h)) (real h)) → (o : Outcome) →
    let m = each_memo ends go o in Shows ends (names m) (failed m) (row_nodes show m) (each_row ends real o)
shows_each ends go show real a (Good (value.Rows t)) = shows_rows ends go show real a t 0 t.rows
shows_each ends go show real a (Good (value.Bool b)) = record { reads = refl; fault = refl; nodes = λ h. refl }
shows_each ends go show real a (Good (value.Int b)) = record { reads = refl; fault = refl; nodes = λ h. refl }
shows_each ends go show real a (Good (value.Text b)) = record { reads = refl; fault = refl; nodes = λ h. refl }
shows_each ends go show real a (Bad b) = record { reads = refl; fault = refl; nodes = λ h. refl }

shows_within : (ends : Bool) (ns : List ℕ) (f : Bool) (t : Forest Look) (x : Showing) (a : ℕ) (l l' : Look) → ((ends && f) ≡ false → l ≡ l') → Shows ends ns f t x → Shows ends ns f (node a l t none) (within a l' x)
shows_within ends ns f t x a l l' e s = record {
  reads = s.reads;
  fault = s.fault;
  nodes = λ h. ap (λ z. node a z t none) (e h) ∙ ap (λ z. node a l' z none) (s.nodes h);
}

shows_attempted : (ends : Bool) (a b : PageMemo) (s t : PageMemo → Forest Look) (x y : Showing) → ((u v : Forest Look) → part_shown b u v ≡ v) →
    Shows true (names a) (failed a) (s a) x → Shows ends (names b) (failed b) (t b) y →
    let c = where_ended (failed a) b in Shows ends (names a ++ names c) (failed c) (part_shown c (s a) (t c)) (attempted x y)
shows_attempted ends a b s t x y read p q = elim (cases_Bool (failed a)) [
  | inl e ↦ (
      let f : x.failed ≡ true = sym p.fault ∙ e in
      let g : attempted x y ≡ record y { reads = x.reads ++ y.reads } = rw f refl in
      rw (e, g) (record { reads = ap (λ z. z ++ names b) p.reads ∙ ap (λ z. x.reads ++ z) q.reads; fault = q.fault; nodes = λ h. read (s a) (t b) ∙ q.nodes h }))
  | inr e ↦ (
      let f : x.failed ≡ false = sym p.fault ∙ e in
      let g : attempted x y ≡ x = rw f refl in
      rw (e, g) (record { reads = append-nil (names a) ∙ p.reads; fault = sym f; nodes = λ h. p.nodes e }))
]

-- what was read was read
memo_read : (hear : Hearing) (b : Block) (ends : Bool) (here : Option Here) (u v : Forest Look) → part_shown (memo_of hear ends here b) u v ≡ v
memo_read hear empty ends here u v = refl
memo_read hear (text n f rest) ends here u v = refl
memo_read hear (tag n name xs inner rest) ends here u v = refl
memo_read hear (choice f one other rest) ends here u v = refl
memo_read hear (each f inner rest) ends here u v = refl
memo_read hear (attempt first second rest) ends here u v = refl

pub shows : (eval : Evaluating) (b : Block) (ends : Bool) (here : Option Here) → let m = memo_of (hearing eval) ends here b in Shows ends (names m) (failed m) (nodes (key_here here) b m) (shown_block eval ends here b)
shows eval empty ends here = record { reads = refl; fault = refl; nodes = λ h. refl }
shows eval (text n f rest) ends here =
    let e = eval (row_here here) f in
    let t = node (address n (key_here here)) (Text (node_text e.outcome)) none none in
    shows_then ends (hearing eval (row_here here) f).names (is_fault e.outcome) t (formula_shown e t) (memo_of (hearing eval) ends here rest) (nodes (key_here here) rest) (shown_block eval ends here rest)
    (shows_told ends eval (row_here here) f t) (shows eval rest ends here)
shows eval (tag n name xs inner rest) ends here =
    let r = row_here here in
    let hs = attributes_heard ends (hearing eval) r xs in
    let at = attributes_told ends eval r xs in
    let m = memo_of (hearing eval) ends here inner in
    let i = unless (ends && any_fault hs) m in
    let inside = shows_then ends (all_names hs) (any_fault hs) none at m (nodes (key_here here) inner) (shown_block eval ends here inner) (shows_attributes ends eval r xs) (shows eval inner ends here) in
    let a = address n (key_here here) in
    let l : Look = Element name (values xs hs) in
    let l' : Look = Element name (attributes_of eval r xs) in
    let own = shows_within ends (all_names hs ++ names i) (any_fault hs || failed i) (nodes (key_here here) inner i) (then_shown ends at (shown_block eval ends here inner)) a l l'
    (λ h. ap (λ z. Element name z) (values_of ends eval r xs (left_off ends (any_fault hs) (failed i) h))) inside in
    shows_then ends (all_names hs ++ names i) (any_fault hs || failed i) (node a l (nodes (key_here here) inner i) none) (within a l' (then_shown ends at (shown_block eval ends here inner)))
    (memo_of (hearing eval) ends here rest) (nodes (key_here here) rest) (shown_block eval ends here rest) own (shows eval rest ends here)
shows eval (choice f one other rest) ends here =
    let r = row_here here in
    let e = eval r f in
    let h = hearing eval r f in
    let x = shown_block eval ends here one in
    let y = shown_block eval ends here other in
    let p = picks e.outcome (memo_of (hearing eval) ends here one) (memo_of (hearing eval) ends here other) blank in
    let show : PageMemo → Forest Look = λ z. picks e.outcome (nodes (key_here here) one z) (nodes (key_here here) other z) none in
    let i = unless (ends && is_fault e.outcome) p in
    let own = shows_then ends h.names (is_fault e.outcome) none (formula_shown e none) p show (chosen e.outcome x y) (shows_told ends eval r f none)
    (shows_picks ends e.outcome (memo_of (hearing eval) ends here one) (memo_of (hearing eval) ends here other) (nodes (key_here here) one) (nodes (key_here here) other) x y (shows eval one ends here) (shows eval other ends here)) in
    shows_then ends (h.names ++ names i) (is_fault e.outcome || failed i) (show i) (then_shown ends (formula_shown e none) (chosen e.outcome x y)) (memo_of (hearing eval) ends here rest) (nodes (key_here here) rest) (shown_block eval ends here rest) own (shows eval rest ends here)
shows eval (each f inner rest) ends here =
    let r = row_here here in
    let e = eval r f in
    let h = hearing eval r f in
    let go : Here → PageMemo = λ s. memo_of (hearing eval) ends (Some s) inner in
    let show : Here → PageMemo → Forest Look = λ s m. nodes (Some s.key) inner m in
    let real : Here → Showing = λ s. shown_block eval ends (Some s) inner in
    let p = each_memo ends go e.outcome in
    let i = unless (ends && is_fault e.outcome) p in
    let own = shows_then ends h.names (is_fault e.outcome) none (formula_shown e none) p (row_nodes show) (each_row ends real e.outcome) (shows_told ends eval r f none)
    (shows_each ends go show real (λ s. shows eval inner ends (Some s)) e.outcome) in
    shows_then ends (h.names ++ names i) (is_fault e.outcome || failed i) (row_nodes show i) (then_shown ends (formula_shown e none) (each_row ends real e.outcome)) (memo_of (hearing eval) ends here rest) (nodes (key_here here) rest) (shown_block eval ends here rest) own (shows eval rest ends here)
shows eval (attempt first second rest) ends here =
    let a = memo_of (hearing eval) true here first in
    let c = memo_of (hearing eval) ends here second in
    let b = where_ended (failed a) c in
    let x = shown_block eval true here first in
    let y = shown_block eval ends here second in
    let own = shows_attempted ends a c (nodes (key_here here) first) (nodes (key_here here) second) x y (memo_read (hearing eval) second ends here) (shows eval first true here) (shows eval second ends here) in
    shows_then ends (names a ++ names b) (failed b) (part_shown b (nodes (key_here here) first a) (nodes (key_here here) second b)) (attempted x y) (memo_of (hearing eval) ends here rest) (nodes (key_here here) rest) (shown_block eval ends here rest) own (shows eval rest ends here)

-- ---- the whole page

-- what is kept of a template's lines shows the template's shape
pub shape_shown : (lines : List Line) (links : List ℕ) (source : ℕ → Outcome) → memo_shape lines (memo_on lines links source) ≡ shape_on lines links source
shape_shown lines links source = ap (λ z. node 0 Root z none) ((shows (evaluating links source) (block_of lines) false None).nodes refl)
