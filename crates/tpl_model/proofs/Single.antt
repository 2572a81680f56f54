-- No address stands twice in what a template shows.
use Rattle.std.proofs.Common.{◌≡◌, ℕ, zero, suc, ◌+◌, ◌<◌, ◌≤◌, ◌==◌, Bool, true, false, refl, sym, ◌∙◌, arith, eqb-true, eq-eqb, inl, inr, List, [], ◌∷◌, Option, Some, None}
use Rattle.std.specs.List.{AllByRecursion, IsDistinct}
use Rattle.std.specs.Str.{bytes_eq}
use Rattle.std.proofs.lemmas.Bool.{cases_Bool, false≢true}
use Rattle.std.proofs.lemmas.Slice.Eq.{bytes_eq-Decides}
use Rattle.sig_base.specs.Tables.{Table, keys_of}
use Rattle.sig_base.specs.declared.rows.Row.{Row}
use Rattle.sig_base.specs.declared.value.Value.TheVariants as value
use Rattle.sig_base.specs.declared.value.Outcome.{Outcome}
use Rattle.sig_base.specs.declared.value.Outcome.TheVariants.{Good, Bad}
use Rattle.page_model.specs.Addresses.{address}
use Rattle.page_model.specs.Forest.{Forest, none, node, one, tally}
use Rattle.page_model.specs.Labels.{Text, Element, Look}
use Rattle.page_model.proofs.Shared.{one_address, tally_after}
use Rattle.tpl_model.specs.Lines.{Line, TextLine, TagLine, AttrLine, IfLine, ElseLine, EachLine, TryLine, EndLine, Block, empty, text, tag, choice, each, attempt, Part, with_line, parts_from, first_block, block_of}
use Rattle.tpl_model.specs.Shapes.{Evaluating, Here, key_here, row_here, Showing, formula_shown, then_shown, within, chosen, rows_from, each_row, attempted, node_text, attributes_of, attributes_told, shown_block}
use Rattle.tpl_model.specs.Laws.{Fits, GivesRows}
use Rattle.tpl_model.proofs.Kept.{Closed, then_has, attributes_none, inside_has, shown_has}

-- how often the ordinal stands in a block
abbrev pub times : ℕ → Block → ℕ
times l empty = 0
times l (text n f rest) = one (n == l) + times l rest
times l (tag n name xs inner rest) = one (n == l) + (times l inner + times l rest)
times l (choice f a b rest) = times l a + (times l b + times l rest)
times l (each f inner rest) = times l inner + times l rest
times l (attempt a b rest) = times l a + (times l b + times l rest)

-- ---- one row

apart : (l n : ℕ) (k c : Option (List ℕ)) → (k ≡ c → ⊥) → (address n c == address l k) ≡ false
apart l n k c h = elim (cases_Bool (address n c == address l k)) [
  | inl e ↦ absurd (h (sym (one_address n l c k (eqb-true _ _ e)).1))
  | inr e ↦ e
]

-- an address of another row isn't there
other_row : (l : ℕ) (k : Option (List ℕ)) (evaluate : Evaluating) (b : Block) (ends : Bool) (here : Option Here) (d : ℕ) →
    Fits b d true → (k ≡ key_here here → ⊥) → tally (address l k) (shown_block evaluate ends here b).nodes ≡ 0
other_row l k evaluate b ends here d f h =
    let P : ℕ → Forest Look → Type 0 = λ i t. tally (address l k) t ≡ 0 in
    let C : Option (List ℕ) → Type 0 = λ c. k ≡ c → ⊥ in
    let c : Closed P C = record {
      nil = λ i. refl;
      join = λ i x y p q. (let s = tally_after (address l k) x y in omega arith);
      leaf = λ i n c t g. rw (apart l n k c g) refl;
      branch = λ i n c name xs s g u w v p. rw (apart l n k c g, p) refl;
      more = λ i x p. p;
    } in
    shown_has P C c evaluate b ends here d true f h (λ e. absurd (false≢true (sym e)))

rows_zero : (a : ℕ) (key : List ℕ) (ends : Bool) (go : Here → Showing) → ((h : Here) → (key ≡ h.key → ⊥) → tally a (go h).nodes ≡ 0) →
    (t : Table) (i : ℕ) (rs : List Row) → AllByRecursion (λ y. bytes_eq key y ≡ false) (keys_of rs) →
    tally a (rows_from ends go t i rs).nodes ≡ 0
rows_zero a key ends go h t i [] all = refl
rows_zero a key ends go h t i (r ∷ rs) all =
    let here : Here = record { key = r.key; row = record { rows = t; place = i } } in
    let own = h here (λ e. false≢true (sym all.0 ∙ (bytes_eq-Decides key r.key).1 e)) in
    let rest = rows_zero a key ends go h t (suc i) rs all.1 in
    then_has (λ s. tally a s ≡ 0) ends (go here) (rows_from ends go t (suc i) rs) refl (let s = tally_after a (go here).nodes
    (rows_from ends go t (suc i) rs).nodes in omega arith)

rows_few : (a m : ℕ) (k : Option (List ℕ)) (ends : Bool) (go : Here → Showing) → ((h : Here) → tally a (go h).nodes ≤ m) →
    ((h : Here) → (k ≡ Some h.key → ⊥) → tally a (go h).nodes ≡ 0) → (t : Table) (i : ℕ) (rs : List Row) →
    IsDistinct bytes_eq (keys_of rs) → tally a (rows_from ends go t i rs).nodes ≤ m
unfolding IsDistinct
rows_few a m k ends go u z t i [] d = omega arith
rows_few a m None ends go u z t i (r ∷ rs) d =
    let here : Here = record { key = r.key; row = record { rows = t; place = i } } in
    let own = z here (λ e. cc) in
    let rest = rows_few a m None ends go u z t (suc i) rs d.1 in
    then_has (λ s. tally a s ≤ m) ends (go here) (rows_from ends go t (suc i) rs) (omega arith) (let s = tally_after a (go here).nodes
    (rows_from ends go t (suc i) rs).nodes in omega arith)
rows_few a m (Some key) ends go u z t i (r ∷ rs) d =
    let here : Here = record { key = r.key; row = record { rows = t; place = i } } in
    let s = tally_after a (go here).nodes (rows_from ends go t (suc i) rs).nodes in
    let own = u here in
    elim (cases_Bool (bytes_eq r.key key)) [
      | inl e ↦ (
          let q : r.key ≡ key = (bytes_eq-Decides r.key key).0 e in
          let all = d.0 in
          let rest = rows_zero a r.key ends go (λ h n. z h (λ p. n (q ∙ (let same : Some key ≡ Some h.key = p in
          cc)))) t (suc i) rs all in
          then_has (λ x. tally a x ≤ m) ends (go here) (rows_from ends go t (suc i) rs) (omega arith) (omega arith))
      | inr e ↦ (
          let zero = z here (λ p. (let same : Some key ≡ Some r.key = p in let q : r.key ≡ key = cc in false≢true (sym e
          ∙ (bytes_eq-Decides r.key key).1 q))) in
          let rest = rows_few a m (Some key) ends go u z t (suc i) rs d.1 in
          then_has (λ x. tally a x ≤ m) ends (go here) (rows_from ends go t (suc i) rs) (omega arith) (omega arith))
    ]

each_few : (a m : ℕ) (k : Option (List ℕ)) (ends : Bool) (go : Here → Showing) → ((h : Here) → tally a (go h).nodes ≤ m) →
    ((h : Here) → (k ≡ Some h.key → ⊥) → tally a (go h).nodes ≡ 0) → (o : Outcome) → ((t : Table) → o ≡ Good (value.Rows t) →
    IsDistinct bytes_eq (keys_of t.rows)) → tally a (each_row ends go o).nodes ≤ m
each_few a m k ends go u z (Good (value.Rows t)) d = rows_few a m k ends go u z t 0 t.rows (d t refl)
each_few a m k ends go u z (Good (value.Bool b)) d = omega arith
each_few a m k ends go u z (Good (value.Int n)) d = omega arith
each_few a m k ends go u z (Good (value.Text t)) d = omega arith
each_few a m k ends go u z (Bad e) d = omega arith

chosen_few : (a m n : ℕ) (o : Outcome) (x y : Showing) → tally a x.nodes ≤ m → tally a y.nodes ≤ n → tally a (chosen o x y).nodes ≤ m + n
chosen_few a m n (Good (value.Bool true)) x y p q = omega arith
chosen_few a m n (Good (value.Bool false)) x y p q = omega arith
chosen_few a m n (Good (value.Rows t)) x y p q = omega arith
chosen_few a m n (Good (value.Int i)) x y p q = omega arith
chosen_few a m n (Good (value.Text t)) x y p q = omega arith
chosen_few a m n (Bad e) x y p q = omega arith

attempted_few : (a m n : ℕ) (x y : Showing) → tally a x.nodes ≤ m → tally a y.nodes ≤ n → tally a (attempted x y).nodes ≤ m + n
attempted_few a m n x y p q = elim (cases_Bool x.failed) [
  | inl e ↦ rw e (omega arith)
  | inr e ↦ rw e (omega arith)
]

then_few : (a m n : ℕ) (ends : Bool) (x y : Showing) → tally a x.nodes ≤ m → tally a y.nodes ≤ n →
    tally a (then_shown ends x y).nodes ≤ m + n
then_few a m n ends x y p q = then_has (λ t. tally a t ≤ m + n) ends x y (omega arith) (let s = tally_after a x.nodes y.nodes in
    omega arith)

own_few : (l n : ℕ) (k c : Option (List ℕ)) → one (address n c == address l k) ≤ one (n == l)
own_few l n k c = elim (cases_Bool (address n c == address l k)) [
  | inl e ↦ (let q = (one_address n l c k (eqb-true _ _ e)).0 in rw (e, eq-eqb n l q) (omega arith))
  | inr e ↦ rw e (omega arith)
]

-- an address stands at most as often as its ordinal in the block
pub few : (l : ℕ) (k : Option (List ℕ)) (evaluate : Evaluating) → GivesRows evaluate →
    (b : Block) (ends : Bool) (here : Option Here) (d : ℕ) (in_row : Bool) → Fits b d in_row →
    tally (address l k) (shown_block evaluate ends here b).nodes ≤ times l b
few l k evaluate g empty ends here d in_row f = omega arith
few l k evaluate g (text n t rest) ends here d in_row f =
    let o = own_few l n k (key_here here) in
    then_few (address l k) (one (n == l)) (times l rest) ends (formula_shown (evaluate (row_here here) t) (node (address n (key_here here)) (Text
    (node_text (evaluate (row_here here) t).outcome)) none none)) (shown_block evaluate ends here rest) (omega arith)
    (few l k evaluate g rest ends here d in_row f)
few l k evaluate g (tag n name xs inner rest) ends here zero in_row f = absurd f
few l k evaluate g (tag n name xs inner rest) ends here (suc d) in_row f =
    let inside = then_shown ends (attributes_told ends evaluate (row_here here) xs) (shown_block evaluate ends here inner) in
    let i = few l k evaluate g inner ends here d in_row f.2 in
    let below : tally (address l k) inside.nodes ≤ times l inner = inside_has (λ t. tally (address l k) t ≤ times l inner) ends
    (attributes_told ends evaluate (row_here here) xs) (shown_block evaluate ends here inner) (attributes_none ends evaluate
    (row_here here) xs) (omega arith) i in
    let o = own_few l n k (key_here here) in
    let r = few l k evaluate g rest ends here (suc d) in_row f.3 in
    let both = then_few (address l k) (one (n == l) + times l inner) (times l rest) ends (within (address n (key_here here))
    (Element name (attributes_of evaluate (row_here here) xs)) inside) (shown_block evaluate ends here rest) (omega arith) r in
    omega (arith, both)
few l k evaluate g (choice t one' other rest) ends here zero in_row f = absurd f
few l k evaluate g (choice t one' other rest) ends here (suc d) in_row f =
    let e = evaluate (row_here here) t in
    let a = few l k evaluate g one' ends here d in_row f.0 in
    let b = few l k evaluate g other ends here d in_row f.1 in
    let r = few l k evaluate g rest ends here (suc d) in_row f.2 in
    let own = inside_has (λ t. tally (address l k) t ≤ times l one' + times l other) ends (formula_shown e none) (chosen e.outcome
    (shown_block evaluate ends here one') (shown_block evaluate ends here other)) refl (omega arith)
    (chosen_few (address l k) (times l one') (times l other) e.outcome (shown_block evaluate ends here one')
    (shown_block evaluate ends here other) a b) in
    let both = then_few (address l k) (times l one' + times l other) (times l rest) ends (then_shown ends (formula_shown e none)
    (chosen e.outcome (shown_block evaluate ends here one') (shown_block evaluate ends here other)))
    (shown_block evaluate ends here rest) own r in
    omega (arith, both)
few l k evaluate g (each t inner rest) ends here zero in_row f = absurd f
few l k evaluate g (each t inner rest) ends here (suc d) in_row f =
    let e = evaluate (row_here here) t in
    let go : Here → Showing = λ r. shown_block evaluate ends (Some r) inner in
    let one' : (r : Here) → tally (address l k) (go r).nodes ≤ times l inner = λ r. few l k evaluate g inner ends (Some r) d true f.1 in
    let none' : (r : Here) → (k ≡ Some r.key → ⊥) → tally (address l k) (go r).nodes ≡ 0 = λ r h. other_row l k evaluate inner ends
    (Some r) d f.1 h in
    let own = inside_has (λ t. tally (address l k) t ≤ times l inner) ends (formula_shown e none) (each_row ends go e.outcome) refl (omega arith)
    (each_few (address l k) (times l inner) k ends go one' none' e.outcome (λ u h. (g (row_here here) t u h).distinct_keys)) in
    let r = few l k evaluate g rest ends here (suc d) in_row f.2 in
    then_few (address l k) (times l inner) (times l rest) ends (then_shown ends (formula_shown e none) (each_row ends go e.outcome))
    (shown_block evaluate ends here rest) own r
few l k evaluate g (attempt first second rest) ends here zero in_row f = absurd f
few l k evaluate g (attempt first second rest) ends here (suc d) in_row f =
    let a = few l k evaluate g first true here d in_row f.0 in
    let b = few l k evaluate g second ends here d in_row f.1 in
    let r = few l k evaluate g rest ends here (suc d) in_row f.2 in
    let own = attempted_few (address l k) (times l first) (times l second) (shown_block evaluate true here first)
    (shown_block evaluate ends here second) a b in
    let both = then_few (address l k) (times l first + times l second) (times l rest) ends (attempted
    (shown_block evaluate true here first) (shown_block evaluate ends here second)) (shown_block evaluate ends here rest) own r in
    omega (arith, both)

-- ---- the ordinals

abbrev total : ℕ → List Part → ℕ
total l [] = 0
total l (p ∷ ps) = times l p.lines + (times l p.others + total l ps)

one_line : (l n : ℕ) (line : Line) (ps : List Part) → total l (with_line n line ps) ≤ one (n == l) + total l ps
one_line l n (TextLine f) [] = omega arith
one_line l n (TextLine f) (p ∷ ps) = omega arith
one_line l n (AttrLine name f) [] = omega arith
one_line l n (AttrLine name f) (p ∷ ps) = omega arith
one_line l n (TagLine name) [] = omega arith
one_line l n (TagLine name) (i ∷ []) = omega arith
one_line l n (TagLine name) (i ∷ p ∷ ps) = omega arith
one_line l n (IfLine f) [] = omega arith
one_line l n (IfLine f) (i ∷ []) = omega arith
one_line l n (IfLine f) (i ∷ p ∷ ps) = omega arith
one_line l n (EachLine f) [] = omega arith
one_line l n (EachLine f) (i ∷ []) = omega arith
one_line l n (EachLine f) (i ∷ p ∷ ps) = omega arith
one_line l n TryLine [] = omega arith
one_line l n TryLine (i ∷ []) = omega arith
one_line l n TryLine (i ∷ p ∷ ps) = omega arith
one_line l n ElseLine [] = omega arith
one_line l n ElseLine (p ∷ ps) = omega arith
one_line l n EndLine ps = omega arith

all_lines : (l n : ℕ) (ls : List Line) → (total l (parts_from n ls) ≤ 1) × (l < n → total l (parts_from n ls) ≡ 0)
all_lines l n [] = (omega arith, λ h. refl)
all_lines l n (x ∷ ls) =
    let i = all_lines l (suc n) ls in
    let s = one_line l n x (parts_from (suc n) ls) in
    elim (cases_Bool (n == l)) [
      | inl e ↦ (
          let q : n ≡ l = eqb-true n l e in
          let z = i.1 (omega arith) in
          let s' = rw e at s in
          (omega arith, λ h. absurd (omega arith)))
      | inr e ↦ (
          let s' = rw e at s in
          let u = i.0 in
          (omega arith, λ h. (let z = i.1 (omega arith) in omega arith)))
    ]

first_times : (l : ℕ) (ps : List Part) → times l (first_block ps) ≤ total l ps
first_times l [] = omega arith
first_times l (p ∷ ps) = omega arith

-- an ordinal stands once in a template
pub once_line : (l : ℕ) (ls : List Line) → times l (block_of ls) ≤ 1
once_line l ls = (let i = first_times l (parts_from 1 ls) in let j = (all_lines l 1 ls).0 in omega arith)
