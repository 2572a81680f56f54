-- What is brought up to date is what is made from scratch.
use Rattle.std.proofs.Common.{◌≡◌, ℕ, suc, Bool, true, false, ◌||◌, ◌&&◌, refl, sym, ap, ◌∙◌, inl, inr, List, [], ◌∷◌, ◌++◌, Option, Some, if◌then◌else◌}
use Rattle.std.proofs.lemmas.Bool.{cases_Bool, and_parts}
use Rattle.sig_base.specs.Tables.{Table}
use Rattle.sig_base.specs.declared.rows.Row.{Row}
use Rattle.sig_base.specs.declared.value.Value.TheVariants as value
use Rattle.sig_base.specs.declared.value.Outcome.{Outcome}
use Rattle.sig_base.specs.declared.value.Outcome.TheVariants.{Good, Bad}
use Rattle.sig_formula.specs.Trees.{Tree}
use Rattle.sig_formula.specs.declared.formula.RowRef.{RowRef}
use Rattle.tpl_model.specs.Lines.{Block, empty, text, tag, choice, each, attempt}
use Rattle.tpl_model.specs.Shapes.{Here, row_here, is_fault}
use Rattle.tpl_model.specs.PageUpdates.PageMemos.{Heard, Hearing, PageMemo, blank, line, element, branch, loop, row, either, unless, where_ended, any_fault, all_names, failed, names, picks, attributes_heard, rows_memo, each_memo, memo_of, all_same, Steady}

pub all_both : (same : ℕ → Bool) (xs ys : List ℕ) → all_same same (xs ++ ys) ≡ (all_same same xs && all_same same ys)
all_both same [] ys = refl
all_both same (x ∷ xs) ys = elim (cases_Bool (same x)) [ inl e ↦ rw e (all_both same xs ys) | inr e ↦ rw e refl ]

pub parts : (same : ℕ → Bool) (xs ys : List ℕ) → all_same same (xs ++ ys) ≡ true → (all_same same xs ≡ true) × (all_same same ys ≡ true)
parts same xs ys h = and_parts (all_same same xs) (all_same same ys) (sym (all_both same xs ys) ∙ h)

-- ---- where all names are as before

pub unless_agree : (same : ℕ → Bool) (c : Bool) (m n : PageMemo) → (all_same same (names m) ≡ true → m ≡ n) → all_same same (names (unless c m)) ≡ true → unless c m ≡ unless c n
unless_agree same true m n h a = refl
unless_agree same false m n h a = h a

pub where_agree : (same : ℕ → Bool) (c : Bool) (m n : PageMemo) → (all_same same (names m) ≡ true → m ≡ n) → all_same same (names (where_ended c m)) ≡ true → where_ended c m ≡ where_ended c n
where_agree same true m n h a = h a
where_agree same false m n h a = refl

pub attributes_same : (same : ℕ → Bool) (hear later : Hearing) → Steady same hear later → (ends : Bool) (r : Option RowRef) (xs : List (List ℕ × Tree)) → all_same same (all_names (attributes_heard ends hear r xs)) ≡ true → attributes_heard ends hear r xs ≡ attributes_heard ends later r xs
attributes_same same hear later s ends r [] a = refl
attributes_same same hear later s ends r (x ∷ xs) a =
    let h = hear r x.1 in
    let tail : List Heard = if ends && is_fault h.outcome then [] else attributes_heard ends hear r xs in
    let p = parts same h.names (all_names tail) a in
    let e = s.heard r x.1 p.0 in
    let t : tail ≡ (if ends && is_fault h.outcome then [] else attributes_heard ends later r xs) = elim (cases_Bool (ends && is_fault h.outcome)) [
      | inl c ↦ rw c refl
      | inr c ↦ (let q : all_same same (all_names (attributes_heard ends hear r xs)) ≡ true = rw c at p.1 in rw c (attributes_same same hear later s ends r xs q))
    ] in
    ap (λ z. h ∷ z) t ∙ ap (λ z. z ∷ (if ends && is_fault z.outcome then [] else attributes_heard ends later r xs)) e

pub picks_agree : (same : ℕ → Bool) (o : Outcome) (m m' n n' : PageMemo) → (all_same same (names m) ≡ true → m ≡ m') → (all_same same (names n) ≡ true → n ≡ n') → all_same same (names (picks o m n blank)) ≡ true → picks o m n blank ≡ picks o m' n' blank
picks_agree same (Good (value.Bool true)) m m' n n' h k a = h a
picks_agree same (Good (value.Bool false)) m m' n n' h k a = k a
picks_agree same (Good (value.Int i)) m m' n n' h k a = refl
picks_agree same (Good (value.Text i)) m m' n n' h k a = refl
picks_agree same (Good (value.Rows i)) m m' n n' h k a = refl
picks_agree same (Bad e) m m' n n' h k a = refl

rows_agree : (same : ℕ → Bool) (ends : Bool) (go go' : Here → PageMemo) → ((h : Here) → all_same same (names (go h)) ≡ true → go h ≡ go' h) → (t : Table) (i : ℕ) (rs : List Row) → all_same same (names (rows_memo ends go t i rs)) ≡ true → rows_memo ends go t i rs ≡ rows_memo ends go' t i rs
rows_agree same ends go go' h t i [] a = refl
rows_agree same ends go go' h t i (r ∷ rs) a =
    let here : Here = record { key = r.key; row = record { rows = t; place = i } } in
    let c = ends && failed (go here) in
    let p = parts same (names (go here)) (names (unless c (rows_memo ends go t (suc i) rs))) a in
    let q = unless_agree same c (rows_memo ends go t (suc i) rs) (rows_memo ends go' t (suc i) rs) (rows_agree same ends go go' h t (suc i) rs) p.1 in
    ap (λ z. row here (go here) z) q ∙ ap (λ z. row here z (unless (ends && failed z) (rows_memo ends go' t (suc i) rs))) (h here p.0)

pub each_agree : (same : ℕ → Bool) (ends : Bool) (go go' : Here → PageMemo) → ((h : Here) → all_same same (names (go h)) ≡ true → go h ≡ go' h) → (o : Outcome) → all_same same (names (each_memo ends go o)) ≡ true → each_memo ends go o ≡ each_memo ends go' o
each_agree same ends go go' h (Good (value.Rows t)) a = rows_agree same ends go go' h t 0 t.rows a
each_agree same ends go go' h (Good (value.Bool b)) a = refl
each_agree same ends go go' h (Good (value.Int b)) a = refl
each_agree same ends go go' h (Good (value.Text b)) a = refl
each_agree same ends go go' h (Bad b) a = refl

pub memo_agree : (same : ℕ → Bool) (hear later : Hearing) → Steady same hear later → (b : Block) (ends : Bool) (here : Option Here) → all_same same (names (memo_of hear ends here b)) ≡ true → memo_of hear ends here b ≡ memo_of later ends here b
memo_agree same hear later s empty ends here a = refl
memo_agree same hear later s (text n f rest) ends here a =
    let h = hear (row_here here) f in
    let m = memo_of hear ends here rest in
    let m' = memo_of later ends here rest in
    let c = ends && is_fault h.outcome in
    let p = parts same h.names (names (unless c m)) a in
    ap (λ z. line h z) (unless_agree same c m m' (memo_agree same hear later s rest ends here) p.1) ∙ ap (λ z. line z (unless (ends && is_fault z.outcome) m')) (s.heard (row_here here) f p.0)
memo_agree same hear later s (tag n name xs inner rest) ends here a =
    let hs = attributes_heard ends hear (row_here here) xs in
    let j = memo_of hear ends here inner in
    let j' = memo_of later ends here inner in
    let i = unless (ends && any_fault hs) j in
    let i' = unless (ends && any_fault hs) j' in
    let m = memo_of hear ends here rest in
    let m' = memo_of later ends here rest in
    let c = ends && (any_fault hs || failed i) in
    let p = parts same (all_names hs ++ names i) (names (unless c m)) a in
    let q = parts same (all_names hs) (names i) p.0 in
    let e = unless_agree same (ends && any_fault hs) j j' (memo_agree same hear later s inner ends here) q.1 in
    ap (λ z. element hs i z) (unless_agree same c m m' (memo_agree same hear later s rest ends here) p.1)
    ∙ (ap (λ z. element hs z (unless (ends && (any_fault hs || failed z)) m')) e
    ∙ ap (λ z. element z (unless (ends && any_fault z) j') (unless (ends && (any_fault z || failed (unless (ends && any_fault z) j'))) m')) (attributes_same same hear later s ends (row_here here) xs q.0))
memo_agree same hear later s (choice f one other rest) ends here a =
    let h = hear (row_here here) f in
    let x = memo_of hear ends here one in
    let x' = memo_of later ends here one in
    let y = memo_of hear ends here other in
    let y' = memo_of later ends here other in
    let i = unless (ends && is_fault h.outcome) (picks h.outcome x y blank) in
    let m = memo_of hear ends here rest in
    let m' = memo_of later ends here rest in
    let c = ends && (is_fault h.outcome || failed i) in
    let p = parts same (h.names ++ names i) (names (unless c m)) a in
    let q = parts same h.names (names i) p.0 in
    let e = unless_agree same (ends && is_fault h.outcome) (picks h.outcome x y blank) (picks h.outcome x' y' blank) (picks_agree same h.outcome x x' y y' (memo_agree same hear later s one ends here) (memo_agree same hear later s other ends here)) q.1 in
    let w : Heard → PageMemo = λ z. unless (ends && is_fault z.outcome) (picks z.outcome x' y' blank) in
    ap (λ z. branch h i z) (unless_agree same c m m' (memo_agree same hear later s rest ends here) p.1)
    ∙ (ap (λ z. branch h z (unless (ends && (is_fault h.outcome || failed z)) m')) e
    ∙ ap (λ z. branch z (w z) (unless (ends && (is_fault z.outcome || failed (w z))) m')) (s.heard (row_here here) f q.0))
memo_agree same hear later s (each f inner rest) ends here a =
    let h = hear (row_here here) f in
    let go : Here → PageMemo = λ r. memo_of hear ends (Some r) inner in
    let go' : Here → PageMemo = λ r. memo_of later ends (Some r) inner in
    let i = unless (ends && is_fault h.outcome) (each_memo ends go h.outcome) in
    let m = memo_of hear ends here rest in
    let m' = memo_of later ends here rest in
    let c = ends && (is_fault h.outcome || failed i) in
    let p = parts same (h.names ++ names i) (names (unless c m)) a in
    let q = parts same h.names (names i) p.0 in
    let e = unless_agree same (ends && is_fault h.outcome) (each_memo ends go h.outcome) (each_memo ends go' h.outcome) (each_agree same ends go go' (λ r. memo_agree same hear later s inner ends (Some r)) h.outcome) q.1 in
    let w : Heard → PageMemo = λ z. unless (ends && is_fault z.outcome) (each_memo ends go' z.outcome) in
    ap (λ z. loop h i z) (unless_agree same c m m' (memo_agree same hear later s rest ends here) p.1)
    ∙ (ap (λ z. loop h z (unless (ends && (is_fault h.outcome || failed z)) m')) e
    ∙ ap (λ z. loop z (w z) (unless (ends && (is_fault z.outcome || failed (w z))) m')) (s.heard (row_here here) f q.0))
memo_agree same hear later s (attempt first second rest) ends here a =
    let x = memo_of hear true here first in
    let x' = memo_of later true here first in
    let y = memo_of hear ends here second in
    let y' = memo_of later ends here second in
    let b = where_ended (failed x) y in
    let m = memo_of hear ends here rest in
    let m' = memo_of later ends here rest in
    let c = ends && failed b in
    let p = parts same (names x ++ names b) (names (unless c m)) a in
    let q = parts same (names x) (names b) p.0 in
    let e = where_agree same (failed x) y y' (memo_agree same hear later s second ends here) q.1 in
    let w : PageMemo → PageMemo = λ z. where_ended (failed z) y' in
    ap (λ z. either x b z) (unless_agree same c m m' (memo_agree same hear later s rest ends here) p.1)
    ∙ (ap (λ z. either x z (unless (ends && failed z) m')) e
    ∙ ap (λ z. either z (w z) (unless (ends && failed (w z)) m')) (memo_agree same hear later s first true here q.0))

-- ---- in rows that are alike

attributes_like : (hear : Hearing) (r r' : Option RowRef) → ((f : Tree) → hear r f ≡ hear r' f) → (ends : Bool) (xs : List (List ℕ × Tree)) → attributes_heard ends hear r xs ≡ attributes_heard ends hear r' xs
attributes_like hear r r' h ends [] = refl
attributes_like hear r r' h ends (x ∷ xs) =
    ap (λ z. hear r x.1 ∷ (if ends && is_fault (hear r x.1).outcome then [] else z)) (attributes_like hear r r' h ends xs)
    ∙ ap (λ z. z ∷ (if ends && is_fault z.outcome then [] else attributes_heard ends hear r' xs)) (h x.1)

pub memo_like : (hear : Hearing) (b : Block) (ends : Bool) (here here' : Option Here) → ((f : Tree) → hear (row_here here) f ≡ hear (row_here here') f) → memo_of hear ends here b ≡ memo_of hear ends here' b
memo_like hear empty ends here here' e = refl
memo_like hear (text n f rest) ends here here' e =
    let h = hear (row_here here) f in
    let m' = memo_of hear ends here' rest in
    ap (λ z. line h (unless (ends && is_fault h.outcome) z)) (memo_like hear rest ends here here' e) ∙ ap (λ z. line z (unless (ends && is_fault z.outcome) m')) (e f)
memo_like hear (tag n name xs inner rest) ends here here' e =
    let hs = attributes_heard ends hear (row_here here) xs in
    let j = memo_of hear ends here inner in
    let j' = memo_of hear ends here' inner in
    let m = memo_of hear ends here rest in
    let m' = memo_of hear ends here' rest in
    let w : List Heard → PageMemo → PageMemo → PageMemo = λ z j m. element z (unless (ends && any_fault z) j) (unless (ends && (any_fault z || failed (unless (ends && any_fault z) j))) m) in
    ap (w hs j) (memo_like hear rest ends here here' e) ∙ (ap (λ z. w hs z m') (memo_like hear inner ends here here' e) ∙ ap (λ z. w z j' m') (attributes_like hear (row_here here) (row_here here') e ends xs))
memo_like hear (choice f one other rest) ends here here' e =
    let h = hear (row_here here) f in
    let x = memo_of hear ends here one in
    let x' = memo_of hear ends here' one in
    let y = memo_of hear ends here other in
    let y' = memo_of hear ends here' other in
    let m = memo_of hear ends here rest in
    let m' = memo_of hear ends here' rest in
    let i : Heard → PageMemo → PageMemo → PageMemo = λ z x y. unless (ends && is_fault z.outcome) (picks z.outcome x y blank) in
    let w : Heard → PageMemo → PageMemo → PageMemo → PageMemo = λ z x y m. branch z (i z x y) (unless (ends && (is_fault z.outcome || failed (i z x y))) m) in
    ap (w h x y) (memo_like hear rest ends here here' e) ∙ (ap (λ z. w h x z m') (memo_like hear other ends here here' e) ∙ (ap (λ z. w h z y' m') (memo_like hear one ends here here' e) ∙ ap (λ z. w z x' y' m') (e f)))
memo_like hear (each f inner rest) ends here here' e =
    let h = hear (row_here here) f in
    let m = memo_of hear ends here rest in
    let m' = memo_of hear ends here' rest in
    let i : Heard → PageMemo = λ z. unless (ends && is_fault z.outcome) (each_memo ends (λ r. memo_of hear ends (Some r) inner) z.outcome) in
    let w : Heard → PageMemo → PageMemo = λ z m. loop z (i z) (unless (ends && (is_fault z.outcome || failed (i z))) m) in
    ap (w h) (memo_like hear rest ends here here' e) ∙ ap (λ z. w z m') (e f)
memo_like hear (attempt first second rest) ends here here' e =
    let x = memo_of hear true here first in
    let x' = memo_of hear true here' first in
    let y = memo_of hear ends here second in
    let y' = memo_of hear ends here' second in
    let m = memo_of hear ends here rest in
    let m' = memo_of hear ends here' rest in
    let w : PageMemo → PageMemo → PageMemo → PageMemo = λ x y m. either x (where_ended (failed x) y) (unless (ends && failed (where_ended (failed x) y)) m) in
    ap (w x y) (memo_like hear rest ends here here' e) ∙ (ap (λ z. w x z m') (memo_like hear second ends here here' e) ∙ ap (λ z. w z y' m') (memo_like hear first true here here' e))
