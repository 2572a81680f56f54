-- The names that were read before, up to the first that has changed, are read now too, in the same order.
use Rattle.std.proofs.Common.{◌≡◌, ℕ, suc, Bool, true, false, ◌||◌, ◌&&◌, refl, sym, ap, ◌∙◌, inl, inr, List, [], ◌∷◌, ◌++◌, Option, Some, if◌then◌else◌}
use Rattle.std.proofs.lemmas.Bool.{cases_Bool, false≢true, true≢false}
use Rattle.sig_base.specs.Tables.{Table}
use Rattle.sig_base.specs.declared.rows.Row.{Row}
use Rattle.sig_base.specs.declared.value.Value.TheVariants as value
use Rattle.sig_base.specs.declared.value.Outcome.{Outcome}
use Rattle.sig_base.specs.declared.value.Outcome.TheVariants.{Good, Bad}
use Rattle.sig_formula.specs.Trees.{Tree}
use Rattle.sig_formula.specs.declared.formula.RowRef.{RowRef}
use Rattle.tpl_model.specs.Lines.{Block, empty, text, tag, choice, each, attempt}
use Rattle.tpl_model.specs.Shapes.{Here, row_here, is_fault}
use Rattle.tpl_model.specs.PageUpdates.PageMemos.{Heard, Hearing, PageMemo, blank, unless, where_ended, any_fault, all_names, failed, names, picks, attributes_heard, rows_memo, each_memo, memo_of, all_same, Steady, up_to_change, Begins}
use Rattle.tpl_model.proofs.PageUpdates.Updates.{parts, memo_agree, attributes_same, unless_agree as unless_same, where_agree as where_same, picks_agree as picks_same, each_agree as each_same}

all_upto : (same : ℕ → Bool) (xs : List ℕ) → all_same same (up_to_change same xs) ≡ all_same same xs
all_upto same [] = refl
all_upto same (x ∷ xs) = elim (cases_Bool (same x)) [ inl e ↦ rw e (all_upto same xs) | inr e ↦ rw e refl ]

upto_whole : (same : ℕ → Bool) (xs ys : List ℕ) → all_same same xs ≡ true → up_to_change same (xs ++ ys) ≡ xs ++ up_to_change same ys
upto_whole same [] ys h = refl
upto_whole same (x ∷ xs) ys h = elim (cases_Bool (same x)) [
  | inl e ↦ rw e (ap (λ z. x ∷ z) (upto_whole same xs ys (rw e at h)))
  | inr e ↦ absurd (false≢true (rw e at h))
]

upto_part : (same : ℕ → Bool) (xs ys : List ℕ) → all_same same xs ≡ false → up_to_change same (xs ++ ys) ≡ up_to_change same xs
upto_part same [] ys h = absurd (true≢false h)
upto_part same (x ∷ xs) ys h = elim (cases_Bool (same x)) [
  | inl e ↦ rw e (ap (λ z. x ∷ z) (upto_part same xs ys (rw e at h)))
  | inr e ↦ rw e refl
]

then_upto : (same : ℕ → Bool) (xs xs' ys ys' : List ℕ) → up_to_change same xs ≡ up_to_change same xs' → (all_same same xs ≡ true → (xs ≡ xs') × (up_to_change same ys ≡ up_to_change same ys')) → up_to_change same (xs ++ ys) ≡ up_to_change same (xs' ++ ys')
then_upto same xs xs' ys ys' h k =
    let a : all_same same xs ≡ all_same same xs' = sym (all_upto same xs) ∙ (ap (all_same same) h ∙ all_upto same xs') in
    elim (cases_Bool (all_same same xs)) [
      | inl e ↦ (
          let q = k e in
          upto_whole same xs ys e ∙ (ap (λ z. z ++ up_to_change same ys) q.0 ∙ (ap (λ z. xs' ++ z) q.1 ∙ sym (upto_whole same xs' ys' (sym a ∙ e)))))
      | inr e ↦ upto_part same xs ys e ∙ (h ∙ sym (upto_part same xs' ys' (sym a ∙ e)))
    ]

unless_upto : (same : ℕ → Bool) (c c' : Bool) (m m' : PageMemo) → c ≡ c' → up_to_change same (names m) ≡ up_to_change same (names m') → up_to_change same (names (unless c m)) ≡ up_to_change same (names (unless c' m'))
unless_upto same true c' m m' e h = (let p : up_to_change same (names (unless true m')) ≡ up_to_change same (names (unless c' m')) = ap (λ z. up_to_change same (names (unless z m'))) e in p)
unless_upto same false c' m m' e h = h ∙ ap (λ z. up_to_change same (names (unless z m'))) e

where_upto : (same : ℕ → Bool) (c c' : Bool) (m m' : PageMemo) → c ≡ c' → up_to_change same (names m) ≡ up_to_change same (names m') → up_to_change same (names (where_ended c m)) ≡ up_to_change same (names (where_ended c' m'))
where_upto same true c' m m' e h = h ∙ ap (λ z. up_to_change same (names (where_ended z m'))) e
where_upto same false c' m m' e h = (let p : up_to_change same (names (where_ended false m')) ≡ up_to_change same (names (where_ended c' m')) = ap (λ z. up_to_change same (names (where_ended z m'))) e in p)

attributes_upto : (same : ℕ → Bool) (hear later : Hearing) → Steady same hear later → Begins same hear later → (ends : Bool) (r : Option RowRef) (xs : List (List ℕ × Tree)) →
    up_to_change same (all_names (attributes_heard ends hear r xs)) ≡ up_to_change same (all_names (attributes_heard ends later r xs))
attributes_upto same hear later s g ends r [] = refl
attributes_upto same hear later s g ends r (x ∷ xs) =
    let h = hear r x.1 in
    let l = later r x.1 in
    let tail : Heard → Hearing → List Heard = λ z f. if ends && is_fault z.outcome then [] else attributes_heard ends f r xs in
    let i = attributes_upto same hear later s g ends r xs in
    let t : up_to_change same (all_names (tail h hear)) ≡ up_to_change same (all_names (tail h later)) = elim (cases_Bool (ends && is_fault h.outcome)) [ inl c ↦ rw c refl | inr c ↦ rw c i ] in
    then_upto same h.names l.names (all_names (tail h hear)) (all_names (tail l later)) (g r x.1)
    (λ a. (let e = s.heard r x.1 a in (ap (λ z. z.names) e, t ∙ ap (λ z. up_to_change same (all_names (tail z later))) e)))

picks_upto : (same : ℕ → Bool) (o : Outcome) (m m' n n' : PageMemo) → up_to_change same (names m) ≡ up_to_change same (names m') → up_to_change same (names n) ≡ up_to_change same (names n') → up_to_change same (names (picks o m n blank)) ≡ up_to_change same (names (picks o m' n' blank))
picks_upto same (Good (value.Bool true)) m m' n n' h k = h
picks_upto same (Good (value.Bool false)) m m' n n' h k = k
picks_upto same (Good (value.Int i)) m m' n n' h k = refl
picks_upto same (Good (value.Text i)) m m' n n' h k = refl
picks_upto same (Good (value.Rows i)) m m' n n' h k = refl
picks_upto same (Bad e) m m' n n' h k = refl

rows_upto : (same : ℕ → Bool) (ends : Bool) (go go' : Here → PageMemo) → ((h : Here) → all_same same (names (go h)) ≡ true → go h ≡ go' h) → ((h : Here) → up_to_change same (names (go h)) ≡ up_to_change same (names (go' h))) → (t : Table) (i : ℕ) (rs : List Row) →
    up_to_change same (names (rows_memo ends go t i rs)) ≡ up_to_change same (names (rows_memo ends go' t i rs))
rows_upto same ends go go' h k t i [] = refl
rows_upto same ends go go' h k t i (r ∷ rs) =
    let here : Here = record { key = r.key; row = record { rows = t; place = i } } in
    let n = rows_memo ends go t (suc i) rs in
    let n' = rows_memo ends go' t (suc i) rs in
    then_upto same (names (go here)) (names (go' here)) (names (unless (ends && failed (go here)) n)) (names (unless (ends && failed (go' here)) n')) (k here)
    (λ a. (let e = h here a in (ap names e, unless_upto same (ends && failed (go here)) (ends && failed (go' here)) n n' (ap (λ z. ends && failed z) e) (rows_upto same ends go go' h k t (suc i) rs))))

each_upto : (same : ℕ → Bool) (ends : Bool) (go go' : Here → PageMemo) → ((h : Here) → all_same same (names (go h)) ≡ true → go h ≡ go' h) → ((h : Here) → up_to_change same (names (go h)) ≡ up_to_change same (names (go' h))) → (o : Outcome) → up_to_change same (names (each_memo ends go o)) ≡ up_to_change same (names (each_memo ends go' o))
each_upto same ends go go' h k (Good (value.Rows t)) = rows_upto same ends go go' h k t 0 t.rows
each_upto same ends go go' h k (Good (value.Bool b)) = refl
each_upto same ends go go' h k (Good (value.Int b)) = refl
each_upto same ends go go' h k (Good (value.Text b)) = refl
each_upto same ends go go' h k (Bad b) = refl

-- one line with what is inside it, before the rest
inside_upto : (same : ℕ → Bool) (c : Bool → Bool) (xs xs' : List ℕ) (i i' m m' : PageMemo) (f f' : Bool) → up_to_change same (xs ++ names i) ≡ up_to_change same (xs' ++ names i') → (all_same same (xs ++ names i) ≡ true → (xs ++ names i ≡ xs' ++ names i') × (f ≡ f')) → up_to_change same (names m) ≡ up_to_change same (names m') →
    up_to_change same ((xs ++ names i) ++ names (unless (c f) m)) ≡ up_to_change same ((xs' ++ names i') ++ names (unless (c f') m'))
inside_upto same c xs xs' i i' m m' f f' h k r = then_upto same (xs ++ names i) (xs' ++ names i') (names (unless (c f) m)) (names (unless (c f') m')) h (λ a. (let q = k a in (q.0, unless_upto same (c f) (c f') m m' (ap c q.1) r)))

pub memo_upto : (same : ℕ → Bool) (hear later : Hearing) → Steady same hear later → Begins same hear later → (b : Block) (ends : Bool) (here : Option Here) → up_to_change same (names (memo_of hear ends here b)) ≡ up_to_change same (names (memo_of later ends here b))
memo_upto same hear later s g empty ends here = refl
memo_upto same hear later s g (text n f rest) ends here =
    let h = hear (row_here here) f in
    let l = later (row_here here) f in
    let m = memo_of hear ends here rest in
    let m' = memo_of later ends here rest in
    then_upto same h.names l.names (names (unless (ends && is_fault h.outcome) m)) (names (unless (ends && is_fault l.outcome) m')) (g (row_here here) f)
    (λ a. (let e = s.heard (row_here here) f a in (ap (λ z. z.names) e, unless_upto same (ends && is_fault h.outcome) (ends && is_fault l.outcome) m m' (ap (λ z. ends && is_fault z.outcome) e) (memo_upto same hear later s g rest ends here))))
memo_upto same hear later s g (tag n name xs inner rest) ends here =
    let hs = attributes_heard ends hear (row_here here) xs in
    let ls = attributes_heard ends later (row_here here) xs in
    let j = memo_of hear ends here inner in
    let j' = memo_of later ends here inner in
    let i = unless (ends && any_fault hs) j in
    let i' = unless (ends && any_fault ls) j' in
    let own = then_upto same (all_names hs) (all_names ls) (names i) (names i') (attributes_upto same hear later s g ends (row_here here) xs)
    (λ a. (let e = attributes_same same hear later s ends (row_here here) xs a in (ap all_names e, unless_upto same (ends && any_fault hs) (ends && any_fault ls) j j' (ap (λ z. ends && any_fault z) e) (memo_upto same hear later s g inner ends here)))) in
    inside_upto same (λ z. ends && z) (all_names hs) (all_names ls) i i' (memo_of hear ends here rest) (memo_of later ends here rest) (any_fault hs || failed i) (any_fault ls || failed i') own
    (λ a. (
    let p = parts same (all_names hs) (names i) a in
    let e = attributes_same same hear later s ends (row_here here) xs p.0 in
    let w : PageMemo → List Heard → PageMemo = λ z hs. unless (ends && any_fault hs) z in
    let q : i ≡ i' = unless_same same (ends && any_fault hs) j j' (memo_agree same hear later s inner ends here) p.1 ∙ ap (w j') e in
    (ap (λ z. all_names z ++ names i) e ∙ ap (λ z. all_names ls ++ names z) q, ap (λ z. any_fault z || failed i) e ∙ ap (λ z. any_fault ls || failed z) q)))
    (memo_upto same hear later s g rest ends here)
memo_upto same hear later s g (choice f one other rest) ends here =
    let h = hear (row_here here) f in
    let l = later (row_here here) f in
    let x = memo_of hear ends here one in
    let x' = memo_of later ends here one in
    let y = memo_of hear ends here other in
    let y' = memo_of later ends here other in
    let v : Heard → PageMemo → PageMemo → PageMemo = λ z x y. unless (ends && is_fault z.outcome) (picks z.outcome x y blank) in
    let i = v h x y in
    let i' = v l x' y' in
    let ps = picks_upto same h.outcome x x' y y' (memo_upto same hear later s g one ends here) (memo_upto same hear later s g other ends here) in
    let own = then_upto same h.names l.names (names i) (names i') (g (row_here here) f)
    (λ a. (let e = s.heard (row_here here) f a in (ap (λ z. z.names) e, unless_upto same (ends && is_fault h.outcome) (ends && is_fault h.outcome) (picks h.outcome x y blank) (picks h.outcome x' y' blank) refl ps ∙ ap (λ z. up_to_change same (names (v z x' y'))) e))) in
    inside_upto same (λ z. ends && z) h.names l.names i i' (memo_of hear ends here rest) (memo_of later ends here rest) (is_fault h.outcome || failed i) (is_fault l.outcome || failed i') own
    (λ a. (
    let p = parts same h.names (names i) a in
    let e = s.heard (row_here here) f p.0 in
    let q : i ≡ i' = unless_same same (ends && is_fault h.outcome) (picks h.outcome x y blank) (picks h.outcome x' y' blank) (picks_same same h.outcome x x' y y' (memo_agree same hear later s one ends here) (memo_agree same hear later s other ends here)) p.1 ∙ ap (λ z. v z x' y') e in
    (ap (λ z. z.names ++ names i) e ∙ ap (λ z. l.names ++ names z) q, ap (λ z. is_fault z.outcome || failed i) e ∙ ap (λ z. is_fault l.outcome || failed z) q)))
    (memo_upto same hear later s g rest ends here)
memo_upto same hear later s g (each f inner rest) ends here =
    let h = hear (row_here here) f in
    let l = later (row_here here) f in
    let go : Here → PageMemo = λ r. memo_of hear ends (Some r) inner in
    let go' : Here → PageMemo = λ r. memo_of later ends (Some r) inner in
    let v : Heard → (Here → PageMemo) → PageMemo = λ z go. unless (ends && is_fault z.outcome) (each_memo ends go z.outcome) in
    let i = v h go in
    let i' = v l go' in
    let ps = each_upto same ends go go' (λ r. memo_agree same hear later s inner ends (Some r)) (λ r. memo_upto same hear later s g inner ends (Some r)) h.outcome in
    let own = then_upto same h.names l.names (names i) (names i') (g (row_here here) f)
    (λ a. (let e = s.heard (row_here here) f a in (ap (λ z. z.names) e, unless_upto same (ends && is_fault h.outcome) (ends && is_fault h.outcome) (each_memo ends go h.outcome) (each_memo ends go' h.outcome) refl ps ∙ ap (λ z. up_to_change same (names (v z go'))) e))) in
    inside_upto same (λ z. ends && z) h.names l.names i i' (memo_of hear ends here rest) (memo_of later ends here rest) (is_fault h.outcome || failed i) (is_fault l.outcome || failed i') own
    (λ a. (
    let p = parts same h.names (names i) a in
    let e = s.heard (row_here here) f p.0 in
    let q : i ≡ i' = unless_same same (ends && is_fault h.outcome) (each_memo ends go h.outcome) (each_memo ends go' h.outcome) (each_same same ends go go' (λ r. memo_agree same hear later s inner ends (Some r)) h.outcome) p.1 ∙ ap (λ z. v z go') e in
    (ap (λ z. z.names ++ names i) e ∙ ap (λ z. l.names ++ names z) q, ap (λ z. is_fault z.outcome || failed i) e ∙ ap (λ z. is_fault l.outcome || failed z) q)))
    (memo_upto same hear later s g rest ends here)
memo_upto same hear later s g (attempt first second rest) ends here =
    let x = memo_of hear true here first in
    let x' = memo_of later true here first in
    let y = memo_of hear ends here second in
    let y' = memo_of later ends here second in
    let i = where_ended (failed x) y in
    let i' = where_ended (failed x') y' in
    let own = then_upto same (names x) (names x') (names i) (names i') (memo_upto same hear later s g first true here)
    (λ a. (let e = memo_agree same hear later s first true here a in (ap names e, where_upto same (failed x) (failed x') y y' (ap failed e) (memo_upto same hear later s g second ends here)))) in
    inside_upto same (λ z. ends && z) (names x) (names x') i i' (memo_of hear ends here rest) (memo_of later ends here rest) (failed i) (failed i') own
    (λ a. (
    let p = parts same (names x) (names i) a in
    let e = memo_agree same hear later s first true here p.0 in
    let q : i ≡ i' = where_same same (failed x) y y' (memo_agree same hear later s second ends here) p.1 ∙ ap (λ z. where_ended (failed z) y') e in
    (ap (λ z. names z ++ names i) e ∙ ap (λ z. names x' ++ names z) q, ap failed q)))
    (memo_upto same hear later s g rest ends here)
