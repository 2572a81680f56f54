-- What is kept of lines, made of what is heard of the first of them, what is kept inside it and what is kept behind it.
use denote.Ref.{Bor}
use Rattle.std.specs.Prelude.{IfSome, ◌&&◌, ◌||◌}
use Rattle.std.specs.Option.{option_copied, unwrap_or}
use Rattle.std.proofs.Common.{◌≡◌, ◌<◌, ◌≤◌, ◌+◌, ◌^◌, ℕ, zero, suc, Bool, true, false, List, [], ◌∷◌, ◌++◌, length, map, Option, Some, None, append_assoc, append-nil, refl, sym, ap, ap₂, subst, ◌∙◌, ◌⊎◌, ⊎_elim, inl, inr, arith}
use Rattle.std.proofs.Math.Bool.{or_assoc}
use Rattle.page_model.proofs.Shared.{or_none}
use Rattle.sig_base.specs.Tables.{Table}
use Rattle.sig_formula.specs.Trees.{Tree}
use Rattle.sig_formula.specs.declared.formula.RowRef.{RowRef}
use Rattle.tpl_model.specs.Lines.{Block, empty, text, tag, choice, each, attempt}
use Rattle.tpl_hearing.specs.Heard.{Grows, Outcomes}
use Rattle.tpl_model.specs.KeptLines.Kept.{heard_of, kept, rows_from, rows_of}
use Rattle.tpl_model.specs.declared.memo.PageMemo as held
use Rattle.sig_base.specs.declared.rows.Row.{Row}
use Rattle.sig_base.specs.declared.value.Value.TheVariants as value
use Rattle.sig_base.specs.declared.value.Outcome.{Outcome}
use Rattle.sig_base.specs.declared.value.Outcome.TheVariants.{Good, Bad}
use Rattle.tpl_model.specs.Shapes.{is_fault}
use Rattle.tpl_model.specs.PageUpdates.PageMemos.{PageMemo, unread, blank, failed, any_fault}
use Rattle.tpl_model.specs.KeptLines.Memos.{Makes, branch_part, loop_part, part_memo, rows_in, table_in, truth_in}
use Rattle.tpl_kept.proofs.Listened.Sequences.{mapped_put, none_made, over_made, text_made, element_made, neither_made, branch_made, loop_made, attempt_made, unless_over}
use Rattle.tpl_kept.proofs.Listened.Rowed.{row_at, RowsMade, none_rowed, one_rowed, rows_ended, rows_made}
use Rattle.tpl_kept.specs.Heads.{AreRows, IsRow, MakesEach, Opens, TellsFault, WhereOver, any_failed, behind, closed, inner_in, last_of, last_read, lines_size, met_fault, places_from, places_in, rest_in, shows_first, unless_ended, where_shown}
use Rattle.tpl_kept.specs.declared.making.head.Head.{Head}
use Rattle.tpl_kept.specs.declared.making.head.Head.TheVariants as head

-- ---- lists

places_suc : (t : Table) (i n : ℕ) → places_from t i (suc n) ≡ places_from t i n ++ Some (row_at t (i + n)) ∷ []
places_suc t i zero = let e : i ≡ i + 0 = omega arith in ap (λ z. Some (row_at t z) ∷ []) e
places_suc t i (suc n) =
    let e : suc i + n ≡ i + suc n = omega arith in
    ap (λ z. Some (row_at t i) ∷ z) (places_suc t (suc i) n ∙ ap (λ z. places_from t (suc i) n ++ Some (row_at t z) ∷ []) e)

-- one place more
pub places_more : (t : Table) (i n : ℕ) → places_from t i (n + 1) ≡ places_from t i n ++ Some (row_at t (i + n)) ∷ []
places_more t i n = let e : n + 1 ≡ suc n = omega arith in ap (places_from t i) e ∙ places_suc t i n

-- what is put last
pub last_put : (ms : List PageMemo) (m : PageMemo) → last_of (ms ++ m ∷ []) ≡ m
last_put [] m = refl
last_put (x ∷ []) m = refl
last_put (x ∷ y ∷ ms) m = last_put (y ∷ ms) m

-- ---- where lines are made

places_are : (t : Table) (i n : ℕ) → i + n ≤ length t.rows → AreRows (places_from t i n)
places_are t i zero h = tt
places_are t i (suc n) h = (omega (arith, h), places_are t (suc i) n (omega (arith, h)))

-- where rows are left, they are rows
pub unless_are : (over : Bool) (rows : List (Option RowRef)) → AreRows rows → AreRows (unless_ended over rows)
unless_are true rows r = tt
unless_are false rows r = r

-- they aren't more
pub unless_few : (over : Bool) (rows : List (Option RowRef)) → length (unless_ended over rows) ≤ length rows
unless_few true rows = omega arith
unless_few false rows = omega arith

-- rows inside are rows
pub inside_are : (ends : Bool) (h : Head) (row : Option RowRef) → IsRow row → AreRows (places_in ends h row)
inside_are ends head.Nothing row r = tt
inside_are ends (head.Text h) row r = tt
inside_are ends (head.Attempt x y) row r = tt
inside_are ends (head.Tag all) row r = unless_are (ends && any_fault (map heard_of all.items)) (row ∷ []) (r, tt)
inside_are ends (head.Choice h) row r = shown_are (truth_in h.outcome)
  where
    shown_are : (t : Option Bool) → AreRows (where_shown t row)
    shown_are None = tt
    shown_are (Some b) = (r, tt)
inside_are ends (head.Each h) row r = places_are (table_in h.outcome) 0 (length (table_in h.outcome).rows) (omega arith)

-- those behind too
pub behind_are : (over : Bool) (h : Head) (row : Option RowRef) → IsRow row → AreRows (behind over h row)
behind_are over head.Nothing row r = tt
behind_are over (head.Text h) row r = unless_are over (row ∷ []) (r, tt)
behind_are over (head.Tag all) row r = unless_are over (row ∷ []) (r, tt)
behind_are over (head.Choice h) row r = unless_are over (row ∷ []) (r, tt)
behind_are over (head.Each h) row r = unless_are over (row ∷ []) (r, tt)
behind_are over (head.Attempt x y) row r = unless_are over (row ∷ []) (r, tt)

-- there are few behind
pub behind_few : (over : Bool) (h : Head) (row : Option RowRef) → length (behind over h row) ≤ 1
behind_few over head.Nothing row = omega arith
behind_few over (head.Text h) row = let few = unless_few over (row ∷ []) in omega (arith, few)
behind_few over (head.Tag all) row = let few = unless_few over (row ∷ []) in omega (arith, few)
behind_few over (head.Choice h) row = let few = unless_few over (row ∷ []) in omega (arith, few)
behind_few over (head.Each h) row = let few = unless_few over (row ∷ []) in omega (arith, few)
behind_few over (head.Attempt x y) row = let few = unless_few over (row ∷ []) in omega (arith, few)

-- ---- less is left

branch_less : (f : Tree) (one other rest : Block) (first : Bool) → lines_size (inner_in (choice f one other rest) first) ≤ lines_size one + lines_size other
branch_less f one other rest true = omega arith
branch_less f one other rest false = omega arith

none_in : (ends : Bool) (h : Head) (row : Option RowRef) → places_in ends h row ≡ [] → length (places_in ends h row) ≡ 0
none_in ends h row e = ap length e

-- of the lines inside
pub inside_less : (ends : Bool) (b : Block) (links : List ℕ) (row : Option RowRef) (a c : Outcomes) (h : Head) (n : ℕ) → Opens ends b links row a c h →
    length (places_in ends h row) < 2 ^ 64 → lines_size (inner_in b (shows_first h)) + length (places_in ends h row) < lines_size b + suc n
inside_less ends empty links row a c h n o few = let e = none_in ends h row (ap (λ z. places_in ends z row) o.0) in omega (arith, e)
inside_less ends (text k f rest) links row a c h n o few = let e = none_in ends h row (ap (λ z. places_in ends z row) o.1.0) in omega (arith, e)
inside_less ends (tag k name xs inner rest) links row a c h n o few = omega (arith, few)
inside_less ends (choice f one other rest) links row a c h n o few = let e = branch_less f one other rest (shows_first h) in omega (arith, few, e)
inside_less ends (each f inner rest) links row a c h n o few = omega (arith, few)
inside_less ends (attempt first second rest) links row a c h n o few = let e = none_in ends h row (ap (λ z. places_in ends z row) o.2.0) in omega (arith, e)

-- of the lines behind
pub behind_less : (ends over : Bool) (b : Block) (links : List ℕ) (row : Option RowRef) (a c : Outcomes) (h : Head) (n : ℕ) → Opens ends b links row a c h →
    lines_size (rest_in b) + length (behind over h row) < lines_size b + suc n
behind_less ends over empty links row a c h n o = let e : length (behind over h row) ≡ 0 = ap (λ z. length (behind over z row)) o.0 in omega (arith, e)
behind_less ends over (text k f rest) links row a c h n o = let e = behind_few over h row in omega (arith, e)
behind_less ends over (tag k name xs inner rest) links row a c h n o = let e = behind_few over h row in omega (arith, e)
behind_less ends over (choice f one other rest) links row a c h n o = let e = behind_few over h row in omega (arith, e)
behind_less ends over (each f inner rest) links row a c h n o = let e = behind_few over h row in omega (arith, e)
behind_less ends over (attempt first second rest) links row a c h n o = let e = behind_few over h row in omega (arith, e)

-- ---- lines in some rows

-- all ended, or it went on
where_over : (over : Bool) {Over On : Type 0} → WhereOver over Over On → ((over ≡ true) × Over) ⊎ ((over ≡ false) × On)
where_over true x = inl (refl, x)
where_over false x = inr (refl, x)

-- in one row: it is made, and nothing behind it
only_one : (ends : Bool) (b : Block) (links : List ℕ) (a c : Outcomes) (m : PageMemo) (mid : Outcomes) (before after : List PageMemo) →
    WhereOver (ends && failed m) ((c ≡ mid) × (after ≡ before ++ m ∷ [])) (MakesEach ends b links [] mid c (before ++ m ∷ []) after) →
    (c ≡ mid) × (after ≡ before ++ m ∷ [])
only_one ends b links a c m mid before after x = ⊎_elim (λ y. y.1) (λ y. y.1) (where_over (ends && failed m) x)

pub alone_made : (ends : Bool) (b : Block) (links : List ℕ) (row : Option RowRef) (a c : Outcomes) (ms : List PageMemo) → MakesEach ends b links (row ∷ []) a c [] ms →
    Makes (part_memo ends b) links row a c (last_of ms)
alone_made ends b links row a c ms x =
    let y = only_one ends b links a c x.memo x.mid [] ms x.later in
    let made : Makes (part_memo ends b) links row a c x.memo = subst (λ z. Makes (part_memo ends b) links row a z x.memo) (sym y.0) x.made in
    subst (Makes (part_memo ends b) links row a c) (sym (ap last_of y.1)) made

-- it alone is kept
pub alone_kept : (ends : Bool) (b : Block) (links : List ℕ) (row : Option RowRef) (a c : Outcomes) (ms : List PageMemo) → MakesEach ends b links (row ∷ []) a c [] ms →
    (m : PageMemo) × (ms ≡ m ∷ [])
alone_kept ends b links row a c ms x = (x.memo, (only_one ends b links a c x.memo x.mid [] ms x.later).1)

-- whether it met a fault
pub alone_failed : (ends : Bool) (b : Block) (links : List ℕ) (row : Option RowRef) (a c : Outcomes) (ms : List PageMemo) → MakesEach ends b links (row ∷ []) a c [] ms →
    failed (last_of ms) ≡ any_failed ms
alone_failed ends b links row a c ms x =
    let y = only_one ends b links a c x.memo x.mid [] ms x.later in
    ap (λ z. failed (last_of z)) y.1 ∙ (sym (or_none (failed x.memo)) ∙ ap any_failed (sym y.1))

-- in one, unless all ended before
unless_alone : (ends over : Bool) (b : Block) (links : List ℕ) (row : Option RowRef) (a c : Outcomes) (ms : List PageMemo) →
    MakesEach ends b links (unless_ended over (row ∷ [])) a c [] ms → Makes (unless_over over (part_memo ends b)) links row a c (last_of ms)
unless_alone ends true b links row a c ms x =
    subst (λ z. Makes (unless_over true (part_memo ends b)) links row a z (last_of ms)) (sym x.0) (over_made (part_memo ends b) links row a (last_of ms) (ap last_of x.1))
unless_alone ends false b links row a c ms x =
    let y = alone_made ends b links row a c ms x in
    record { is = λ source agrees here e. y.is source agrees here e; order = y.order }

unless_failed : (ends over : Bool) (b : Block) (links : List ℕ) (row : Option RowRef) (a c : Outcomes) (ms : List PageMemo) →
    MakesEach ends b links (unless_ended over (row ∷ [])) a c [] ms → failed (last_of ms) ≡ any_failed ms
unless_failed ends true b links row a c ms x = ap (λ z. failed (last_of z)) x.1 ∙ ap any_failed (sym x.1)
unless_failed ends false b links row a c ms x = alone_failed ends b links row a c ms x

-- in the rows of a table
each_rowed : (ends : Bool) (b : Block) (links : List ℕ) (t : Table) (n i : ℕ) (a mid c : Outcomes) (ms ks : List PageMemo) → RowsMade ends b links t i a mid ms →
    i + n ≡ length t.rows → MakesEach ends b links (places_from t i n) mid c ms ks → Makes (loop_part ends t b) links None a c (rows_in t ks)
each_rowed ends b links t zero i a mid c ms ks r count x =
    let e : i ≡ length t.rows = omega (arith, count) in
    rows_made ends b links t i a c ks (subst (λ z. RowsMade ends b links t i a z ks) (sym x.0) (subst (RowsMade ends b links t i a mid) (sym x.1) r)) e
each_rowed ends b links t (suc n) i a mid c ms ks r count x = elim (where_over (ends && failed x.memo) x.later) [
  | inl y ↦ (
      let made : Makes (part_memo ends b) links (Some (row_at t i)) mid c x.memo =
      subst (λ z. Makes (part_memo ends b) links (Some (row_at t i)) mid z x.memo) (sym y.1.0) x.made in
      rows_ended ends b links t i (row_at t i) a mid c ms ks x.memo r (omega (arith, count)) (subst (λ z. Grows mid z) (sym y.1.0) x.grows) refl made y.0 y.1.1)
  | inr y ↦ (
      let e : i + 1 ≡ suc i = omega arith in
      let more : RowsMade ends b links t (i + 1) a x.mid (ms ++ x.memo ∷ []) =
      one_rowed ends b links t i (row_at t i) a mid x.mid ms (ms ++ x.memo ∷ []) x.memo r x.grows refl x.made y.0 refl in
      each_rowed ends b links t n (suc i) a x.mid c (ms ++ x.memo ∷ []) ks (subst (λ z. RowsMade ends b links t z a x.mid (ms ++ x.memo ∷ [])) e more)
      (omega (arith, count)) y.1)
]

table_made : (ends : Bool) (b : Block) (links : List ℕ) (t : Table) (a c : Outcomes) (ms : List PageMemo) →
    MakesEach ends b links (places_from t 0 (length t.rows)) a c [] ms → Makes (loop_part ends t b) links None a c (rows_in t ms)
table_made ends b links t a c ms x =
    each_rowed ends b links t (length t.rows) 0 a a c [] ms (none_rowed ends b links t a [] refl) (omega arith) x

-- there aren't more than the rows
length_more : (ms : List PageMemo) (m : PageMemo) → length (ms ++ m ∷ []) ≡ length ms + 1
length_more [] m = refl
length_more (x ∷ ms) m = let e = length_more ms m in omega (arith, e)

each_few : (ends : Bool) (b : Block) (links : List ℕ) (rows : List (Option RowRef)) (a c : Outcomes) (ms ks : List PageMemo) → MakesEach ends b links rows a c ms ks →
    length ks ≤ length ms + length rows
each_few ends b links [] a c ms ks x = let e = ap length x.1 in omega (arith, e)
each_few ends b links (r ∷ rs) a c ms ks x = elim (where_over (ends && failed x.memo) x.later) [
  | inl y ↦ (let e = ap length y.1.1 in let k = length_more ms x.memo in omega (arith, e, k))
  | inr y ↦ (let i = each_few ends b links rs x.mid c (ms ++ x.memo ∷ []) ks y.1 in let k = length_more ms x.memo in omega (arith, i, k))
]

pub places_count : (t : Table) (i n : ℕ) → length (places_from t i n) ≡ n
places_count t i zero = refl
places_count t i (suc n) = ap suc (places_count t (suc i) n)

-- whether the lines of a row met a fault
rows_failed : (t : Table) (i : ℕ) (rs : List Row) (ms : List PageMemo) → length ms ≤ length rs → failed (rows_from t i rs ms) ≡ any_failed ms
rows_failed t i [] [] e = refl
rows_failed t i (r ∷ rs) [] e = refl
rows_failed t i [] (m ∷ ms) e = absurd (omega (arith, e))
rows_failed t i (r ∷ rs) (m ∷ ms) e = ap (λ z. failed m || z) (rows_failed t (suc i) rs ms (omega (arith, e)))

loop_failed : (o : Outcome) (ms : List PageMemo) → length ms ≤ length (table_in o).rows → failed (rows_of o ms) ≡ any_failed ms
loop_failed (Good (value.Rows t)) ms e = rows_failed t 0 t.rows ms e
loop_failed (Good (value.Bool b)) [] e = refl
loop_failed (Good (value.Int n)) [] e = refl
loop_failed (Good (value.Text s)) [] e = refl
loop_failed (Bad x) [] e = refl
loop_failed (Good (value.Bool b)) (m ∷ ms) e = absurd (omega (arith, e))
loop_failed (Good (value.Int n)) (m ∷ ms) e = absurd (omega (arith, e))
loop_failed (Good (value.Text s)) (m ∷ ms) e = absurd (omega (arith, e))
loop_failed (Bad x) (m ∷ ms) e = absurd (omega (arith, e))

-- in a branch, where it is shown
branch_inside : (ends : Bool) (f : Tree) (one other rest : Block) (links : List ℕ) (row : Option RowRef) (truth : Option Bool) (a c : Outcomes) (ms : List PageMemo) →
    MakesEach ends (inner_in (choice f one other rest) (unwrap_or truth false)) links (where_shown truth row) a c [] ms →
    Makes (branch_part ends truth one other) links row a c (last_of ms)
branch_inside ends f one other rest links row None a c ms x =
    subst (λ z. Makes (branch_part ends None one other) links row a z (last_of ms)) (sym x.0)
    (neither_made ends links row one other a (last_of ms) (ap last_of x.1))
branch_inside ends f one other rest links row (Some true) a c ms x =
    let y = alone_made ends one links row a c ms x in
    record { is = λ source agrees here e. y.is source agrees here e; order = y.order }
branch_inside ends f one other rest links row (Some false) a c ms x =
    let y = alone_made ends other links row a c ms x in
    record { is = λ source agrees here e. y.is source agrees here e; order = y.order }

branch_failed : (ends : Bool) (b : Block) (links : List ℕ) (row : Option RowRef) (truth : Option Bool) (a c : Outcomes) (ms : List PageMemo) →
    MakesEach ends b links (where_shown truth row) a c [] ms → failed (last_of ms) ≡ any_failed ms
branch_failed ends b links row None a c ms x = ap (λ z. failed (last_of z)) x.1 ∙ ap any_failed (sym x.1)
branch_failed ends b links row (Some t) a c ms x = alone_failed ends b links row a c ms x

-- ---- lines

-- names heard later are behind those before, where nothing is heard between
still_grows : (a b c : Outcomes) → b ≡ a → Grows b c → Grows a c
still_grows a b c e g = subst (λ z. Grows z c) e g

-- lines are made of what is heard of the first, what is kept inside it and what is kept behind it
pub line_made : (ends : Bool) (b : Block) (links : List ℕ) (row : Option RowRef) (h : Head) (a mid c d : Outcomes) (is rs : List PageMemo) (m : PageMemo) →
    Opens ends b links row a mid h → Grows mid c → MakesEach ends (inner_in b (shows_first h)) links (places_in ends h row) mid c [] is → Grows c d →
    MakesEach ends (rest_in b) links (behind (ends && (met_fault h || any_failed is)) h row) c d [] rs → m ≡ closed h is rs → Makes (part_memo ends b) links row a d m
line_made ends empty links row h a mid c d is rs m o g inside k later same =
    let i : (c ≡ mid) × (is ≡ []) = subst (λ z. MakesEach ends empty links (places_in ends z row) mid c [] is) o.0 inside in
    let r : (d ≡ c) × (rs ≡ []) = subst (λ z. MakesEach ends empty links (behind (ends && (met_fault z || any_failed is)) z row) c d [] rs) o.0 later in
    let e : m ≡ blank = same ∙ ap (λ z. closed z is rs) o.0 in
    subst (λ z. Makes (part_memo ends empty) links row a z m) (sym (r.0 ∙ (i.0 ∙ o.1))) (none_made ends links row a m e)
line_made ends (text n f rest) links row h a mid c d is rs m o g inside k later same =
    let x = o.0 in
    let met = is_fault (heard_of x).outcome in
    let i : (c ≡ mid) × (is ≡ []) = subst (λ z. MakesEach ends (text n f rest) links (places_in ends z row) mid c [] is) o.1.0 inside in
    let r : MakesEach ends rest links (unless_ended (ends && (met || any_failed is)) (row ∷ [])) c d [] rs =
    subst (λ z. MakesEach ends rest links (behind (ends && (met_fault z || any_failed is)) z row) c d [] rs) o.1.0 later in
    let same_met : (met || any_failed is) ≡ met = ap (λ z. met || any_failed z) i.1 ∙ or_none met in
    let l : Makes (unless_over (ends && met) (part_memo ends rest)) links row mid d (last_of rs) =
    subst (λ z. Makes (unless_over (ends && met) (part_memo ends rest)) links row z d (last_of rs)) i.0
    (subst (λ z. Makes (unless_over (ends && z) (part_memo ends rest)) links row c d (last_of rs)) same_met
    (unless_alone ends (ends && (met || any_failed is)) rest links row c d rs r)) in
    text_made ends links row n f rest a mid d (heard_of x) (last_of rs) m o.1.1 (still_grows mid c d i.0 k) l (same ∙ ap (λ z. closed z is rs) o.1.0)
line_made ends (tag n name xs inner rest) links row h a mid c d is rs m o g inside k later same =
    let hs = map heard_of o.0.items in
    let i : MakesEach ends inner links (unless_ended (ends && any_fault hs) (row ∷ [])) mid c [] is =
    subst (λ z. MakesEach ends inner links (places_in ends z row) mid c [] is) o.1.0 inside in
    let r : MakesEach ends rest links (unless_ended (ends && (any_fault hs || any_failed is)) (row ∷ [])) c d [] rs =
    subst (λ z. MakesEach ends rest links (behind (ends && (met_fault z || any_failed is)) z row) c d [] rs) o.1.0 later in
    let met : any_failed is ≡ failed (last_of is) = sym (unless_failed ends (ends && any_fault hs) inner links row mid c is i) in
    let l : Makes (unless_over (ends && (any_fault hs || failed (last_of is))) (part_memo ends rest)) links row c d (last_of rs) =
    subst (λ z. Makes (unless_over (ends && (any_fault hs || z)) (part_memo ends rest)) links row c d (last_of rs)) met
    (unless_alone ends (ends && (any_fault hs || any_failed is)) rest links row c d rs r) in
    element_made ends links row n name xs inner rest a mid c d hs (last_of is) (last_of rs) m o.1.1 g (unless_alone ends (ends && any_fault hs) inner links row mid c is i)
    k l (same ∙ ap (λ z. closed z is rs) o.1.0)
line_made ends (choice f one other rest) links row h a mid c d is rs m o g inside k later same =
    let x = o.0 in
    let fault = is_fault (heard_of x).outcome in
    let i : MakesEach ends (inner_in (choice f one other rest) (unwrap_or (truth_in x.outcome) false)) links (where_shown (truth_in x.outcome) row) mid c [] is =
    subst (λ z. MakesEach ends (inner_in (choice f one other rest) (shows_first z)) links (places_in ends z row) mid c [] is) o.1.0 inside in
    let r : MakesEach ends rest links (unless_ended (ends && (fault || any_failed is)) (row ∷ [])) c d [] rs =
    subst (λ z. MakesEach ends rest links (behind (ends && (met_fault z || any_failed is)) z row) c d [] rs) o.1.0 later in
    let met : any_failed is ≡ failed (last_of is) =
    sym (branch_failed ends (inner_in (choice f one other rest) (unwrap_or (truth_in x.outcome) false)) links row (truth_in x.outcome) mid c is i) in
    let l : Makes (unless_over (ends && (fault || failed (last_of is))) (part_memo ends rest)) links row c d (last_of rs) =
    subst (λ z. Makes (unless_over (ends && (fault || z)) (part_memo ends rest)) links row c d (last_of rs)) met
    (unless_alone ends (ends && (fault || any_failed is)) rest links row c d rs r) in
    branch_made ends links row f one other rest (truth_in x.outcome) a mid c d (heard_of x) (last_of is) (last_of rs) m o.1.1 refl g
    (branch_inside ends f one other rest links row (truth_in x.outcome) mid c is i) k l (same ∙ ap (λ z. closed z is rs) o.1.0)
line_made ends (each f inner rest) links row h a mid c d is rs m o g inside k later same =
    let x = o.0 in
    let t = table_in x.outcome in
    let fault = is_fault (heard_of x).outcome in
    let i : MakesEach ends inner links (places_from t 0 (length t.rows)) mid c [] is =
    subst (λ z. MakesEach ends inner links (places_in ends z row) mid c [] is) o.1.0 inside in
    let r : MakesEach ends rest links (unless_ended (ends && (fault || any_failed is)) (row ∷ [])) c d [] rs =
    subst (λ z. MakesEach ends rest links (behind (ends && (met_fault z || any_failed is)) z row) c d [] rs) o.1.0 later in
    let few : length is ≤ length t.rows =
    (let e = each_few ends inner links (places_from t 0 (length t.rows)) mid c [] is i in let n = places_count t 0 (length t.rows) in omega (arith, e, n)) in
    let met : any_failed is ≡ failed (rows_of x.outcome is) = sym (loop_failed x.outcome is few) in
    let l : Makes (unless_over (ends && (fault || failed (rows_of x.outcome is))) (part_memo ends rest)) links row c d (last_of rs) =
    subst (λ z. Makes (unless_over (ends && (fault || z)) (part_memo ends rest)) links row c d (last_of rs)) met
    (unless_alone ends (ends && (fault || any_failed is)) rest links row c d rs r) in
    loop_made ends links row f inner rest a mid c d (heard_of x) is (last_of rs) m o.1.1 g (table_made ends inner links t mid c is i) k
    l (same ∙ ap (λ z. closed z is rs) o.1.0)
line_made ends (attempt first second rest) links row h a mid c d is rs m o g inside k later same =
    let x = kept o.0.value in
    let y = kept o.1.value in
    let met = failed y in
    let i : (c ≡ mid) × (is ≡ []) = subst (λ z. MakesEach ends (attempt first second rest) links (places_in ends z row) mid c [] is) o.2.0 inside in
    let r : MakesEach ends rest links (unless_ended (ends && (met || any_failed is)) (row ∷ [])) c d [] rs =
    subst (λ z. MakesEach ends rest links (behind (ends && (met_fault z || any_failed is)) z row) c d [] rs) o.2.0 later in
    let same_met : (met || any_failed is) ≡ met = ap (λ z. met || any_failed z) i.1 ∙ or_none met in
    let l : Makes (unless_over (ends && met) (part_memo ends rest)) links row mid d (last_of rs) =
    subst (λ z. Makes (unless_over (ends && met) (part_memo ends rest)) links row z d (last_of rs)) i.0
    (subst (λ z. Makes (unless_over (ends && z) (part_memo ends rest)) links row c d (last_of rs)) same_met
    (unless_alone ends (ends && (met || any_failed is)) rest links row c d rs r)) in
    attempt_made ends links row first second rest a mid d x y (last_of rs) m o.2.1 (still_grows mid c d i.0 k) l (same ∙ ap (λ z. closed z is rs) o.2.0)

-- nothing made, nothing failed
none_failed : (is : List PageMemo) (met : Bool) → is ≡ [] → met ≡ (met || any_failed is)
none_failed is met e = sym (or_none met) ∙ ap (λ z. met || any_failed z) (sym e)

-- whether a line of them met a fault
pub line_failed : (ends : Bool) (b : Block) (links : List ℕ) (row : Option RowRef) (h : Head) (a mid c d : Outcomes) (is rs : List PageMemo) →
    Opens ends b links row a mid h → MakesEach ends (inner_in b (shows_first h)) links (places_in ends h row) mid c [] is →
    MakesEach ends (rest_in b) links (behind (ends && (met_fault h || any_failed is)) h row) c d [] rs →
    failed (closed h is rs) ≡ ((met_fault h || any_failed is) || any_failed rs)
line_failed ends empty links row h a mid c d is rs o inside later =
    let i : (c ≡ mid) × (is ≡ []) = subst (λ z. MakesEach ends empty links (places_in ends z row) mid c [] is) o.0 inside in
    let r : (d ≡ c) × (rs ≡ []) = subst (λ z. MakesEach ends empty links (behind (ends && (met_fault z || any_failed is)) z row) c d [] rs) o.0 later in
    ap (λ z. failed (closed z is rs)) o.0
    ∙ (ap₂ (λ (x y : List PageMemo). any_failed x || any_failed y) (sym i.1) (sym r.1) ∙ ap (λ z. (met_fault z || any_failed is) || any_failed rs) (sym o.0))
line_failed ends (text n f rest) links row h a mid c d is rs o inside later =
    let met = is_fault (heard_of o.0).outcome in
    let i : (c ≡ mid) × (is ≡ []) = subst (λ z. MakesEach ends (text n f rest) links (places_in ends z row) mid c [] is) o.1.0 inside in
    let r : MakesEach ends rest links (unless_ended (ends && (met || any_failed is)) (row ∷ [])) c d [] rs =
    subst (λ z. MakesEach ends rest links (behind (ends && (met_fault z || any_failed is)) z row) c d [] rs) o.1.0 later in
    ap (λ z. failed (closed z is rs)) o.1.0
    ∙ (ap₂ (λ (x y : Bool). x || y) (none_failed is met i.1) (unless_failed ends (ends && (met || any_failed is)) rest links row c d rs r)
    ∙ ap (λ z. (met_fault z || any_failed is) || any_failed rs) (sym o.1.0))
line_failed ends (tag n name xs inner rest) links row h a mid c d is rs o inside later =
    let hs = map heard_of o.0.items in
    let i : MakesEach ends inner links (unless_ended (ends && any_fault hs) (row ∷ [])) mid c [] is =
    subst (λ z. MakesEach ends inner links (places_in ends z row) mid c [] is) o.1.0 inside in
    let r : MakesEach ends rest links (unless_ended (ends && (any_fault hs || any_failed is)) (row ∷ [])) c d [] rs =
    subst (λ z. MakesEach ends rest links (behind (ends && (met_fault z || any_failed is)) z row) c d [] rs) o.1.0 later in
    ap (λ z. failed (closed z is rs)) o.1.0
    ∙ (ap₂ (λ (x y : Bool). (any_fault hs || x) || y) (unless_failed ends (ends && any_fault hs) inner links row mid c is i)
    (unless_failed ends (ends && (any_fault hs || any_failed is)) rest links row c d rs r)
    ∙ ap (λ z. (met_fault z || any_failed is) || any_failed rs) (sym o.1.0))
line_failed ends (choice f one other rest) links row h a mid c d is rs o inside later =
    let x = o.0 in
    let fault = is_fault (heard_of x).outcome in
    let b = inner_in (choice f one other rest) (unwrap_or (truth_in x.outcome) false) in
    let i : MakesEach ends b links (where_shown (truth_in x.outcome) row) mid c [] is =
    subst (λ z. MakesEach ends (inner_in (choice f one other rest) (shows_first z)) links (places_in ends z row) mid c [] is) o.1.0 inside in
    let r : MakesEach ends rest links (unless_ended (ends && (fault || any_failed is)) (row ∷ [])) c d [] rs =
    subst (λ z. MakesEach ends rest links (behind (ends && (met_fault z || any_failed is)) z row) c d [] rs) o.1.0 later in
    ap (λ z. failed (closed z is rs)) o.1.0
    ∙ (ap₂ (λ (u v : Bool). (fault || u) || v) (branch_failed ends b links row (truth_in x.outcome) mid c is i)
    (unless_failed ends (ends && (fault || any_failed is)) rest links row c d rs r)
    ∙ ap (λ z. (met_fault z || any_failed is) || any_failed rs) (sym o.1.0))
line_failed ends (each f inner rest) links row h a mid c d is rs o inside later =
    let x = o.0 in
    let t = table_in x.outcome in
    let fault = is_fault (heard_of x).outcome in
    let i : MakesEach ends inner links (places_from t 0 (length t.rows)) mid c [] is =
    subst (λ z. MakesEach ends inner links (places_in ends z row) mid c [] is) o.1.0 inside in
    let r : MakesEach ends rest links (unless_ended (ends && (fault || any_failed is)) (row ∷ [])) c d [] rs =
    subst (λ z. MakesEach ends rest links (behind (ends && (met_fault z || any_failed is)) z row) c d [] rs) o.1.0 later in
    let few : length is ≤ length t.rows =
    (let e = each_few ends inner links (places_from t 0 (length t.rows)) mid c [] is i in let n = places_count t 0 (length t.rows) in omega (arith, e, n)) in
    ap (λ z. failed (closed z is rs)) o.1.0
    ∙ (ap₂ (λ (u v : Bool). (fault || u) || v) (loop_failed x.outcome is few) (unless_failed ends (ends && (fault || any_failed is)) rest links row c d rs r)
    ∙ ap (λ z. (met_fault z || any_failed is) || any_failed rs) (sym o.1.0))
line_failed ends (attempt first second rest) links row h a mid c d is rs o inside later =
    let met = failed (kept o.1.value) in
    let i : (c ≡ mid) × (is ≡ []) = subst (λ z. MakesEach ends (attempt first second rest) links (places_in ends z row) mid c [] is) o.2.0 inside in
    let r : MakesEach ends rest links (unless_ended (ends && (met || any_failed is)) (row ∷ [])) c d [] rs =
    subst (λ z. MakesEach ends rest links (behind (ends && (met_fault z || any_failed is)) z row) c d [] rs) o.2.0 later in
    ap (λ z. failed (closed z is rs)) o.2.0
    ∙ (ap₂ (λ (x y : Bool). x || y) (none_failed is met i.1) (unless_failed ends (ends && (met || any_failed is)) rest links row c d rs r)
    ∙ ap (λ z. (met_fault z || any_failed is) || any_failed rs) (sym o.2.0))

-- ---- one row after the other

-- nothing is left
pub none_each : (ends : Bool) (b : Block) (links : List ℕ) (rows : List (Option RowRef)) (a : Outcomes) (ms : List PageMemo) → length rows ≡ 0 →
    MakesEach ends b links rows a a ms ms
none_each ends b links [] a ms e = (refl, refl)
none_each ends b links (r ∷ rs) a ms e = absurd (omega (arith, e))

-- the first row, and then the others, unless all ended
then_others : (ends over : Bool) (b : Block) (links : List ℕ) (rs : List (Option RowRef)) (mid c : Outcomes) (js ks : List PageMemo) →
    MakesEach ends b links (unless_ended over rs) mid c js ks → WhereOver over ((c ≡ mid) × (ks ≡ js)) (MakesEach ends b links rs mid c js ks)
then_others ends true b links rs mid c js ks x = x
then_others ends false b links rs mid c js ks x = x

pub more_each : (ends : Bool) (b : Block) (links : List ℕ) (rows : List (Option RowRef)) (r : Option RowRef) (rs : List (Option RowRef)) (a mid c : Outcomes)
    (ms js ks : List PageMemo) (m : PageMemo) → rows ≡ r ∷ rs → Makes (part_memo ends b) links r a mid m → Grows a mid → js ≡ ms ++ m ∷ [] →
    MakesEach ends b links (unless_ended (ends && failed m) rs) mid c js ks → MakesEach ends b links rows a c ms ks
more_each ends b links rows r rs a mid c ms js ks m e made g put later =
    subst (λ z. MakesEach ends b links z a c ms ks) (sym e)
    (record {
      mid = mid;
      memo = m;
      made = made;
      grows = g;
      later = then_others ends (ends && failed m) b links rs mid c (ms ++ m ∷ []) ks
          (subst (λ z. MakesEach ends b links (unless_ended (ends && failed m) rs) mid c z ks) put later);
    })

-- whether a row met a fault, or one of those before and behind it
any_put : (ms : List PageMemo) (m : PageMemo) → any_failed (ms ++ m ∷ []) ≡ (any_failed ms || failed m)
any_put [] m = or_none (failed m)
any_put (x ∷ ms) m = ap (λ z. failed x || z) (any_put ms m) ∙ sym (or_assoc (failed x) (any_failed ms) (failed m))

pub told_more : (before put after : List PageMemo) (m : PageMemo) (met later all : Bool) → put ≡ before ++ m ∷ [] → failed m ≡ met → TellsFault put after later →
    all ≡ (met || later) → TellsFault before after all
told_more before put after m met later all e f t is =
    t ∙ (ap (λ z. any_failed z || later) e ∙ (ap (λ z. z || later) (any_put before m ∙ ap (λ z. any_failed before || z) f)
    ∙ (or_assoc (any_failed before) met later ∙ ap (λ z. any_failed before || z) (sym is))))

-- ---- as the code goes over them

-- one row of a table more
pub one_place : (t : Table) (i : ℕ) (xs ys : List (Option RowRef)) (r : RowRef) → xs ≡ places_from t 0 i → r ≡ row_at t i → ys ≡ xs ++ Some r ∷ [] →
    ys ≡ places_from t 0 (i + 1)
one_place t i xs ys r e f g =
    let p : i ≡ 0 + i = omega arith in
    g ∙ ((λ j. e j ++ Some (f j) ∷ []) ∙ (ap (λ z. places_from t 0 i ++ Some (row_at t z) ∷ []) p ∙ sym (places_more t 0 i)))

-- nothing was put
pub none_last : (ms : List held.PageMemo) (m : PageMemo) → length ms ≡ 0 → m ≡ blank → m ≡ last_of (map kept ms)
none_last [] m e same = same
none_last (x ∷ ms) m e same = absurd (omega (arith, e))

pub none_read : (ms : List held.PageMemo) (m : PageMemo) → length ms ≡ 0 → m ≡ unread → m ≡ last_read (map kept ms)
none_read [] m e same = same
none_read (x ∷ ms) m e same = absurd (omega (arith, e))

-- something was put last
pub one_last : (ms rest : List held.PageMemo) (m : held.PageMemo) → ms ≡ rest ++ m ∷ [] → kept m ≡ last_of (map kept ms)
one_last ms rest m e = sym (ap last_of (mapped_put kept rest ms m e) ∙ last_put (map kept rest) (kept m))

put_read : (ms : List PageMemo) (m : PageMemo) → last_read (ms ++ m ∷ []) ≡ last_of (ms ++ m ∷ [])
put_read [] m = refl
put_read (x ∷ ms) m = refl

pub one_read : (ms rest : List held.PageMemo) (m : held.PageMemo) → ms ≡ rest ++ m ∷ [] → kept m ≡ last_read (map kept ms)
one_read ms rest m e =
    let put = mapped_put kept rest ms m e in
    sym (ap last_read put ∙ (put_read (map kept rest) (kept m) ∙ last_put (map kept rest) (kept m)))

-- less is left inside
pub inside_smaller : (ends : Bool) (b : Block) (links : List ℕ) (row : Option RowRef) (a mid : Outcomes) (h : Head) (rows others : List (Option RowRef)) (inner : Block)
    (first : Bool) (places : List (Option RowRef)) → Opens ends b links row a mid h → rows ≡ row ∷ others → places ≡ places_in ends h row → length places < 2 ^ 64 →
    first ≡ shows_first h → inner ≡ inner_in b first → lines_size inner + length places < lines_size b + length rows
inside_smaller ends b links row a mid h rows others inner first places o split same few e is =
    let k : lines_size (inner_in b (shows_first h)) + length (places_in ends h row) < lines_size b + suc (length others) =
    inside_less ends b links row a mid h (length others) o (subst (λ z. length z < 2 ^ 64) same few) in
    let p : lines_size inner ≡ lines_size (inner_in b (shows_first h)) = ap lines_size (is ∙ ap (inner_in b) e) in
    let q : length places ≡ length (places_in ends h row) = ap length same in
    let s : length rows ≡ suc (length others) = ap length split in
    omega (arith, k, p, q, s)

-- less is left behind
pub behind_smaller : (ends over : Bool) (b : Block) (links : List ℕ) (row : Option RowRef) (a mid : Outcomes) (h : Head) (rows others : List (Option RowRef)) (rest : Block)
    (places : List (Option RowRef)) → Opens ends b links row a mid h → rows ≡ row ∷ others → places ≡ behind over h row → rest ≡ rest_in b →
    lines_size rest + length places < lines_size b + length rows
behind_smaller ends over b links row a mid h rows others rest places o split same is =
    let k = behind_less ends over b links row a mid h (length others) o in
    let p : lines_size rest ≡ lines_size (rest_in b) = ap lines_size is in
    let q : length places ≡ length (behind over h row) = ap length same in
    let s : length rows ≡ suc (length others) = ap length split in
    omega (arith, k, p, q, s)

-- nothing is heard
pub none_grows : (a : Outcomes) → Grows a a
none_grows a = record { more = []; all = sym (append-nil a) }

-- names heard, and then others
pub grows_on : (a b c : Outcomes) → Grows a b → Grows b c → Grows a c
grows_on a b c g h = record { more = g.more ++ h.more; all = h.all ∙ (ap (λ z. z ++ h.more) g.all ∙ append_assoc a g.more h.more) }

-- what the lines of the first of some rows were made of, as the code made them
pub record Turned (ends : Bool) (b : Block) (links : List ℕ) (row : Option RowRef) (h : Head) (a mid c d : Outcomes) (is rs : List PageMemo) : Type 0 where
  pub opens : Opens ends b links row a mid h
  pub inside : MakesEach ends (inner_in b (shows_first h)) links (places_in ends h row) mid c [] is
  pub later : MakesEach ends (rest_in b) links (behind (ends && (met_fault h || any_failed is)) h row) c d [] rs
  pub met : failed (closed h is rs) ≡ ((met_fault h || any_failed is) || any_failed rs)

pub turned : (ends : Bool) (b : Block) (links : List ℕ) (row : Option RowRef) (h : Head)
    (a mid c d : Outcomes) (inner rest : Block) (first over : Bool) (places later : List (Option RowRef)) (none is nil rs : List PageMemo) →
    Opens ends b links row a mid h → first ≡ shows_first h → inner ≡ inner_in b first → places ≡ places_in ends h row → rest ≡ rest_in b →
    over ≡ (ends && (met_fault h || any_failed is)) → later ≡ behind over h row → none ≡ [] → nil ≡ [] → MakesEach ends inner links places mid c none is →
    MakesEach ends rest links later c d nil rs → Turned ends b links row h a mid c d is rs
turned ends b links row h a mid c d inner rest first over places later none is nil rs o ef ei ep er eo el en em inside behinds =
    let i : MakesEach ends (inner_in b (shows_first h)) links (places_in ends h row) mid c [] is =
    subst (λ z. MakesEach ends (inner_in b (shows_first h)) links (places_in ends h row) mid c z is) en
    (subst (λ z. MakesEach ends (inner_in b (shows_first h)) links z mid c none is) ep
    (subst (λ z. MakesEach ends z links places mid c none is) (ei ∙ ap (inner_in b) ef) inside)) in
    let r : MakesEach ends (rest_in b) links (behind (ends && (met_fault h || any_failed is)) h row) c d [] rs =
    subst (λ z. MakesEach ends (rest_in b) links (behind (ends && (met_fault h || any_failed is)) h row) c d z rs) em
    (subst (λ z. MakesEach ends (rest_in b) links z c d nil rs) (el ∙ ap (λ z. behind z h row) eo) (subst (λ z. MakesEach ends z links later c d nil rs) er behinds)) in
    record { opens = o; inside = i; later = r; met = line_failed ends b links row h a mid c d is rs o i r }

-- lines in the first of some rows, and then in the others
pub turn_made : (ends : Bool) (b : Block) (links : List ℕ) (rows : List (Option RowRef)) (row : Option RowRef) (others left : List (Option RowRef)) (h : Head)
    (a mid c d e : Outcomes) (is rs before put after : List PageMemo) (met : Bool) → Turned ends b links row h a mid c d is rs →
    rows ≡ row ∷ others → Grows a mid → Grows mid c → Grows c d → put ≡ before ++ closed h is rs ∷ [] → failed (closed h is rs) ≡ met →
    left ≡ unless_ended (ends && met) others → MakesEach ends b links left d e put after → MakesEach ends b links rows a e before after
turn_made ends b links rows row others left h a mid c d e is rs before put after met t split ga gc gd es em eo others_made =
    more_each ends b links rows row others a d e before put after (closed h is rs) split
    (line_made ends b links row h a mid c d is rs (closed h is rs) t.opens gc t.inside gd t.later refl) (grows_on a c d (grows_on a mid c ga gc) gd) es
    (subst (λ z. MakesEach ends b links z d e put after) (eo ∙ ap (λ z. unless_ended (ends && z) others) (sym em)) others_made)

-- lines in one row
pub alone_from : (ends : Bool) (b : Block) (links : List ℕ) (row : Option RowRef) (rows : List (Option RowRef)) (a c : Outcomes) (none ms : List PageMemo) (m : PageMemo) →
    rows ≡ row ∷ [] → none ≡ [] → MakesEach ends b links rows a c none ms → m ≡ last_of ms → Makes (part_memo ends b) links row a c m
alone_from ends b links row rows a c none ms m e en made is =
    subst (Makes (part_memo ends b) links row a c) (sym is)
    (alone_made ends b links row a c ms (subst (λ z. MakesEach ends b links (row ∷ []) a c z ms) en (subst (λ z. MakesEach ends b links z a c none ms) e made)))

-- whether they met a fault
pub alone_told : (ends : Bool) (b : Block) (links : List ℕ) (row : Option RowRef) (rows : List (Option RowRef)) (a c : Outcomes) (none ms : List PageMemo) (m : PageMemo)
    (met : Bool) → rows ≡ row ∷ [] → none ≡ [] → MakesEach ends b links rows a c none ms → m ≡ last_of ms → TellsFault none ms met → met ≡ failed m
alone_told ends b links row rows a c none ms m met e en made is told =
    let own = alone_failed ends b links row a c ms (subst (λ z. MakesEach ends b links (row ∷ []) a c z ms) en (subst (λ z. MakesEach ends b links z a c none ms) e made)) in
    sym (told ∙ ap (λ z. any_failed z || met) en) ∙ (sym own ∙ ap failed (sym is))

-- a row that is lent is a row
pub own_is : (row : Option (Bor RowRef)) → IfSome row (λ r. r.now.place < length r.now.rows.rows) → IsRow (option_copied row)
own_is None h = tt
own_is (Some r) h = h
