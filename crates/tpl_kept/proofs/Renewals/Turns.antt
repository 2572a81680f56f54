-- One turn: lines in the first of some rows are brought up to date, and then in the others.
use Rattle.std.proofs.Common.{◌≡◌, ◌<◌, ◌≤◌, ◌+◌, ◌^◌, ℕ, suc, Bool, false, List, [], ◌∷◌, ◌++◌, length, Option, refl, sym, ap, subst, ◌∙◌, arith}
use Rattle.sig_formula.specs.declared.formula.RowRef.{RowRef}
use Rattle.tpl_model.specs.Lines.{Block, empty, text, tag, choice, each, attempt}
use Rattle.tpl_hearing.specs.Heard.{Grows, Outcomes}
use Rattle.tpl_model.specs.KeptLines.Kept.{kept}
use Rattle.tpl_model.specs.PageUpdates.PageMemos.{PageMemo, names}
use Rattle.tpl_model.specs.KeptLines.Memos.{Makes, lines_memo}
use Rattle.tpl_model.specs.KeptLines.Before.{WasMade}
use Rattle.tpl_kept.specs.Renewals.{WasMadeIfRead, AreChanged}
use Rattle.tpl_kept.proofs.Listened.Splits.{changed_remade}
use Rattle.tpl_kept.specs.declared.making.head.Head.{Head}
use Rattle.tpl_kept.specs.Heads.{AreRows, IsRow, MakesEach, Opens, closed, inner_in, lines_size, rest_in}
use Rattle.tpl_kept.proofs.Made.Memos.{behind_are, behind_few, behind_smaller, grows_on, inside_are, inside_smaller, line_made, more_each}
use Rattle.tpl_kept.specs.Turns.{Begins, OpensAgain, ServeInside, WereEach, behind_of, first_of, kept_of, later_of, outcome_of, places_of, shows_of}
use Rattle.tpl_kept.specs.declared.renewing.parts.First.{First}
use Rattle.tpl_kept.specs.declared.renewing.parts.First.TheVariants as start
use Rattle.tpl_kept.proofs.Renewals.Apart.{behind_ready, inside_ready, was_apart}

-- ---- how it begins

-- the first line is heard again
pub opened_again : (b : Block) (links : List ℕ) (row : Option RowRef) (before earlier mid now : Outcomes) (m : PageMemo) (old h : Head)
    (is : List PageMemo) (r : PageMemo) (ins later : List PageMemo) → WasMade (lines_memo b) links row before m → m ≡ closed old is (r ∷ []) →
    AreChanged before (names m) earlier mid → Opens false b links row mid now h → Grows mid now → ServeInside (outcome_of old) h is ins → later ≡ r ∷ [] →
    OpensAgain b links row before earlier now h ins later
opened_again b links row before earlier mid now m old h is r ins later was e a o g s l =
    let w = was_apart b links row before m old is r was e in
    record {
      memo = m;
      mid = mid;
      was = was;
      changed = a;
      opens = o;
      grows = g;
      inside_was = inside_ready b links row before mid now (outcome_of old) h is ins o w.inside s;
      later_was = behind_ready b links row before mid now h r later o w.later l;
    }

-- ---- where lines are gone over

pub places_are : (first : First) (row : Option RowRef) → IsRow row → AreRows (places_of first row)
places_are (start.Whole m) row r = tt
places_are (start.Line h) row r = inside_are false h row r

pub later_are : (first : First) (row : Option RowRef) → IsRow row → AreRows (behind_of first row)
later_are (start.Whole m) row r = tt
later_are (start.Line h) row r = behind_are false h row r

pub later_few : (first : First) (row : Option RowRef) → length (behind_of first row) ≤ 1
later_few (start.Whole m) row = omega arith
later_few (start.Line h) row = behind_few false h row

-- ---- what was kept there

pub inside_were : (b : Block) (links : List ℕ) (row : Option RowRef) (before a c : Outcomes) (first : First) (is rs : List PageMemo) →
    Begins b links row before a c first is rs → WereEach (inner_in b (shows_of first)) links (places_of first row) before is
inside_were b links row before a c (start.Whole m) is rs x = tt
inside_were b links row before a c (start.Line h) is rs x = x.inside_was

pub later_were : (b : Block) (links : List ℕ) (row : Option RowRef) (before a c : Outcomes) (first : First) (is rs : List PageMemo) →
    Begins b links row before a c first is rs → WereEach (rest_in b) links (behind_of first row) before rs
later_were b links row before a c (start.Whole m) is rs x = tt
later_were b links row before a c (start.Line h) is rs x = x.later_was

-- ---- less is left

inner_less : (b : Block) → lines_size (inner_in b false) ≤ lines_size b
inner_less empty = omega arith
inner_less (text n f rest) = omega arith
inner_less (tag n name xs inner rest) = omega arith
inner_less (choice f one other rest) = omega arith
inner_less (each f inner rest) = omega arith
inner_less (attempt inner other rest) = omega arith

rest_less : (b : Block) → lines_size (rest_in b) ≤ lines_size b
rest_less empty = omega arith
rest_less (text n f rest) = omega arith
rest_less (tag n name xs inner rest) = omega arith
rest_less (choice f one other rest) = omega arith
rest_less (each f inner rest) = omega arith
rest_less (attempt inner other rest) = omega arith

-- of the lines inside
pub inside_fewer : (b : Block) (links : List ℕ) (row : Option RowRef) (before a c : Outcomes) (first : First) (is rs : List PageMemo)
    (rows others : List (Option RowRef)) (inner : Block) (shows : Bool) (places : List (Option RowRef)) → Begins b links row before a c first is rs →
    rows ≡ row ∷ others → places ≡ places_of first row → length places < 2 ^ 64 → shows ≡ shows_of first → inner ≡ inner_in b shows →
    lines_size inner + length places < lines_size b + length rows
inside_fewer b links row before a c (start.Whole m) is rs rows others inner shows places x split same few e i =
    let p : lines_size inner ≡ lines_size (inner_in b false) = ap lines_size (i ∙ ap (inner_in b) e) in
    let q : length places ≡ 0 = ap length same in
    let s : length rows ≡ suc (length others) = ap length split in
    let l = inner_less b in
    omega (arith, p, q, s, l)
inside_fewer b links row before a c (start.Line h) is rs rows others inner shows places x split same few e i =
    inside_smaller false b links row x.mid c h rows others inner shows places x.opens split same few e i

-- of the lines behind
pub later_fewer : (b : Block) (links : List ℕ) (row : Option RowRef) (before a c : Outcomes) (first : First) (is rs : List PageMemo)
    (rows others : List (Option RowRef)) (rest : Block) (places : List (Option RowRef)) → Begins b links row before a c first is rs →
    rows ≡ row ∷ others → places ≡ behind_of first row → rest ≡ rest_in b → lines_size rest + length places < lines_size b + length rows
later_fewer b links row before a c (start.Whole m) is rs rows others rest places x split same i =
    let p : lines_size rest ≡ lines_size (rest_in b) = ap lines_size i in
    let q : length places ≡ 0 = ap length same in
    let s : length rows ≡ suc (length others) = ap length split in
    let l = rest_less b in
    omega (arith, p, q, s, l)
later_fewer b links row before a c (start.Line h) is rs rows others rest places x split same i =
    behind_smaller false false b links row x.mid c h rows others rest places x.opens split same i

-- ---- what is kept next

-- lines in one row
pub first_made : (b : Block) (links : List ℕ) (row : Option RowRef) (before a c d e : Outcomes) (first : First) (ins later is rs : List PageMemo) →
    Begins b links row before a c first ins later → Grows c d → MakesEach false (inner_in b (shows_of first)) links (places_of first row) c d [] is → Grows d e →
    MakesEach false (rest_in b) links (behind_of first row) d e [] rs → Makes (lines_memo b) links row a e (kept_of first is rs)
first_made b links row before a c d e (start.Whole w) ins later is rs x g inside k behinds =
    subst (λ z. Makes (lines_memo b) links row a z (kept w.memo)) (sym (behinds.0 ∙ inside.0)) x
first_made b links row before a c d e (start.Line h) ins later is rs x g inside k behinds =
    changed_remade b links row before a x.mid e x.memo (closed h is rs) x.was x.changed (grows_on x.mid d e (grows_on x.mid c d x.grows g) k)
    (line_made false b links row h x.mid c d e is rs (closed h is rs) x.opens g inside k behinds refl)

-- lines in the first of some rows, and then in the others
pub turn_renewed : (b : Block) (links : List ℕ) (rows : List (Option RowRef)) (row : Option RowRef) (others : List (Option RowRef)) (first : First)
    (before a c d e f : Outcomes) (inner rest : Block) (shows : Bool) (places behinds : List (Option RowRef))
    (ins later none is nil rs dones put after : List PageMemo) → rows ≡ row ∷ others → Begins b links row before a c first ins later →
    shows ≡ shows_of first → inner ≡ inner_in b shows → places ≡ places_of first row → rest ≡ rest_in b → behinds ≡ behind_of first row → none ≡ [] →
    nil ≡ [] → Grows a c → Grows c d → Grows d e → MakesEach false inner links places c d none is → MakesEach false rest links behinds d e nil rs →
    put ≡ dones ++ kept_of first is rs ∷ [] → MakesEach false b links others e f put after → MakesEach false b links rows a f dones after
turn_renewed b links rows row others first before a c d e f inner rest shows places behinds ins later none is nil rs dones put after split x ef ei ep er el en em
    ga gc gd inside laters es others_made =
    let i : MakesEach false (inner_in b (shows_of first)) links (places_of first row) c d [] is =
    subst (λ z. MakesEach false (inner_in b (shows_of first)) links (places_of first row) c d z is) en
    (subst (λ z. MakesEach false (inner_in b (shows_of first)) links z c d none is) ep
    (subst (λ z. MakesEach false z links places c d none is) (ei ∙ ap (inner_in b) ef) inside)) in
    let r : MakesEach false (rest_in b) links (behind_of first row) d e [] rs =
    subst (λ z. MakesEach false (rest_in b) links (behind_of first row) d e z rs) em
    (subst (λ z. MakesEach false (rest_in b) links z d e nil rs) el (subst (λ z. MakesEach false z links behinds d e nil rs) er laters)) in
    more_each false b links rows row others a e f dones put after (kept_of first is rs) split
    (first_made b links row before a c d e first ins later is rs x gc i gd r) (grows_on a d e (grows_on a c d ga gc) gd) es others_made

-- ---- as the code has it

pub begins_whole : (b : Block) (links : List ℕ) (row at : Option RowRef) (before a c : Outcomes) (first : First) (m k : _) (ins later : List PageMemo) →
    first ≡ start.Whole (record { memo = m; change = k }) → at ≡ row → Makes (lines_memo b) links at a c (kept m) →
    Begins b links row before a c first ins later
begins_whole b links row at before a c first m k ins later e r x =
    subst (λ z. Begins b links row before a c z ins later) (sym e) (subst (λ z. Makes (lines_memo b) links z a c (kept m)) r x)

pub begins_line : (b : Block) (links : List ℕ) (row : Option RowRef) (before a c : Outcomes) (first : First) (h : Head) (ins later : List PageMemo) →
    first ≡ start.Line h → OpensAgain b links row before a c h ins later → Begins b links row before a c first ins later
begins_line b links row before a c first h ins later e x = subst (λ z. Begins b links row before a c z ins later) (sym e) x

-- what was kept inside, behind, and in the other rows
pub inside_at : (b : Block) (links : List ℕ) (row : Option RowRef) (before a c : Outcomes) (first : First) (is rs : List PageMemo) (inner : Block)
    (shows : Bool) (places : List (Option RowRef)) → Begins b links row before a c first is rs → shows ≡ shows_of first → inner ≡ inner_in b shows →
    places ≡ places_of first row → WereEach inner links places before is
inside_at b links row before a c first is rs inner shows places x e i p =
    subst (λ z. WereEach z links places before is) (sym (i ∙ ap (inner_in b) e))
    (subst (λ z. WereEach (inner_in b (shows_of first)) links z before is) (sym p) (inside_were b links row before a c first is rs x))

pub later_at : (b : Block) (links : List ℕ) (row : Option RowRef) (before a c : Outcomes) (first : First) (is rs : List PageMemo) (rest : Block)
    (places : List (Option RowRef)) → Begins b links row before a c first is rs → rest ≡ rest_in b → places ≡ behind_of first row →
    WereEach rest links places before rs
later_at b links row before a c first is rs rest places x i p =
    subst (λ z. WereEach z links places before rs) (sym i)
    (subst (λ z. WereEach (rest_in b) links z before rs) (sym p) (later_were b links row before a c first is rs x))

pub first_at : (b : Block) (links : List ℕ) (rows : List (Option RowRef)) (row : Option RowRef) (others : List (Option RowRef)) (before : Outcomes)
    (ms : List PageMemo) (m : PageMemo) → rows ≡ row ∷ others → WereEach b links rows before ms → m ≡ first_of ms →
    WasMadeIfRead (lines_memo b) links row before m
first_at b links rows row others before ms m split all e =
    subst (WasMadeIfRead (lines_memo b) links row before) (sym e) (subst (λ z. WereEach b links z before ms) split all).0

pub others_at : (b : Block) (links : List ℕ) (rows : List (Option RowRef)) (row : Option RowRef) (others : List (Option RowRef)) (before : Outcomes)
    (ms ks : List PageMemo) → rows ≡ row ∷ others → WereEach b links rows before ms → ks ≡ later_of ms → WereEach b links others before ks
others_at b links rows row others before ms ks split all e =
    subst (WereEach b links others before) (sym e) (subst (λ z. WereEach b links z before ms) split all).1

-- what was kept in one row
pub alone_was : (b : Block) (links : List ℕ) (rows : List (Option RowRef)) (row : Option RowRef) (before : Outcomes) (m : PageMemo) (ms : List PageMemo) →
    rows ≡ row ∷ [] → ms ≡ m ∷ [] → WasMadeIfRead (lines_memo b) links row before m → WereEach b links rows before ms
alone_was b links rows row before m ms e f was =
    subst (λ z. WereEach b links z before ms) (sym e) (subst (WasMadeIfRead (lines_memo b) links row before) (sym (ap first_of f)) was, tt)
