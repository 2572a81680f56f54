-- What was kept of lines, taken apart, is what was kept of each of them, and serves where they are gone over again.
use Rattle.std.proofs.Common.{◌≡◌, ℕ, Bool, true, false, List, [], ◌∷◌, map, Option, Some, None, refl, sym, ap, subst, ◌∙◌, arith}
use Rattle.std.specs.Prelude.{unwrap_or}
use Rattle.sig_base.specs.declared.value.Outcome.{Outcome}
use Rattle.sig_formula.specs.Trees.{Tree}
use Rattle.sig_formula.specs.declared.formula.RowRef.{RowRef}
use Rattle.tpl_model.specs.Lines.{Block, empty, text, tag, choice, each, attempt}
use Rattle.tpl_hearing.specs.Heard.{Outcomes}
use Rattle.tpl_hearing.proofs.Shared.{outcome_in}
use Rattle.tpl_model.specs.KeptLines.Kept.{heard_of, kept}
use Rattle.tpl_model.specs.PageUpdates.PageMemos.{PageMemo, unread, blank, line, element, branch, loop, either}
use Rattle.tpl_model.specs.KeptLines.Memos.{branch_memo, lines_memo, table_in, truth_in}
use Rattle.tpl_model.specs.KeptLines.Before.{WasMade}
use Rattle.tpl_kept.specs.Renewals.{is_unread}
use Rattle.tpl_kept.proofs.Listened.Reuse.{any_here, any_row, in_agrees}
use Rattle.tpl_kept.proofs.Listened.Splits.{attempt_was, branch_stays, branch_was, element_was, if_read, loop_was, text_was}
use Rattle.tpl_kept.proofs.Listened.Slots.{slots_were}
use Rattle.tpl_kept.specs.declared.making.head.Head.{Head}
use Rattle.tpl_kept.specs.declared.making.head.Head.TheVariants as head
use Rattle.tpl_kept.specs.Heads.{Opens, behind, closed, inner_in, last_of, places_in, rest_in, shows_first, where_shown}
use Rattle.tpl_kept.specs.Turns.{WereEach, WasOpened, WasInside, WasBehind, ServeInside, first_of, outcome_of}

-- ---- of which kind

abbrev pub kind : PageMemo → ℕ
kind unread = 0
kind blank = 1
kind (line h r) = 2
kind (element hs i r) = 3
kind (branch h i r) = 4
kind (loop h i r) = 5
kind (either a b r) = 6
kind m = 7

abbrev pub block_kind : Block → ℕ
block_kind empty = 1
block_kind (text n f rest) = 2
block_kind (tag n name xs inner rest) = 3
block_kind (choice f one other rest) = 4
block_kind (each f inner rest) = 5
block_kind (attempt a b rest) = 6

abbrev head_kind : Head → ℕ
head_kind head.Nothing = 1
head_kind (head.Text h) = 2
head_kind (head.Tag all) = 3
head_kind (head.Choice h) = 4
head_kind (head.Each h) = 5
head_kind (head.Attempt x y) = 6

closed_kind : (h : Head) (is rs : List PageMemo) → kind (closed h is rs) ≡ head_kind h
closed_kind head.Nothing is rs = refl
closed_kind (head.Text h) is rs = refl
closed_kind (head.Tag all) is rs = refl
closed_kind (head.Choice h) is rs = refl
closed_kind (head.Each h) is rs = refl
closed_kind (head.Attempt x y) is rs = refl

pub was_kind : (b : Block) (links : List ℕ) (row : Option RowRef) (before : Outcomes) (m : PageMemo) → WasMade (lines_memo b) links row before m →
    kind m ≡ block_kind b
was_kind empty links row before m was = ap kind (was.is (outcome_in before) (in_agrees before) (any_here row) (any_row row))
was_kind (text n f rest) links row before m was = ap kind (was.is (outcome_in before) (in_agrees before) (any_here row) (any_row row))
was_kind (tag n name xs inner rest) links row before m was = ap kind (was.is (outcome_in before) (in_agrees before) (any_here row) (any_row row))
was_kind (choice f one other rest) links row before m was = ap kind (was.is (outcome_in before) (in_agrees before) (any_here row) (any_row row))
was_kind (each f inner rest) links row before m was = ap kind (was.is (outcome_in before) (in_agrees before) (any_here row) (any_row row))
was_kind (attempt a b rest) links row before m was = ap kind (was.is (outcome_in before) (in_agrees before) (any_here row) (any_row row))

-- ---- the parts

pub record WasApart (b : Block) (links : List ℕ) (row : Option RowRef) (before : Outcomes) (h : Head) (is : List PageMemo) (r : PageMemo) : Type 0 where
  pub opened : WasOpened b links row before h
  pub inside : WasInside b links row before (outcome_of h) is
  pub later : WasBehind b links row before r

apart_by : (b : Block) (links : List ℕ) (row : Option RowRef) (before : Outcomes) (m : PageMemo) (h : Head) (is : List PageMemo) (r : PageMemo) →
    WasMade (lines_memo b) links row before m → m ≡ closed h is (r ∷ []) → head_kind h ≡ block_kind b → WasApart b links row before h is r
apart_by empty links row before m h is r was e k = record { opened = tt; inside = tt; later = tt }
apart_by (text n f rest) links row before m head.Nothing is r was e k = absurd (omega (arith, k))
apart_by (text n f rest) links row before m (head.Attempt x y) is r was e k = absurd (omega (arith, k))
apart_by (text n f rest) links row before m (head.Text x) is r was e k =
    let w = text_was links row n f rest before m (heard_of x) r was e in
    record { opened = w.0; inside = tt; later = w.1 }
apart_by (text n f rest) links row before m (head.Tag all) is r was e k = absurd (omega (arith, k))
apart_by (text n f rest) links row before m (head.Choice x) is r was e k = absurd (omega (arith, k))
apart_by (text n f rest) links row before m (head.Each x) is r was e k = absurd (omega (arith, k))
apart_by (tag n name xs inner rest) links row before m head.Nothing is r was e k = absurd (omega (arith, k))
apart_by (tag n name xs inner rest) links row before m (head.Attempt x y) is r was e k = absurd (omega (arith, k))
apart_by (tag n name xs inner rest) links row before m (head.Text x) is r was e k = absurd (omega (arith, k))
apart_by (tag n name xs inner rest) links row before m (head.Tag all) is r was e k =
    let w = element_was links row n name xs inner rest before m (map heard_of all.items) (last_of is) r was e in
    record { opened = w.all; inside = w.inside; later = w.later }
apart_by (tag n name xs inner rest) links row before m (head.Choice x) is r was e k = absurd (omega (arith, k))
apart_by (tag n name xs inner rest) links row before m (head.Each x) is r was e k = absurd (omega (arith, k))
apart_by (choice f one other rest) links row before m head.Nothing is r was e k = absurd (omega (arith, k))
apart_by (choice f one other rest) links row before m (head.Attempt x y) is r was e k = absurd (omega (arith, k))
apart_by (choice f one other rest) links row before m (head.Text x) is r was e k = absurd (omega (arith, k))
apart_by (choice f one other rest) links row before m (head.Tag all) is r was e k = absurd (omega (arith, k))
apart_by (choice f one other rest) links row before m (head.Choice x) is r was e k =
    let w = branch_was links row f one other rest before m (heard_of x) (last_of is) r was e in
    record { opened = w.test; inside = w.inside; later = w.later }
apart_by (choice f one other rest) links row before m (head.Each x) is r was e k = absurd (omega (arith, k))
apart_by (each f inner rest) links row before m head.Nothing is r was e k = absurd (omega (arith, k))
apart_by (each f inner rest) links row before m (head.Attempt x y) is r was e k = absurd (omega (arith, k))
apart_by (each f inner rest) links row before m (head.Text x) is r was e k = absurd (omega (arith, k))
apart_by (each f inner rest) links row before m (head.Tag all) is r was e k = absurd (omega (arith, k))
apart_by (each f inner rest) links row before m (head.Choice x) is r was e k = absurd (omega (arith, k))
apart_by (each f inner rest) links row before m (head.Each x) is r was e k =
    let w = loop_was links row f inner rest before m (heard_of x) is r was e in
    record { opened = w.rows; inside = w.inside; later = w.later }
apart_by (attempt a b rest) links row before m head.Nothing is r was e k = absurd (omega (arith, k))
apart_by (attempt a b rest) links row before m (head.Text x) is r was e k = absurd (omega (arith, k))
apart_by (attempt a b rest) links row before m (head.Tag all) is r was e k = absurd (omega (arith, k))
apart_by (attempt a b rest) links row before m (head.Choice x) is r was e k = absurd (omega (arith, k))
apart_by (attempt a b rest) links row before m (head.Each x) is r was e k = absurd (omega (arith, k))
apart_by (attempt a b rest) links row before m (head.Attempt x y) is r was e k =
    let w = attempt_was links row a b rest before m (kept x.value) (kept y.value) r was e in
    record { opened = w.0; inside = tt; later = w.1 }

-- what was kept, taken apart
pub was_apart : (b : Block) (links : List ℕ) (row : Option RowRef) (before : Outcomes) (m : PageMemo) (h : Head) (is : List PageMemo) (r : PageMemo) →
    WasMade (lines_memo b) links row before m → m ≡ closed h is (r ∷ []) → WasApart b links row before h is r
was_apart b links row before m h is r was e =
    apart_by b links row before m h is r was e (sym (closed_kind h is (r ∷ [])) ∙ (ap kind (sym e) ∙ was_kind b links row before m was))

-- ---- where they are gone over again

-- a branch that is shown, where what was kept of it is that of the same branch
branch_ready : (f : Tree) (one other rest : Block) (links : List ℕ) (row : Option RowRef) (before : Outcomes) (was now : Option Bool) (i : PageMemo)
    (ms : List PageMemo) → WasMade (branch_memo was one other) links row before i →
    (is_unread (first_of ms) ≡ false → (was ≡ now) × (first_of ms ≡ i)) →
    WereEach (inner_in (choice f one other rest) (unwrap_or now false)) links (where_shown now row) before ms
branch_ready f one other rest links row before was None i ms w e = tt
branch_ready f one other rest links row before was (Some true) i ms w e =
    let x = branch_stays links row one other before was (Some true) i (first_of ms) w e in
    (record { made = λ u. record { is = λ source agrees here k. (x.made u).is source agrees here k } }, tt)
branch_ready f one other rest links row before was (Some false) i ms w e =
    let x = branch_stays links row one other before was (Some false) i (first_of ms) w e in
    (record { made = λ u. record { is = λ source agrees here k. (x.made u).is source agrees here k } }, tt)

-- what was kept inside a line
pub inside_ready : (b : Block) (links : List ℕ) (row : Option RowRef) (before a c : Outcomes) (o : Outcome) (h : Head) (is ms : List PageMemo) →
    Opens false b links row a c h → WasInside b links row before o is → ServeInside o h is ms →
    WereEach (inner_in b (shows_first h)) links (places_in false h row) before ms
inside_ready empty links row before a c o h is ms x was s =
    subst (λ z. WereEach (inner_in empty (shows_first z)) links (places_in false z row) before ms) (sym x.0) tt
inside_ready (text n f rest) links row before a c o h is ms x was s =
    subst (λ z. WereEach (inner_in (text n f rest) (shows_first z)) links (places_in false z row) before ms) (sym x.1.0) tt
inside_ready (tag n name xs inner rest) links row before a c o h is ms x was s =
    let e : ms ≡ last_of is ∷ [] = subst (λ z. ServeInside o z is ms) x.1.0 s in
    subst (λ z. WereEach (inner_in (tag n name xs inner rest) (shows_first z)) links (places_in false z row) before ms) (sym x.1.0)
    (if_read inner links row before (last_of is) (first_of ms) was (ap first_of e), tt)
inside_ready (choice f one other rest) links row before a c o h is ms x was s =
    let y = x.0 in
    let e : is_unread (first_of ms) ≡ false → (truth_in o ≡ truth_in y.outcome) × (first_of ms ≡ last_of is) =
    subst (λ z. ServeInside o z is ms) x.1.0 s in
    subst (λ z. WereEach (inner_in (choice f one other rest) (shows_first z)) links (places_in false z row) before ms) (sym x.1.0)
    (branch_ready f one other rest links row before (truth_in o) (truth_in y.outcome) (last_of is) ms was e)
inside_ready (each f inner rest) links row before a c o h is ms x was s =
    let e = subst (λ z. ServeInside o z is ms) x.1.0 s in
    subst (λ z. WereEach (inner_in (each f inner rest) (shows_first z)) links (places_in false z row) before ms) (sym x.1.0)
    (e.0 inner links before (slots_were inner links (table_in o) before is was))
inside_ready (attempt first second rest) links row before a c o h is ms x was s =
    subst (λ z. WereEach (inner_in (attempt first second rest) (shows_first z)) links (places_in false z row) before ms) (sym x.2.0) tt

-- what was kept behind it
pub behind_ready : (b : Block) (links : List ℕ) (row : Option RowRef) (before a c : Outcomes) (h : Head) (r : PageMemo) (ms : List PageMemo) →
    Opens false b links row a c h → WasBehind b links row before r → ms ≡ r ∷ [] → WereEach (rest_in b) links (behind false h row) before ms
behind_ready empty links row before a c h r ms x was e = subst (λ z. WereEach empty links (behind false z row) before ms) (sym x.0) tt
behind_ready (text n f rest) links row before a c h r ms x was e =
    subst (λ z. WereEach rest links (behind false z row) before ms) (sym x.1.0) (if_read rest links row before r (first_of ms) was (ap first_of e), tt)
behind_ready (tag n name xs inner rest) links row before a c h r ms x was e =
    subst (λ z. WereEach rest links (behind false z row) before ms) (sym x.1.0) (if_read rest links row before r (first_of ms) was (ap first_of e), tt)
behind_ready (choice f one other rest) links row before a c h r ms x was e =
    subst (λ z. WereEach rest links (behind false z row) before ms) (sym x.1.0) (if_read rest links row before r (first_of ms) was (ap first_of e), tt)
behind_ready (each f inner rest) links row before a c h r ms x was e =
    subst (λ z. WereEach rest links (behind false z row) before ms) (sym x.1.0) (if_read rest links row before r (first_of ms) was (ap first_of e), tt)
behind_ready (attempt first second rest) links row before a c h r ms x was e =
    subst (λ z. WereEach rest links (behind false z row) before ms) (sym x.2.0) (if_read rest links row before r (first_of ms) was (ap first_of e), tt)
