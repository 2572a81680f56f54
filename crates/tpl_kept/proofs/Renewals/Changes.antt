-- What became of what was kept of lines tells of before: of lines that stay, of lines that are made, and of lines whose first is heard again.
use Rattle.std.specs.Prelude.{IfSome}
use Rattle.std.specs.Option.{unwrap_or}
use Rattle.std.proofs.Common.{◌≡◌, ◌<◌, ℕ, suc, Bool, true, false, List, [], ◌∷◌, ◌++◌, length, map, Option, Some, None, refl, sym, ap, subst, ◌∙◌, append_assoc, arith}
use Rattle.std.proofs.lemmas.Bool.{true≢false}
use Rattle.std.proofs.lemmas.List.{append-nil}
use Rattle.sig_base.specs.Tables.{Table}
use Rattle.sig_base.specs.declared.rows.Row.{Row}
use Rattle.sig_base.specs.declared.value.Value.TheVariants as value
use Rattle.sig_base.specs.declared.value.Outcome.{Outcome}
use Rattle.sig_base.specs.declared.value.Outcome.TheVariants.{Good, Bad}
use Rattle.sig_formula.specs.Trees.{Tree}
use Rattle.sig_formula.specs.declared.formula.RowRef.{RowRef}
use Rattle.tpl_model.specs.Lines.{Block, empty, text, tag, choice, each, attempt}
use Rattle.tpl_model.specs.Shapes.{Here}
use Rattle.tpl_model.specs.Sources.{same_here}
use Rattle.tpl_hearing.specs.Heard.{Outcomes}
use Rattle.tpl_model.specs.KeptLines.Kept.{heard_of, kept, rows_from, rows_of}
use Rattle.tpl_model.specs.PageUpdates.PageMemos.{Heard, PageMemo, unread, blank, line, element, branch, loop, row, either}
use Rattle.tpl_model.specs.KeptLines.Memos.{attempt_memo, lines_memo, table_in, truth_in}
use Rattle.tpl_model.specs.KeptLines.Before.{WasListened, WasListenedAll, WasMade}
use Rattle.tpl_kept.specs.Renewals.{is_unread}
use Rattle.tpl_kept.proofs.Listened.Sequences.{mapped_put}
use Rattle.tpl_model.specs.KeptLines.Changes.{Change, stays, made, over, chain, changed, first_in, is_made, by_change, keys_in, BranchTells, HadKeys, RowsTell, Tells, WasRow, WasTrue}
use Rattle.tpl_model.specs.declared.change.Change as code
use Rattle.tpl_kept.specs.declared.making.head.Head.{Head}
use Rattle.tpl_kept.specs.declared.making.head.Head.TheVariants as head
use Rattle.tpl_kept.specs.Heads.{Opens, behind, closed, inner_in, last_of, places_from, places_in, rest_in, shows_first, where_shown}
use Rattle.tpl_kept.specs.Turns.{AreAmong, Begins, IsAmong, IsSame, ServeInside, WasOpened, behind_of, first_of, kept_of, later_of, outcome_of, places_of, shows_of}
use Rattle.tpl_kept.specs.Changes.{AreTold, BeginsTold, IsTold, TellsEach, WasKnown, WasSame, WereRows, changed_of, last_change}
use Rattle.tpl_kept.specs.declared.renewing.parts.First.{First}
use Rattle.tpl_kept.specs.declared.renewing.parts.First.TheVariants as start

-- ---- all of them stay, or are made

-- what tells of lines whichever parts they have
pub tells_whole : (b : Block) (links : List ℕ) (at : Option RowRef) (before : Outcomes) (m : PageMemo) (c : Change) →
    ((Parts : Bool → Change → Change → Type 0) → by_change (WasMade (lines_memo b) links at before m) Parts c) → Tells b links at before m c
tells_whole empty links at before m c x = tt
tells_whole (text n f rest) links at before unread c x = tt
tells_whole (text n f rest) links at before blank c x = tt
tells_whole (text n f rest) links at before (line h r) c x = x (λ same inside later. (same ≡ true → WasListened f links at before h) × Tells rest links at before r later)
tells_whole (text n f rest) links at before (element hs i r) c x = tt
tells_whole (text n f rest) links at before (branch h i r) c x = tt
tells_whole (text n f rest) links at before (loop h i r) c x = tt
tells_whole (text n f rest) links at before (row h i r) c x = tt
tells_whole (text n f rest) links at before (either a d r) c x = tt
tells_whole (tag n name xs inner rest) links at before unread c x = tt
tells_whole (tag n name xs inner rest) links at before blank c x = tt
tells_whole (tag n name xs inner rest) links at before (line h r) c x = tt
tells_whole (tag n name xs inner rest) links at before (element hs i r) c x =
    x (λ same inside later. (same ≡ true → WasListenedAll xs links at before hs)
    × (Tells inner links at before i (first_in inside) × Tells rest links at before r later))
tells_whole (tag n name xs inner rest) links at before (branch h i r) c x = tt
tells_whole (tag n name xs inner rest) links at before (loop h i r) c x = tt
tells_whole (tag n name xs inner rest) links at before (row h i r) c x = tt
tells_whole (tag n name xs inner rest) links at before (either a d r) c x = tt
tells_whole (choice f one other rest) links at before unread c x = tt
tells_whole (choice f one other rest) links at before blank c x = tt
tells_whole (choice f one other rest) links at before (line h r) c x = tt
tells_whole (choice f one other rest) links at before (element hs i r) c x = tt
tells_whole (choice f one other rest) links at before (branch h i r) c x =
    x (λ same inside later. (is_made (first_in inside) ≡ false → WasTrue f links at before (truth_in h.outcome))
    × (BranchTells (truth_in h.outcome) (Tells one links at before i (first_in inside)) (Tells other links at before i (first_in inside))
    × Tells rest links at before r later))
tells_whole (choice f one other rest) links at before (loop h i r) c x = tt
tells_whole (choice f one other rest) links at before (row h i r) c x = tt
tells_whole (choice f one other rest) links at before (either a d r) c x = tt
tells_whole (each f inner rest) links at before unread c x = tt
tells_whole (each f inner rest) links at before blank c x = tt
tells_whole (each f inner rest) links at before (line h r) c x = tt
tells_whole (each f inner rest) links at before (element hs i r) c x = tt
tells_whole (each f inner rest) links at before (branch h i r) c x = tt
tells_whole (each f inner rest) links at before (loop h i r) c x =
    x (λ same inside later. (same ≡ true → HadKeys f links at before (keys_in h.outcome))
    × (RowsTell (λ (here : Here) (m : PageMemo) (d : Change). (is_made d ≡ false → WasRow f links at before here.row)
    × Tells inner links (Some here.row) before m d) i inside × Tells rest links at before r later))
tells_whole (each f inner rest) links at before (row h i r) c x = tt
tells_whole (each f inner rest) links at before (either a d r) c x = tt
tells_whole (attempt first second rest) links at before unread c x = tt
tells_whole (attempt first second rest) links at before blank c x = tt
tells_whole (attempt first second rest) links at before (line h r) c x = tt
tells_whole (attempt first second rest) links at before (element hs i r) c x = tt
tells_whole (attempt first second rest) links at before (branch h i r) c x = tt
tells_whole (attempt first second rest) links at before (loop h i r) c x = tt
tells_whole (attempt first second rest) links at before (row h i r) c x = tt
tells_whole (attempt first second rest) links at before (either a d r) c x =
    x (λ same inside later. (same ≡ true → WasMade (attempt_memo false first second) links at before (either a d blank)) × Tells rest links at before r later)

-- lines that are made
pub made_told : (b : Block) (links : List ℕ) (at : Option RowRef) (before : Outcomes) (was m : PageMemo) (c : Change) → c ≡ made →
    IsTold b links at before was m c
made_told b links at before was m c e = subst (λ z. IsTold b links at before was m z) (sym e)
    (record { known = λ u. absurd (true≢false u); tells = tells_whole b links at before m made (λ Parts. tt) })

-- lines that stay
pub stays_told : (b : Block) (links : List ℕ) (at : Option RowRef) (before : Outcomes) (m : PageMemo) (c : Change) → c ≡ stays →
    is_unread m ≡ false → WasMade (lines_memo b) links at before m → IsTold b links at before m m c
stays_told b links at before m c e u was = subst (λ z. IsTold b links at before m m z) (sym e)
    (record { known = λ k. u; tells = tells_whole b links at before m stays (λ Parts. was) })

-- ---- what is known of before

-- a row that is among those of before stood among them
row_stood : (f : Tree) (links : List ℕ) (at : Option RowRef) (before : Outcomes) (h : Heard) (r : Option RowRef) → WasListened f links at before h →
    IfSome r (λ s. IsAmong (table_in h.outcome) s) → IfSome r (λ s. WasRow f links at before s)
row_stood f links at before h None was x = tt
row_stood f links at before h (Some r) was x = record {
  place = x.place;
  inside = λ source agrees. subst (λ (z : Heard). x.place < length (table_in z.outcome).rows) (was.is source agrees) x.inside;
  same = λ source agrees.
      subst (λ (z : Heard). same_here (record { rows = table_in z.outcome; place = x.place }) r ≡ true) (was.is source agrees) x.same;
}

rows_stood : (f : Tree) (links : List ℕ) (at : Option RowRef) (before : Outcomes) (h : Heard) (rs : List (Option RowRef)) (ms : List PageMemo) →
    WasListened f links at before h → AreAmong (table_in h.outcome) rs ms → WereRows f links at before rs ms
rows_stood f links at before h [] ms was x = tt
rows_stood f links at before h (r ∷ rs) ms was x =
    ((λ u. row_stood f links at before h r was (x.0 u)), rows_stood f links at before h rs (later_of ms) was x.1)

-- a choice
choice_known : (f : Tree) (one other rest : Block) (links : List ℕ) (at : Option RowRef) (before : Outcomes) (old : Head) (h : _) (is ms : List PageMemo) →
    WasOpened (choice f one other rest) links at before old → ServeInside (outcome_of old) (head.Choice h) is ms →
    WasKnown (choice f one other rest) links at before (head.Choice h) ms
choice_known f one other rest links at before head.Nothing h is ms was s = absurd was
choice_known f one other rest links at before (head.Attempt x y) h is ms was s = absurd was
choice_known f one other rest links at before (head.Text x) h is ms was s = absurd was
choice_known f one other rest links at before (head.Tag all) h is ms was s = absurd was
choice_known f one other rest links at before (head.Choice x) h is ms was s =
    λ u. record { is = λ source agrees. ap (λ (z : Heard). truth_in z.outcome) (sym (was.is source agrees)) ∙ (s u).0 }
choice_known f one other rest links at before (head.Each x) h is ms was s = absurd was

-- a loop
each_known : (f : Tree) (inner rest : Block) (links : List ℕ) (at : Option RowRef) (before : Outcomes) (old : Head) (h : _) (is ms : List PageMemo) →
    WasOpened (each f inner rest) links at before old → ServeInside (outcome_of old) (head.Each h) is ms →
    WasKnown (each f inner rest) links at before (head.Each h) ms
each_known f inner rest links at before head.Nothing h is ms was s = absurd was
each_known f inner rest links at before (head.Attempt x y) h is ms was s = absurd was
each_known f inner rest links at before (head.Text x) h is ms was s = absurd was
each_known f inner rest links at before (head.Tag all) h is ms was s = absurd was
each_known f inner rest links at before (head.Choice x) h is ms was s = absurd was
each_known f inner rest links at before (head.Each x) h is ms was s =
    rows_stood f links at before (heard_of x) (places_from (table_in h.outcome) 0 (length (table_in h.outcome).rows)) ms was s.1

-- a line that is heard again
pub was_known : (b : Block) (links : List ℕ) (at : Option RowRef) (before a c : Outcomes) (old h : Head) (is ms : List PageMemo) →
    WasOpened b links at before old → Opens false b links at a c h → ServeInside (outcome_of old) h is ms → WasKnown b links at before h ms
was_known empty links at before a c old h is ms was o s = tt
was_known (text n f rest) links at before a c old h is ms was o s = tt
was_known (tag n name xs inner rest) links at before a c old h is ms was o s = tt
was_known (choice f one other rest) links at before a c old h is ms was o s =
    subst (λ z. WasKnown (choice f one other rest) links at before z ms) (sym o.1.0)
    (choice_known f one other rest links at before old o.0 is ms was (subst (λ z. ServeInside (outcome_of old) z is ms) o.1.0 s))
was_known (each f inner rest) links at before a c old h is ms was o s =
    subst (λ z. WasKnown (each f inner rest) links at before z ms) (sym o.1.0)
    (each_known f inner rest links at before old o.0 is ms was (subst (λ z. ServeInside (outcome_of old) z is ms) o.1.0 s))
was_known (attempt one other rest) links at before a c old h is ms was o s = tt

-- rows that have the keys of before
each_same : (f : Tree) (inner rest : Block) (links : List ℕ) (at : Option RowRef) (before : Outcomes) (old : Head) (h : _) (heard same : Bool) →
    WasOpened (each f inner rest) links at before old → IsSame (outcome_of old) (head.Each h) heard same → same ≡ true →
    WasSame (each f inner rest) links at before (head.Each h)
each_same f inner rest links at before head.Nothing h heard same was s e = absurd was
each_same f inner rest links at before (head.Attempt x y) h heard same was s e = absurd was
each_same f inner rest links at before (head.Text x) h heard same was s e = absurd was
each_same f inner rest links at before (head.Tag all) h heard same was s e = absurd was
each_same f inner rest links at before (head.Choice x) h heard same was s e = absurd was
each_same f inner rest links at before (head.Each x) h heard same was s e =
    record { are = λ source agrees. ap (λ (z : Heard). keys_in z.outcome) (sym (was.is source agrees)) ∙ s e }

-- a line that is heard again, and is the same
pub was_same : (b : Block) (links : List ℕ) (at : Option RowRef) (before a c : Outcomes) (old h : Head) (heard same : Bool) →
    WasOpened b links at before old → Opens false b links at a c h → (heard ≡ true → WasOpened b links at before h) →
    IsSame (outcome_of old) h heard same → same ≡ true → WasSame b links at before h
was_same empty links at before a c old h heard same was o w s e = tt
was_same (text n f rest) links at before a c old h heard same was o w s e =
    w (sym (subst (λ z. IsSame (outcome_of old) z heard same) o.1.0 s) ∙ e)
was_same (tag n name xs inner rest) links at before a c old h heard same was o w s e =
    w (sym (subst (λ z. IsSame (outcome_of old) z heard same) o.1.0 s) ∙ e)
was_same (choice f one other rest) links at before a c old h heard same was o w s e =
    w (sym (subst (λ z. IsSame (outcome_of old) z heard same) o.1.0 s) ∙ e)
was_same (each f inner rest) links at before a c old h heard same was o w s e =
    subst (λ z. WasSame (each f inner rest) links at before z) (sym o.1.0)
    (each_same f inner rest links at before old o.0 heard same was (subst (λ z. IsSame (outcome_of old) z heard same) o.1.0 s) e)
was_same (attempt first second rest) links at before a c old h heard same was o w s e =
    w (sym (subst (λ z. IsSame (outcome_of old) z heard same) o.2.0 s) ∙ e)

-- ---- what became of the last

last_added : (cs : List Change) (c : Change) → last_change (cs ++ c ∷ []) ≡ c
last_added [] c = refl
last_added (x ∷ []) c = refl
last_added (x ∷ y ∷ cs) c = last_added (y ∷ cs) c

pub none_last : (cs : List code.Change) (c : Change) → length cs ≡ 0 → c ≡ made → c ≡ last_change (map changed cs)
none_last [] c e same = same
none_last (x ∷ cs) c e same = absurd (omega (arith, e))

pub one_last : (cs rest : List code.Change) (c : code.Change) → cs ≡ rest ++ c ∷ [] → changed c ≡ last_change (map changed cs)
one_last cs rest c e = sym (ap last_change (mapped_put changed rest cs c e) ∙ last_added (map changed rest) (changed c))

-- ---- the parts of a line

-- lines in one row
alone_told : (b : Block) (links : List ℕ) (at : Option RowRef) (before : Outcomes) (was ms : List PageMemo) (cs : List Change) →
    AreTold b links (at ∷ []) before was ms cs → IsTold b links at before (first_of was) (last_of ms) (last_change cs)
alone_told b links at before was [] cs x = absurd x
alone_told b links at before was (m ∷ []) [] x = absurd x
alone_told b links at before was (m ∷ []) (c ∷ []) x = x.0
alone_told b links at before was (m ∷ []) (c ∷ d ∷ cs) x = absurd x.1
alone_told b links at before was (m ∷ k ∷ ms) [] x = absurd x
alone_told b links at before was (m ∷ k ∷ ms) (c ∷ cs) x = absurd x.1

-- the first of them is the last
first_told : (b : Block) (links : List ℕ) (at : Option RowRef) (before : Outcomes) (was ms : List PageMemo) (cs : List Change) →
    AreTold b links (at ∷ []) before was ms cs → IsTold b links at before (first_of was) (last_of ms) (first_in (chain cs))
first_told b links at before was [] cs x = absurd x
first_told b links at before was (m ∷ []) [] x = absurd x
first_told b links at before was (m ∷ []) (c ∷ cs) x = x.0
first_told b links at before was (m ∷ k ∷ ms) [] x = absurd x
first_told b links at before was (m ∷ k ∷ ms) (c ∷ cs) x = absurd x.1

-- the branch that is shown
branch_told : (truth : Option Bool) (f : Tree) (one other rest : Block) (links : List ℕ) (at : Option RowRef) (before : Outcomes)
    (was ms : List PageMemo) (cs : List Change) → (is_unread (first_of was) ≡ false → WasTrue f links at before truth) →
    AreTold (inner_in (choice f one other rest) (unwrap_or truth false)) links (where_shown truth at) before was ms cs →
    (is_made (first_in (chain cs)) ≡ false → WasTrue f links at before truth)
    × BranchTells truth (Tells one links at before (last_of ms) (first_in (chain cs))) (Tells other links at before (last_of ms) (first_in (chain cs)))
branch_told None f one other rest links at before was [] [] w x = ((λ u. absurd (true≢false u)), tt)
branch_told None f one other rest links at before was [] (c ∷ cs) w x = absurd x
branch_told None f one other rest links at before was (m ∷ ms) cs w x = absurd x
branch_told (Some true) f one other rest links at before was ms cs w x =
    let t = first_told one links at before was ms cs x in
    ((λ u. w (t.known u)), t.tells)
branch_told (Some false) f one other rest links at before was ms cs w x =
    let t = first_told other links at before was ms cs x in
    ((λ u. w (t.known u)), t.tells)

-- rows, one after the other
rows_told : (t : Table) (i : ℕ) (rs : List Row) (f : Tree) (inner : Block) (links : List ℕ) (at : Option RowRef) (before : Outcomes)
    (was ms : List PageMemo) (cs : List Change) → WereRows f links at before (places_from t i (length rs)) was →
    AreTold inner links (places_from t i (length rs)) before was ms cs →
    RowsTell (λ (here : Here) (m : PageMemo) (d : Change). (is_made d ≡ false → WasRow f links at before here.row)
    × Tells inner links (Some here.row) before m d) (rows_from t i rs ms) (chain cs)
rows_told t i [] f inner links at before was ms cs w x = tt
rows_told t i (r ∷ rs) f inner links at before was [] cs w x = absurd x
rows_told t i (r ∷ rs) f inner links at before was (m ∷ ms) [] w x = absurd x
rows_told t i (r ∷ rs) f inner links at before was (m ∷ ms) (c ∷ cs) w x =
    (((λ u. w.0 (x.0.known u)), x.0.tells), rows_told t (suc i) rs f inner links at before (later_of was) ms cs w.1 x.1)

loop_told : (o : Outcome) (f : Tree) (inner : Block) (links : List ℕ) (at : Option RowRef) (before : Outcomes)
    (was ms : List PageMemo) (cs : List Change) → WereRows f links at before (places_from (table_in o) 0 (length (table_in o).rows)) was →
    AreTold inner links (places_from (table_in o) 0 (length (table_in o).rows)) before was ms cs →
    RowsTell (λ (here : Here) (m : PageMemo) (d : Change). (is_made d ≡ false → WasRow f links at before here.row)
    × Tells inner links (Some here.row) before m d) (rows_of o ms) (chain cs)
loop_told (Good (value.Bool b)) f inner links at before was ms cs w x = tt
loop_told (Good (value.Int n)) f inner links at before was ms cs w x = tt
loop_told (Good (value.Text s)) f inner links at before was ms cs w x = tt
loop_told (Good (value.Rows t)) f inner links at before was ms cs w x = rows_told t 0 t.rows f inner links at before was ms cs w x
loop_told (Bad e) f inner links at before was ms cs w x = tt

-- ---- a line that is heard again

line_told : (b : Block) (links : List ℕ) (at : Option RowRef) (before a c : Outcomes) (h : Head) (same : Bool) (ins lat is rs : List PageMemo) (cs ds : List Change) →
    Opens false b links at a c h → WasKnown b links at before h ins → (same ≡ true → WasSame b links at before h) → AreTold (inner_in b (shows_first h)) links (places_in false h at) before ins is cs →
    AreTold (rest_in b) links (behind false h at) before lat rs ds → Tells b links at before (closed h is rs) (over same (chain cs) (last_change ds))
line_told empty links at before a c h same ins lat is rs cs ds o k w inside later = tt
line_told (text n f rest) links at before a c h same ins lat is rs cs ds o k w inside later =
    subst (λ z. Tells (text n f rest) links at before (closed z is rs) (over same (chain cs) (last_change ds))) (sym o.1.0) (
      subst (λ z. same ≡ true → WasSame (text n f rest) links at before z) o.1.0 w,
      (alone_told rest links at before lat rs ds (subst (λ z. AreTold rest links (behind false z at) before lat rs ds) o.1.0 later)).tells,
    )
line_told (tag n name xs inner rest) links at before a c h same ins lat is rs cs ds o k w inside later =
    let i = subst (λ z. AreTold (inner_in (tag n name xs inner rest) (shows_first z)) links (places_in false z at) before ins is cs) o.1.0 inside in
    subst (λ z. Tells (tag n name xs inner rest) links at before (closed z is rs) (over same (chain cs) (last_change ds))) (sym o.1.0) (
      subst (λ z. same ≡ true → WasSame (tag n name xs inner rest) links at before z) o.1.0 w,
      (
        (first_told inner links at before ins is cs i).tells,
        (alone_told rest links at before lat rs ds (subst (λ z. AreTold rest links (behind false z at) before lat rs ds) o.1.0 later)).tells,
      ),
    )
line_told (choice f one other rest) links at before a c h same ins lat is rs cs ds o k w inside later =
    let known = subst (λ z. WasKnown (choice f one other rest) links at before z ins) o.1.0 k in
    let i = subst (λ z. AreTold (inner_in (choice f one other rest) (shows_first z)) links (places_in false z at) before ins is cs) o.1.0 inside in
    let t = branch_told (truth_in (o.0).outcome) f one other rest links at before ins is cs known i in
    subst (λ z. Tells (choice f one other rest) links at before (closed z is rs) (over same (chain cs) (last_change ds))) (sym o.1.0)
    (t.0, (t.1, (alone_told rest links at before lat rs ds (subst (λ z. AreTold rest links (behind false z at) before lat rs ds) o.1.0 later)).tells))
line_told (each f inner rest) links at before a c h same ins lat is rs cs ds o k w inside later =
    let known = subst (λ z. WasKnown (each f inner rest) links at before z ins) o.1.0 k in
    let i = subst (λ z. AreTold (inner_in (each f inner rest) (shows_first z)) links (places_in false z at) before ins is cs) o.1.0 inside in
    subst (λ z. Tells (each f inner rest) links at before (closed z is rs) (over same (chain cs) (last_change ds))) (sym o.1.0) (
      subst (λ z. same ≡ true → WasSame (each f inner rest) links at before z) o.1.0 w,
      (
        loop_told (o.0).outcome f inner links at before ins is cs known i,
        (alone_told rest links at before lat rs ds (subst (λ z. AreTold rest links (behind false z at) before lat rs ds) o.1.0 later)).tells,
      ),
    )
line_told (attempt first second rest) links at before a c h same ins lat is rs cs ds o k w inside later =
    subst (λ z. Tells (attempt first second rest) links at before (closed z is rs) (over same (chain cs) (last_change ds))) (sym o.2.0) (
      subst (λ z. same ≡ true → WasSame (attempt first second rest) links at before z) o.2.0 w,
      (alone_told rest links at before lat rs ds (subst (λ z. AreTold rest links (behind false z at) before lat rs ds) o.2.0 later)).tells,
    )

-- ---- one turn

-- lines in the first of some rows
begun_told : (b : Block) (links : List ℕ) (at : Option RowRef) (before a c : Outcomes) (first : First) (same : Bool) (was : PageMemo) (ins lat is rs : List PageMemo)
    (cs ds : List Change) → Begins b links at before a c first ins lat → BeginsTold b links at before was first same ins →
    AreTold (inner_in b (shows_of first)) links (places_of first at) before ins is cs →
    AreTold (rest_in b) links (behind_of first at) before lat rs ds →
    IsTold b links at before was (kept_of first is rs) (changed_of first same cs ds)
begun_told b links at before a c (start.Whole x) same was ins lat is rs cs ds begins k inside later = k
begun_told b links at before a c (start.Line h) same was ins lat is rs cs ds begins k inside later = record {
  known = λ u. k.0;
  tells = line_told b links at before begins.mid c h same ins lat is rs cs ds begins.opens k.1.0 k.1.1 inside later;
}

-- what was put where there was nothing
from_none : (b : Block) (links : List ℕ) (rows : List (Option RowRef)) (before : Outcomes) (was none is : List PageMemo) (nil cs : List Change) →
    none ≡ [] → nil ≡ [] → TellsEach b links rows before was none is nil cs → AreTold b links rows before was is cs
from_none b links rows before was none is nil cs e k x =
    let p : is ≡ x.memos = x.put ∙ ap (λ z. z ++ x.memos) e in
    let q : cs ≡ x.became = x.added ∙ ap (λ z. z ++ x.became) k in
    subst (λ y. y) (λ j. AreTold b links rows before was (sym p j) (sym q j)) x.told

-- no row is left
pub none_told : (b : Block) (links : List ℕ) (rows : List (Option RowRef)) (before : Outcomes) (was dones : List PageMemo) (changes : List Change) →
    length rows ≡ 0 → TellsEach b links rows before was dones dones changes changes
none_told b links [] before was dones changes e = record {
  memos = [];
  became = [];
  put = sym (append-nil dones);
  added = sym (append-nil changes);
  told = tt;
}
none_told b links (r ∷ rs) before was dones changes e = absurd (omega (arith, e))

-- lines in the first of some rows, and then in the others
pub turn_told : (b : Block) (links : List ℕ) (rows : List (Option RowRef)) (at : Option RowRef) (others : List (Option RowRef)) (first : First) (same : Bool)
    (before a c : Outcomes) (inner rest : Block) (shows : Bool) (places behinds : List (Option RowRef)) (m : PageMemo)
    (was left ins lat none is nil rs dones put after : List PageMemo) (start_cs cs start_ds ds changes added became : List Change) → rows ≡ at ∷ others →
    Begins b links at before a c first ins lat → BeginsTold b links at before m first same ins → m ≡ first_of was → left ≡ later_of was →
    shows ≡ shows_of first → inner ≡ inner_in b shows → places ≡ places_of first at → rest ≡ rest_in b → behinds ≡ behind_of first at → none ≡ [] →
    nil ≡ [] → start_cs ≡ [] → start_ds ≡ [] → TellsEach inner links places before ins none is start_cs cs → TellsEach rest links behinds before lat nil rs start_ds ds →
    put ≡ dones ++ kept_of first is rs ∷ [] → added ≡ changes ++ changed_of first same cs ds ∷ [] →
    TellsEach b links others before left put after added became → TellsEach b links rows before was dones after changes became
turn_told b links rows at others first same before a c inner rest shows places behinds m was left ins lat none is nil rs dones put after start_cs cs start_ds ds changes
    added became split begins k em ek ef ei ep er el e0 e1 e2 e3 inside laters es ec others_told =
    let i : AreTold (inner_in b (shows_of first)) links (places_of first at) before ins is cs =
    subst (λ y. y) (λ j. AreTold ((ei ∙ ap (inner_in b) ef) j) links (ep j) before ins is cs)
    (from_none inner links places before ins none is start_cs cs e0 e2 inside) in
    let r : AreTold (rest_in b) links (behind_of first at) before lat rs ds =
    subst (λ y. y) (λ j. AreTold (er j) links (el j) before lat rs ds) (from_none rest links behinds before lat nil rs start_ds ds e1 e3 laters) in
    let one : IsTold b links at before (first_of was) (kept_of first is rs) (changed_of first same cs ds) =
    subst (λ z. IsTold b links at before z (kept_of first is rs) (changed_of first same cs ds)) em
    (begun_told b links at before a c first same m ins lat is rs cs ds begins k i r) in
    let next : AreTold b links others before (later_of was) others_told.memos others_told.became =
    subst (λ z. AreTold b links others before z others_told.memos others_told.became) ek others_told.told in
    record {
      memos = kept_of first is rs ∷ others_told.memos;
      became = changed_of first same cs ds ∷ others_told.became;
      put = others_told.put ∙ (ap (λ z. z ++ others_told.memos) es ∙ append_assoc dones (kept_of first is rs ∷ []) others_told.memos);
      added = others_told.added ∙ (ap (λ z. z ++ others_told.became) ec ∙ append_assoc changes (changed_of first same cs ds ∷ []) others_told.became);
      told = subst (λ z. AreTold b links z before was (kept_of first is rs ∷ others_told.memos) (changed_of first same cs ds ∷ others_told.became)) (sym split)
          (one, next);
    }

-- ---- as the code has it

pub whole_told : (b : Block) (links : List ℕ) (at : Option RowRef) (before : Outcomes) (was : PageMemo) (first : First) (same : Bool) (m k : _)
    (ins : List PageMemo) → first ≡ start.Whole (record { memo = m; change = k }) → IsTold b links at before was (kept m) (changed k) →
    BeginsTold b links at before was first same ins
whole_told b links at before was first same m k ins e x = subst (λ z. BeginsTold b links at before was z same ins) (sym e) x

pub heard_told : (b : Block) (links : List ℕ) (at : Option RowRef) (before : Outcomes) (was : PageMemo) (first : First) (h : Head) (same : Bool)
    (ins : List PageMemo) → first ≡ start.Line h → is_unread was ≡ false → WasKnown b links at before h ins →
    (same ≡ true → WasSame b links at before h) → BeginsTold b links at before was first same ins
heard_told b links at before was first h same ins e u k w =
    subst (λ z. BeginsTold b links at before was z same ins) (sym e) (u, (k, w))

-- what became of lines in one row
pub one_told : (b : Block) (links : List ℕ) (rows : List (Option RowRef)) (at : Option RowRef) (before : Outcomes) (was none ms : List PageMemo)
    (nil cs : List Change) (m : PageMemo) (c : Change) → rows ≡ at ∷ [] → none ≡ [] → nil ≡ [] → TellsEach b links rows before was none ms nil cs →
    m ≡ last_of ms → c ≡ last_change cs → Tells b links at before m c
one_told b links rows at before was none ms nil cs m c e k l x em ec =
    let t : AreTold b links (at ∷ []) before was ms cs =
    subst (λ z. AreTold b links z before was ms cs) e (from_none b links rows before was none ms nil cs k l x) in
    subst (λ y. y) (λ j. Tells b links at before (sym em j) (sym ec j)) (alone_told b links at before was ms cs t).tells
