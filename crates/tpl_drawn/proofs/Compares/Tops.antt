-- Lines that keep their topmost nodes.
use Rattle.std.proofs.Common.{◌≡◌, ◌&&◌, ℕ, suc, Bool, true, false, List, [], ◌∷◌, ◌++◌, map, Option, Some, refl, sym, ap, ◌∙◌}
use Rattle.std.proofs.lemmas.Bool.{false≢true}
use Rattle.std.specs.List.{flat_map}
use Rattle.sig_base.specs.Tables.{Table}
use Rattle.sig_base.specs.declared.rows.Row.{Row}
use Rattle.sig_base.specs.declared.value.Value.TheVariants as value
use Rattle.sig_base.specs.declared.value.Outcome.{Outcome}
use Rattle.sig_base.specs.declared.value.Outcome.TheVariants.{Good, Bad}
use Rattle.page_model.specs.Addresses.{address}
use Rattle.page_model.specs.Edits.{siblings}
use Rattle.page_model.specs.Forest.{Forest, none, node, after}
use Rattle.page_model.specs.Labels.{Look}
use Rattle.tpl_model.specs.Lines.{Block, empty, text, tag, choice, each, attempt}
use Rattle.tpl_model.specs.Shapes.{Here, row_here}
use Rattle.tpl_model.specs.Sources.{evaluating}
use Rattle.tpl_model.specs.KeptLines.Outcomes.{Outcomes}
use Rattle.tpl_model.specs.KeptLines.Memos.{Agrees}
use Rattle.tpl_model.specs.KeptLines.Changes.{Change, stays, made, over, also, nothing, keys_in, Tells}
use Rattle.tpl_model.specs.PageUpdates.PageMemos.{PageMemo, each_memo, hearing, nodes, row_nodes, rows_memo}
use Rattle.tpl_drawn.specs.Comparison.{is_plain, keeps_nodes}
use Rattle.tpl_drawn.proofs.Shaped.Behind.{row_shown}
use Rattle.tpl_drawn.proofs.Compares.Sides.{Alike, kept, stays_kept, tried_kept, tried_nodes, tried_same}

-- lines that stay do
pub stays_keep : (b : Block) → keeps_nodes b stays ≡ true
stays_keep empty = refl
stays_keep (text n f rest) = refl
stays_keep (tag n name xs inner rest) = refl
stays_keep (choice f one other rest) = refl
stays_keep (each f inner rest) = refl
stays_keep (attempt first second rest) = refl

-- and those that were made anew where they are plain
pub made_keep : (b : Block) → keeps_nodes b made ≡ is_plain b
made_keep empty = refl
made_keep (text n f rest) = refl
made_keep (tag n name xs inner rest) = refl
made_keep (choice f one other rest) = refl
made_keep (each f inner rest) = refl
made_keep (attempt first second rest) = refl

-- ---- lines that always show the same

-- the topmost nodes of texts and elements
abbrev tops : Block → Option (List ℕ) → List ℕ
tops (text n f rest) k = address n k ∷ tops rest k
tops (tag n name xs inner rest) k = address n k ∷ tops rest k
tops b k = []

-- they are these whatever is kept of the lines
plain_tops : (links : List ℕ) (source : ℕ → Outcome) (b : Block) → is_plain b ≡ true → (k : Option (List ℕ)) (here : Option Here) →
    siblings (nodes k b (kept links source here b)) ≡ tops b k
plain_tops links source empty e k here = refl
plain_tops links source (text n f rest) e k here = ap (λ ns. address n k ∷ ns) (plain_tops links source rest e k here)
plain_tops links source (tag n name xs inner rest) e k here = ap (λ ns. address n k ∷ ns) (plain_tops links source rest e k here)
plain_tops links source (choice f one other rest) e k here = absurd (false≢true e)
plain_tops links source (each f inner rest) e k here = absurd (false≢true e)
plain_tops links source (attempt first second rest) e k here = absurd (false≢true e)

plain_siblings : (links : List ℕ) (source now : ℕ → Outcome) (b : Block) → is_plain b ≡ true → (k : Option (List ℕ)) (here here' : Option Here) →
    siblings (nodes k b (kept links source here b)) ≡ siblings (nodes k b (kept links now here' b))
plain_siblings links source now b e k here here' = plain_tops links source b e k here ∙ sym (plain_tops links now b e k here')

-- ---- rows

siblings_after : (t s : Forest Look) → siblings (after t s) ≡ siblings t ++ siblings s
siblings_after none s = refl
siblings_after (node a x k r) s = ap (λ ns. a ∷ ns) (siblings_after r s)

-- the topmost nodes of rows of these keys
abbrev row_tops : Block → List (List ℕ) → List ℕ
row_tops inner keys = flat_map (λ key. tops inner (Some key)) keys

rows_tops : (links : List ℕ) (source : ℕ → Outcome) (inner : Block) → is_plain inner ≡ true → (t : Table) (i : ℕ) (rs : List Row) →
    siblings (row_nodes (row_shown inner) (rows_memo false (λ h. kept links source (Some h) inner) t i rs)) ≡ row_tops inner (map (λ (r : Row). r.key) rs)
rows_tops links source inner e t i [] = refl
rows_tops links source inner e t i (r ∷ rs) =
    let here : Here = record { key = r.key; row = record { rows = t; place = i } } in
    let go : Here → PageMemo = λ h. kept links source (Some h) inner in
    let next = row_nodes (row_shown inner) (rows_memo false go t (suc i) rs) in
    siblings_after (row_shown inner here (go here)) next
    ∙ (ap (λ ns. ns ++ siblings next) (plain_tops links source inner e (Some r.key) (Some here))
    ∙ ap (λ ns. tops inner (Some r.key) ++ ns) (rows_tops links source inner e t (suc i) rs))

each_tops : (links : List ℕ) (source : ℕ → Outcome) (inner : Block) → is_plain inner ≡ true → (o : Outcome) →
    siblings (row_nodes (row_shown inner) (each_memo false (λ h. kept links source (Some h) inner) o)) ≡ row_tops inner (keys_in o)
each_tops links source inner e (Good (value.Rows t)) = rows_tops links source inner e t 0 t.rows
each_tops links source inner e (Good (value.Bool b)) = refl
each_tops links source inner e (Good (value.Int n)) = refl
each_tops links source inner e (Good (value.Text s)) = refl
each_tops links source inner e (Bad f) = refl

-- ---- what became of lines

both_hold : (a b : Bool) → (a && b) ≡ true → (a ≡ true) × (b ≡ true)
both_hold true b h = (refl, h)
both_hold false b h = absurd (false≢true h)

-- the nodes that are kept are those of before
pub kept_siblings : (links : List ℕ) (before : Outcomes) (source now : ℕ → Outcome) → Agrees before source → (b : Block) (k : Option (List ℕ))
    (here here' : Option Here) (c : Change) → Alike links source here here' → Tells b links (row_here here') before (kept links now here' b) c →
    keeps_nodes b c ≡ true → siblings (nodes k b (kept links source here b)) ≡ siblings (nodes k b (kept links now here' b))
kept_siblings links before source now agrees empty k here here' c like t e = refl
kept_siblings links before source now agrees (text n f rest) k here here' stays like t e =
    ap (λ m. siblings (nodes k (text n f rest) m)) (stays_kept links before source now agrees (text n f rest) here here' stays like refl t)
kept_siblings links before source now agrees (text n f rest) k here here' made like t e = plain_siblings links source now (text n f rest) e k here here'
kept_siblings links before source now agrees (text n f rest) k here here' (over s i l) like t e =
    ap (λ ns. address n k ∷ ns) (kept_siblings links before source now agrees rest k here here' l like t.1 e)
kept_siblings links before source now agrees (text n f rest) k here here' (also c d) like t e = absurd t
kept_siblings links before source now agrees (text n f rest) k here here' nothing like t e = absurd t
kept_siblings links before source now agrees (tag n name xs inner rest) k here here' stays like t e =
    ap (λ m. siblings (nodes k (tag n name xs inner rest) m)) (stays_kept links before source now agrees (tag n name xs inner rest) here here' stays like refl t)
kept_siblings links before source now agrees (tag n name xs inner rest) k here here' made like t e =
    plain_siblings links source now (tag n name xs inner rest) e k here here'
kept_siblings links before source now agrees (tag n name xs inner rest) k here here' (over s i l) like t e =
    ap (λ ns. address n k ∷ ns) (kept_siblings links before source now agrees rest k here here' l like t.1.1 e)
kept_siblings links before source now agrees (tag n name xs inner rest) k here here' (also c d) like t e = absurd t
kept_siblings links before source now agrees (tag n name xs inner rest) k here here' nothing like t e = absurd t
kept_siblings links before source now agrees (choice f one other rest) k here here' c like t e =
    ap (λ m. siblings (nodes k (choice f one other rest) m)) (stays_kept links before source now agrees (choice f one other rest) here here' c like e t)
kept_siblings links before source now agrees (each f inner rest) k here here' stays like t e =
    ap (λ m. siblings (nodes k (each f inner rest) m)) (stays_kept links before source now agrees (each f inner rest) here here' stays like refl t)
kept_siblings links before source now agrees (each f inner rest) k here here' made like t e = absurd (false≢true e)
kept_siblings links before source now agrees (each f inner rest) k here here' (over s i l) like t e =
    let o = (hearing (evaluating links source) (row_here here) f).outcome in
    let o' = (hearing (evaluating links now) (row_here here') f).outcome in
    let rows = row_nodes (row_shown inner) (each_memo false (λ h. kept links source (Some h) inner) o) in
    let rows' = row_nodes (row_shown inner) (each_memo false (λ h. kept links now (Some h) inner) o') in
    let r = nodes k rest (kept links source here rest) in
    let r' = nodes k rest (kept links now here' rest) in
    let both = both_hold (s && is_plain inner) (keeps_nodes rest l) e in
    let loop = both_hold s (is_plain inner) both.0 in
    let keys : keys_in o ≡ keys_in o' = ap (λ z. keys_in z.outcome) (like f) ∙ (t.0 loop.0).are source agrees in
    let stood : siblings rows ≡ siblings rows' =
    each_tops links source inner loop.1 o ∙ (ap (row_tops inner) keys ∙ sym (each_tops links now inner loop.1 o')) in
    siblings_after rows r
    ∙ (ap (λ ns. ns ++ siblings r) stood
    ∙ (ap (λ ns. siblings rows' ++ ns) (kept_siblings links before source now agrees rest k here here' l like t.1.1 both.1)
    ∙ sym (siblings_after rows' r')))
kept_siblings links before source now agrees (each f inner rest) k here here' (also c d) like t e = absurd t
kept_siblings links before source now agrees (each f inner rest) k here here' nothing like t e = absurd t
kept_siblings links before source now agrees (attempt first second rest) k here here' stays like t e =
    ap (λ m. siblings (nodes k (attempt first second rest) m)) (stays_kept links before source now agrees (attempt first second rest) here here' stays like refl t)
kept_siblings links before source now agrees (attempt first second rest) k here here' made like t e = absurd (false≢true e)
kept_siblings links before source now agrees (attempt first second rest) k here here' (over s i l) like t e =
    let was = tried_nodes k first second (tried_kept links source here first second) in
    let next = tried_nodes k first second (tried_kept links now here' first second) in
    let r = nodes k rest (kept links source here rest) in
    let r' = nodes k rest (kept links now here' rest) in
    let both = both_hold s (keeps_nodes rest l) e in
    let stood : was ≡ next = ap (tried_nodes k first second) (tried_same links before source now agrees first second here here' like (t.0 both.0)) in
    siblings_after was r
    ∙ (ap (λ z. siblings z ++ siblings r) stood
    ∙ (ap (λ ns. siblings next ++ ns) (kept_siblings links before source now agrees rest k here here' l like t.1 both.1)
    ∙ sym (siblings_after next r')))
kept_siblings links before source now agrees (attempt first second rest) k here here' (also c d) like t e = absurd t
kept_siblings links before source now agrees (attempt first second rest) k here here' nothing like t e = absurd t
