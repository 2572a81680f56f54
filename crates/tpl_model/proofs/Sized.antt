-- How many nodes a template shows.
use Rattle.std.proofs.Common.{◌≡◌, ℕ, zero, suc, ◌+◌, ◌*◌, ◌≤◌, Bool, true, false, refl, sym, arith, List, [], ◌∷◌, length, length-append, Option, Some, None}
use Rattle.std.proofs.lemmas.Bool.{false≢true}
use Rattle.sig_base.specs.Tables.{AreRows, Table}
use Rattle.sig_base.specs.declared.rows.Row.{Row}
use Rattle.sig_base.specs.declared.value.Value.TheVariants as value
use Rattle.sig_base.specs.declared.value.Outcome.{Outcome}
use Rattle.sig_base.specs.declared.value.Outcome.TheVariants.{Good, Bad}
use Rattle.page_model.specs.Addresses.{address}
use Rattle.page_model.specs.Forest.{Forest, none, node, after, keys}
use Rattle.page_model.specs.Labels.{Text, Element, Look}
use Rattle.tpl_model.specs.Lines.{Line, TextLine, TagLine, AttrLine, IfLine, ElseLine, EachLine, TryLine, EndLine, Block, empty, text, tag, choice, each, attempt, Part, with_line, parts_from, first_block, block_of}
use Rattle.tpl_model.specs.Shapes.{Evaluating, Here, key_here, row_here, Showing, formula_shown, then_shown, within, chosen, rows_from, each_row, attempted, node_text, attributes_of, attributes_told, shown_block, shown_lines}
use Rattle.tpl_model.specs.Laws.{Fits, GivesRows, SizeLaw}
use Rattle.tpl_model.proofs.Kept.{then_has, attributes_none, inside_has, chosen_has, attempted_has}

-- how many nodes there are
abbrev nodes_in : Forest Look → ℕ
nodes_in none = 0
nodes_in (node a x k r) = suc (nodes_in k + nodes_in r)

nodes_keyed : (t : Forest Look) → length (keys t) ≡ nodes_in t
nodes_keyed none = refl
nodes_keyed (node a x k r) = omega (arith, length-append (keys k) (keys r), nodes_keyed k, nodes_keyed r)

-- lines of a block that make a node
abbrev makers : Block → ℕ
makers empty = 0
makers (text n f rest) = 1 + makers rest
makers (tag n name xs inner rest) = 1 + (makers inner + makers rest)
makers (choice f a b rest) = makers a + (makers b + makers rest)
makers (each f inner rest) = makers inner + makers rest
makers (attempt a b rest) = makers a + (makers b + makers rest)

size_after : (x y : Forest Look) → nodes_in (after x y) ≡ nodes_in x + nodes_in y
size_after none y = omega arith
size_after (node n l k r) y = omega (arith, size_after r y)

then_size : (m n : ℕ) (ends : Bool) (x y : Showing) → nodes_in x.nodes ≤ m → nodes_in y.nodes ≤ n →
    nodes_in (then_shown ends x y).nodes ≤ m + n
then_size m n ends x y p q = then_has (λ t. nodes_in t ≤ m + n) ends x y (omega arith) (let s = size_after x.nodes y.nodes in omega arith)

rows_size : (m : ℕ) (ends : Bool) (go : Here → Showing) → ((h : Here) → nodes_in (go h).nodes ≤ m) →
    (t : Table) (i : ℕ) (rs : List Row) → nodes_in (rows_from ends go t i rs).nodes ≤ length rs * m
rows_size m ends go u t i [] = omega arith
rows_size m ends go u t i (r ∷ rs) =
    let here : Here = record { key = r.key; row = record { rows = t; place = i } } in
    let a = u here in
    let b = rows_size m ends go u t (suc i) rs in
    let c = then_size m (length rs * m) ends (go here) (rows_from ends go t (suc i) rs) a b in
    grind (arith, c)

-- at most w nodes for each line, where a row counts once and all rows count w times
size : (w : ℕ) → 1 ≤ w → (evaluate : Evaluating) (b : Block) (ends : Bool) (here : Option Here) (d : ℕ) → Fits b d true →
    nodes_in (shown_block evaluate ends here b).nodes ≤ makers b
size w h evaluate empty ends here d f = omega arith
size w h evaluate (text n t rest) ends here d f =
    then_size 1 (makers rest) ends (formula_shown (evaluate (row_here here) t) (node (address n (key_here here)) (Text (node_text (evaluate
    (row_here here) t).outcome)) none none)) (shown_block evaluate ends here rest) (omega arith) (size w h evaluate rest ends here d f)
size w h evaluate (tag n name xs inner rest) ends here zero f = absurd f
size w h evaluate (tag n name xs inner rest) ends here (suc d) f =
    let inside = then_shown ends (attributes_told ends evaluate (row_here here) xs) (shown_block evaluate ends here inner) in
    let i = size w h evaluate inner ends here d f.2 in
    let below : nodes_in inside.nodes ≤ makers inner = inside_has (λ t. nodes_in t ≤ makers inner) ends (attributes_told ends evaluate
    (row_here here) xs) (shown_block evaluate ends here inner) (attributes_none ends evaluate (row_here here) xs) (omega arith) i in
    let both = then_size (1 + makers inner) (makers rest) ends (within (address n (key_here here)) (Element name (attributes_of evaluate
    (row_here here) xs)) inside) (shown_block evaluate ends here rest) (omega arith) (size w h evaluate rest ends here (suc d) f.3) in
    omega (arith, both)
size w h evaluate (choice t one' other rest) ends here zero f = absurd f
size w h evaluate (choice t one' other rest) ends here (suc d) f =
    let e = evaluate (row_here here) t in
    let a = size w h evaluate one' ends here d f.0 in
    let b = size w h evaluate other ends here d f.1 in
    let own = inside_has (λ t. nodes_in t ≤ makers one' + makers other) ends (formula_shown e none) (chosen e.outcome
    (shown_block evaluate ends here one') (shown_block evaluate ends here other)) refl (omega arith)
    (chosen_has (λ t. nodes_in t ≤ makers one' + makers other) (omega arith) e.outcome (shown_block evaluate ends here one')
    (shown_block evaluate ends here other) (omega arith) (omega arith)) in
    let both = then_size (makers one' + makers other) (makers rest) ends (then_shown ends (formula_shown e none) (chosen e.outcome
    (shown_block evaluate ends here one') (shown_block evaluate ends here other))) (shown_block evaluate ends here rest) own
    (size w h evaluate rest ends here (suc d) f.2) in
    omega (arith, both)
size w h evaluate (each t inner rest) ends here zero f = absurd f
size w h evaluate (each t inner rest) ends here (suc d) f = absurd (false≢true (sym f.0))
size w h evaluate (attempt first second rest) ends here zero f = absurd f
size w h evaluate (attempt first second rest) ends here (suc d) f =
    let a = size w h evaluate first true here d f.0 in
    let b = size w h evaluate second ends here d f.1 in
    let own = attempted_has (λ t. nodes_in t ≤ makers first + makers second) (shown_block evaluate true here first)
    (shown_block evaluate ends here second) (omega arith) (omega arith) in
    let both = then_size (makers first + makers second) (makers rest) ends (attempted (shown_block evaluate true here first)
    (shown_block evaluate ends here second)) (shown_block evaluate ends here rest) own (size w h evaluate rest ends here (suc d) f.2) in
    omega (arith, both)

many : (m n : ℕ) → n ≤ 512 → n * m ≤ 512 * m
many m n h = grind (arith, h)

each_size : (m : ℕ) (ends : Bool) (go : Here → Showing) → ((h : Here) → nodes_in (go h).nodes ≤ m) → (o : Outcome) → ((t : Table) →
    o ≡ Good (value.Rows t) → AreRows t.fields t.rows) → nodes_in (each_row ends go o).nodes ≤ 512 * m
each_size m ends go u (Good (value.Rows t)) g = (let a = rows_size m ends go u t 0 t.rows in
    let b = many m (length t.rows) (g t refl).few_rows in omega (arith, a, b))
each_size m ends go u (Good (value.Bool b)) g = omega arith
each_size m ends go u (Good (value.Int n)) g = omega arith
each_size m ends go u (Good (value.Text t)) g = omega arith
each_size m ends go u (Bad e) g = omega arith

size_all : (evaluate : Evaluating) → GivesRows evaluate → (b : Block) (ends : Bool) (here : Option Here) (d : ℕ) (in_row : Bool) →
    Fits b d in_row → nodes_in (shown_block evaluate ends here b).nodes ≤ 512 * makers b
size_all evaluate g empty ends here d in_row f = omega arith
size_all evaluate g (text n t rest) ends here d in_row f =
    (let i = then_size 1 (512 * makers rest) ends (formula_shown (evaluate (row_here here) t) (node (address n (key_here here)) (Text (node_text
    (evaluate (row_here here) t).outcome)) none none)) (shown_block evaluate ends here rest) (omega arith)
    (size_all evaluate g rest ends here d in_row f) in omega (arith, i))
size_all evaluate g (tag n name xs inner rest) ends here zero in_row f = absurd f
size_all evaluate g (tag n name xs inner rest) ends here (suc d) in_row f =
    let inside = then_shown ends (attributes_told ends evaluate (row_here here) xs) (shown_block evaluate ends here inner) in
    let i = size_all evaluate g inner ends here d in_row f.2 in
    let below : nodes_in inside.nodes ≤ 512 * makers inner = inside_has (λ t. nodes_in t ≤ 512 * makers inner) ends
    (attributes_told ends evaluate (row_here here) xs) (shown_block evaluate ends here inner) (attributes_none ends evaluate
    (row_here here) xs) (omega arith) i in
    let both = then_size (1 + 512 * makers inner) (512 * makers rest) ends (within (address n (key_here here)) (Element name
    (attributes_of evaluate (row_here here) xs)) inside) (shown_block evaluate ends here rest) (omega arith)
    (size_all evaluate g rest ends here (suc d) in_row f.3) in
    omega (arith, both)
size_all evaluate g (choice t one' other rest) ends here zero in_row f = absurd f
size_all evaluate g (choice t one' other rest) ends here (suc d) in_row f =
    let e = evaluate (row_here here) t in
    let a = size_all evaluate g one' ends here d in_row f.0 in
    let b = size_all evaluate g other ends here d in_row f.1 in
    let own = inside_has (λ t. nodes_in t ≤ 512 * makers one' + 512 * makers other) ends (formula_shown e none) (chosen e.outcome
    (shown_block evaluate ends here one') (shown_block evaluate ends here other)) refl (omega arith)
    (chosen_has (λ t. nodes_in t ≤ 512 * makers one' + 512 * makers other) (omega arith) e.outcome (shown_block evaluate ends here one')
    (shown_block evaluate ends here other) (omega arith) (omega arith)) in
    let both = then_size (512 * makers one' + 512 * makers other) (512 * makers rest) ends (then_shown ends (formula_shown e none)
    (chosen e.outcome (shown_block evaluate ends here one') (shown_block evaluate ends here other)))
    (shown_block evaluate ends here rest) own (size_all evaluate g rest ends here (suc d) in_row f.2) in
    omega (arith, both)
size_all evaluate g (each t inner rest) ends here zero in_row f = absurd f
size_all evaluate g (each t inner rest) ends here (suc d) in_row f =
    let e = evaluate (row_here here) t in
    let go : Here → Showing = λ r. shown_block evaluate ends (Some r) inner in
    let own = inside_has (λ t. nodes_in t ≤ 512 * makers inner) ends (formula_shown e none) (each_row ends go e.outcome) refl (omega arith)
    (each_size (makers inner) ends go (λ r. size 1 (omega arith) evaluate inner ends (Some r) d f.1) e.outcome (g (row_here here) t)) in
    let both = then_size (512 * makers inner) (512 * makers rest) ends (then_shown ends (formula_shown e none) (each_row ends go e.outcome))
    (shown_block evaluate ends here rest) own (size_all evaluate g rest ends here (suc d) in_row f.2) in
    omega (arith, both)
size_all evaluate g (attempt first second rest) ends here zero in_row f = absurd f
size_all evaluate g (attempt first second rest) ends here (suc d) in_row f =
    let a = size_all evaluate g first true here d in_row f.0 in
    let b = size_all evaluate g second ends here d in_row f.1 in
    let own = attempted_has (λ t. nodes_in t ≤ 512 * makers first + 512 * makers second) (shown_block evaluate true here first)
    (shown_block evaluate ends here second) (omega arith) (omega arith) in
    let both = then_size (512 * makers first + 512 * makers second) (512 * makers rest) ends (attempted
    (shown_block evaluate true here first) (shown_block evaluate ends here second)) (shown_block evaluate ends here rest) own
    (size_all evaluate g rest ends here (suc d) in_row f.2) in
    omega (arith, both)

-- ---- lines

abbrev all_makers : List Part → ℕ
all_makers [] = 0
all_makers (p ∷ ps) = makers p.lines + (makers p.others + all_makers ps)

one_more : (n : ℕ) (line : Line) (ps : List Part) → all_makers (with_line n line ps) ≤ 1 + all_makers ps
one_more n (TextLine f) [] = omega arith
one_more n (TextLine f) (p ∷ ps) = omega arith
one_more n (AttrLine name f) [] = omega arith
one_more n (AttrLine name f) (p ∷ ps) = omega arith
one_more n (TagLine name) [] = omega arith
one_more n (TagLine name) (i ∷ []) = omega arith
one_more n (TagLine name) (i ∷ p ∷ ps) = omega arith
one_more n (IfLine f) [] = omega arith
one_more n (IfLine f) (i ∷ []) = omega arith
one_more n (IfLine f) (i ∷ p ∷ ps) = omega arith
one_more n (EachLine f) [] = omega arith
one_more n (EachLine f) (i ∷ []) = omega arith
one_more n (EachLine f) (i ∷ p ∷ ps) = omega arith
one_more n TryLine [] = omega arith
one_more n TryLine (i ∷ []) = omega arith
one_more n TryLine (i ∷ p ∷ ps) = omega arith
one_more n ElseLine [] = omega arith
one_more n ElseLine (p ∷ ps) = omega arith
one_more n EndLine ps = omega arith

makers_from : (n : ℕ) (ls : List Line) → all_makers (parts_from n ls) ≤ length ls
makers_from n [] = omega arith
makers_from n (x ∷ ls) = (let i = makers_from (suc n) ls in let j = one_more n x (parts_from (suc n) ls) in omega arith)

first_makers : (ps : List Part) → makers (first_block ps) ≤ all_makers ps
first_makers [] = omega arith
first_makers (p ∷ ps) = omega arith

-- at most 512 nodes for each line of the template, those that make none counted too
pub size_law : SizeLaw
size_law lines evaluate f g =
    let a = size_all evaluate g (block_of lines) false None 31 false f in
    let b = makers_from 1 lines in
    let c = first_makers (parts_from 1 lines) in
    omega (arith, nodes_keyed (shown_lines evaluate lines).nodes, a, b, c)
