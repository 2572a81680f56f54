-- Lines that are read as a template nest as a template's lines may.
use Rattle.std.proofs.Common.{◌≡◌, ℕ, zero, suc, ◌+◌, ◌≤◌, Bool, true, false, List, [], ◌∷◌, ◌++◌, map, drop, length, Option, Some, None, Ok, refl, sym, ap, subst, arith}
use Rattle.std.specs.Prelude.{◌&&◌, not, ◌==◌, option_map, if◌then◌else◌, nat_le, nat_lt}
use Rattle.std.specs.List.{list_any}
use Rattle.std.specs.Str.{bytes_eq}
use Rattle.std.proofs.lemmas.Bool.{and_from, eqb-true, le-leb, ltb-false, or_parts, not-true}
use Rattle.formula_text.proofs.Shared.{neither}
use Rattle.page_model.proofs.Shared.{other_way}
use Rattle.tpl_syntax.proofs.Shared.{no_why}
use Rattle.sig_base.specs.declared.limits.TheConstants.{MOST_TAG}
use Rattle.sig_base.specs.Words.{is_tag}
use Rattle.sig_formula.specs.Trees.{Tree}
use Rattle.html_out.specs.Html.{good_name, is_void}
use Rattle.formula_text.specs.Grammar.{Draft}
use Rattle.formula_text.specs.Refusals.{slotted}
use Rattle.line_forms.specs.Forms.{Args}
use Rattle.line_forms.proofs.Shared.{rewrites}
use Rattle.script_lines.specs.Lines.{NumberedLine}
use Rattle.page_model.specs.Labels.{Distinct, GoodNames, named}
use Rattle.tpl_model.specs.Lines as model
use Rattle.tpl_model.specs.Laws.{Fits, IsTemplate}
use Rattle.tpl_syntax.specs.declared.fault.TemplateFault.{TemplateFault}
use Rattle.tpl_syntax.specs.declared.fault.TemplateWhy.TheVariants as why
use Rattle.tpl_syntax.specs.declared.line.Line.{Line}
use Rattle.tpl_syntax.specs.declared.line.Line.TheVariants as line
use Rattle.tpl_syntax.specs.declared.line.Mark.TheVariants as mark
use Rattle.tpl_syntax.specs.declared.line.Purpose.TheVariants as purpose
use Rattle.tpl_syntax.specs.declared.place.Content.{Content}
use Rattle.tpl_syntax.specs.declared.place.Content.TheVariants as content
use Rattle.tpl_syntax.specs.declared.place.Level.{Level}
use Rattle.tpl_syntax.specs.declared.place.Level.TheVariants as level
use Rattle.tpl_syntax.specs.Grammar as grammar
use Rattle.tpl_syntax.specs.Grammar.{Row, row, Said, Writes, said_line}
use Rattle.tpl_syntax.specs.Refusals.{fault_at, fault_of, first_misplaced, high, in_element, is_bare_text, is_nested, judged, misplacing, missing, refusal_of}
use Rattle.tpl_syntax.specs.Lines.{Plan, mapped}
use Rattle.tpl_syntax.specs.Places.{Place, Role, leaf, begins, among, content_at, content_of, fits, in_loop, is_child, is_choice, is_closed, moved, role_of, top}
use Rattle.tpl_syntax.specs.Templates.{Answer, IsRead, Say, Sayings, faulty, names_of, plan_of, reached, says, unended, unless_refused}
use Rattle.tpl_blocks.specs.Blocks.{lines_of, model_line}

-- ---- attributes that wait for their tag

-- none of them has one of these names
abbrev Apart : List (List ℕ) → List (List ℕ × Tree) → Type 0
Apart names [] = Unit {0}
Apart names (a ∷ rest) = (list_any (λ m. bytes_eq m a.0) names ≡ false) × Apart names rest

-- where attributes may stand, with these before, they are distinct; elsewhere there are none
abbrev Wait : Bool → List (List ℕ) → List (List ℕ × Tree) → Type 0
Wait true before xs = Distinct xs × GoodNames xs × Apart before xs
Wait false before xs = xs ≡ []

none_wait : (t : Bool) (before : List (List ℕ)) (xs : List (List ℕ × Tree)) → xs ≡ [] → Wait t before xs
none_wait true before xs e = subst (Wait true before) (sym e) (tt, tt, tt)
none_wait false before xs e = e

one_more : (p : List ℕ → Bool) (before : List (List ℕ)) (n : List ℕ) → list_any p (before ++ n ∷ []) ≡ false → (list_any p before ≡ false) × (p n ≡ false)
one_more p [] n h = (refl, (or_parts (p n) false h).0)
one_more p (m ∷ before) n h =
    let both = or_parts (p m) (list_any p (before ++ n ∷ [])) h in
    let rest = one_more p before n both.1 in
    (rw both.0 rest.0, rest.1)

-- a name that isn't among those behind it
apart_named : (before : List (List ℕ)) (n : List ℕ) (xs : List (List ℕ × Tree)) → Apart (before ++ n ∷ []) xs → (named n xs ≡ false) × Apart before xs
apart_named before n [] h = (refl, tt)
apart_named before n (a ∷ xs) h =
    let first = one_more (λ m. bytes_eq m a.0) before n h.0 in
    let rest = apart_named before n xs h.1 in
    let e = other_way n a.0 first.1 in
    (rw e rest.0, (first.0, rest.1))

-- one more attribute before those that wait
more_wait : (t : Bool) (before : List (List ℕ)) (n : List ℕ) (f : Tree) (xs : List (List ℕ × Tree)) →
    (t && not (list_any (λ m. bytes_eq m n) before)) ≡ true → good_name n ≡ true → Wait t (before ++ n ∷ []) xs → Wait t before ((n, f) ∷ xs)
more_wait false before n f xs fit good h = absurd cc
more_wait true before n f xs fit good h =
    let apart = apart_named before n xs h.2 in
    ((apart.0, h.0), (good, h.1), (not-true (list_any (λ m. bytes_eq m n) before) fit, apart.1))

-- ---- parts, each at what is begun around it

-- lines fit there, and so do those behind an `else`; an element without an end tag is empty
abbrev FitsAt : Level → ℕ → Bool → model.Block → model.Block → Type 0
FitsAt l d in_row lines others =
    Fits lines d in_row × (l ≡ level.Choice → Fits others d in_row) × (l ≡ level.Element content.Nothing → lines ≡ model.empty)

-- The open parts fit what is begun, each inside of the next; all attributes but those of the innermost have their tag.
abbrev FitAll : List Level → ℕ → List model.Part → Type 0
FitAll [] d (q ∷ []) = Fits q.lines d false
FitAll (l ∷ ls) d (q ∷ r ∷ qs) = FitsAt l d (in_loop (l ∷ ls)) q.lines q.others × (r.attributes ≡ []) × FitAll ls (suc d) (r ∷ qs)
FitAll _ d _ = ⊥

-- the open parts behind a place, below which lines nest so deep
abbrev FitFrom : Place → ℕ → List model.Part → Type 0
FitFrom p d [] = ⊥
FitFrom p d (q ∷ qs) = Wait p.in_tag p.attributes q.attributes × FitAll p.levels d (q ∷ qs)

-- other lines of the innermost
other_lines : (ls : List Level) (d : ℕ) (lines : model.Block) (q : model.Part) (qs : List model.Part) → (content_at ls ≡ content.Nothing → ⊥) →
    (Fits q.lines d (in_loop ls) → Fits lines d (in_loop ls)) → FitAll ls d (q ∷ qs) → FitAll ls d (record q { lines = lines } ∷ qs)
other_lines [] d lines q [] some f h = f h
other_lines [] d lines q (r ∷ qs) some f h = absurd h
other_lines (l ∷ ls) d lines q [] some f h = absurd h
other_lines (l ∷ ls) d lines q (r ∷ qs) some f h = ((f h.0.0, h.0.1, λ e. absurd (some (ap (λ (x : Level). content_at (x ∷ ls)) e))), h.1, h.2)

-- other attributes of the innermost
other_attributes : (ls : List Level) (d : ℕ) (xs : List (List ℕ × Tree)) (q : model.Part) (qs : List model.Part) → FitAll ls d (q ∷ qs) →
    FitAll ls d (record q { attributes = xs } ∷ qs)
other_attributes [] d xs q [] h = h
other_attributes [] d xs q (r ∷ qs) h = absurd h
other_attributes (l ∷ ls) d xs q [] h = absurd h
other_attributes (l ∷ ls) d xs q (r ∷ qs) h = h

-- ---- one line

-- a child stands where there may be some
some_children : (c : Content) (bare : Bool) (r : Role) → is_child r ≡ true → in_element c bare r ≡ None → c ≡ content.Nothing → ⊥
some_children content.Nothing bare r child h e = let k : Some why.VoidChild ≡ None = rw child at h in cc
some_children content.Bare bare r child h e = cc
some_children content.Lines bare r child h e = cc

void_content : (n : List ℕ) → is_void n ≡ true → content_of n ≡ content.Nothing
void_content n h = rw h refl

-- the names of a line are names of HTML
abbrev GoodLine : Line Draft → Type 0
GoodLine (line.Plain (mark.Tag n)) = good_name n ≡ true
GoodLine (line.Over (purpose.Attr n) f) = good_name n ≡ true
GoodLine l = Unit {0}

-- how deep lines nest behind a line, where they nest so deep before it
abbrev Room : List Level → ℕ → Type 0
Room ls d = length ls + d ≡ 31

-- the parts behind a line fit, so those before it do
abbrev Stepped : Place → ℕ → ℕ → Line Tree → List model.Part → Type 0
Stepped p d n l parts = FitFrom p d (model.with_line n (model_line l) parts)

text_step : (p : Place) (d n : ℕ) (f : Tree) (parts : List model.Part) → (content_at p.levels ≡ content.Nothing → ⊥) → FitFrom (among p.levels) d parts →
    Stepped p d n (line.Over purpose.Text f) parts
text_step p d n f [] some h = absurd h
text_step p d n f (q ∷ qs) some h =
    (none_wait p.in_tag p.attributes q.attributes h.0, other_lines p.levels d (model.text n f q.lines) q qs some (λ k. k) h.1)

attr_step : (p : Place) (d n : ℕ) (name : List ℕ) (f : Tree) (parts : List model.Part) →
    (p.in_tag && not (list_any (λ m. bytes_eq m name) p.attributes)) ≡ true → good_name name ≡ true →
    FitFrom (record p { attributes = p.attributes ++ name ∷ [] }) d parts → Stepped p d n (line.Over (purpose.Attr name) f) parts
attr_step p d n name f [] fit good h = absurd h
attr_step p d n name f (q ∷ qs) fit good h =
    (more_wait p.in_tag p.attributes name f q.attributes fit good h.0, other_attributes p.levels d ((name, f) ∷ q.attributes) q qs h.1)

tag_step : (p : Place) (d n : ℕ) (name : List ℕ) (parts : List model.Part) → (content_at p.levels ≡ content.Nothing → ⊥) → good_name name ≡ true →
    FitFrom (record { levels = level.Element (content_of name) ∷ p.levels; in_tag = true; attributes = [] }) d parts →
    Stepped p (suc d) n (line.Plain (mark.Tag name)) parts
tag_step p d n name [] some good h = absurd h
tag_step p d n name (i ∷ []) some good h = absurd h.1
tag_step p d n name (i ∷ q ∷ qs) some good h = (
  none_wait p.in_tag p.attributes q.attributes h.1.1,
  other_lines p.levels (suc d) (model.tag n name i.attributes i.lines q.lines) q qs some
      (λ k. (h.0.0, (λ void. h.1.0.2 (ap level.Element (void_content name void))), h.1.0.0, k, (good, h.0.1))) h.1.2,
)

if_step : (p : Place) (d n : ℕ) (f : Tree) (parts : List model.Part) → (content_at p.levels ≡ content.Nothing → ⊥) →
    FitFrom (among (level.Choice ∷ p.levels)) d parts → Stepped p (suc d) n (line.Over purpose.If f) parts
if_step p d n f [] some h = absurd h
if_step p d n f (i ∷ []) some h = absurd h.1
if_step p d n f (i ∷ q ∷ qs) some h = (
  none_wait p.in_tag p.attributes q.attributes h.1.1,
  other_lines p.levels (suc d) (model.choice f i.lines i.others q.lines) q qs some (λ k. (h.1.0.0, h.1.0.1 refl, k)) h.1.2,
)

try_step : (p : Place) (d n : ℕ) (parts : List model.Part) → (content_at p.levels ≡ content.Nothing → ⊥) →
    FitFrom (among (level.Choice ∷ p.levels)) d parts → Stepped p (suc d) n (line.Plain mark.Try) parts
try_step p d n [] some h = absurd h
try_step p d n (i ∷ []) some h = absurd h.1
try_step p d n (i ∷ q ∷ qs) some h = (
  none_wait p.in_tag p.attributes q.attributes h.1.1,
  other_lines p.levels (suc d) (model.attempt i.lines i.others q.lines) q qs some (λ k. (h.1.0.0, h.1.0.1 refl, k)) h.1.2,
)

each_step : (p : Place) (d n : ℕ) (f : Tree) (parts : List model.Part) → (content_at p.levels ≡ content.Nothing → ⊥) → in_loop p.levels ≡ false →
    FitFrom (among (level.Loop ∷ p.levels)) d parts → Stepped p (suc d) n (line.Over purpose.Each f) parts
each_step p d n f [] some alone h = absurd h
each_step p d n f (i ∷ []) some alone h = absurd h.1
each_step p d n f (i ∷ q ∷ qs) some alone h = (
  none_wait p.in_tag p.attributes q.attributes h.1.1,
  other_lines p.levels (suc d) (model.each f i.lines q.lines) q qs some (λ k. (alone, h.1.0.0, k)) h.1.2,
)

else_step : (ls : List Level) (t : Bool) (before : List (List ℕ)) (d n : ℕ) (parts : List model.Part) → FitFrom (among (level.Other ∷ ls)) d parts →
    Stepped (record { levels = level.Choice ∷ ls; in_tag = t; attributes = before }) d n (line.Plain mark.Else) parts
else_step ls t before d n [] h = absurd h
else_step ls t before d n (i ∷ []) h = absurd h.1
else_step ls t before d n (i ∷ q ∷ qs) h = (none_wait t before [] refl, ((tt, (λ e. h.1.0.0), (λ e. refl)), h.1.1, h.1.2))

end_step : (l : Level) (ls : List Level) (t : Bool) (before : List (List ℕ)) (d n : ℕ) (parts : List model.Part) → FitFrom (among ls) (suc d) parts →
    Stepped (record { levels = l ∷ ls; in_tag = t; attributes = before }) d n (line.Plain mark.End) parts
end_step l ls t before d n [] h = absurd h
end_step l ls t before d n (q ∷ qs) h = (none_wait t before [] refl, ((tt, (λ e. tt), (λ e. refl)), h.0, h.1))

else_any : (ls : List Level) (t : Bool) (before : List (List ℕ)) (d n : ℕ) (parts : List model.Part) → is_choice ls ≡ true → Room ls d →
    ((e : ℕ) → Room (level.Other ∷ drop 1 ls) e → FitFrom (among (level.Other ∷ drop 1 ls)) e parts) →
    Stepped (record { levels = ls; in_tag = t; attributes = before }) d n (line.Plain mark.Else) parts
else_any [] t before d n parts fit room rest = absurd cc
else_any (level.Element c ∷ ls) t before d n parts fit room rest = absurd cc
else_any (level.Choice ∷ ls) t before d n parts fit room rest = else_step ls t before d n parts (rest d room)
else_any (level.Other ∷ ls) t before d n parts fit room rest = absurd cc
else_any (level.Loop ∷ ls) t before d n parts fit room rest = absurd cc

end_any : (ls : List Level) (t : Bool) (before : List (List ℕ)) (d n : ℕ) (parts : List model.Part) → not (length ls == 0) ≡ true → Room ls d →
    ((e : ℕ) → Room (drop 1 ls) e → FitFrom (among (drop 1 ls)) e parts) → Stepped (record { levels = ls; in_tag = t; attributes = before }) d n (line.Plain mark.End) parts
end_any [] t before d n parts fit room rest = absurd cc
end_any (l ∷ ls) t before d n parts fit room rest = end_step l ls t before d n parts (rest (suc d) (omega arith))

-- where a line may begin something, lines nest one level deeper
deeper : (ls : List Level) (d : ℕ) → Room ls d → nat_lt 32 (length ls + 2) ≡ false → (e : ℕ) × (d ≡ suc e) × Room (level.Loop ∷ ls) e
deeper ls zero room flat = absurd (omega (arith, ltb-false 32 (length ls + 2) flat))
deeper ls (suc e) room flat = (e, refl, omega arith)

stepped : (g : Draft → Tree) (p : Place) (d n : ℕ) (l : Line Draft) (bare : Bool) (parts : List model.Part) → Room p.levels d → fits p l ≡ true →
    in_element (content_at p.levels) bare (role_of l) ≡ None → is_nested p (role_of l) ≡ false → GoodLine l →
    ((e : ℕ) → Room (moved p l).levels e → FitFrom (moved p l) e parts) → Stepped p d n (mapped g l) parts
stepped g p d n (line.Over purpose.Text f) bare parts room fit inside flat good rest =
    text_step p d n (g f) parts (some_children (content_at p.levels) bare leaf refl inside) (rest d room)
stepped g p d n (line.Plain (mark.Tag name)) bare parts room fit inside flat good rest =
    let e = deeper p.levels d room flat in
    subst (λ x. Stepped p x n (line.Plain (mark.Tag name)) parts) (sym e.1)
    (tag_step p e.0 n name parts (some_children (content_at p.levels) bare (begins (level.Element (content_of name))) refl inside) good (rest e.0 e.2))
stepped g p d n (line.Over (purpose.Attr name) f) bare parts room fit inside flat good rest = attr_step p d n name (g f) parts fit good (rest d room)
stepped g p d n (line.Over purpose.If f) bare parts room fit inside flat good rest =
    let e = deeper p.levels d room flat in
    subst (λ x. Stepped p x n (line.Over purpose.If (g f)) parts) (sym e.1)
    (if_step p e.0 n (g f) parts (some_children (content_at p.levels) bare (begins level.Choice) refl inside) (rest e.0 e.2))
stepped g p d n (line.Plain mark.Try) bare parts room fit inside flat good rest =
    let e = deeper p.levels d room flat in
    subst (λ x. Stepped p x n (line.Plain mark.Try) parts) (sym e.1)
    (try_step p e.0 n parts (some_children (content_at p.levels) bare (begins level.Choice) refl inside) (rest e.0 e.2))
stepped g p d n (line.Plain mark.Else) bare parts room fit inside flat good rest = else_any p.levels p.in_tag p.attributes d n parts fit room rest
stepped g p d n (line.Over purpose.Each f) bare parts room fit inside flat good rest =
    let both = or_parts (in_loop p.levels) (nat_lt 32 (length p.levels + 2)) flat in
    let e = deeper p.levels d room both.1 in
    subst (λ x. Stepped p x n (line.Over purpose.Each (g f)) parts) (sym e.1)
    (each_step p e.0 n (g f) parts (some_children (content_at p.levels) bare (begins level.Loop) refl inside) both.0 (rest e.0 e.2))
stepped g p d n (line.Plain mark.End) bare parts room fit inside flat good rest = end_any p.levels p.in_tag p.attributes d n parts fit room rest

-- ---- what the names of a line are

name_good : (n : List ℕ) → is_tag n ≡ true → length n ≤ MOST_TAG → good_name n ≡ true
unfolding good_name
name_good n h k = and_from (is_tag n) (nat_le (length n) MOST_TAG) h (le-leb (length n) MOST_TAG k)

good_said : (bytes : List ℕ) (r : Row) (a : Args (row r).1) → Writes (r, a) bytes → GoodLine (said_line (r, a))
good_said bytes grammar.tag a w =
    let k = (rewrites grammar.templates bytes w.tokens (grammar.tag, a) w.cut w.spelled).parts.0.1 in
    name_good a.0 k.0 k.1
good_said bytes grammar.attr a w =
    let k = (rewrites grammar.templates bytes w.tokens (grammar.attr, a) w.cut w.spelled).parts.0.1 in
    name_good a.0 k.0 k.1
good_said bytes _ a w = tt

-- ---- all lines

not_so : {A : Type 0} (b : Bool) (x : A) (o : Option A) → (if b then Some x else o) ≡ None → b ≡ false
not_so true x o e = absurd cc
not_so false x o e = refl

closed_fits : (ls : List Level) (t : Bool) (before : List (List ℕ)) (d : ℕ) → (length ls == 0) ≡ true →
    FitFrom (record { levels = ls; in_tag = t; attributes = before }) d (model.no_lines ∷ [])
closed_fits [] t before d h = (none_wait t before [] refl, tt)
closed_fits (l ∷ ls) t before d h = absurd (let e : length (l ∷ ls) ≡ 0 = eqb-true (length (l ∷ ls)) 0 h in omega arith)

-- the lines that are said, with their formulas as trees
abbrev lines_on : (Draft → Tree) → Sayings → List model.Line
lines_on g xs = map model_line (map (mapped g) (map (λ (x : ℕ × Said). said_line x.1) xs))

fit_all : (g : Draft → Tree) (p : Place) (d n : ℕ) (ls : List NumberedLine) (xs : Sayings) → Say p ls xs → first_misplaced (judged p xs) ≡ None →
    is_closed (reached p xs) ≡ true → Room p.levels d → FitFrom p d (model.parts_from n (lines_on g xs))
fit_all g p d n [] [] s m c room = closed_fits p.levels p.in_tag p.attributes d c
fit_all g p d n [] (x ∷ xs) s m c room = absurd s
fit_all g p d n (l ∷ ls) [] s m c room = absurd s
fit_all g p d n (l ∷ ls) (x ∷ xs) s m c room =
    let said = said_line x.1 in
    let wrong = fault_of p said in
    let bare = is_bare_text said in
    let both = neither (option_map (fault_at x.0) (misplacing p wrong bare (role_of said))) (first_misplaced (judged (moved p said) xs)) m in
    let placed = neither (missing wrong) _ (no_why x.0 (misplacing p wrong bare (role_of said)) both.0) in
    let held = neither (in_element (content_at p.levels) bare (role_of said)) _ placed.1 in
    stepped g p d n said bare (model.parts_from (suc n) (lines_on g xs)) room s.2 held.0
    (not_so (is_nested p (role_of said)) why.Nest (high wrong) held.1) (good_said l.1 x.1.0 x.1.1 s.1)
    (λ e deep. fit_all g (moved p said) e (suc n) ls xs s.3 both.1 c deep)

first_fits : (parts : List model.Part) → FitFrom top 31 parts → Fits (model.first_block parts) 31 false
first_fits [] h = absurd h
first_fits (q ∷ []) h = h.1
first_fits (q ∷ r ∷ qs) h = absurd h.1

-- ---- what is read

plan_read : (o : Option TemplateFault) (p t : Plan) → unless_refused o p ≡ Ok t → (o ≡ None) × (p ≡ t)
plan_read None p t e = (refl, cc)
plan_read (Some f) p t e = absurd cc

answer_fits : (ls : List NumberedLine) (a : Answer) → IsRead ls a → (t : Plan) → a ≡ Ok t → IsTemplate (lines_of t)
answer_fits ls _ (faulty k f) t e = absurd cc
answer_fits ls _ (unended xs s c) t e = absurd cc
answer_fits ls _ (says xs s c) t e =
    let drafts = map (λ (x : ℕ × Said). said_line x.1) xs in
    let is = plan_read (refusal_of (judged top xs)) (plan_of drafts) t e in
    let placed = neither (first_misplaced (judged top xs)) _ is.0 in
    subst (λ (x : Plan). IsTemplate (lines_of x)) is.1
    (first_fits (model.parts_from 1 (lines_on (slotted (names_of drafts)) xs)) (fit_all (slotted (names_of drafts)) top 31 1 ls xs s placed.0 c refl))

-- a template that lines are nests as a template may
pub read_law : (ls : List NumberedLine) (t : Plan) → IsRead ls (Ok t) → IsTemplate (lines_of t)
read_law ls t r = answer_fits ls (Ok t) r t refl
