-- The lines of a block: each is one line, and they leave the block open.
use Rattle.std.proofs.Common.{◌≡◌, ◌<◌, ℕ, ◌+◌, ◌-◌, true, List, [], ◌∷◌, ◌++◌, length, map, drop, refl, sym, subst, ◌∙◌, arith}
use Rattle.std.specs.Prelude.{◌==◌, not, Ok}
use Rattle.std.proofs.lemmas.Bool.Decides.{nat_tests}
use Rattle.formula_text.specs.Grammar.{Draft}
use Rattle.line_forms.specs.Forms.{Args}
use Rattle.script_lines.specs.Lines.{NumberedLine}
use Rattle.script_lines.specs.Pieces.{closes, level_after, opens}
use Rattle.body_text.specs.declared.line.Line.{Line as BodyLine}
use Rattle.body_text.specs.declared.line.Line.TheVariants as body_line
use Rattle.body_text.specs.declared.line.Source.{Source}
use Rattle.body_text.specs.declared.line.Source.TheVariants as body_source
use Rattle.effect_model.specs.declared.plain.Plain.TheVariants as plain_line
use Rattle.body_text.specs.Statements as statements
use Rattle.body_text.specs.Statements.{Statement, Statements, lines_of}
use Rattle.body_text.specs.Grammar as body_grammar
use Rattle.body_text.specs.Printer as body
use Rattle.tpl_syntax.specs.declared.place.Level.{Level}
use Rattle.tpl_syntax.specs.declared.place.Level.TheVariants as levels
use Rattle.tpl_syntax.specs.Grammar as template
use Rattle.tpl_syntax.specs.Lines.{Plan}
use Rattle.tpl_syntax.specs.Places.{Place, content_of, fits, is_choice, moved, top}
use Rattle.tpl_syntax.specs.Templates as templates
use Rattle.tpl_syntax.specs.Printer as template_text
use Rattle.tpl_syntax.proofs.Shared.{written}
use Rattle.live_writing.specs.Printer.{template_lines}

-- ---- levels

-- from so many levels on, lines leave their block open, with so many levels behind them
abbrev pub Stays : ℕ → List (List ℕ) → ℕ → Type 0
Stays level [] to = level ≡ to
Stays level (l ∷ ls) to = (0 < level_after level l) × Stays (level_after level l) ls to

stays-append : (level mid to : ℕ) (ls ms : List (List ℕ)) → Stays level ls mid → Stays mid ms to → Stays level (ls ++ ms) to
stays-append level mid to [] ms h k = subst (λ (n : ℕ). Stays n ms to) (sym h) k
stays-append level mid to (l ∷ ls) ms h k = (h.0, stays-append (level_after level l) mid to ls ms h.1 k)

-- ---- the lines of bodies

-- the bytes of lines of a body
abbrev bytes_in : Statements → List (List ℕ)
bytes_in s = map (λ l. body.bytes_of (body_grammar.said_of l)) (lines_of s)

plain_stays : (a : Statement) (level : ℕ) → level_after level (body.bytes_of (body_grammar.said_of (body_line.Plain a))) ≡ level
unfolding opens closes
plain_stays (plain_line.Set n x) level = refl
plain_stays _ level = refl

rewire_stays : (n : List ℕ) (s : Source) (level : ℕ) → level_after level (body.bytes_of (body_grammar.said_of (body_line.Rewire n s))) ≡ level
unfolding opens closes
rewire_stays n (body_source.Formula x) level = refl
rewire_stays n (body_source.Host k ns) level = refl

when_opens : (x : Draft) (level : ℕ) → level_after level (body.bytes_of (body_grammar.said_of (body_line.When x))) ≡ level + 1
unfolding opens closes
when_opens x level = refl

effect_opens : (level : ℕ) → level_after level (body.bytes_of (body_grammar.said_of body_line.Effect)) ≡ level + 1
unfolding opens closes
effect_opens level = refl

end_closes : (level : ℕ) → level_after level (body.bytes_of (body_grammar.said_of body_line.End)) ≡ level - 1
unfolding opens closes
end_closes level = refl

-- one more line that keeps a level, and those behind it
one_more : (level next to : ℕ) (l : List ℕ) (ls : List (List ℕ)) → level_after level l ≡ next → 0 < next → Stays next ls to → Stays level (l ∷ ls) to
one_more level next to l ls e h k = subst (λ (n : ℕ). (0 < n) × Stays n ls to) (sym e) (h, k)

map-append : {A B : Type 0} (f : A → B) (xs ys : List A) → map f (xs ++ ys) ≡ map f xs ++ map f ys
map-append f [] ys = refl
map-append f (x ∷ xs) ys = let rest = map-append f xs ys in rw rest refl

-- what stands between a line that opens a level and the one that closes it, and what stands behind both
opened_stays : (s t : Statements) (level : ℕ) (l : BodyLine) → 0 < level → level_after level (body.bytes_of (body_grammar.said_of l)) ≡ level + 1
    → Stays (level + 1) (bytes_in s) (level + 1) → Stays level (bytes_in t) level
    → Stays level (map (λ k. body.bytes_of (body_grammar.said_of k)) (l ∷ (lines_of s ++ (body_line.End ∷ lines_of t)))) level
opened_stays s t level l h e inner rest =
    let back : (level + 1) - 1 ≡ level = omega arith in
    let above : 0 < level + 1 = omega arith in
    let closing : Stays (level + 1) (body.bytes_of (body_grammar.said_of body_line.End) ∷ bytes_in t) level =
    one_more (level + 1) level level (body.bytes_of (body_grammar.said_of body_line.End)) (bytes_in t) (end_closes (level + 1) ∙ back) h rest in
    let both : Stays (level + 1) (bytes_in s ++ (body.bytes_of (body_grammar.said_of body_line.End) ∷ bytes_in t)) level =
    stays-append (level + 1) (level + 1) level (bytes_in s) (body.bytes_of (body_grammar.said_of body_line.End) ∷ bytes_in t) inner closing in
    let all = map-append (λ k. body.bytes_of (body_grammar.said_of k)) (lines_of s) (body_line.End ∷ lines_of t) in
    one_more level (level + 1) level (body.bytes_of (body_grammar.said_of l)) (map (λ k. body.bytes_of (body_grammar.said_of k)) (lines_of s ++ (body_line.End ∷ lines_of t))) e above
    (subst (λ (ls : List (List ℕ)). Stays (level + 1) ls level) (sym all) both)

pub body_stays : (s : Statements) (level : ℕ) → 0 < level → Stays level (bytes_in s) level
body_stays statements.done level h = refl
body_stays (statements.plain a s) level h =
    one_more level level level (body.bytes_of (body_grammar.said_of (body_line.Plain a))) (bytes_in s) (plain_stays a level) h (body_stays s level h)
body_stays (statements.rewire n x s) level h =
    one_more level level level (body.bytes_of (body_grammar.said_of (body_line.Rewire n x))) (bytes_in s) (rewire_stays n x level) h (body_stays s level h)
body_stays (statements.when x s t) level h =
    opened_stays s t level (body_line.When x) h (when_opens x level) (body_stays s (level + 1) (omega arith)) (body_stays t level h)
body_stays (statements.effect s t) level h =
    opened_stays s t level body_line.Effect h (effect_opens level) (body_stays s (level + 1) (omega arith)) (body_stays t level h)

-- ---- the lines of templates

-- how many levels are open there, that of the block among them
abbrev depth : Place → ℕ
depth p = 1 + length p.levels

-- one level more
one_deeper : (x : Level) (ls : List Level) → (1 + length ls) + 1 ≡ 1 + length (x ∷ ls)
one_deeper x ls = omega arith

-- an `else` stands where an `if` is open
other_level : (ls : List Level) → is_choice ls ≡ true → 1 + length ls ≡ 1 + length (levels.Other ∷ drop 1 ls)
other_level [] h = absurd cc
other_level (l ∷ ls) h = refl

-- an `end` stands where something is open
close_level : (ls : List Level) → not (length ls == 0) ≡ true → (1 + length ls) - 1 ≡ 1 + length (drop 1 ls)
close_level [] h = absurd cc
close_level (l ∷ ls) h = omega arith

-- a line that may stand at a place leads to the level of the place behind it
line_level : (r : template.Row) (a : Args (template.row r).1) (p : Place) → fits p (template.said_line (r, a)) ≡ true
    → level_after (depth p) (template_text.bytes_of (r, a)) ≡ depth (moved p (template.said_line (r, a)))
unfolding opens closes
line_level template.text a p h = refl
line_level template.tag a p h = one_deeper (levels.Element (content_of a.0)) p.levels
line_level template.attr a p h = refl
line_level template.choice a p h = one_deeper levels.Choice p.levels
line_level template.other a p h = other_level p.levels h
line_level template.loop a p h = one_deeper levels.Loop p.levels
line_level template.attempt a p h = one_deeper levels.Choice p.levels
line_level template.close a p h = close_level p.levels h

all_stay : (p : Place) (ls : List NumberedLine) (xs : templates.Sayings) → templates.Say p ls xs
    → Stays (depth p) (map template_text.bytes_of (map (λ x. x.1) xs)) (depth (templates.reached p xs))
all_stay p [] [] s = refl
all_stay p [] (x ∷ xs) s = absurd s
all_stay p (l ∷ ls) [] s = absurd s
all_stay p (l ∷ ls) (x ∷ xs) s =
    let next = moved p (template.said_line x.1) in
    let above : 0 < depth next = omega arith in
    one_more (depth p) (depth next) (depth (templates.reached next xs)) (template_text.bytes_of x.1) (map template_text.bytes_of (map (λ x. x.1) xs))
    (line_level x.1.0 x.1.1 p s.2) above (all_stay next ls xs s.3)

closed_depth : (p : Place) → (length p.levels == 0) ≡ true → depth p ≡ 1
closed_depth p h = let none : length p.levels ≡ 0 = grind (arith, nat_tests) in rw none refl

-- the lines of a template leave the block open
pub template_stays : (ls : List NumberedLine) (t : Plan) → templates.IsRead ls (Ok t) → Stays 1 (template_lines t) 1
template_stays ls t r =
    let w = written ls t r in
    let all = all_stay top ls w.xs w.say in
    let end : depth (templates.reached top w.xs) ≡ 1 = closed_depth (templates.reached top w.xs) w.closed in
    subst (λ (xs : List template.Said). Stays 1 (map template_text.bytes_of xs) 1) (sym w.said)
    (subst (λ (n : ℕ). Stays 1 (map template_text.bytes_of (map (λ x. x.1) w.xs)) n) end all)
