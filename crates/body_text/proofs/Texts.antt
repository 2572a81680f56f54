-- The text of a body, from those of its nested effects.
use Rattle.std.proofs.Common.{◌≡◌, ℕ, zero, suc, List, [], ◌∷◌, ◌++◌, map, refl, sym, ap, ap₂, ◌∙◌, append_assoc}
use Rattle.std.specs.Prelude.{Some, None, option_map, slice_get}
use Rattle.std.proofs.lemmas.Option.{slice_get-map}
use Rattle.effect_model.specs.declared.plain.Plain.{Plain}
use Rattle.sig_formula.specs.declared.formula.Formula.{Formula}
use Rattle.sig_formula.specs.Trees.{tree}
use Rattle.formula_text.specs.Canonical.{named, unslotted}
use Rattle.sig_untrack.specs.declared.body.Body.{Body}
use Rattle.sig_untrack.specs.declared.body.Recipe2.{Recipe2}
use Rattle.sig_untrack.specs.declared.body.Recipe2.TheVariants as recipe
use Rattle.sig_untrack.specs.declared.body.Rewire.{Rewire as ARewire}
use Rattle.sig_untrack.specs.declared.body.Stmt.{Stmt}
use Rattle.sig_untrack.specs.declared.body.Stmt.TheVariants as stmt
use Rattle.sig_untrack.specs.declared.body.Stmt.TheVariants.{rolls-Plain}
use Rattle.sig_untrack.specs.declared.body.Stmt.TheOpen.{Stmt-F}
use Rattle.sig_untrack.specs.declared.body.Stmt.TheFolds.{fold-roll-Stmt}
use Rattle.sig_untrack.specs.declared.body.Body.TheViews.{out-Body}
use Rattle.sig_untrack.specs.declared.body.Body.TheFolds.{fold_out-Body}
use Rattle.sig_untrack.specs.Stated as stated
use Rattle.sig_untrack.specs.Stated.{Stated, Rewiring, Bodies, Putting, held_line, no_bodies, before, before_step, bodies_before, put, put_step, rewiring}
use Rattle.body_text.specs.declared.line.Line.{Line}
use Rattle.body_text.specs.declared.line.Line.TheVariants as line
use Rattle.body_text.specs.declared.line.Source.TheVariants as source
use Rattle.body_text.specs.Texts.{TextParts, end_line, parts_text, plain_text, rewire_text, text_at}
use Rattle.body_text.specs.Statements.{Statements, lines_of}
use Rattle.body_text.specs.Grammar.{said_of}
use Rattle.body_text.specs.Printer.{Parts, body_text, effect_at, ended_line, lines_text, meaning, meanings, meant, named_line, rewire_line, rewired_at, source_of, text_of}

-- ---- what stands at a place

pub there : {A B : Type 0} (f : A → B) (xs : List A) (n : ℕ) (x : A) → Some x ≡ slice_get xs n → slice_get (map f xs) n ≡ Some (f x)
there f xs n x e = slice_get-map f xs n ∙ ap (option_map f) (sym e)

pub not_there : {A B : Type 0} (f : A → B) (xs : List A) (n : ℕ) → None ≡ slice_get xs n → slice_get (map f xs) n ≡ None
not_there f xs n e = slice_get-map f xs n ∙ ap (option_map f) (sym e)

-- ---- lines one after the other

lines_more : (ls ms : List Line) → lines_text (ls ++ ms) ≡ lines_text ls ++ lines_text ms
lines_more [] ms = refl
lines_more (l ∷ ls) ms =
    ap (λ (t : List ℕ). ended_line (said_of l) ++ t) (lines_more ls ms) ∙ sym (append_assoc (ended_line (said_of l)) (lines_text ls) (lines_text ms))

-- the lines of a block up to its `end`, and those behind it
block_text : (i s : Statements) → lines_text (lines_of i ++ (line.End ∷ lines_of s)) ≡ text_of i ++ (end_line ++ text_of s)
block_text i s = lines_more (lines_of i) (line.End ∷ lines_of s)

-- ---- statements whose nested effects are written

at_place : (es : List Statements) (n : ℕ) → text_at (map text_of es) n ≡ text_of (effect_at es n)
at_place [] n = refl
at_place (e ∷ es) zero = refl
at_place (e ∷ es) (suc n) = at_place es n

rewired_text : (ts : List (List ℕ)) (rs : List Rewiring) (n : ℕ) (rest : Statements)
    → rewire_text ts (slice_get rs n) ++ text_of rest ≡ text_of (rewired_at ts rs n rest)
rewired_text ts [] n rest = refl
rewired_text ts (r ∷ rs) zero rest = refl
rewired_text ts (r ∷ rs) (suc n) rest = rewired_text ts rs n rest

-- the same places, with the texts of the nested effects
abbrev with_texts : Parts → TextParts
with_texts b = record { targets = b.targets; names = b.names; texts = map text_of b.effects; rewires = b.rewires }

-- the text of statements is that of what they mean
same_text : (b : Parts) (ss : Stated) → parts_text (with_texts b) ss ≡ text_of (meant b ss)
same_text b stated.no_more = refl
same_text b (stated.plain a rest) = ap (λ (k : List ℕ). plain_text (named_line b.targets b.names a) ++ k) (same_text b rest)
same_text b (stated.when x inner rest) =
    let first = ended_line (said_of (line.When (unslotted b.names x))) in
    ap₂ (λ (i k : List ℕ). first ++ (i ++ (end_line ++ k))) (same_text b inner) (same_text b rest)
    ∙ ap (λ (k : List ℕ). first ++ k) (sym (block_text (meant b inner) (meant b rest)))
same_text b (stated.effect n rest) =
    let first = ended_line (said_of line.Effect) in
    ap₂ (λ (i k : List ℕ). first ++ (i ++ (end_line ++ k))) (at_place b.effects n) (same_text b rest)
    ∙ ap (λ (k : List ℕ). first ++ k) (sym (block_text (effect_at b.effects n) (meant b rest)))
same_text b (stated.rewire n rest) =
    ap (λ (k : List ℕ). rewire_text b.targets (slice_get b.rewires n) ++ k) (same_text b rest) ∙ rewired_text b.targets b.rewires n (meant b rest)

-- ---- lines that the program writes

-- text, and what stands behind it
pub put_more : (old new text more whole : List ℕ) → new ≡ old ++ text → whole ≡ text ++ more → new ++ more ≡ old ++ whole
put_more old new text more whole e f = ap (λ (t : List ℕ). t ++ more) e ∙ append_assoc old text more ∙ ap (λ (t : List ℕ). old ++ t) (sym f)

-- a line of four parts, one after the other
pub joined_text : (old a b c new w t s f end whole : List ℕ) → a ≡ old ++ w → b ≡ a ++ t → c ≡ b ++ s → new ≡ c ++ (f ++ end)
    → whole ≡ (w ++ (t ++ (s ++ f))) ++ end → new ≡ old ++ whole
joined_text old a b c new w t s f end whole ea eb ec en ew =
    en ∙ ap (λ (x : List ℕ). x ++ (f ++ end)) (ec ∙ ap (λ (x : List ℕ). x ++ s) (eb ∙ ap (λ (x : List ℕ). x ++ t) ea))
    ∙ regrouped ∙ ap (λ (x : List ℕ). old ++ x) (sym ew)
  where
    regrouped : (((old ++ w) ++ t) ++ s) ++ (f ++ end) ≡ old ++ ((w ++ (t ++ (s ++ f))) ++ end)
    regrouped = simp append_assoc

-- the line of a rewiring to a formula, or to a host formula
module _ (ts : List (List ℕ)) (r : ARewire) where
  pub formula_line : (f : Formula) → r.recipe ≡ recipe.Formula f
      → ended_line (said_of (rewire_line ts (rewiring r))) ≡ ended_line (said_of (line.Rewire (named ts r.target) (source.Formula (unslotted r.names.items (tree f)))))
  formula_line f e = ap (λ (q : Recipe2). ended_line (said_of (line.Rewire (named ts r.target) (source_of (stated.source q) r.names.items)))) e

  pub host_line : (k : ℕ) → r.recipe ≡ recipe.Host k → ended_line (said_of (rewire_line ts (rewiring r))) ≡ ended_line (said_of (line.Rewire (named ts r.target) (source.Host k r.names.items)))
  host_line k e = ap (λ (q : Recipe2). ended_line (said_of (line.Rewire (named ts r.target) (source_of (stated.source q) r.names.items)))) e

-- the text of statements that begin with one of one line
pub line_begins : (h : TextParts) (rest : Stated) (a : Plain ℕ ℕ Formula)
    → parts_text h (put (stmt.Plain a) rest) ≡ plain_text (named_line h.targets h.names (held_line a)) ++ parts_text h rest
line_begins h rest a =
    ap (λ (s : Stmt). parts_text h (put s rest)) (sym (rolls-Plain a))
    ∙ ap (λ (g : Putting). parts_text h (g rest)) (fold-roll-Stmt Putting put_step (Stmt-F.Plain a))

-- what was put is the text of this line, where it is that of one like it
pub line_put : (out new : List ℕ) (ts ns : List (List ℕ)) (a b : Plain ℕ ℕ Formula) → a ≡ b
    → new ≡ out ++ plain_text (named_line ts ns (held_line b)) → new ≡ out ++ plain_text (named_line ts ns (held_line a))
line_put out new ts ns a b is put = put ∙ ap (λ (l : Plain ℕ ℕ Formula). out ++ plain_text (named_line ts ns (held_line l))) (sym is)

-- ---- whole bodies

-- the text of a body that the program holds
abbrev pub text_held : Body → List ℕ
text_held b = body_text (before b no_bodies)

means_first : (b : Body) (rest : Bodies) → meanings (before b rest) ≡ meaning (before b no_bodies) ∷ meanings rest
means_first b rest =
    let opened = fold_out-Body (Bodies → Bodies) before_step b in
    ap (λ (g : Bodies → Bodies). meanings (g rest)) opened ∙ sym (ap (λ (g : Bodies → Bodies). meaning (g no_bodies) ∷ meanings rest) opened)

each_text : (bs : List Body) → map text_held bs ≡ map text_of (meanings (bodies_before bs no_bodies))
each_text [] = refl
each_text (b ∷ bs) =
    ap (λ (ts : List (List ℕ)). text_held b ∷ ts) (each_text bs) ∙ ap (map text_of) (sym (means_first b (bodies_before bs no_bodies)))

-- the places of a body that the program holds, with these texts of its nested effects
abbrev pub body_parts : Body → List (List ℕ) → TextParts
body_parts b texts = record {
  targets = (out-Body b).targets.items;
  names = (out-Body b).names.items;
  texts = texts;
  rewires = map rewiring (out-Body b).rewires.items;
}

-- the text of a body, from those of its nested effects
pub whole_text : (b : Body) (texts : List (List ℕ)) → texts ≡ map text_held (out-Body b).effects.items
    → parts_text (body_parts b texts) (stated.stated (out-Body b).statements.items stated.no_more) ≡ text_held b
whole_text b texts e =
    let o = out-Body b in
    let ss = stated.stated o.statements.items stated.no_more in
    let parts : Parts = record {
      targets = o.targets.items;
      names = o.names.items;
      effects = meanings (bodies_before o.effects.items no_bodies);
      rewires = map rewiring o.rewires.items;
    } in
    ap (λ (ts : List (List ℕ)). parts_text (body_parts b ts) ss) (e ∙ each_text o.effects.items) ∙ same_text parts ss
    ∙ sym (ap (λ (g : Bodies → Bodies). text_of (meaning (g no_bodies))) (fold_out-Body (Bodies → Bodies) before_step b))
