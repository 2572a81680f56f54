-- The lines of a template say the template.
use Rattle.std.proofs.Common.{◌≡◌, ℕ, ◌+◌, suc, true, List, [], ◌∷◌, length, map, flat_map, Option, Some, None, refl, sym, ap, ap₂, subst, ◌∙◌}
use Rattle.std.specs.Prelude.{Ok, option_map}
use Rattle.std.specs.List.{AllByRecursion}
use Rattle.formula_text.specs.Canonical.{unslotted}
use Rattle.formula_text.specs.Grammar.{Draft}
use Rattle.formula_text.specs.Refusals.{slotted, with_names}
use Rattle.formula_text.proofs.Shared.{HasEach, each_there, keeps_each, named_again}
use Rattle.line_forms.specs.Forms.{Args}
use Rattle.line_forms.specs.Blocks.{said_all}
use Rattle.line_forms.proofs.Shared.{IsWhole, all_whole, each_again, kept_said, reached_again, renumbered, say_again}
use Rattle.script_lines.specs.Lines.{NumberedLine, kept_lines, numbered}
use Rattle.tpl_syntax.specs.declared.fault.TemplateFault.{TemplateFault}
use Rattle.tpl_syntax.specs.declared.fault.TemplateWhy.{TemplateWhy}
use Rattle.tpl_syntax.specs.declared.line.Line.{Line}
use Rattle.tpl_syntax.specs.declared.line.Line.TheVariants as line
use Rattle.tpl_syntax.specs.Grammar.{Row, row, templates, Said, text, said_line}
use Rattle.tpl_syntax.specs.Refusals.{fault_at, first_excess, first_misplaced, judged, many_lines, refusal_of}
use Rattle.tpl_syntax.specs.Lines.{Plan, formula_of, mapped}
use Rattle.tpl_syntax.specs.Places.{Place, is_closed, moved, places, top}
use Rattle.tpl_syntax.specs.Templates.{Answer, IsRead, faulty, unended, says, Say, Sayings, answer_of, names_of, plan_of, reached, unless_refused, with_formula, with_lines}
use Rattle.tpl_syntax.specs.Printer.{bytes_of, ended_line, lines_of_plan, plan_text, said_by, said_in, said_of}
use Rattle.formula_text.proofs.Shared.{neither}

-- ---- a line says again what it said

said_back : (r : Row) (a : Args (row r).1) → said_of (said_line (r, a)) ≡ (r, a)
said_back text a = refl
said_back _ a = refl

-- each name of the line's formula is there
abbrev HasLine : List (List ℕ) → Line Draft → Type 0
HasLine ns (line.Plain m) = Unit {0}
HasLine ns (line.Over p x) = HasEach ns x

line_back : (ns : List (List ℕ)) (l : Line Draft) → HasLine ns l → mapped (unslotted ns) (mapped (slotted ns) l) ≡ l
line_back ns (line.Plain m) h = refl
line_back ns (line.Over p x) h = ap (line.Over p) (named_again ns x h)

-- each name of the lines' formulas is there
abbrev HasLines : List (List ℕ) → List (Line Draft) → Type 0
HasLines ns [] = Unit {0}
HasLines ns (l ∷ ls) = HasLine ns l × HasLines ns ls

keeps_line : (ns : List (List ℕ)) (x : Draft) (l : Line Draft) → HasLine ns l → HasLine (with_names ns x) l
keeps_line ns x (line.Plain m) h = tt
keeps_line ns x (line.Over p y) h = keeps_each ns x y h

keeps_formula : (ns : List (List ℕ)) (o : Option Draft) (l : Line Draft) → HasLine ns l → HasLine (with_formula ns o) l
keeps_formula ns None l h = h
keeps_formula ns (Some x) l h = keeps_line ns x l h

keeps_lines : (ns : List (List ℕ)) (ls : List (Line Draft)) (l : Line Draft) → HasLine ns l → HasLine (with_lines ns ls) l
keeps_lines ns [] l h = h
keeps_lines ns (m ∷ ls) l h = keeps_lines (with_formula ns (formula_of m)) ls l (keeps_formula ns (formula_of m) l h)

line_there : (ns : List (List ℕ)) (l : Line Draft) → HasLine (with_formula ns (formula_of l)) l
line_there ns (line.Plain m) = tt
line_there ns (line.Over p x) = each_there ns x

lines_there : (ns : List (List ℕ)) (ls : List (Line Draft)) → HasLines (with_lines ns ls) ls
lines_there ns [] = tt
lines_there ns (l ∷ ls) =
    let more = with_formula ns (formula_of l) in
    (keeps_lines more ls l (line_there ns l), lines_there more ls)

all_back : (ns : List (List ℕ)) (xs : Sayings) → HasLines ns (map (λ x. said_line x.1) xs)
    → map (said_in ns) (map (mapped (slotted ns)) (map (λ x. said_line x.1) xs)) ≡ said_all xs
all_back ns [] h = refl
all_back ns (x ∷ xs) h =
    ap₂ (λ (y : Said) (ys : List Said). y ∷ ys) (ap said_of (line_back ns (said_line x.1) h.0) ∙ said_back x.1.0 x.1.1) (all_back ns xs h.1)

-- the lines of a template say what was said
said_again : (xs : Sayings) → said_by (plan_of (map (λ x. said_line x.1) xs)) ≡ said_all xs
said_again xs = all_back (names_of (map (λ x. said_line x.1) xs)) xs (lines_there [] (map (λ x. said_line x.1) xs))

-- ---- from 0 on

at_other : (j k : ℕ) (o : Option TemplateWhy) → option_map (fault_at k) o ≡ None → option_map (fault_at j) o ≡ None
at_other j k None e = refl
at_other j k (Some w) e = absurd cc

none_misplaced : (p : Place) (n : ℕ) (xs : Sayings) → first_misplaced (judged p xs) ≡ None → first_misplaced (judged p (renumbered n xs)) ≡ None
none_misplaced p n [] e = refl
none_misplaced p n (x ∷ xs) e =
    let rest = judged (moved p (said_line x.1)) xs in
    let both = neither (option_map (fault_at x.0) _) (first_misplaced rest) e in
    rw (at_other n x.0 _ both.0) (none_misplaced (moved p (said_line x.1)) (n + 1) xs both.1)

none_excess : (p : Place) (n : ℕ) (xs : Sayings) → first_excess (judged p xs) ≡ None → first_excess (judged p (renumbered n xs)) ≡ None
none_excess p n [] e = refl
none_excess p n (x ∷ xs) e =
    let rest = judged (moved p (said_line x.1)) xs in
    let both = neither (option_map (fault_at x.0) _) (first_excess rest) e in
    rw (at_other n x.0 _ both.0) (none_excess (moved p (said_line x.1)) (n + 1) xs both.1)

same_count : (p : Place) (n : ℕ) (xs : Sayings) → length (judged p (renumbered n xs)) ≡ length (judged p xs)
same_count p n [] = refl
same_count p n (x ∷ xs) = ap (λ (k : ℕ). suc k) (same_count (moved p (said_line x.1)) (n + 1) xs)

none_refused : (p : Place) (n : ℕ) (xs : Sayings) → refusal_of (judged p xs) ≡ None → refusal_of (judged p (renumbered n xs)) ≡ None
none_refused p n xs e =
    let a = neither (first_misplaced (judged p xs)) _ e in
    let b = neither (first_excess (judged p xs)) _ a.1 in
    let many : many_lines (judged p (renumbered n xs)) ≡ None = rw (same_count p n xs) b.1 in
    rw (none_misplaced p n xs a.0, none_excess p n xs b.0) many

-- ---- a template is read back

-- what lines say that are this template
record Done (ls : List NumberedLine) (t : Plan) : Type 0 where
  xs : Sayings
  say : Say top ls xs
  closed : is_closed (reached top xs) ≡ true
  sound : refusal_of (judged top xs) ≡ None
  is : plan_of (map (λ x. said_line x.1) xs) ≡ t

parted : (r : Option TemplateFault) (u t : Plan) → unless_refused r u ≡ Ok t → (r ≡ None) × (u ≡ t)
parted None u t e = (refl, cc)
parted (Some f) u t e = absurd cc

done_by : (ls : List NumberedLine) (t : Plan) (a : Answer) → IsRead ls a → a ≡ Ok t → Done ls t
done_by ls t _ (faulty k f) e = absurd cc
done_by ls t _ (unended xs s c) e = absurd cc
done_by ls t _ (says xs s c) e =
    let both = parted (refusal_of (judged top xs)) (plan_of (map (λ x. said_line x.1) xs)) t e in
    record { xs = xs; say = s; closed = c; sound = both.0; is = both.1 }

said_is : (ls : List NumberedLine) (t : Plan) (d : Done ls t) → said_by t ≡ said_all d.xs
said_is ls t d = ap said_by (sym d.is) ∙ said_again d.xs

-- the lines of the text are those that are written
pub lines_are : (ls : List NumberedLine) (t : Plan) → IsRead ls (Ok t) → kept_lines 0 (plan_text t) ≡ lines_of_plan t
lines_are ls t r =
    let d = done_by ls t (Ok t) r refl in
    let same = said_is ls t d in
    ap (λ (xs : List Said). kept_lines 0 (flat_map ended_line xs)) same ∙ kept_said templates 0 (said_all d.xs) (all_whole templates places top ls d.xs d.say)
    ∙ ap (λ (xs : List Said). numbered 0 (map bytes_of xs)) (sym same)

-- ---- with other numbers

-- what lines say that are a template, as it is written
pub record Written (ls : List NumberedLine) (t : Plan) : Type 0 where
  pub xs : Sayings
  pub say : Say top ls xs
  pub closed : is_closed (reached top xs) ≡ true
  pub said : said_by t ≡ map (λ x. x.1) xs

-- a template says what its lines said
pub written : (ls : List NumberedLine) (t : Plan) → IsRead ls (Ok t) → Written ls t
written ls t r =
    let d = done_by ls t (Ok t) r refl in
    record { xs = d.xs; say = d.say; closed = d.closed; said = said_is ls t d }

-- the lines are read as the template, whatever their numbers
pub read_anew : (n : ℕ) (ls : List NumberedLine) (t : Plan) → IsRead ls (Ok t) → IsRead (numbered n (map bytes_of (said_by t))) (Ok t)
read_anew n ls t r =
    let d = done_by ls t (Ok t) r refl in
    let again = renumbered n d.xs in
    let same : numbered n (map bytes_of (said_by t)) ≡ numbered n (map bytes_of (said_all d.xs)) =
    ap (λ (xs : List Said). numbered n (map bytes_of xs)) (said_is ls t d) in
    let whole : answer_of again ≡ Ok t =
    ap (λ (o : Option TemplateFault). unless_refused o (plan_of (map (λ x. said_line x.1) again))) (none_refused top n d.xs d.sound)
    ∙ ap (λ (xs : List (Line Draft)). Ok (plan_of xs)) (each_again said_line n d.xs) ∙ ap (λ (u : Plan). Ok u) d.is in
    let closed : is_closed (reached top again) ≡ true = ap is_closed (reached_again places top d.xs n) ∙ d.closed in
    let read : IsRead (numbered n (map bytes_of (said_all d.xs))) (answer_of again) = says again (say_again templates places top ls d.xs n d.say) closed in
    subst (λ (ms : List NumberedLine). IsRead ms (Ok t)) (sym same)
    (subst (λ (a : Answer). IsRead (numbered n (map bytes_of (said_all d.xs))) a) whole read)

-- the text is read as the template
pub read_back : (ls : List NumberedLine) (t : Plan) → IsRead ls (Ok t) → IsRead (kept_lines 0 (plan_text t)) (Ok t)
read_back ls t r = subst (λ (ms : List NumberedLine). IsRead ms (Ok t)) (sym (lines_are ls t r)) (read_anew 0 ls t r)

-- each is one line, which isn't passed over
pub whole_lines : (ls : List NumberedLine) (t : Plan) → IsRead ls (Ok t)
    → AllByRecursion IsWhole (map bytes_of (said_by t))
whole_lines ls t r =
    let d = done_by ls t (Ok t) r refl in
    subst (λ (xs : List Said). AllByRecursion IsWhole (map bytes_of xs)) (sym (said_is ls t d)) (all_whole templates places top ls d.xs d.say)
