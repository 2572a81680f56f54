-- What is judged of lines that were read is judged of what they say.
use Rattle.std.proofs.Common.{◌≡◌, ℕ, Bool, List, [], ◌∷◌, map, Option, Some, None, refl, ap, ap₂, ◌∙◌}
use Rattle.std.specs.Prelude.{option_map, Ok}
use Rattle.formula_text.specs.declared.wired.Allow.{Allow}
use Rattle.formula_text.specs.declared.wired.FormulaFault.{FormulaFault}
use Rattle.formula_text.specs.Grammar.{Draft}
use Rattle.formula_text.specs.Slots.{Wiring, refusal, wired}
use Rattle.formula_text.proofs.Shared.{IsRefusal, nothing, untracked, row_here, nest, long, sources, formula_refusal, neither, not_chosen}
use Rattle.line_forms.specs.Told.{unless_faulty}
use Rattle.script_lines.specs.Lines.{NumberedLine}
use Rattle.tpl_syntax.specs.declared.fault.TemplateWhy.{TemplateWhy}
use Rattle.tpl_syntax.specs.declared.fault.TemplateWhy.TheVariants as why
use Rattle.tpl_syntax.specs.declared.judge.ReadLine.{ReadLine}
use Rattle.tpl_syntax.specs.declared.line.Line.{Line}
use Rattle.tpl_syntax.specs.declared.line.Line.TheVariants as line
use Rattle.tpl_syntax.specs.declared.line.Purpose.TheVariants as purpose
use Rattle.tpl_syntax.specs.Grammar.{Said, said_line}
use Rattle.tpl_syntax.specs.Refusals.{Judged, allowed, excess, fault_at, fault_of, first_excess, first_misplaced, high, in_element, is_bare_text, is_nested, judged, judged_at, many_lines, misplacing, missing, refusal_of}
use Rattle.tpl_syntax.specs.Lines.{mapped}
use Rattle.tpl_syntax.specs.Places.{Place, content_at, moved, role_of}
use Rattle.tpl_syntax.specs.Templates.{Sayings, Say, reached}
use Rattle.tpl_syntax.specs.Views.{AreRead, bare_seen, fault_seen, fault_told, judged_read, readings, read_of, seen, sound_lines, wired_line, with_line}
use Rattle.tpl_syntax.proofs.Places.{same_role}

-- ---- lines that were read say something

-- what lines say that were read so
pub record SaysRead (p : Place) (ls : List NumberedLine) (rs : List ReadLine) (to : Place) : Type 0 where
  pub xs : Sayings
  pub say : Say p ls xs
  pub is : rs ≡ readings p xs
  pub end : reached p xs ≡ to

pub says_read : (p : Place) (ls : List NumberedLine) (rs : List ReadLine) (to : Place) → AreRead p ls rs to → SaysRead p ls rs to
says_read p [] [] to a = record { xs = []; say = tt; is = refl; end = a }
says_read p [] (r ∷ rs) to a = absurd a
says_read p (l ∷ ls) [] to a = absurd a
says_read p (l ∷ ls) (r ∷ rs) to a =
    let rest = says_read (moved p (said_line a.0)) ls rs to a.4 in
    let x : ℕ × Said = (l.0, a.0) in
    record { xs = x ∷ rest.xs; say = (refl, a.1, a.2, rest.say); is = let e = a.3 in let f = rest.is in cc; end = rest.end }

-- ---- one line

told_fault : (o : Option FormulaFault) (w : Wiring) → fault_told (unless_faulty o w) ≡ o
told_fault None w = refl
told_fault (Some f) w = refl

seen_fault : (p : Place) (l : Line Draft) → fault_seen (mapped (seen (allowed p)) l) ≡ fault_of p l
seen_fault p (line.Plain m) = refl
seen_fault p (line.Over u x) = told_fault (refusal (allowed p) x) (wired x)

seen_bare : (a : Allow) (l : Line Draft) → bare_seen (mapped (seen a) l) ≡ is_bare_text l
seen_bare a (line.Plain m) = refl
seen_bare a (line.Over purpose.Text x) = refl
seen_bare a (line.Over _ x) = refl

-- what is judged of a line that was read
judged_same : (p : Place) (x : ℕ × Said) → judged_read (read_of p x) ≡ judged_at p x.0 (said_line x.1)
judged_same p x =
    let l = said_line x.1 in
    let a = allowed p in
    let found = mapped (seen a) l in
    let whole : ℕ → Option TemplateWhy → Option TemplateWhy → Judged = λ k m e. record { number = k; misplaced = m; excess = e } in
    let placed : misplacing p (fault_seen found) (bare_seen found) (role_of found) ≡ misplacing p (fault_of p l) (is_bare_text l) (role_of l) =
    ap (misplacing p (fault_seen found) (bare_seen found)) (same_role (seen a) l)
    ∙ ap (λ (w : Option FormulaFault). misplacing p w (bare_seen found) (role_of l)) (seen_fault p l)
    ∙ ap (λ (b : Bool). misplacing p (fault_of p l) b (role_of l)) (seen_bare a l) in
    let much : excess (fault_seen found) ≡ excess (fault_of p l) = ap excess (seen_fault p l) in
    ap₂ (whole x.0) placed much

-- what is judged of lines that were read
pub all_judged : (p : Place) (xs : Sayings) → map judged_read (readings p xs) ≡ judged p xs
all_judged p [] = refl
all_judged p (x ∷ xs) =
    ap₂ (λ (j : Judged) (js : List Judged). j ∷ js) (judged_same p x) (all_judged (moved p (said_line x.1)) xs)

-- ---- nothing is wrong with lines that aren't refused

-- what a line can be refused for
line_refusal : (p : Place) (l : Line Draft) → IsRefusal (fault_of p l)
line_refusal p (line.Plain m) = nothing
line_refusal p (line.Over u x) = formula_refusal (allowed p) x

no_cause : (o : Option FormulaFault) → IsRefusal o → missing o ≡ None → high o ≡ None → excess o ≡ None → o ≡ None
no_cause _ nothing m h e = refl
no_cause _ untracked m h e = absurd cc
no_cause _ row_here m h e = absurd cc
no_cause _ nest m h e = absurd cc
no_cause _ long m h e = absurd cc
no_cause _ sources m h e = absurd cc

no_fault : (p : Place) (l : Line Draft) → misplacing p (fault_of p l) (is_bare_text l) (role_of l) ≡ None → excess (fault_of p l) ≡ None → fault_of p l ≡ None
no_fault p l m e =
    let w = fault_of p l in
    let a = neither (missing w) _ m in
    let b = neither (in_element (content_at p.levels) (is_bare_text l) (role_of l)) _ a.1 in
    no_cause w (line_refusal p l) a.0 (not_chosen (is_nested p (role_of l)) why.Nest (high w) b.1).1 e

-- nothing is wrong with the formulas of these lines
abbrev pub AllSound : Place → Sayings → Type 0
AllSound p [] = Unit {0}
AllSound p (x ∷ xs) = (fault_of p (said_line x.1) ≡ None) × AllSound (moved p (said_line x.1)) xs

-- a line in which nothing is wrong has no fault
pub no_why : (k : ℕ) (o : Option TemplateWhy) → option_map (fault_at k) o ≡ None → o ≡ None
no_why k None e = refl
no_why k (Some w) e = absurd cc

sound_by : (p : Place) (xs : Sayings) → first_misplaced (judged p xs) ≡ None → first_excess (judged p xs) ≡ None → AllSound p xs
sound_by p [] m e = tt
sound_by p (x ∷ xs) m e =
    let l = said_line x.1 in
    let j = judged_at p x.0 l in
    let rest = judged (moved p l) xs in
    let a = neither (option_map (fault_at x.0) j.misplaced) (first_misplaced rest) m in
    let b = neither (option_map (fault_at x.0) j.excess) (first_excess rest) e in
    (no_fault p l (no_why x.0 j.misplaced a.0) (no_why x.0 j.excess b.0), sound_by (moved p l) xs a.1 b.1)

-- nothing is wrong with lines that aren't refused, and they are few
pub sound : (p : Place) (xs : Sayings) → refusal_of (judged p xs) ≡ None → AllSound p xs × (many_lines (judged p xs) ≡ None)
sound p xs e =
    let a = neither (first_misplaced (judged p xs)) _ e in
    let b = neither (first_excess (judged p xs)) (many_lines (judged p xs)) a.1 in
    (sound_by p xs a.0 b.0, b.1)

-- ---- they are kept whole

told_wired : (a : Allow) (x : Draft) → refusal a x ≡ None → unless_faulty (refusal a x) (wired x) ≡ Ok (wired x)
told_wired a x e = ap (λ (o : Option FormulaFault). unless_faulty o (wired x)) e

line_wired : (p : Place) (l : Line Draft) → fault_of p l ≡ None → wired_line (mapped (seen (allowed p)) l) ≡ Some (mapped wired l)
line_wired p (line.Plain m) e = refl
line_wired p (line.Over u x) e = rw (told_wired (allowed p) x e) refl

-- the lines that nothing is wrong with are all
pub all_kept : (p : Place) (xs : Sayings) → AllSound p xs → sound_lines (readings p xs) ≡ map (mapped wired) (map (λ x. said_line x.1) xs)
all_kept p [] s = refl
all_kept p (x ∷ xs) s =
    let l = said_line x.1 in
    ap (λ (o : Option (Line Wiring)). with_line o (sound_lines (readings (moved p l) xs))) (line_wired p l s.0)
    ∙ ap (λ (ls : List (Line Wiring)). mapped wired l ∷ ls) (all_kept (moved p l) xs s.1)
