-- The lines of a body say the body.
use Rattle.std.proofs.Common.{◌≡◌, ℕ, ◌+◌, suc, List, [], ◌∷◌, ◌++◌, length, map, flat_map, Option, Some, None, refl, sym, ap, ap₂, subst, ◌∙◌}
use Rattle.std.specs.Prelude.{Ok, option_map}
use Rattle.std.specs.List.{AllByRecursion}
use Rattle.line_forms.specs.Forms.{Args}
use Rattle.line_forms.specs.Blocks.{said_all}
use Rattle.line_forms.proofs.Shared.{IsWhole, all_whole, each_again, kept_said, renumbered, say_again}
use Rattle.formula_text.specs.declared.wired.Allow.{Allow}
use Rattle.script_lines.specs.Lines.{NumberedLine, kept_lines, numbered}
use Rattle.sig_untrack.specs.Stated.{Bodies}
use Rattle.body_text.specs.declared.allowance.Allowance.{Allowance}
use Rattle.body_text.specs.declared.fault.BodyFault.{BodyFault}
use Rattle.body_text.specs.declared.fault.BodyWhy.{BodyWhy}
use Rattle.body_text.specs.declared.line.Line.{Line}
use Rattle.body_text.specs.Grammar.{Row, row, bodies, Said, said_line, set, said_of}
use Rattle.body_text.specs.Refusals.{fault_at, first_excess, first_misplaced, judged, many_lines, refusal_of}
use Rattle.body_text.specs.Places.{kind_of, moved, places}
use Rattle.body_text.specs.Verdicts.{Answer, IsRead, faulty, unended, says, Say, Sayings, answer_of, said_lines, unless_refused}
use Rattle.body_text.specs.Statements.{Statements, body_of, lines_of}
use Rattle.body_text.specs.Printer.{body_text, bytes_of, ended_line, lines_of_text, lines_text, meaning, text_of}
use Rattle.formula_text.proofs.Shared.{neither}
use Rattle.body_text.proofs.Semantics.{meant_back}

-- ---- a line says again what it said

said_back : (r : Row) (a : Args (row r).1) → said_of (said_line (r, a)) ≡ (r, a)
said_back set a = refl
said_back _ a = refl

all_back : (xs : Sayings) → map said_of (said_lines xs) ≡ said_all xs
all_back [] = refl
all_back (x ∷ xs) = ap₂ (λ (y : Said) (ys : List Said). y ∷ ys) (said_back x.1.0 x.1.1) (all_back xs)

text_is : (ls : List Line) → lines_text ls ≡ flat_map ended_line (map said_of ls)
text_is [] = refl
text_is (l ∷ ls) = ap (λ (bs : List ℕ). ended_line (said_of l) ++ bs) (text_is ls)

-- the text of the statements that were said is that of the sayings
said_text : (xs : Sayings) (s : Statements) → said_lines xs ≡ lines_of s → text_of s ≡ flat_map ended_line (said_all xs)
said_text xs s e =
    ap lines_text (sym e) ∙ text_is (said_lines xs) ∙ ap (λ (ys : List Said). flat_map ended_line ys) (all_back xs)

bytes_same : (ls : List Line) → map (λ l. bytes_of (said_of l)) ls ≡ map bytes_of (map said_of ls)
bytes_same [] = refl
bytes_same (l ∷ ls) = ap (λ (bs : List (List ℕ)). bytes_of (said_of l) ∷ bs) (bytes_same ls)

-- ---- from 0 on

at_other : (j k : ℕ) (o : Option BodyWhy) → option_map (fault_at k) o ≡ None → option_map (fault_at j) o ≡ None
at_other j k None e = refl
at_other j k (Some w) e = absurd cc

none_misplaced : (allow : Allow) (depth n : ℕ) (xs : Sayings) → first_misplaced (judged allow depth xs) ≡ None → first_misplaced (judged allow depth (renumbered n xs)) ≡ None
none_misplaced allow depth n [] e = refl
none_misplaced allow depth n (x ∷ xs) e =
    let next = moved depth (kind_of (said_line x.1)) in
    let both = neither (option_map (fault_at x.0) _) (first_misplaced (judged allow next xs)) e in
    rw (at_other n x.0 _ both.0) (none_misplaced allow next (n + 1) xs both.1)

none_excess : (allow : Allow) (depth n : ℕ) (xs : Sayings) → first_excess (judged allow depth xs) ≡ None → first_excess (judged allow depth (renumbered n xs)) ≡ None
none_excess allow depth n [] e = refl
none_excess allow depth n (x ∷ xs) e =
    let next = moved depth (kind_of (said_line x.1)) in
    let both = neither (option_map (fault_at x.0) _) (first_excess (judged allow next xs)) e in
    rw (at_other n x.0 _ both.0) (none_excess allow next (n + 1) xs both.1)

same_count : (allow : Allow) (depth n : ℕ) (xs : Sayings) → length (judged allow depth (renumbered n xs)) ≡ length (judged allow depth xs)
same_count allow depth n [] = refl
same_count allow depth n (x ∷ xs) = ap (λ (k : ℕ). suc k) (same_count allow (moved depth (kind_of (said_line x.1))) (n + 1) xs)

none_refused : (allow : Allow) (depth n : ℕ) (xs : Sayings) → refusal_of (judged allow depth xs) ≡ None → refusal_of (judged allow depth (renumbered n xs)) ≡ None
none_refused allow depth n xs e =
    let a = neither (first_misplaced (judged allow depth xs)) _ e in
    let b = neither (first_excess (judged allow depth xs)) _ a.1 in
    let many : many_lines (judged allow depth (renumbered n xs)) ≡ None = rw (same_count allow depth n xs) b.1 in
    rw (none_misplaced allow depth n xs a.0, none_excess allow depth n xs b.0) many

-- ---- a body is read back

-- what lines say that are this body
record Done (allowance : Allowance) (ls : List NumberedLine) (b : Bodies) : Type 0 where
  xs : Sayings
  statements : Statements
  say : Say allowance 0 ls xs
  spelled : said_lines xs ≡ lines_of statements
  sound : refusal_of (judged allowance.formulas 0 xs) ≡ None
  is : body_of statements ≡ b

parted : (r : Option BodyFault) (u b : Bodies) → unless_refused r u ≡ Ok b → (r ≡ None) × (u ≡ b)
parted None u b e = (refl, cc)
parted (Some f) u b e = absurd cc

done_by : (allowance : Allowance) (ls : List NumberedLine) (b : Bodies) (a : Answer) → IsRead allowance ls a → a ≡ Ok b → Done allowance ls b
done_by allowance ls b _ (faulty k f) e = absurd cc
done_by allowance ls b _ (unended xs s c) e = absurd cc
done_by allowance ls b _ (says xs t s c) e =
    let both = parted (refusal_of (judged allowance.formulas 0 xs)) (body_of t) b e in
    record { xs = xs; statements = t; say = s; spelled = c; sound = both.0; is = both.1 }

means : (allowance : Allowance) (ls : List NumberedLine) (b : Bodies) (d : Done allowance ls b) → meaning b ≡ d.statements
means allowance ls b d = ap meaning (sym d.is) ∙ meant_back d.statements

numbered_lines : (allowance : Allowance) (ls : List NumberedLine) (b : Bodies) (d : Done allowance ls b) → kept_lines 0 (body_text b) ≡ numbered 0 (map bytes_of (said_all d.xs))
numbered_lines allowance ls b d =
    ap (λ (s : Statements). kept_lines 0 (text_of s)) (means allowance ls b d) ∙ ap (kept_lines 0) (said_text d.xs d.statements d.spelled)
    ∙ kept_said bodies 0 (said_all d.xs) (all_whole bodies (places allowance) 0 ls d.xs d.say)

-- the lines of the text are those that are written
pub lines_are : (allowance : Allowance) (ls : List NumberedLine) (b : Bodies) → IsRead allowance ls (Ok b) → kept_lines 0 (body_text b) ≡ lines_of_text (meaning b)
lines_are allowance ls b r =
    let d = done_by allowance ls b (Ok b) r refl in
    let same : map bytes_of (said_all d.xs) ≡ map (λ l. bytes_of (said_of l)) (lines_of d.statements) =
    ap (map bytes_of) (sym (all_back d.xs)) ∙ sym (bytes_same (said_lines d.xs)) ∙ ap (map (λ l. bytes_of (said_of l))) d.spelled in
    numbered_lines allowance ls b d ∙ ap (numbered 0) same ∙ ap lines_of_text (sym (means allowance ls b d))

-- the text is read as the body
pub read_back : (allowance : Allowance) (ls : List NumberedLine) (b : Bodies) → IsRead allowance ls (Ok b) → IsRead allowance (kept_lines 0 (body_text b)) (Ok b)
read_back allowance ls b r =
    let d = done_by allowance ls b (Ok b) r refl in
    let again = renumbered 0 d.xs in
    let whole : answer_of allowance again d.statements ≡ Ok b =
    ap (λ (o : Option BodyFault). unless_refused o (body_of d.statements)) (none_refused allowance.formulas 0 0 d.xs d.sound) ∙ ap (λ (c : Bodies). Ok c) d.is in
    let read : IsRead allowance (numbered 0 (map bytes_of (said_all d.xs))) (answer_of allowance again d.statements) =
    says again d.statements (say_again bodies (places allowance) 0 ls d.xs 0 d.say) (each_again said_line 0 d.xs ∙ d.spelled) in
    subst (λ (a : Answer). IsRead allowance (kept_lines 0 (body_text b)) a) whole
    (subst (λ (ms : List NumberedLine). IsRead allowance ms (answer_of allowance again d.statements)) (sym (numbered_lines allowance ls b d)) read)

-- ---- with other numbers

-- the bytes of a body's lines
abbrev pub bytes_in : Bodies → List (List ℕ)
bytes_in b = map (λ l. bytes_of (said_of l)) (lines_of (meaning b))

same_lines : (allowance : Allowance) (ls : List NumberedLine) (b : Bodies) (d : Done allowance ls b) → map bytes_of (said_all d.xs) ≡ bytes_in b
same_lines allowance ls b d =
    ap (map bytes_of) (sym (all_back d.xs)) ∙ sym (bytes_same (said_lines d.xs)) ∙ ap (map (λ l. bytes_of (said_of l))) d.spelled
    ∙ ap (λ (s : Statements). map (λ l. bytes_of (said_of l)) (lines_of s)) (sym (means allowance ls b d))

-- the lines are read as the body, whatever their numbers
pub read_anew : (allowance : Allowance) (n : ℕ) (ls : List NumberedLine) (b : Bodies) → IsRead allowance ls (Ok b) → IsRead allowance (numbered n (bytes_in b)) (Ok b)
read_anew allowance n ls b r =
    let d = done_by allowance ls b (Ok b) r refl in
    let again = renumbered n d.xs in
    let whole : answer_of allowance again d.statements ≡ Ok b =
    ap (λ (o : Option BodyFault). unless_refused o (body_of d.statements)) (none_refused allowance.formulas 0 n d.xs d.sound) ∙ ap (λ (c : Bodies). Ok c) d.is in
    let read : IsRead allowance (numbered n (map bytes_of (said_all d.xs))) (answer_of allowance again d.statements) =
    says again d.statements (say_again bodies (places allowance) 0 ls d.xs n d.say) (each_again said_line n d.xs ∙ d.spelled) in
    subst (λ (a : Answer). IsRead allowance (numbered n (bytes_in b)) a) whole
    (subst (λ (ms : List (List ℕ)). IsRead allowance (numbered n ms) (answer_of allowance again d.statements)) (same_lines allowance ls b d) read)

-- each is one line, which isn't passed over
pub whole_lines : (allowance : Allowance) (ls : List NumberedLine) (b : Bodies) → IsRead allowance ls (Ok b) → AllByRecursion IsWhole (bytes_in b)
whole_lines allowance ls b r =
    let d = done_by allowance ls b (Ok b) r refl in
    subst (AllByRecursion IsWhole) (same_lines allowance ls b d) (all_whole bodies (places allowance) 0 ls d.xs d.say)
