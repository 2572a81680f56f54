-- A body that lines are is one that a script can have.
use Rattle.std.proofs.Common.{◌≡◌, ◌≤◌, ◌&&◌, ℕ, nat_lt, not, arith, Bool, true, false, cond, List, [], ◌∷◌, length, Option, Some, None, refl, sym, ap, subst, ◌∙◌}
use Rattle.std.specs.Prelude.{Ok, Err, option_map}
use Rattle.std.specs.List.{AllByRecursion}
use Rattle.std.specs.Option.{option_or}
use Rattle.std.proofs.lemmas.Bool.{and_from}
use Rattle.std.proofs.lemmas.Bool.Decides.{nat_tests}
use Rattle.std.proofs.lemmas.List.{length-map}
use Rattle.sig_base.specs.declared.limits.TheConstants.{MOST_HEIGHT, MOST_SOURCES}
use Rattle.sig_untrack.specs.Stated.{Bodies}
use Rattle.formula_text.specs.declared.wired.Allow.{Allow}
use Rattle.formula_text.specs.declared.wired.FormulaFault.{FormulaFault}
use Rattle.formula_text.specs.declared.wired.FormulaFault.TheVariants as fault
use Rattle.formula_text.specs.Refusals.{has_long_text, has_untrack, is_above, names, needs_row}
use Rattle.script_lines.specs.Lines.{NumberedLine}
use Rattle.body_text.specs.declared.allowance.Allowance.{Allowance}
use Rattle.body_text.specs.declared.allowance.StatementSet.TheVariants as set
use Rattle.body_text.specs.declared.fault.BodyFault.{BodyFault}
use Rattle.body_text.specs.declared.judge.TheConstants.{MOST_BODY_LINES}
use Rattle.line_forms.specs.Forms.{Args}
use Rattle.body_text.specs.declared.line.LineKind.TheVariants as kind
use Rattle.body_text.specs.Grammar.{Row, row, said_line, set, rewire, host}
use Rattle.body_text.specs.Refusals.{excess, fault_at, fault_of, first_excess, first_misplaced, judged, judged_at, many_lines, misplacing, refusal_of}
use Rattle.body_text.specs.Places.{kind_of, moved}
use Rattle.body_text.specs.Verdicts.{Answer, IsRead, Sayings, faulty, unended, says, said_lines, unless_refused}
use Rattle.body_text.specs.Statements.{Statements, body_of, lines_of}
use Rattle.live_model.specs.Uses.{count_in_bodies, is_fit}
use Rattle.live_model.proofs.Bodies.{IsFewLine, all_linked, few_in_body}

-- ---- what isn't refused

pub neither : {A : Type 0} (o q : Option A) → option_or o q ≡ None → (o ≡ None) × (q ≡ None)
neither None q e = (refl, e)
neither (Some x) q e = absurd cc

-- an answer that is none was none
none_of : {A B : Type 0} (f : A → B) (o : Option A) → option_map f o ≡ None → o ≡ None
none_of f None e = refl
none_of f (Some x) e = absurd cc

-- what a formula is refused for, by the tests of it
abbrev fault_by : Bool → Bool → Bool → Bool → Bool → Option FormulaFault
fault_by untracks row high long many =
    cond untracks (Some fault.UntrackHere)
    (cond row (Some fault.ItHere) (cond high (Some fault.Nest) (cond long (Some fault.TextLong) (cond many (Some fault.Sources) None))))

-- one for which its line isn't refused has few names
few_told : (depth : ℕ) (u r h l m : Bool) → misplacing depth (kind.Plain set.All) (option_or (fault_by u r h l m) None) ≡ None
    → excess (option_or (fault_by u r h l m) None) ≡ None → m ≡ false
few_told depth u r h l false a b = refl
few_told depth true r h l true a b = absurd cc
few_told depth false true h l true a b = absurd cc
few_told depth false false true l true a b = absurd cc
few_told depth false false false true true a b = absurd cc
few_told depth false false false false true a b = absurd cc

-- so it is with the arguments of a host formula
few_arguments : (m : Bool) → excess (option_or (cond m (Some fault.Sources) None) None) ≡ None → m ≡ false
few_arguments false e = refl
few_arguments true e = absurd cc

-- a line that isn't refused
few_said : (allow : Allow) (depth : ℕ) (r : Row) (t : Args (row r).1) → misplacing depth (kind_of (said_line (r, t))) (fault_of allow (r, t)) ≡ None
    → excess (fault_of allow (r, t)) ≡ None → IsFewLine (said_line (r, t))
few_said allow depth rewire (n, (x, tt)) a b =
    few_told depth (has_untrack x && not allow.untrack) (needs_row x && not allow.row) (is_above MOST_HEIGHT x) (has_long_text x) (nat_lt MOST_SOURCES (length (names x))) a b
few_said allow depth host (n, (k, (ns, tt))) a b = few_arguments (nat_lt MOST_SOURCES (length ns)) b
few_said allow depth set t a b = tt
few_said allow depth _ t a b = tt

all_few : (allow : Allow) (depth : ℕ) (xs : Sayings) → first_misplaced (judged allow depth xs) ≡ None → first_excess (judged allow depth xs) ≡ None
    → AllByRecursion IsFewLine (said_lines xs)
all_few allow depth [] a b = tt
all_few allow depth (x ∷ xs) a b =
    let j = judged_at depth x.0 (kind_of (said_line x.1)) (fault_of allow x.1) in
    let next = moved depth (kind_of (said_line x.1)) in
    let c = neither (option_map (fault_at x.0) j.misplaced) (first_misplaced (judged allow next xs)) a in
    let d = neither (option_map (fault_at x.0) j.excess) (first_excess (judged allow next xs)) b in
    (few_said allow depth x.1.0 x.1.1 (none_of (fault_at x.0) j.misplaced c.0) (none_of (fault_at x.0) j.excess d.0), all_few allow next xs c.1 d.1)

-- ---- a body that isn't refused

judged_count : (allow : Allow) (depth : ℕ) (xs : Sayings) → length (judged allow depth xs) ≡ length xs
judged_count allow depth [] = refl
judged_count allow depth (x ∷ xs) = let rest = judged_count allow (moved depth (kind_of (said_line x.1))) xs in omega (arith, rest)

not_many : (m : Bool) (f : BodyFault) → cond m (Some f) None ≡ None → m ≡ false
not_many false f e = refl
not_many true f e = absurd cc

-- no more than what isn't too much is not too much
fewer : (most n m : ℕ) → nat_lt most n ≡ false → m ≤ n → not (nat_lt most m) ≡ true
fewer most n m e le = grind (arith, nat_tests)

fit_body : (allow : Allow) (xs : Sayings) (s : Statements) → said_lines xs ≡ lines_of s → refusal_of (judged allow 0 xs) ≡ None → is_fit (body_of s) ≡ true
fit_body allow xs s same e =
    let a = neither (first_misplaced (judged allow 0 xs)) (option_or (first_excess (judged allow 0 xs)) (many_lines (judged allow 0 xs))) e in
    let b = neither (first_excess (judged allow 0 xs)) (many_lines (judged allow 0 xs)) a.1 in
    let few = subst (AllByRecursion IsFewLine) same (all_few allow 0 xs a.0 b.0) in
    let short = not_many (nat_lt MOST_BODY_LINES (length (judged allow 0 xs))) _ b.1 in
    let count = judged_count allow 0 xs in
    let lines : length xs ≡ length (lines_of s) = sym (length-map xs (λ x. said_line x.1)) ∙ ap length same in
    let least = few_in_body s in
    and_from _ _ (all_linked s few) (fewer MOST_BODY_LINES (length (judged allow 0 xs)) (count_in_bodies (body_of s)) short (omega (arith, count, lines, least)))

-- what lines are, if they are a body
abbrev IsFitAnswer : Answer → Type 0
IsFitAnswer (Ok b) = is_fit b ≡ true
IsFitAnswer (Err f) = Unit {0}

unless_fit : (o : Option BodyFault) (b : Bodies) → (o ≡ None → is_fit b ≡ true) → IsFitAnswer (unless_refused o b)
unless_fit None b h = h refl
unless_fit (Some f) b h = tt

answer_fit : (allowance : Allowance) (ls : List NumberedLine) (x : Answer) → IsRead allowance ls x → IsFitAnswer x
answer_fit allowance ls _ (faulty k f) = tt
answer_fit allowance ls _ (unended xs say begun) = tt
answer_fit allowance ls _ (says xs s say same) = unless_fit (refusal_of (judged allowance.formulas 0 xs)) (body_of s) (fit_body allowance.formulas xs s same)

-- a body that lines are
pub body_read : (allowance : Allowance) (ls : List NumberedLine) (b : Bodies) → IsRead allowance ls (Ok b) → is_fit b ≡ true
body_read allowance ls b is = answer_fit allowance ls (Ok b) is
