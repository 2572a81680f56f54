-- What is judged of lines that were read is judged of what they say.
use Rattle.std.proofs.Common.{◌≡◌, ◌≤◌, ℕ, false, List, [], ◌∷◌, length, map, Option, Some, None, refl, ap, ap₂, ◌∙◌, arith}
use Rattle.std.specs.Prelude.{option_map, Result, Ok, nat_lt}
use Rattle.std.specs.Option.{option_or}
use Rattle.std.proofs.lemmas.Bool.Decides.{nat_tests}
use Rattle.std.proofs.lemmas.List.{length-map}
use Rattle.sig_base.specs.declared.scalar.Scalar.{Scalar}
use Rattle.formula_text.specs.declared.wired.Allow.{Allow}
use Rattle.formula_text.specs.declared.wired.FormulaFault.{FormulaFault}
use Rattle.formula_text.proofs.Shared.{IsRefusal, nothing, untracked, row_here, nest, long, sources, either, formula_refusal, neither, not_chosen}
use Rattle.line_forms.specs.Forms.{Args, Form, Contents, Of, One, Part, arguments, fixed, formula, key, listed, many, one, part, perhaps, value}
use Rattle.line_forms.specs.Told.{fault_along, fault_in, fault_of_arguments, fault_of_list, fault_of_one, fault_of_scalar, first_long, unless_faulty}
use Rattle.script_lines.specs.Lines.{NumberedLine}
use Rattle.body_text.specs.declared.allowance.Allowance.{Allowance}
use Rattle.body_text.specs.declared.fault.BodyWhy.{BodyWhy}
use Rattle.body_text.specs.declared.fault.BodyWhy.TheVariants as why
use Rattle.body_text.specs.declared.judge.ReadLine.{ReadLine}
use Rattle.body_text.specs.declared.line.Line.{Line}
use Rattle.body_text.specs.Grammar.{row, Said, said_line}
use Rattle.body_text.specs.Refusals.{Judged, excess, fault_at, fault_of, first_excess, first_misplaced, high, is_nested, judged, judged_at, many_lines, misplacing, missing, refusal_of}
use Rattle.body_text.specs.Places.{kind_of, moved}
use Rattle.body_text.specs.Verdicts.{Sayings, Say, reached, said_lines}
use Rattle.body_text.specs.Views.{AreRead, fault_told, judged_read, readings, read_of, sound_lines, line_or_fault, with_line}
use Rattle.body_text.proofs.Soundness.{sound_length}

-- ---- lines that were read say something

-- what lines say that were read so
pub record SaysRead (allowance : Allowance) (depth : ℕ) (ls : List NumberedLine) (rs : List ReadLine) (to : ℕ) : Type 0 where
  pub xs : Sayings
  pub say : Say allowance depth ls xs
  pub is : rs ≡ readings allowance.formulas depth xs
  pub end : reached allowance depth xs ≡ to

pub says_read : (allowance : Allowance) (depth : ℕ) (ls : List NumberedLine) (rs : List ReadLine) (to : ℕ) → AreRead allowance depth ls rs to → SaysRead allowance depth ls rs to
says_read allowance depth [] [] to a = record { xs = []; say = tt; is = refl; end = a }
says_read allowance depth [] (r ∷ rs) to a = absurd a
says_read allowance depth (l ∷ ls) [] to a = absurd a
says_read allowance depth (l ∷ ls) (r ∷ rs) to a =
    let rest = says_read allowance (moved depth (kind_of (said_line a.0))) ls rs to a.4 in
    let x : ℕ × Said = (l.0, a.0) in
    record { xs = x ∷ rest.xs; say = (refl, a.1, a.2, rest.say); is = let e = a.3 in let f = rest.is in cc; end = rest.end }

-- ---- one line

told_fault : (o : Option FormulaFault) (l : Line) → fault_told (unless_faulty o l) ≡ o
told_fault None l = refl
told_fault (Some f) l = refl

-- what is judged of a line that was read
judged_same : (allow : Allow) (depth : ℕ) (x : ℕ × Said) → judged_read (read_of allow depth x) ≡ judged_at depth x.0 (kind_of (said_line x.1)) (fault_of allow x.1)
judged_same allow depth x = ap (judged_at depth x.0 (kind_of (said_line x.1))) (told_fault (fault_of allow x.1) (said_line x.1))

-- what is judged of lines that were read
pub all_judged : (allow : Allow) (depth : ℕ) (xs : Sayings) → map judged_read (readings allow depth xs) ≡ judged allow depth xs
all_judged allow depth [] = refl
all_judged allow depth (x ∷ xs) =
    ap₂ (λ (j : Judged) (js : List Judged). j ∷ js) (judged_same allow depth x) (all_judged allow (moved depth (kind_of (said_line x.1))) xs)

-- ---- nothing is wrong with lines that aren't refused

-- what a line can be refused for
arguments_cause : (ns : List (List ℕ)) → IsRefusal (fault_of_arguments ns)
arguments_cause ns = either _ _ _ sources nothing

or_cause : (o q : Option FormulaFault) → IsRefusal o → IsRefusal q → IsRefusal (option_or o q)
or_cause None q c d = d
or_cause (Some f) q c d = c

long_cause : (vs : List Scalar) → IsRefusal (first_long vs)
long_cause [] = nothing
long_cause (v ∷ vs) = or_cause (fault_of_scalar v) (first_long vs) (either _ _ _ long nothing) (long_cause vs)

one_cause : (o : One) (v : Of o) → IsRefusal (fault_of_one o v)
one_cause value v = either _ _ _ long nothing
one_cause key t = either _ _ _ long nothing
one_cause _ v = nothing

list_cause : (o : One) (vs : List (Of o)) → IsRefusal (fault_of_list o vs)
list_cause value vs = long_cause vs
list_cause _ vs = nothing

part_cause : (allow : Allow) (p : Part) (v : Contents p) → IsRefusal (fault_in allow p v)
part_cause allow (one o) v = one_cause o v
part_cause allow (perhaps w o) v = nothing
part_cause allow (many o) vs = list_cause o vs
part_cause allow (listed o) vs = list_cause o vs
part_cause allow arguments ns = arguments_cause ns
part_cause allow formula f = formula_refusal allow f

line_cause : (allow : Allow) (ps : Form) (a : Args ps) → IsRefusal (fault_along allow ps a)
line_cause allow [] a = nothing
line_cause allow (fixed l ∷ ps) a = line_cause allow ps a
line_cause allow (part p ∷ ps) a = or_cause (fault_in allow p a.0) (fault_along allow ps a.1) (part_cause allow p a.0) (line_cause allow ps a.1)

no_cause : (o : Option FormulaFault) → IsRefusal o → missing o ≡ None → high o ≡ None → excess o ≡ None → o ≡ None
no_cause _ nothing m h e = refl
no_cause _ untracked m h e = absurd cc
no_cause _ row_here m h e = absurd cc
no_cause _ nest m h e = absurd cc
no_cause _ long m h e = absurd cc
no_cause _ sources m h e = absurd cc

no_fault : (allow : Allow) (depth : ℕ) (x : Said) → misplacing depth (kind_of (said_line x)) (fault_of allow x) ≡ None → excess (fault_of allow x) ≡ None → fault_of allow x ≡ None
no_fault allow depth x m e =
    let w = fault_of allow x in
    let a = neither (missing w) _ m in
    no_cause w (line_cause allow (row x.0).1 x.1) a.0 (not_chosen (is_nested depth (kind_of (said_line x))) why.Nest (high w) a.1).1 e

-- nothing is wrong with these lines
abbrev pub AllSound : Allow → Sayings → Type 0
AllSound allow [] = Unit {0}
AllSound allow (x ∷ xs) = (fault_of allow x.1 ≡ None) × AllSound allow xs

no_why : (k : ℕ) (o : Option BodyWhy) → option_map (fault_at k) o ≡ None → o ≡ None
no_why k None e = refl
no_why k (Some w) e = absurd cc

sound_by : (allow : Allow) (depth : ℕ) (xs : Sayings) → first_misplaced (judged allow depth xs) ≡ None → first_excess (judged allow depth xs) ≡ None → AllSound allow xs
sound_by allow depth [] m e = tt
sound_by allow depth (x ∷ xs) m e =
    let j = judged_at depth x.0 (kind_of (said_line x.1)) (fault_of allow x.1) in
    let next = moved depth (kind_of (said_line x.1)) in
    let a = neither (option_map (fault_at x.0) j.misplaced) (first_misplaced (judged allow next xs)) m in
    let b = neither (option_map (fault_at x.0) j.excess) (first_excess (judged allow next xs)) e in
    (no_fault allow depth x.1 (no_why x.0 j.misplaced a.0) (no_why x.0 j.excess b.0), sound_by allow next xs a.1 b.1)

-- nothing is wrong with lines that aren't refused
pub sound : (allow : Allow) (depth : ℕ) (xs : Sayings) → refusal_of (judged allow depth xs) ≡ None → AllSound allow xs
sound allow depth xs e =
    let a = neither (first_misplaced (judged allow depth xs)) _ e in
    let b = neither (first_excess (judged allow depth xs)) (many_lines (judged allow depth xs)) a.1 in
    sound_by allow depth xs a.0 b.0

-- ---- they are kept whole

-- the lines that nothing is wrong with are all
pub all_kept : (allow : Allow) (depth : ℕ) (xs : Sayings) → AllSound allow xs → sound_lines (readings allow depth xs) ≡ said_lines xs
all_kept allow depth [] s = refl
all_kept allow depth (x ∷ xs) s =
    let told_whole : line_or_fault allow x.1 ≡ Ok (said_line x.1) = ap (λ (o : Option FormulaFault). unless_faulty o (said_line x.1)) s.0 in
    let next = moved depth (kind_of (said_line x.1)) in
    ap (λ (o : Result Line FormulaFault). with_line o (sound_lines (readings allow next xs))) told_whole
    ∙ ap (λ (ls : List Line). said_line x.1 ∷ ls) (all_kept allow next xs s.1)

not_many : (n : ℕ) → nat_lt 64 n ≡ false → n ≤ 64
not_many n e = grind (arith, nat_tests)

-- lines that aren't refused are few
pub few_read : (rs : List ReadLine) → refusal_of (map judged_read rs) ≡ None → length (sound_lines rs) ≤ 64
few_read rs e =
    let js = map judged_read rs in
    let a = neither (first_misplaced js) _ e in
    let b = neither (first_excess js) (many_lines js) a.1 in
    let n = not_many (length js) (not_chosen (nat_lt 64 (length js)) _ None b.1).0 in
    let same = length-map rs judged_read in
    let fewer = sound_length rs in
    omega arith
