-- Lines are exactly one body, or refused for exactly one cause.
use Rattle.std.proofs.Common.{◌≡◌, ◌<◌, ℕ, List, map, Option, None, refl, sym, ap, ap₂, subst, ◌∙◌, inl, inr, arith}
use Rattle.std.specs.Prelude.{Result, Ok, Err, IfOk, ◌==◌, true, false}
use Rattle.std.proofs.lemmas.Bool.{cases_Bool}
use Rattle.std.proofs.lemmas.Bool.Decides.{nat_tests}
use Rattle.line_forms.proofs.Shared as lines
use Rattle.script_lines.specs.Lines.{NumberedLine, last_number}
use Rattle.sig_untrack.specs.declared.body.Body.{Body}
use Rattle.body_text.specs.declared.allowance.Allowance.{Allowance}
use Rattle.body_text.specs.declared.fault.BodyFault.{BodyFault}
use Rattle.body_text.specs.declared.fault.BodyWhy.TheVariants as why
use Rattle.body_text.specs.declared.judge.ReadLine.{ReadLine}
use Rattle.body_text.specs.Grammar.{bodies, Said, Writes}
use Rattle.body_text.specs.Refusals.{fault_at, judged, refusal_of}
use Rattle.body_text.specs.Places.{places}
use Rattle.body_text.specs.Verdicts.{Answer, IsRead, faulty, unended, says, answer_of, reached, said_lines, unless_refused}
use Rattle.body_text.specs.Statements.{Statements, body_of, lines_of}
use Rattle.body_text.specs.Views.{AreRead, Unended, answer_held, judged_read, sound_lines}
use Rattle.body_text.proofs.Grammars.{is_grammar}
use Rattle.body_text.proofs.Judgements.{SaysRead, says_read, all_judged, all_kept, sound}
use Rattle.body_text.proofs.Blocks.{ends_all, some_spelled, spelled}

-- a line says one thing
pub one_line : (bytes : List ℕ) (x y : Said) → Writes x bytes → Writes y bytes → x ≡ y
one_line bytes x y v w = lines.one_writing bodies is_grammar bytes x y v w

is_zero : (n : ℕ) → (n == 0) ≡ true → n ≡ 0
is_zero n e = grind (arith, nat_tests)

is_more : (n : ℕ) → (n == 0) ≡ false → 0 < n
is_more n e = grind (arith, nat_tests)

-- lines are some body, or refused
pub some_answer : (allowance : Allowance) (ls : List NumberedLine) → (a : Answer) × IsRead allowance ls a
some_answer allowance ls = elim (lines.lines_or_fault bodies is_grammar (places allowance) 0 ls) [
  | inr f ↦ (Err (fault_at f.0 why.Syntax), faulty f.0 f.1)
  | inl s ↦ elim (cases_Bool (reached allowance 0 s.0 == 0)) [
    | inl e ↦ let t = some_spelled allowance ls s.0 s.1 (is_zero (reached allowance 0 s.0) e) in (answer_of allowance s.0 t.0, says s.0 t.0 s.1 t.1)
    | inr e ↦ (Err (fault_at (last_number ls) why.Syntax), unended s.0 s.1 (is_more (reached allowance 0 s.0) e))
  ]
]

not_both : (n : ℕ) → n ≡ 0 → 0 < n → ⊥
not_both n e h = omega arith

-- lines are one of them
pub one_answer : (allowance : Allowance) (ls : List NumberedLine) (a b : Answer) → IsRead allowance ls a → IsRead allowance ls b → a ≡ b
one_answer allowance ls _ _ (faulty k f) (faulty j g) = ap (λ (n : ℕ). Err (fault_at n why.Syntax)) (lines.one_fault bodies is_grammar (places allowance) 0 ls k j f g)
one_answer allowance ls _ _ (faulty k f) (unended ys t d) = absurd (lines.no_both bodies is_grammar (places allowance) 0 ls ys k t f)
one_answer allowance ls _ _ (faulty k f) (says ys u t d) = absurd (lines.no_both bodies is_grammar (places allowance) 0 ls ys k t f)
one_answer allowance ls _ _ (unended xs s c) (faulty j g) = absurd (lines.no_both bodies is_grammar (places allowance) 0 ls xs j s g)
one_answer allowance ls _ _ (unended xs s c) (unended ys t d) = refl
one_answer allowance ls _ _ (unended xs s c) (says ys u t d) =
    let same = lines.one_saying bodies is_grammar (places allowance) 0 ls xs ys s t in
    absurd (not_both (reached allowance 0 xs) (ap (reached allowance 0) same ∙ ends_all allowance ys u d) c)
one_answer allowance ls _ _ (says xs u s c) (faulty j g) = absurd (lines.no_both bodies is_grammar (places allowance) 0 ls xs j s g)
one_answer allowance ls _ _ (says xs u s c) (unended ys t d) =
    let same = lines.one_saying bodies is_grammar (places allowance) 0 ls ys xs t s in
    absurd (not_both (reached allowance 0 ys) (ap (reached allowance 0) same ∙ ends_all allowance xs u c) d)
one_answer allowance ls _ _ (says xs u s c) (says ys v t d) =
    let same = lines.one_saying bodies is_grammar (places allowance) 0 ls xs ys s t in
    ap₂ (answer_of allowance) same (spelled u v (sym c ∙ ap said_lines same ∙ d))

-- ---- what was read is what lines are

-- lines whose end is missing are refused at the last
pub is_unended : (allowance : Allowance) (ls : List NumberedLine) (n : ℕ) → Unended allowance ls → n ≡ last_number ls → IsRead allowance ls (Err (fault_at n why.Syntax))
is_unended allowance ls n u e = subst (λ (k : ℕ). IsRead allowance ls (Err (fault_at k why.Syntax))) (sym e) (unended u.xs u.say u.begun)

-- lines that were read, none of them unended, spell something, and are what they say
module _ (allowance : Allowance) (ls : List NumberedLine) (rs : List ReadLine) (a : AreRead allowance 0 ls rs 0) where
  said : SaysRead allowance 0 ls rs 0
  said = says_read allowance 0 ls rs 0 a

  statements : (s : Statements) × (said_lines said.xs ≡ lines_of s)
  statements = some_spelled allowance ls said.xs said.say said.end

  faults_same : map judged_read rs ≡ judged allowance.formulas 0 said.xs
  faults_same = ap (map judged_read) said.is ∙ all_judged allowance.formulas 0 said.xs

  lines_same : refusal_of (map judged_read rs) ≡ None → sound_lines rs ≡ lines_of statements.0
  lines_same e = ap sound_lines said.is ∙ all_kept allowance.formulas 0 said.xs (sound allowance.formulas 0 said.xs (ap refusal_of (sym faults_same) ∙ e)) ∙ statements.1

  read_whole : IsRead allowance ls (unless_refused (refusal_of (map judged_read rs)) (body_of statements.0))
  read_whole =
      subst (λ (o : Option BodyFault). IsRead allowance ls (unless_refused o (body_of statements.0))) (sym (ap refusal_of faults_same))
      (says said.xs statements.0 said.say statements.1)

  -- the answer of what was read
  pub is_answer : {E : Type 0} (r : Result (Result Body BodyFault) E)
      → ((s : Statements) → (refusal_of (map judged_read rs) ≡ None → sound_lines rs ≡ lines_of s)
      → IfOk r (λ b. answer_held b ≡ unless_refused (refusal_of (map judged_read rs)) (body_of s)))
      → IfOk r (λ b. IsRead allowance ls (answer_held b))
  is_answer (Ok b) h = subst (λ (x : Answer). IsRead allowance ls x) (sym (h statements.0 lines_same)) read_whole
  is_answer (Err e) h = h statements.0 lines_same
