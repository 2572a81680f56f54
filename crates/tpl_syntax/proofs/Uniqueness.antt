-- Lines are exactly one template, or refused for exactly one cause.
use Rattle.std.proofs.Common.{◌≡◌, ◌<◌, ◌^◌, ℕ, List, [], length, map, Option, Some, None, refl, sym, ap, subst, ◌∙◌, inl, inr}
use Rattle.std.specs.Prelude.{Result, Ok, Err, IfOk}
use Rattle.std.proofs.lemmas.Bool.{cases_Bool}
use Rattle.formula_text.specs.Slots.{Wiring, wired}
use Rattle.line_forms.proofs.Shared as lines
use Rattle.script_lines.specs.Lines.{NumberedLine, last_number}
use Rattle.tpl_syntax.specs.declared.fault.TemplateFault.{TemplateFault}
use Rattle.tpl_syntax.specs.declared.fault.TemplateWhy.TheVariants as why
use Rattle.tpl_syntax.specs.declared.judge.ReadLine.{ReadLine}
use Rattle.tpl_syntax.specs.declared.line.Line.{Line}
use Rattle.tpl_syntax.specs.Grammar.{templates, Said, Writes, said_line}
use Rattle.tpl_syntax.specs.Refusals.{fault_at, judged, refusal_of}
use Rattle.tpl_syntax.specs.Lines.{Plan, mapped}
use Rattle.tpl_syntax.specs.Places.{is_closed, places, top}
use Rattle.tpl_syntax.specs.Templates.{Answer, IsRead, faulty, unended, says, answer_of, plan_of, reached, unless_refused}
use Rattle.tpl_syntax.specs.Views.{Whole, Unended, answer_read, judged_read, plan_wired, sound_lines, with_all}
use Rattle.tpl_syntax.proofs.Grammars.{is_grammar}
use Rattle.tpl_syntax.proofs.Judgements.{SaysRead, says_read, all_judged, all_kept, sound}
use Rattle.tpl_syntax.proofs.Names.{few, plan_is}

-- a line says one thing
pub one_line : (bytes : List ℕ) (x y : Said) → Writes x bytes → Writes y bytes → x ≡ y
one_line bytes x y v w = lines.one_writing templates is_grammar bytes x y v w

-- lines are some template, or refused
pub some_answer : (ls : List NumberedLine) → (a : Answer) × IsRead ls a
some_answer ls = elim (lines.lines_or_fault templates is_grammar places top ls) [
  | inr f ↦ (Err (fault_at f.0 why.Syntax), faulty f.0 f.1)
  | inl s ↦ elim (cases_Bool (is_closed (reached top s.0))) [
    | inl e ↦ (answer_of s.0, says s.0 s.1 e)
    | inr e ↦ (Err (fault_at (last_number ls) why.Syntax), unended s.0 s.1 e)
  ]
]

-- lines are one of them
pub one_answer : (ls : List NumberedLine) (a b : Answer) → IsRead ls a → IsRead ls b → a ≡ b
one_answer ls _ _ (faulty k f) (faulty j g) = ap (λ (n : ℕ). Err (fault_at n why.Syntax)) (lines.one_fault templates is_grammar places top ls k j f g)
one_answer ls _ _ (faulty k f) (unended ys t d) = absurd (lines.no_both templates is_grammar places top ls ys k t f)
one_answer ls _ _ (faulty k f) (says ys t d) = absurd (lines.no_both templates is_grammar places top ls ys k t f)
one_answer ls _ _ (unended xs s c) (faulty j g) = absurd (lines.no_both templates is_grammar places top ls xs j s g)
one_answer ls _ _ (unended xs s c) (unended ys t d) = refl
one_answer ls _ _ (unended xs s c) (says ys t d) =
    let same = lines.one_saying templates is_grammar places top ls xs ys s t in
    let bad = sym c ∙ ap (λ (zs : List (ℕ × Said)). is_closed (reached top zs)) same ∙ d in
    absurd cc
one_answer ls _ _ (says xs s c) (faulty j g) = absurd (lines.no_both templates is_grammar places top ls xs j s g)
one_answer ls _ _ (says xs s c) (unended ys t d) =
    let same = lines.one_saying templates is_grammar places top ls xs ys s t in
    let bad = sym c ∙ ap (λ (zs : List (ℕ × Said)). is_closed (reached top zs)) same ∙ d in
    absurd cc
one_answer ls _ _ (says xs s c) (says ys t d) = ap answer_of (lines.one_saying templates is_grammar places top ls xs ys s t)

-- ---- what was read is what lines are

-- lines whose end is missing are refused at the last
pub is_unended : (ls : List NumberedLine) (n : ℕ) → Unended ls → n ≡ last_number ls → IsRead ls (Err (fault_at n why.Syntax))
is_unended ls n u e = subst (λ (k : ℕ). IsRead ls (Err (fault_at k why.Syntax))) (sym e) (unended u.xs u.say u.begun)

answer_at : (xs : List (ℕ × Said)) (o : Option TemplateFault) (ms : List (Line Wiring)) → refusal_of (judged top xs) ≡ o
    → (o ≡ None → ms ≡ map (mapped wired) (map (λ x. said_line x.1) xs)) → unless_refused o (plan_wired ms) ≡ unless_refused o (plan_of (map (λ x. said_line x.1) xs))
answer_at xs (Some f) ms e h = refl
answer_at xs None ms e h = ap (λ (t : Plan). Ok t) (ap plan_wired (h refl) ∙ plan_is (map (λ x. said_line x.1) xs))

-- lines that were read, none of them unended, are what they say
module _ (ls : List NumberedLine) (rs : List ReadLine) (w : Whole ls rs) where
  said : SaysRead top ls rs w.to
  said = says_read top ls rs w.to w.read

  faults_same : map judged_read rs ≡ judged top said.xs
  faults_same = ap (map judged_read) said.is ∙ all_judged top said.xs

  lines_same : refusal_of (judged top said.xs) ≡ None → sound_lines rs ≡ map (mapped wired) (map (λ x. said_line x.1) said.xs)
  lines_same e = ap sound_lines said.is ∙ all_kept top said.xs (sound top said.xs e).0

  -- their names are few where they aren't refused
  pub read_few : refusal_of (map judged_read rs) ≡ None → length (with_all [] (sound_lines rs)) < 2 ^ 32
  read_few e =
      let free : refusal_of (judged top said.xs) ≡ None = ap refusal_of (sym faults_same) ∙ e in
      let s = sound top said.xs free in
      rw (lines_same free) (few top said.xs s.0 s.1)

  pub read_whole : IsRead ls (answer_read rs)
  read_whole =
      let free = ap refusal_of faults_same in
      let same : answer_read rs ≡ answer_of said.xs =
      ap (λ (o : Option TemplateFault). unless_refused o (plan_wired (sound_lines rs))) free
      ∙ answer_at said.xs (refusal_of (judged top said.xs)) (sound_lines rs) refl lines_same in
      subst (λ (a : Answer). IsRead ls a) (sym same) (says said.xs said.say (ap is_closed said.end ∙ w.closed))

-- the answer of what was read
pub is_answer : {E : Type 0} (ls : List NumberedLine) (rs : List ReadLine) (r : Result Answer E) → Whole ls rs
    → ((refusal_of (map judged_read rs) ≡ None → length (with_all [] (sound_lines rs)) < 2 ^ 32) → IfOk r (λ a. a ≡ answer_read rs)) → IfOk r (λ a. IsRead ls a)
is_answer ls rs (Ok a) w h = subst (λ (b : Answer). IsRead ls b) (sym (h (read_few ls rs w))) (read_whole ls rs w)
is_answer ls rs (Err e) w h = h (read_few ls rs w)
