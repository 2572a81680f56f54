-- The line at which lines are no body has one of their numbers.
use Rattle.std.proofs.Common.{◌≡◌, ◌⊎◌, ℕ, Bool, true, false, cond, List, [], ◌∷◌, length, Option, Some, None, refl, sym, ap, ◌∙◌, inl, inr, arith}
use Rattle.std.specs.Prelude.{◌==◌, ◌||◌, nat_lt, option_map, Err}
use Rattle.std.specs.Option.{option_or}
use Rattle.std.proofs.lemmas.Bool.Decides.{nat_tests}
use Rattle.script_lines.specs.Lines.{NumberedLine, last_number}
use Rattle.sig_untrack.specs.Stated.{Bodies}
use Rattle.body_text.specs.declared.allowance.Allowance.{Allowance}
use Rattle.body_text.specs.declared.fault.BodyFault.{BodyFault}
use Rattle.body_text.specs.declared.fault.BodyWhy.{BodyWhy}
use Rattle.body_text.specs.declared.fault.BodyWhy.TheVariants as why
use Rattle.body_text.specs.declared.judge.TheConstants.{MOST_BODY_LINES}
use Rattle.body_text.specs.Grammar as rows
use Rattle.body_text.specs.Refusals.{fault_at, fault_of, first_excess, first_misplaced, judged, judged_at, many_lines, refusal_of}
use Rattle.body_text.specs.Places.{kind_of, moved}
use Rattle.body_text.specs.Verdicts.{Answer, IsFaulty, IsRead, Refuses, Say, Sayings, faulty, says, unended, unless_refused}
use Rattle.body_text.specs.Statements.{body_of}
use Rattle.live_cmd.specs.declared.command.Command.{Command}
use Rattle.script_items.specs.declared.contents.Content.{Content}
use Rattle.script_items.specs.Blocks.{body_content, body_refused, is_memory}
use Rattle.script_items.specs.Views.{number_in}

-- some line has this number
abbrev pub has_number : List NumberedLine → ℕ → Bool
has_number [] k = false
has_number (l ∷ ls) k = (l.0 == k) || has_number ls k

abbrev pub HasNumber : List NumberedLine → ℕ → Type 0
HasNumber ls k = has_number ls k ≡ true

same_number : (n : ℕ) → (n == n) ≡ true
same_number n = grind (arith, nat_tests)

or_first : (b c : Bool) → b ≡ true → (b || c) ≡ true
or_first true c e = refl
or_first false c e = absurd cc

pub has_first : (l : NumberedLine) (ls : List NumberedLine) (k : ℕ) → k ≡ l.0 → HasNumber (l ∷ ls) k
has_first l ls k e = or_first (l.0 == k) (has_number ls k) (rw e (same_number l.0))

or_later : (b c : Bool) → c ≡ true → (b || c) ≡ true
or_later true c e = refl
or_later false c e = e

pub has_later : (l : NumberedLine) (ls : List NumberedLine) (k : ℕ) → HasNumber ls k → HasNumber (l ∷ ls) k
has_later l ls k h = or_later (l.0 == k) (has_number ls k) h

faulty_number : (allowance : Allowance) (depth : ℕ) (ls : List NumberedLine) (k : ℕ) → IsFaulty allowance depth ls k → HasNumber ls k
faulty_number allowance depth [] k f = absurd f
faulty_number allowance depth (l ∷ ls) k (inl f) = has_first l ls k f.0
faulty_number allowance depth (l ∷ ls) k (inr f) = has_later l ls k (faulty_number allowance (moved depth (kind_of (rows.said_line f.0))) ls k f.3)

-- one of them, or 0 where there are none
abbrev pub IsNumber : List NumberedLine → ℕ → Type 0
IsNumber ls k = HasNumber ls k ⊎ (k ≡ 0)

pub number_later : (l : NumberedLine) (ls : List NumberedLine) (k : ℕ) → HasNumber ls k → IsNumber (l ∷ ls) k
number_later l ls k h = inl (has_later l ls k h)

last_has : (l : NumberedLine) (ls : List NumberedLine) → HasNumber (l ∷ ls) (last_number (l ∷ ls))
last_has l [] = has_first l [] l.0 refl
last_has l (m ∷ ls) = has_later l (m ∷ ls) (last_number (m ∷ ls)) (last_has m ls)

-- the number of the last line is one of them
pub last_is : (ls : List NumberedLine) → IsNumber ls (last_number ls)
last_is [] = inr refl
last_is (l ∷ ls) = inl (last_has l ls)

-- ---- what is judged

-- an option is this, or an other is
pub either_some : {A : Type 0} (o p : Option A) (x : A) → option_or o p ≡ Some x → (o ≡ Some x) ⊎ (p ≡ Some x)
either_some None p x e = inr e
either_some (Some y) p x e = inl e

at_number : (k : ℕ) (o : Option BodyWhy) (f : BodyFault) → option_map (fault_at k) o ≡ Some f → f.at ≡ k
at_number k None f e = absurd cc
at_number k (Some w) f e = let same : fault_at k w ≡ f = cc in ap (λ (g : BodyFault). g.at) (sym same)

misplaced_number : (allowance : Allowance) (depth : ℕ) (ls : List NumberedLine) (xs : Sayings) (f : BodyFault) → Say allowance depth ls xs
    → first_misplaced (judged allowance.formulas depth xs) ≡ Some f → HasNumber ls f.at
misplaced_number allowance depth [] [] f s e = absurd cc
misplaced_number allowance depth [] (x ∷ xs) f s e = absurd s
misplaced_number allowance depth (l ∷ ls) [] f s e = absurd s
misplaced_number allowance depth (l ∷ ls) (x ∷ xs) f s e =
    let next = moved depth (kind_of (rows.said_line x.1)) in
    let j = judged_at depth x.0 (kind_of (rows.said_line x.1)) (fault_of allowance.formulas x.1) in
    elim (either_some (option_map (fault_at x.0) j.misplaced) (first_misplaced (judged allowance.formulas next xs)) f e) [
      | inl h ↦ has_first l ls f.at (at_number x.0 j.misplaced f h ∙ s.0)
      | inr h ↦ has_later l ls f.at (misplaced_number allowance next ls xs f s.3 h)
    ]

excess_number : (allowance : Allowance) (depth : ℕ) (ls : List NumberedLine) (xs : Sayings) (f : BodyFault) → Say allowance depth ls xs
    → first_excess (judged allowance.formulas depth xs) ≡ Some f → HasNumber ls f.at
excess_number allowance depth [] [] f s e = absurd cc
excess_number allowance depth [] (x ∷ xs) f s e = absurd s
excess_number allowance depth (l ∷ ls) [] f s e = absurd s
excess_number allowance depth (l ∷ ls) (x ∷ xs) f s e =
    let next = moved depth (kind_of (rows.said_line x.1)) in
    let j = judged_at depth x.0 (kind_of (rows.said_line x.1)) (fault_of allowance.formulas x.1) in
    elim (either_some (option_map (fault_at x.0) j.excess) (first_excess (judged allowance.formulas next xs)) f e) [
      | inl h ↦ has_first l ls f.at (at_number x.0 j.excess f h ∙ s.0)
      | inr h ↦ has_later l ls f.at (excess_number allowance next ls xs f s.3 h)
    ]

-- whether the number of lines is the cause
abbrev is_lines : BodyWhy → Bool
is_lines why.Lines = true
is_lines _ = false

pub many_why : (b : Bool) (f g : BodyFault) → cond b (Some g) None ≡ Some f → f.why ≡ g.why
many_why true f g e = let same : g ≡ f = cc in ap (λ (h : BodyFault). h.why) (sym same)
many_why false f g e = absurd cc

judged_number : (allowance : Allowance) (ls : List NumberedLine) (xs : Sayings) (f : BodyFault) → Say allowance 0 ls xs → refusal_of (judged allowance.formulas 0 xs) ≡ Some f
    → is_lines f.why ≡ false → IsNumber ls f.at
judged_number allowance ls xs f s e n =
    let js = judged allowance.formulas 0 xs in
    elim (either_some (first_misplaced js) (option_or (first_excess js) (many_lines js)) f e) [
      | inl h ↦ inl (misplaced_number allowance 0 ls xs f s h)
      | inr h ↦ elim (either_some (first_excess js) (many_lines js) f h) [
        | inl k ↦ inl (excess_number allowance 0 ls xs f s k)
        | inr k ↦
            let is = many_why (nat_lt MOST_BODY_LINES (length js)) f (fault_at (length js) why.Lines) k in
            let no : is_lines f.why ≡ true = ap is_lines is in
            absurd cc
      ]
    ]

refused_is : (o : Option BodyFault) (b : Bodies) (f : BodyFault) → unless_refused o b ≡ Err f → o ≡ Some f
refused_is None b f e = absurd cc
refused_is (Some g) b f e = let same : g ≡ f = cc in ap (λ (h : BodyFault). Some h) same

-- lines that are no body are refused at one of their numbers, unless they are too many
fault_number : (allowance : Allowance) (ls : List NumberedLine) (a : Answer) (f : BodyFault) → IsRead allowance ls a → a ≡ Err f → is_lines f.why ≡ false → IsNumber ls f.at
fault_number allowance ls _ f (faulty k h) e n =
    let same : fault_at k why.Syntax ≡ f = cc in
    let at : f.at ≡ k = ap (λ (g : BodyFault). g.at) (sym same) in
    inl (rw at (faulty_number allowance 0 ls k h))
fault_number allowance ls _ f (unended xs s h) e n =
    let same : fault_at (last_number ls) why.Syntax ≡ f = cc in
    let at : f.at ≡ last_number ls = ap (λ (g : BodyFault). g.at) (sym same) in
    rw at (last_is ls)
fault_number allowance ls _ f (says xs t s h) e n = judged_number allowance ls xs f s (refused_is (refusal_of (judged allowance.formulas 0 xs)) (body_of t) f e) n

-- ---- the number that is looked for

found_or : (b : Bool) (m n k : ℕ) → (b ≡ true → m ≡ k) → (b ≡ false → n ≡ k) → cond b m n ≡ k
found_or true m n k f g = f refl
found_or false m n k f g = g refl

first_number : (m k : ℕ) → (m == k) ≡ true → m ≡ k
first_number m k e = grind (arith, nat_tests)

without_first : (b c : Bool) → (b || c) ≡ true → b ≡ false → c ≡ true
without_first true c e f = absurd cc
without_first false c e f = e

number_has : (ls : List NumberedLine) (k : ℕ) → HasNumber ls k → number_in ls k ≡ k
number_has [] k h = absurd cc
number_has (l ∷ ls) k h =
    found_or (l.0 == k) l.0 (number_in ls k) k (first_number l.0 k)
    (λ e. number_has ls k (without_first (l.0 == k) (has_number ls k) h e))

number_zero : (ls : List NumberedLine) → number_in ls 0 ≡ 0
number_zero [] = refl
number_zero (l ∷ ls) = found_or (l.0 == 0) l.0 (number_in ls 0) 0 (first_number l.0 0) (λ e. number_zero ls)

pub number_is : (ls : List NumberedLine) (k : ℕ) → IsNumber ls k → number_in ls k ≡ k
number_is ls k (inl h) = number_has ls k h
number_is ls k (inr h) = rw h (number_zero ls)

-- what an answer makes of a body, where this may stand in it
abbrev pub IsMade : Allowance → List NumberedLine → (Bodies → Command) → Content → Type 0
IsMade allowed ls makes c = (a : Answer) × IsRead allowed ls a × (c ≡ body_content makes a)

made_of : (allowed : Allowance) (ls : List NumberedLine) (at n : ℕ) (w : BodyWhy) (c : Content) (makes : Bodies → Command) → IsRead allowed ls (Err (fault_at at w))
    → c ≡ body_refused n w → body_refused n w ≡ body_refused at w → IsMade allowed ls makes c
made_of allowed ls at n w c makes r e f = (Err (fault_at at w), r, e ∙ f)

-- lines that are no body make what their cause says
pub refused_by : (allowed : Allowance) (ls : List NumberedLine) (at n : ℕ) (w : BodyWhy) (c : Content) (makes : Bodies → Command)
    → Refuses allowed ls at w → is_memory w ≡ false → n ≡ number_in ls at → c ≡ body_refused n w → IsMade allowed ls makes c
refused_by allowed ls at n why.Syntax c makes r m g e =
    let is = g ∙ number_is ls at (fault_number allowed ls _ (fault_at at why.Syntax) r refl refl) in
    made_of allowed ls at n why.Syntax c makes r e (ap (λ (k : ℕ). body_refused k why.Syntax) is)
refused_by allowed ls at n why.UntrackHere c makes r m g e =
    let is = g ∙ number_is ls at (fault_number allowed ls _ (fault_at at why.UntrackHere) r refl refl) in
    made_of allowed ls at n why.UntrackHere c makes r e (ap (λ (k : ℕ). body_refused k why.UntrackHere) is)
refused_by allowed ls at n why.ItHere c makes r m g e =
    let is = g ∙ number_is ls at (fault_number allowed ls _ (fault_at at why.ItHere) r refl refl) in
    made_of allowed ls at n why.ItHere c makes r e (ap (λ (k : ℕ). body_refused k why.ItHere) is)
refused_by allowed ls at n why.Nest c makes r m g e =
    let is = g ∙ number_is ls at (fault_number allowed ls _ (fault_at at why.Nest) r refl refl) in
    made_of allowed ls at n why.Nest c makes r e (ap (λ (k : ℕ). body_refused k why.Nest) is)
refused_by allowed ls at n why.Text c makes r m g e = made_of allowed ls at n why.Text c makes r e refl
refused_by allowed ls at n why.Sources c makes r m g e = made_of allowed ls at n why.Sources c makes r e refl
refused_by allowed ls at n why.Lines c makes r m g e = made_of allowed ls at n why.Lines c makes r e refl
refused_by allowed ls at n (why.NoMemory x) c makes r m g e = absurd cc
