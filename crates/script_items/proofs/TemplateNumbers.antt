-- The line at which lines are no template has one of their numbers.
use Rattle.std.proofs.Common.{◌≡◌, ℕ, Bool, true, false, cond, List, [], ◌∷◌, length, map, Option, Some, None, sym, ap, ◌∙◌, refl, inl, inr}
use Rattle.std.specs.Prelude.{nat_lt, option_map, Err}
use Rattle.std.specs.Option.{option_or}
use Rattle.sig_base.specs.declared.limits.TheConstants.{MOST_TEMPLATE_LINES}
use Rattle.script_lines.specs.Lines.{NumberedLine, last_number}
use Rattle.tpl_syntax.specs.declared.fault.TemplateFault.{TemplateFault}
use Rattle.tpl_syntax.specs.declared.fault.TemplateWhy.{TemplateWhy}
use Rattle.tpl_syntax.specs.declared.fault.TemplateWhy.TheVariants as why
use Rattle.tpl_syntax.specs.Grammar.{said_line}
use Rattle.tpl_syntax.specs.Refusals.{fault_at, first_excess, first_misplaced, judged, judged_at, many_lines, refusal_of}
use Rattle.tpl_syntax.specs.Lines.{Plan}
use Rattle.tpl_syntax.specs.Places.{Place, moved, top}
use Rattle.tpl_syntax.specs.Templates.{Answer, IsFaulty, IsRead, Refuses, Say, Sayings, faulty, plan_of, says, unended, unless_refused}
use Rattle.script_items.specs.declared.contents.Content.{Content}
use Rattle.script_items.specs.Blocks.{is_want, template_content, template_refused}
use Rattle.script_items.specs.Views.{number_in}
use Rattle.script_items.proofs.Numbers.{HasNumber, IsNumber, either_some, has_first, has_later, last_is, number_is}

faulty_number : (p : Place) (ls : List NumberedLine) (k : ℕ) → IsFaulty p ls k → HasNumber ls k
faulty_number p [] k f = absurd f
faulty_number p (l ∷ ls) k (inl f) = has_first l ls k f.0
faulty_number p (l ∷ ls) k (inr f) = has_later l ls k (faulty_number (moved p (said_line f.0)) ls k f.3)

at_number : (k : ℕ) (o : Option TemplateWhy) (f : TemplateFault) → option_map (fault_at k) o ≡ Some f → f.at ≡ k
at_number k None f e = absurd cc
at_number k (Some w) f e = let same : fault_at k w ≡ f = cc in ap (λ (g : TemplateFault). g.at) (sym same)

misplaced_number : (p : Place) (ls : List NumberedLine) (xs : Sayings) (f : TemplateFault) → Say p ls xs
    → first_misplaced (judged p xs) ≡ Some f → HasNumber ls f.at
misplaced_number p [] [] f s e = absurd cc
misplaced_number p [] (x ∷ xs) f s e = absurd s
misplaced_number p (l ∷ ls) [] f s e = absurd s
misplaced_number p (l ∷ ls) (x ∷ xs) f s e =
    let next = moved p (said_line x.1) in
    let j = judged_at p x.0 (said_line x.1) in
    elim (either_some (option_map (fault_at x.0) j.misplaced) (first_misplaced (judged next xs)) f e) [
      | inl h ↦ has_first l ls f.at (at_number x.0 j.misplaced f h ∙ s.0)
      | inr h ↦ has_later l ls f.at (misplaced_number next ls xs f s.3 h)
    ]

excess_number : (p : Place) (ls : List NumberedLine) (xs : Sayings) (f : TemplateFault) → Say p ls xs
    → first_excess (judged p xs) ≡ Some f → HasNumber ls f.at
excess_number p [] [] f s e = absurd cc
excess_number p [] (x ∷ xs) f s e = absurd s
excess_number p (l ∷ ls) [] f s e = absurd s
excess_number p (l ∷ ls) (x ∷ xs) f s e =
    let next = moved p (said_line x.1) in
    let j = judged_at p x.0 (said_line x.1) in
    elim (either_some (option_map (fault_at x.0) j.excess) (first_excess (judged next xs)) f e) [
      | inl h ↦ has_first l ls f.at (at_number x.0 j.excess f h ∙ s.0)
      | inr h ↦ has_later l ls f.at (excess_number next ls xs f s.3 h)
    ]

-- whether the number of lines is the cause
abbrev is_lines : TemplateWhy → Bool
is_lines why.Lines = true
is_lines _ = false

many_why : (b : Bool) (f g : TemplateFault) → cond b (Some g) None ≡ Some f → f.why ≡ g.why
many_why true f g e = let same : g ≡ f = cc in ap (λ (h : TemplateFault). h.why) (sym same)
many_why false f g e = absurd cc

judged_number : (ls : List NumberedLine) (xs : Sayings) (f : TemplateFault) → Say top ls xs → refusal_of (judged top xs) ≡ Some f
    → is_lines f.why ≡ false → IsNumber ls f.at
judged_number ls xs f s e n =
    let js = judged top xs in
    elim (either_some (first_misplaced js) (option_or (first_excess js) (many_lines js)) f e) [
      | inl h ↦ inl (misplaced_number top ls xs f s h)
      | inr h ↦ elim (either_some (first_excess js) (many_lines js) f h) [
        | inl k ↦ inl (excess_number top ls xs f s k)
        | inr k ↦
            let is = many_why (nat_lt MOST_TEMPLATE_LINES (length js)) f (fault_at (length js) why.Lines) k in
            let no : is_lines f.why ≡ true = ap is_lines is in
            absurd cc
      ]
    ]

refused_is : (o : Option TemplateFault) (t : Plan) (f : TemplateFault) → unless_refused o t ≡ Err f → o ≡ Some f
refused_is None t f e = absurd cc
refused_is (Some g) t f e = let same : g ≡ f = cc in ap (λ (h : TemplateFault). Some h) same

-- lines that are no template are refused at one of their numbers, unless they are too many
fault_number : (ls : List NumberedLine) (a : Answer) (f : TemplateFault) → IsRead ls a → a ≡ Err f → is_lines f.why ≡ false → IsNumber ls f.at
fault_number ls _ f (faulty k h) e n =
    let same : fault_at k why.Syntax ≡ f = cc in
    let at : f.at ≡ k = ap (λ (g : TemplateFault). g.at) (sym same) in
    inl (rw at (faulty_number top ls k h))
fault_number ls _ f (unended xs s h) e n =
    let same : fault_at (last_number ls) why.Syntax ≡ f = cc in
    let at : f.at ≡ last_number ls = ap (λ (g : TemplateFault). g.at) (sym same) in
    rw at (last_is ls)
fault_number ls _ f (says xs s h) e n =
    judged_number ls xs f s (refused_is (refusal_of (judged top xs)) (plan_of (map (λ x. said_line x.1) xs)) f e) n

-- what an answer makes of a template
abbrev pub IsMade : List NumberedLine → List ℕ → Content → Type 0
IsMade ls n c = (a : Answer) × IsRead ls a × (c ≡ template_content n a)

made_of : (ls : List NumberedLine) (at n : ℕ) (w : TemplateWhy) (c : Content) (name : List ℕ) → IsRead ls (Err (fault_at at w))
    → c ≡ template_refused n w → template_refused n w ≡ template_refused at w → IsMade ls name c
made_of ls at n w c name r e f = (Err (fault_at at w), r, e ∙ f)

module _ (ls : List NumberedLine) (at n : ℕ) (c : Content) (name : List ℕ) where
  -- a cause with a line has the line's own number
  numbered_by : (w : TemplateWhy) → IsRead ls (Err (fault_at at w)) → is_lines w ≡ false → n ≡ number_in ls at → c ≡ template_refused n w → IsMade ls name c
  numbered_by w r l g e =
      let is = g ∙ number_is ls at (fault_number ls _ (fault_at at w) r refl l) in
      made_of ls at n w c name r e (ap (λ (k : ℕ). template_refused k w) is)

  -- lines that are no template make what their cause says
  pub template_refused_by : (w : TemplateWhy) → Refuses ls at w → is_want w ≡ false → n ≡ number_in ls at → c ≡ template_refused n w → IsMade ls name c
  template_refused_by why.Syntax r m g e = numbered_by why.Syntax r refl g e
  template_refused_by why.UntrackHere r m g e = numbered_by why.UntrackHere r refl g e
  template_refused_by why.ItHere r m g e = numbered_by why.ItHere r refl g e
  template_refused_by why.VoidChild r m g e = numbered_by why.VoidChild r refl g e
  template_refused_by why.RawText r m g e = numbered_by why.RawText r refl g e
  template_refused_by why.Nest r m g e = numbered_by why.Nest r refl g e
  template_refused_by why.Text r m g e = made_of ls at n why.Text c name r e refl
  template_refused_by why.Sources r m g e = made_of ls at n why.Sources c name r e refl
  template_refused_by why.Lines r m g e = made_of ls at n why.Lines c name r e refl
  template_refused_by (why.NoMemory x) r m g e = absurd cc
