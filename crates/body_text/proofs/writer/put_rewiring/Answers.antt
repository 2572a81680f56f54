use Rattle.std.proofs.Common.{ℕ, List, [], ◌∷◌, ◌++◌, codes, ap, ◌∙◌}
use Rattle.sig_formula.specs.Trees.{tree}
use Rattle.sig_words.specs.Lexemes.{word}
use Rattle.formula_text.specs.Canonical.{named, unslotted}
use Rattle.line_forms.specs.Forms as forms
use Rattle.line_forms.specs.Printed.{form_text, part_text}
use Rattle.body_text.proofs.Texts.{formula_line, host_line, joined_text}
use Rattle.body_text.proofs.writer.put_rewiring.Goals as goal

pub returns-in_ok-put_formula-in-Formula : goal.returns-in_ok-put_formula-in-Formula
returns-in_ok-put_formula-in-Formula c =
    let ts = c.args.targets.now in
    let r = c.args.rewire.now in
    joined_text c.args.out.now.items _ _ _ _ (codes "rewire") (part_text (forms.one forms.name) (named ts r.target)) (32 ∷ codes "=")
    (form_text (forms.part forms.formula ∷ []) (unslotted r.names.items (tree c.in-Formula.formula), tt)) (10 ∷ []) _
    c.in_ok-extend_from_slice.ensures.items c.in_ok-put_target.ensures c.in_ok-put_fixed.ensures
    (c.in_ok-put_formula-in-Formula.ensures
    ∙ ap (λ (ns : List (List ℕ)). c.put_fixed.new.out.items ++ (form_text (forms.part forms.formula ∷ []) (unslotted ns (tree c.in-Formula.formula), tt) ++ 10 ∷ []))
    c.as_slice-names.ensures.value) (formula_line ts r c.in-Formula.formula c.in-Formula.is)

pub returns-in_ok-put_host-in-Host : goal.returns-in_ok-put_host-in-Host
returns-in_ok-put_host-in-Host c =
    let ts = c.args.targets.now in
    let r = c.args.rewire.now in
    joined_text c.args.out.now.items _ _ _ _ (codes "rewire") (part_text (forms.one forms.name) (named ts r.target)) (32 ∷ codes "=")
    (form_text (forms.fixed (word (codes "host")) ∷ forms.part (forms.one forms.count) ∷ forms.part forms.arguments ∷ [])
    (c.in-Host.place, (r.names.items, tt))) (10 ∷ []) _
    c.in_ok-extend_from_slice.ensures.items c.in_ok-put_target.ensures c.in_ok-put_fixed.ensures
    (rw c.as_slice-names.ensures.value at c.in_ok-put_host-in-Host.ensures) (host_line ts r c.in-Host.place c.in-Host.is)
