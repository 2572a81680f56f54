use Rattle.std.proofs.Common.{◌≡◌, ◌∙◌, ◌+◌, ◌-◌, ◌<◌, ◌≤◌, ℕ, zero, suc, List, [], ◌∷◌, length, refl, drop, get_or, map, ap, sym, arith}
use Rattle.std.proofs.lemmas.List.{drop_all, drop_more}
use Rattle.sig_formula.specs.declared.formula.Formula.{Formula}
use Rattle.tpl_syntax.specs.declared.line.Line.{Line}
use Rattle.tpl_model.specs.Lines as model
use Rattle.tpl_blocks.specs.Blocks.{held, plain_line}
use Rattle.tpl_blocks.proofs.Stacks.{held_none, one_back}
use Rattle.tpl_blocks.proofs.builder.parts_of.Goals as goal

-- nothing was gone over
none_back : (lines : List (Line Formula)) (at : ℕ) (p : model.Part) (before now : List model.Part) → length lines ≤ at → before ≡ [] → p ≡ model.no_lines →
    now ≡ p ∷ before → now ≡ model.parts_from (suc at) (map plain_line (drop at lines))
none_back lines at p before now h e f g =
    g ∙ (ap (λ z. z ∷ before) f ∙ (ap (λ z. model.no_lines ∷ z) e ∙ sym (ap (λ z. model.parts_from (suc at) (map plain_line z)) (drop_all at lines h))))

-- the line before those that were gone over
line_before : (lines : List (Line Formula)) (x : Line Formula) (at : ℕ) → 0 < at → at ≤ length lines → x ≡ get_or lines (at - 1) x →
    drop (at - 1) lines ≡ x ∷ drop at lines
line_before lines x at h k e =
    let m : at - 1 + 1 ≡ at = omega arith in
    drop_more lines (at - 1) x (omega arith) ∙ (ap (λ z. z ∷ drop (at - 1 + 1) lines) (sym e) ∙ ap (λ n. x ∷ drop n lines) m)

-- all were gone over
all_back : (lines : List (Line Formula)) (at : ℕ) (now : List model.Part) → at ≤ 0 → now ≡ model.parts_from (suc at) (map plain_line (drop at lines)) →
    now ≡ model.parts_from 1 (map plain_line lines)
all_back lines zero now h e = e
all_back lines (suc n) now h e = absurd (omega arith)

pub loop-at-init : goal.loop-at-init
loop-at-init c = record {
  within = omega arith;
  stands = none_back c.args.lines.now (length c.args.lines.now) model.no_lines (held c.new-parts.result.items) (held c.put_end.new.parts.items)
      (omega arith) (ap held c.new-parts.ensures.items ∙ held_none) refl c.in_ok-put_end.ensures;
}

pub loop-at-preserved : goal.loop-at-preserved
loop-at-preserved c = record {
  within = omega arith;
  stands = one_back c.args.lines.now c.index-lines-at.result c.loop-at.at (held c.loop-at.parts.items) (held c.put_line.new.parts.items) (omega arith)
      (line_before c.args.lines.now c.index-lines-at.result c.loop-at.at (omega arith) c.loop-at.invariant.within c.index-lines-at.is)
      c.loop-at.invariant.stands c.in_ok-put_line.ensures;
}

pub returns : goal.returns
returns c = all_back c.args.lines.now c.loop-at.at (held c.loop-at.parts.items) (omega arith) c.loop-at.invariant.stands
