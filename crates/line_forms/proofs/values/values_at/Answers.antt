use Rattle.std.proofs.Common.{sym, ◌∙◌, inl, inr}
use Rattle.std.proofs.lemmas.Result.{err_from_is_err_and}
use Rattle.line_forms.specs.Forms.{value}
use Rattle.line_forms.specs.Told.{ahead}
use Rattle.line_forms.proofs.Listed.{first_list}
use Rattle.line_forms.proofs.Causes.{either}
use Rattle.line_forms.proofs.values.values_at.Goals as goal

pub returns-in_err-held : goal.returns-in_err-held
returns-in_err-held c =
    let read = c.in_ok-first.ensures.exact in
    let p = err_from_is_err_and c.from_residual-in_err-held.result c.from_residual-in_err-held.ensures.1 in
    elim (either c.in_err-held.field-0.0) [
      | inl e ↦
          rw (p.1, p.2, e)
          (first_list value (ahead c.args.line.now c.args.tokens.now c.args.at) (ahead c.args.line.now c.args.tokens.now c.in_ok-at.at)
          (ahead c.args.line.now c.args.tokens.now c.in_ok-first.after) read.0 c.in_ok-at.ensures.exact c.in_default.ensures.exact (sym read.1)
          ∙ sym (rw e at (c.in_err-held.ensures read.0 read.2)))
      | inr e ↦ rw (p.1, p.2, e.1) tt
    ]

pub returns : goal.returns
returns c =
    let read = c.in_ok-first.ensures.exact in
    let all = c.in_ok-held.ensures read.0 read.2 in (
      all.0,
      first_list value (ahead c.args.line.now c.args.tokens.now c.args.at) (ahead c.args.line.now c.args.tokens.now c.in_ok-at.at)
          (ahead c.args.line.now c.args.tokens.now c.in_ok-first.after) read.0 c.in_ok-at.ensures.exact c.in_default.ensures.exact (sym read.1)
          ∙ sym all.1,
      c.in_ok-shared.ensures all.0 all.2,
    )
