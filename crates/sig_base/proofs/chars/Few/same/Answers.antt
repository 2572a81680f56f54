use Rattle.std.proofs.Common.{◌∙◌, ap, sym, inl, inr}
use Rattle.std.proofs.lemmas.Bool.{cases_Bool}
use Rattle.sig_base.specs.Placed.{placed}
use Rattle.sig_base.specs.declared.chars.TheConstants.{FEW}
use Rattle.sig_base.proofs.Pieces.{told_other, told_same}
use Rattle.sig_base.proofs.Placing.{same_whole}
use Rattle.sig_base.proofs.chars.Few.same.Goals as goal

pub returns : goal.returns
returns c =
    let n = c.args.self.now in
    let m = c.args.other.now in
    let one = c.self.inside.bytes in
    let two = c.other.inside.bytes in
    elim (cases_Bool c.same_arrays.result) [
      | inl e ↦ e ∙ told_same n m (sym c.self.view_is ∙ (ap (placed FEW) (c.same_arrays.ensures.same e) ∙ c.other.view_is))
      | inr e ↦ e ∙ told_other n m (λ k. c.same_arrays.ensures.differ e
          (same_whole FEW one two c.self.invariant c.other.invariant (c.self.view_is ∙ (k ∙ sym c.other.view_is))))
    ]
