use Rattle.std.proofs.Common.{◌-◌, ◌∙◌, length, arith, inl, inr}
use Rattle.std.proofs.lemmas.Bool.{cases_Bool}
use Rattle.sig_base.proofs.Pieces.{told_other, told_same, words_same}
use Rattle.sig_base.proofs.same.same_words.Goals as goal

pub returns : goal.returns
returns c =
    let n = c.args.one.now in
    let m = c.args.other.now in
    let least = c.requires.least in
    let front = c.same_word.ensures.same c.if-not-same_word.false in
    elim (cases_Bool c.same_word-2.result) [
      | inl e ↦ e ∙ told_same n m (words_same n m (length n - 4) c.requires.count (omega (arith, least)) c.requires.most front (c.same_word-2.ensures.same e))
      | inr e ↦ e ∙ told_other n m (c.same_word-2.ensures.differ e)
    ]
