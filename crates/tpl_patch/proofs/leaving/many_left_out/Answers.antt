use Rattle.std.proofs.Common.{not, ◌∙◌}
use Rattle.page_model.specs.Pages.{those}
use Rattle.tpl_patch.proofs.leaving.many_left_out.Goals as goal

pub returns : goal.returns
returns c = c.in_ok-left.ensures ∙ (λ i. those (λ n. not (c.in_ok-set.ensures n i)) c.args.numbers.now)
