use Rattle.std.proofs.Common.{◌≡◌, ◌+◌, length, sym, ap, subst, ◌∙◌}
use Rattle.page_model.specs.Forest.{Forest, after, keys, node, none}
use Rattle.page_model.specs.Labels.{Look, Root}
use Rattle.tpl_blocks.specs.Blocks.{block}
use Rattle.tpl_model.specs.KeptLines.Kept.{kept}
use Rattle.tpl_model.specs.ShownNodes.Shapes.{all_shown}
use Rattle.tpl_live.specs.Pages.{shown_in}
use Rattle.tpl_live.proofs.plan.numbers_of.Goals as goal

pub read_numbers-requires : goal.read_numbers-requires
read_numbers-requires c =
    let below = shown_in (block c.args.lines.now) (kept c.args.memo.now) in
    let e : all_shown c.put_shown.new.out.items ≡ below =
    c.in_ok-put_shown.ensures ∙ ap (λ z. after (all_shown z) below) c.new-shown.ensures.items in
    subst (λ (z : Forest Look). length (keys z) + 1 ≡ length (keys c.args.tree.now)) (sym e) c.requires

pub returns-clause-lines : goal.returns-clause-lines
returns-clause-lines c = λ p q shape stands.
    let below = shown_in (block c.args.lines.now) (kept c.args.memo.now) in
    let e : all_shown c.put_shown.new.out.items ≡ below =
    c.in_ok-put_shown.ensures ∙ ap (λ z. after (all_shown z) below) c.new-shown.ensures.items in
    c.in_ok-numbers.ensures.lines p q (shape ∙ ap (λ (z : Forest Look). node 0 Root z none) (sym e)) stands

pub returns-clause-numbers : goal.returns-clause-numbers
returns-clause-numbers c = λ p q shape stands.
    let below = shown_in (block c.args.lines.now) (kept c.args.memo.now) in
    let e : all_shown c.put_shown.new.out.items ≡ below =
    c.in_ok-put_shown.ensures ∙ ap (λ z. after (all_shown z) below) c.new-shown.ensures.items in
    c.in_ok-numbers.ensures.numbers p q (shape ∙ ap (λ (z : Forest Look). node 0 Root z none) (sym e)) stands
