use Rattle.sig_base.specs.declared.limits.TheConstants.{MOST_LINE}
use Rattle.std.proofs.Common.{◌≤◌, ◌∷◌, List, length, ap, arith}
use Rattle.script_lines.specs.declared.line.NumberedLine.{NumberedLine}
use Rattle.script_items.proofs.Held.{all_parted, block_held, no_head_held, none_held}
use Rattle.script_items.proofs.block.block_of.Goals as goal

pub returns-in_default : goal.returns-in_default
returns-in_default c = none_held (c.args.first ∷ c.args.others.now) (omega (arith, c.in_default.ensures))

pub returns-in_default-2 : goal.returns-in_default-2
returns-in_default-2 c =
    no_head_held (c.args.first ∷ c.args.others.now) c.args.first c.in-Some.last c.in-Some.inner.now
    (ap (λ (ls : List NumberedLine). c.args.first ∷ ls) c.in-Some.ensures) (rw c.in_default-2.is at c.in_ok-head.ensures)

pub content_held-requires : goal.content_held-requires
content_held-requires c = (all_parted (λ l. length l.text.now ≤ MOST_LINE) c.args.others.now c.in-Some.inner.now c.in-Some.last c.in-Some.ensures c.requires.others).0

pub is_end-requires : goal.is_end-requires
is_end-requires c = (all_parted (λ l. length l.text.now ≤ MOST_LINE) c.args.others.now c.in-Some.inner.now c.in-Some.last c.in-Some.ensures c.requires.others).1

pub returns : goal.returns
returns c =
    block_held (c.args.first ∷ c.args.others.now) c.args.first c.in-Some.last c.in-Some.inner.now c.in-Some-2.head c.in_ok-ends.ends
    c.in_ok-content.content.value c.block_item.result (ap (λ (ls : List NumberedLine). c.args.first ∷ ls) c.in-Some.ensures)
    (rw c.in-Some-2.is at c.in_ok-head.ensures) c.in_ok-ends.ensures c.in_ok-content.ensures c.block_item.ensures
