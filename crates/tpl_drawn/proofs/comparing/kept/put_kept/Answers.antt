use Rattle.std.proofs.Common.{map, sym, ap, ◌∙◌}
use Rattle.std.proofs.lemmas.List.{map-append}
use Rattle.std.specs.Option.{option_copied}
use Rattle.page_model.specs.Addresses.{address}
use Rattle.page_model.specs.Labels.{Element}
use Rattle.tpl_blocks.specs.Blocks.{block, waiting}
use Rattle.tpl_model.specs.KeptLines.Kept.{kept}
use Rattle.tpl_drawn.specs.Addresses.{address_at}
use Rattle.tpl_drawn.specs.Shown.{attributes_of, inside_of}
use Rattle.tpl_model.specs.ShownNodes.Shapes.{child_of}
use Rattle.tpl_model.specs.PageUpdates.PageMemos.{nodes, values}
use Rattle.tpl_drawn.proofs.Compares.Siblings.{listed_all, put_kept_node, unlisted}
use Rattle.tpl_drawn.proofs.comparing.kept.put_kept.Goals as goal

pub returns-clause-number : goal.returns-clause-number
returns-clause-number c = λ known k.
    sym (sym (k (address_at c.args.line (option_copied c.args.key))) ∙ (sym c.in_ok-number.ensures ∙ c.in-Some.is))

pub returns-clause-child : goal.returns-clause-child
returns-clause-child c = λ known k.
    listed_all c.args.listed (map child_of c.args.children.now.items) (map child_of c.push.new.self.items) _ c.if-not-listed.false
    (put_kept_node known (address c.args.line (option_copied c.args.key)) c.in-Some.number
    (Element c.args.name.now (values (waiting c.args.attributes.now) (attributes_of (kept c.args.memo.now))))
    (nodes (option_copied c.args.key) (block c.args.inner.now) (inside_of (kept c.args.memo.now))) (map child_of c.args.children.now.items)
    (map child_of c.push.new.self.items) (sym (k (address_at c.args.line (option_copied c.args.key))) ∙ (sym c.in_ok-number.ensures ∙ c.in-Some.is))
    (ap (map child_of) c.in_ok-push.ensures.items ∙ map-append child_of c.args.children.now.items _))

pub returns-in_default-clause-number : goal.returns-in_default-clause-number
returns-in_default-clause-number c = λ known k.
    sym (sym (k (address_at c.args.line (option_copied c.args.key))) ∙ (sym c.in_ok-number.ensures ∙ c.in_default.is))

pub returns-in_default-clause-child : goal.returns-in_default-clause-child
returns-in_default-clause-child c = λ known k.
    listed_all c.args.listed (map child_of c.args.children.now.items) (map child_of c.put_coming.new.children.items) _ c.if-not-listed.false
    (c.in_ok-put_coming.ensures known (sym (k (address_at c.args.line (option_copied c.args.key))) ∙ (sym c.in_ok-number.ensures ∙ c.in_default.is)))

pub returns-then-not-listed-clause-number : goal.returns-then-not-listed-clause-number
returns-then-not-listed-clause-number c = λ known k. c.in_ok-number.ensures ∙ k (address_at c.args.line (option_copied c.args.key))

pub returns-then-not-listed-clause-child : goal.returns-then-not-listed-clause-child
returns-then-not-listed-clause-child c = λ known k. unlisted c.args.listed (map child_of c.args.children.now.items) _ c.if-not-listed.true
