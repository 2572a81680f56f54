use Rattle.std.proofs.Common.{map, ap, ◌∙◌}
use Rattle.std.proofs.lemmas.List.{map-append}
use Rattle.std.specs.Option.{option_copied}
use Rattle.page_model.specs.Addresses.{address}
use Rattle.tpl_model.specs.KeptLines.Kept.{kept}
use Rattle.tpl_model.specs.ShownNodes.Shapes.{all_shown, child_of}
use Rattle.tpl_drawn.proofs.Compares.Siblings.{listed_all, put_kept_text, put_new_text, unlisted}
use Rattle.tpl_drawn.proofs.comparing.kept.put_text_child.Goals as goal

pub returns : goal.returns
returns c = λ is known h.
    listed_all c.args.listed (map child_of c.args.children.now.items) (map child_of c.push.new.self.items) _ c.if-not-listed.false
    (put_kept_text known (address c.args.line (option_copied c.args.key)) c.in-Some.number (kept c.args.memo.now) (map child_of c.args.children.now.items)
    (map child_of c.push.new.self.items) is (h ∙ c.in-Some.is)
    (ap (map child_of) c.in_ok-push.ensures.items ∙ map-append child_of c.args.children.now.items _))

pub returns-in_default : goal.returns-in_default
returns-in_default c = λ is known h.
    listed_all c.args.listed (map child_of c.args.children.now.items) (map child_of c.put_new.new.children.items) _ c.if-not-listed.false
    (put_new_text known (address c.args.line (option_copied c.args.key)) (kept c.args.memo.now) (map child_of c.args.children.now.items)
    (map child_of c.put_new.new.children.items) (all_shown c.new-shown.result.items) (all_shown c.put_text.new.out.items) is (h ∙ c.in_default.is)
    c.in_ok-put_new.ensures c.in_ok-put_text.ensures (ap all_shown c.new-shown.ensures.items))

pub returns-then-not-listed : goal.returns-then-not-listed
returns-then-not-listed c = λ is known h. unlisted c.args.listed (map child_of c.args.children.now.items) _ c.if-not-listed.true
