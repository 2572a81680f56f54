use Rattle.std.proofs.Common.{◌++◌, [], map, append-nil, if◌then◌else◌, sym, ap, ◌∙◌}
use Rattle.std.specs.Option.{option_copied}
use Rattle.page_model.specs.Addresses.{address}
use Rattle.tpl_drawn.specs.Marks.{marks_in}
use Rattle.tpl_model.specs.KeptLines.Kept.{kept}
use Rattle.tpl_model.specs.ShownNodes.Shapes.{mark_of}
use Rattle.tpl_drawn.specs.Heads.{text_at}
use Rattle.tpl_drawn.proofs.comparing.node_marks.put_text_again.Goals as goal

pub returns-then-same : goal.returns-then-same
returns-then-same c = λ is known k.
    let shape = text_at (address c.args.line (option_copied c.args.key)) (kept c.args.memo.now) in
    λ i. record {
      children = c.in_ok-put_staying_text.ensures is known k i;
      touched = sym (append-nil (map mark_of c.args.out.now.touched.items)) i;
      restated = (sym (append-nil (map mark_of c.args.out.now.restated.items))
          ∙ ap (λ b. map mark_of c.args.out.now.restated.items ++ (if b then [] else marks_in known shape)) (sym c.if-same.true)) i;
    }

pub returns : goal.returns
returns c = λ is known k.
    let shape = text_at (address c.args.line (option_copied c.args.key)) (kept c.args.memo.now) in
    λ i. record {
      children = c.in_ok-put_text_said.ensures.child is known k i;
      touched = sym (append-nil (map mark_of c.args.out.now.touched.items)) i;
      restated = (c.in_ok-put_text_said.ensures.marks known k
          ∙ ap (λ b. map mark_of c.args.out.now.restated.items ++ (if b then [] else marks_in known shape)) (sym c.if-same.false)) i;
    }
