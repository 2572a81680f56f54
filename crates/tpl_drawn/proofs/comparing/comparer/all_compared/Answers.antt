use Rattle.std.proofs.Common.{◌≡◌, ◌++◌, [], ◌∷◌, None, Some, not, map, sym, ap, ◌∙◌}
use Rattle.std.proofs.lemmas.List.{map-append}
use Rattle.page_model.specs.Labels.{Root}
use Rattle.tpl_blocks.specs.Blocks.{block}
use Rattle.tpl_model.specs.KeptLines.Changes.{changed}
use Rattle.tpl_model.specs.KeptLines.Kept.{kept}
use Rattle.tpl_model.specs.ShownNodes.Shapes.{child_of, mark_of}
use Rattle.tpl_drawn.specs.Comparison.{marked_unless}
use Rattle.tpl_drawn.specs.Walks.{as_listed, of_lines, where_listed}
use Rattle.tpl_drawn.proofs.comparing.comparer.all_compared.Goals as goal

pub returns-clause-touched : goal.returns-clause-touched
returns-clause-touched c = λ known k.
    let w = of_lines known None (block c.args.lines.now) (kept c.args.memo.now) (changed c.args.change.now) in
    let v = of_lines known None (block c.past_same.result.0.now) (kept c.past_same.result.1.now) (changed c.past_same.result.2.now) in
    let same : as_listed (not c.keeps_nodes-keeps.result) v ≡ as_listed (not c.keeps_nodes-keeps.result) w = sym (c.past_same.ensures known None) in
    let out = c.compare_lines.new.out in
    let e = c.in_ok-compare_lines.ensures known k in
    let children : map child_of c.compare_lines.new.children.items ≡ w.children =
    ap (λ z. z.children) e ∙ (ap (λ z. map child_of z ++ where_listed (not c.keeps_nodes-keeps.result) v.children) c.in_ok-children.ensures
    ∙ (ap (λ z. z.children) same ∙ ap (λ b. where_listed (not b) w.children) c.if-keeps.false)) in
    let touched : map mark_of out.touched.items ≡ w.touched = ap (λ z. z.touched) e ∙ (ap (λ z. map mark_of z ++ v.touched) c.new.ensures.items ∙ ap (λ z. z.touched) same) in
    ap (map mark_of) c.in_ok-push.ensures.items
    ∙ (map-append mark_of out.touched.items _ ∙ (λ i. touched i ++ record { number = 0; look = Root; children = children i } ∷ []))
    ∙ ap (λ b. marked_unless b (Some 0) Root w.children w.touched) (sym (sym c.keeps_nodes-keeps.ensures ∙ c.if-keeps.false))

pub returns-then-keeps-clause-touched : goal.returns-then-keeps-clause-touched
returns-then-keeps-clause-touched c = λ known k.
    let w = of_lines known None (block c.args.lines.now) (kept c.args.memo.now) (changed c.args.change.now) in
    let v = of_lines known None (block c.past_same.result.0.now) (kept c.past_same.result.1.now) (changed c.past_same.result.2.now) in
    let same : as_listed (not c.keeps_nodes-keeps.result) v ≡ as_listed (not c.keeps_nodes-keeps.result) w = sym (c.past_same.ensures known None) in
    ap (λ z. z.touched) (c.in_ok-compare_lines.ensures known k)
    ∙ (ap (λ z. map mark_of z ++ v.touched) c.new.ensures.items
    ∙ (ap (λ z. z.touched) same ∙ ap (λ b. marked_unless b (Some 0) Root w.children w.touched) (sym (sym c.keeps_nodes-keeps.ensures ∙ c.if-keeps.true))))

pub returns-then-keeps-clause-restated : goal.returns-then-keeps-clause-restated
returns-then-keeps-clause-restated c = λ known k.
    let w = of_lines known None (block c.args.lines.now) (kept c.args.memo.now) (changed c.args.change.now) in
    let v = of_lines known None (block c.past_same.result.0.now) (kept c.past_same.result.1.now) (changed c.past_same.result.2.now) in
    let same : as_listed (not c.keeps_nodes-keeps.result) v ≡ as_listed (not c.keeps_nodes-keeps.result) w = sym (c.past_same.ensures known None) in
    ap (λ z. z.restated) (c.in_ok-compare_lines.ensures known k)
    ∙ (ap (λ z. map mark_of z ++ v.restated) c.new-2.ensures.items ∙ ap (λ z. z.restated) same)

pub returns-clause-restated : goal.returns-clause-restated
returns-clause-restated c = λ known k.
    let w = of_lines known None (block c.args.lines.now) (kept c.args.memo.now) (changed c.args.change.now) in
    let v = of_lines known None (block c.past_same.result.0.now) (kept c.past_same.result.1.now) (changed c.past_same.result.2.now) in
    let same : as_listed (not c.keeps_nodes-keeps.result) v ≡ as_listed (not c.keeps_nodes-keeps.result) w = sym (c.past_same.ensures known None) in
    ap (λ z. z.restated) (c.in_ok-compare_lines.ensures known k)
    ∙ (ap (λ z. map mark_of z ++ v.restated) c.new-2.ensures.items ∙ ap (λ z. z.restated) same)
