use Rattle.std.proofs.Common.{ap, ◌∙◌}
use Rattle.page_model.specs.Edits.{put_at}
use Rattle.page_tree.specs.Rows.{look, edited, numbered_row, with_children}
use Rattle.page_tree.specs.Subs.{after_rows, insertion, rows_of, sub_tree}
use Rattle.page_tree.proofs.Edits.{done_for, leads_for}
use Rattle.page_tree.proofs.Subtrees.{brought_rows}
use Rattle.page_tree.proofs.Queries.{insert_room, kept_same, sub_leads}
use Rattle.page_tree.proofs.tree.Tree.insert.Goals as goal

pub insert_rows-requires : goal.insert_rows-requires
insert_rows-requires c = λ r h. insert_room c.args.parent c.args.place c.number-number.result (sub_tree c.args.sub.now) (look c.self.inside.nodes) c.args.self.now c.number-number.ensures.alone c.self.view_is c.self.invariant c.requires.fits r h

pub invariant_of-self : goal.invariant_of-self
invariant_of-self c = kept_same (look c.self.inside.nodes) (look c.insert_rows.new.nodes) c.in_err-insert_rows.ensures c.self.invariant

pub invariant_of-self-2 : goal.invariant_of-self-2
invariant_of-self-2 c = (sub_leads c.args.parent c.args.place c.number-number.result (sub_tree c.args.sub.now) (look c.self.inside.nodes) (look c.insert_rows.new.nodes) c.number-number.ensures.alone c.self.invariant c.requires.nodes (done_for (insertion c.args.parent c.args.place (sub_tree c.args.sub.now)) (look c.self.inside.nodes) c.args.self.now c.self.view_is c.requires.fits) (λ q. c.in_ok-insert_rows.ensures q ∙ ap (λ rs. after_rows q rs (edited c.args.parent (with_children (put_at c.args.place c.number-number.result)) q (look c.self.inside.nodes q))) (brought_rows numbered_row c.put_rows.new.rows.items c.new-rows.result.items (rows_of c.args.parent (sub_tree c.args.sub.now)) c.in_ok-put_rows.ensures c.new-rows.ensures.items))).kept

pub returns : goal.returns
returns c = leads_for (insertion c.args.parent c.args.place (sub_tree c.args.sub.now)) (look c.self.inside.nodes) (look c.insert_rows.new.nodes) c.args.self.now c.self.view_is (sub_leads c.args.parent c.args.place c.number-number.result (sub_tree c.args.sub.now) (look c.self.inside.nodes) (look c.insert_rows.new.nodes) c.number-number.ensures.alone c.self.invariant c.requires.nodes (done_for (insertion c.args.parent c.args.place (sub_tree c.args.sub.now)) (look c.self.inside.nodes) c.args.self.now c.self.view_is c.requires.fits) (λ q. c.in_ok-insert_rows.ensures q ∙ ap (λ rs. after_rows q rs (edited c.args.parent (with_children (put_at c.args.place c.number-number.result)) q (look c.self.inside.nodes q))) (brought_rows numbered_row c.put_rows.new.rows.items c.new-rows.result.items (rows_of c.args.parent (sub_tree c.args.sub.now)) c.in_ok-put_rows.ensures c.new-rows.ensures.items)))
