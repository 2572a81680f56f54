use Rattle.std.proofs.Common.{ap, ◌∙◌, ◌++◌}
use Rattle.page_tree.specs.Rows.{look}
use Rattle.page_tree.proofs.Document.{keys_all}
use Rattle.page_tree.proofs.tree.Tree.put_numbers.Goals as goal

pub returns : goal.returns
returns c = c.in_ok-put_number.ensures ∙ ap (λ zs. c.args.out.now.items ++ zs) (keys_all (look c.self.inside.nodes) c.args.self.now c.self.view_is)
