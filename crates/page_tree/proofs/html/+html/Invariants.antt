use Rattle.std.proofs.Common.{◌≡◌, ◌++◌, ◌+◌, ◌*◌, drop}
use Rattle.page_model.specs.Html.{html_in}
use Rattle.page_tree.specs.Rows.{build, look}
use Rattle.page_tree.proofs.html.+html.Given as goal

abbrev pub decreases-write_node : goal.decreases-write_node
decreases-write_node l = 3 * l.levels

abbrev pub decreases-write_nodes : goal.decreases-write_nodes
decreases-write_nodes l = 3 * l.levels + 1

abbrev pub decreases-write_element : goal.decreases-write_element
decreases-write_element l = 3 * l.levels + 2

abbrev pub invariant-write_nodes-loop-id : goal.invariant-write_nodes-loop-id
invariant-write_nodes-loop-id l =
    (l.out.items ++ html_in l.raw (build l.levels (look l.nodes) (drop l.id-index l.ids)) ≡ l.initial.out.items ++ html_in l.raw (build l.levels (look l.nodes) l.ids))
