use Rattle.std.proofs.Common.{sym, ap, ◌∙◌, ◌++◌, false}
use Rattle.page_model.specs.Html.{html_in, html_of}
use Rattle.page_tree.specs.Rows.{build, look, row_in, row_of}
use Rattle.page_tree.proofs.Bytes.{shows_root}
use Rattle.page_tree.proofs.tree.Tree.write_html.Goals as goal

pub returns : goal.returns
returns c =
    let rows = look c.self.inside.nodes in
    let root = shows_root rows (row_of c.in-Some.root.now) (ap row_in (sym c.in-Some.ensures)) in
    c.in_ok-write_nodes.ensures
    ∙ ap (λ zs. c.args.out.now.items ++ zs) (ap (λ ns. html_in false (build 32 rows ns)) c.deref.ensures.value ∙ (sym root ∙ ap html_of c.self.view_is))
