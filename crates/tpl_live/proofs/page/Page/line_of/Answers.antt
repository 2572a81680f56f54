use Rattle.std.proofs.Common.{◌∙◌}
use Rattle.tpl_live.specs.Contents.{standing}
use Rattle.tpl_live.specs.Pages.{page_in}
use Rattle.tpl_live.proofs.Lined.{line_there}
use Rattle.tpl_live.proofs.page.Page.line_of.Goals as goal

pub returns : goal.returns
returns c = λ lines links st.
    let s = standing c.args.self.now in
    c.line.ensures ∙ line_there (page_in s) s.tree s.line c.args.id st.keeps.page st.keeps.stands st.lined
