use Rattle.line_forms.specs.Forms.{name}
use Rattle.line_forms.specs.Told.{ahead}
use Rattle.line_forms.proofs.Listed.{first_list}
use Rattle.line_forms.proofs.lists.listed_names_at.Goals as goal

pub returns : goal.returns
returns c =
    let line = c.args.line.now in
    let tokens = c.args.tokens.now in
    rw (first_list name (ahead line tokens c.args.at) (ahead line tokens c.in_ok-at.at) (ahead line tokens c.in_ok-first.after) c.in_ok-first.first
    c.in_ok-at.ensures.exact c.in_default.ensures.exact c.in_ok-first.ensures.exact) c.names_behind.ensures
