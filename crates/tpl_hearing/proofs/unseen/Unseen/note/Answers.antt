use Rattle.std.proofs.Common.{sym, ap, ◌∙◌}
use Rattle.std.specs.Prelude.{List, Option, ℕ}
use Rattle.tpl_hearing.specs.Unseen.{may_differ}
use Rattle.tpl_hearing.proofs.Noted.{noted}
use Rattle.tpl_hearing.proofs.unseen.Unseen.note.Goals as goal

pub returns : goal.returns
returns c = λ m e.
    let both = noted c.self.inside.known c.self.inside.cells.items c.push.new.self.items c.args.id m c.in_ok-push.ensures.items e in
    (ap (λ (u : Option (List ℕ)). may_differ u m) (sym c.self.view_is) ∙ both.0, both.1)
