use Rattle.std.proofs.Common.{◌≡◌, Bool, None, Some, if◌then◌else◌, sym, ap, subst, ◌∙◌}
use Rattle.std.specs.Prelude.{List, Option, ℕ}
use Rattle.std.specs.List.{AllByRecursion}
use Rattle.tpl_hearing.specs.Heard.{heard_of}
use Rattle.tpl_hearing.specs.Unseen.{NoneDiffers}
use Rattle.tpl_hearing.proofs.Noted.{none_noted}
use Rattle.tpl_hearing.proofs.unseen.Unseen.spares.Goals as goal

pub returns-then-self : goal.returns-then-self
returns-then-self c = λ is.
    let cells = c.self.inside.cells.items in
    let known : Some cells ≡ c.args.self.now = ap (λ (b : Bool). if b then Some cells else None) (sym c.if-self.true) ∙ c.self.view_is in
    let none = subst (AllByRecursion (λ n. heard_of c.args.heard.now n ≡ None)) c.deref.ensures.value (c.are_unheard.ensures is) in
    subst (λ (u : Option (List ℕ)). NoneDiffers u c.args.heard.now) known (none_noted c.args.heard.now cells c.count-count.ensures.once none)
