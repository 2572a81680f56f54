use Rattle.std.proofs.Common.{arith, ◌∙◌, ◌≡◌, ◌<◌, length}
use Rattle.page_model.proofs.Shared.{place_below}
use Rattle.page_model.specs.Pages.{place_in}
use Rattle.page_tree.proofs.Lists.{taken_is, taken_none}
use Rattle.page_tree.proofs.table.take_child.Goals as goal

pub returns-then-place-len-clause-items : goal.returns-then-place-len-clause-items
returns-then-place-len-clause-items c =
    let e : c.place_in-place.result ≡ place_in c.args.id c.args.children.now.items = rw c.deref.ensures.value at c.place_in-place.ensures in
    let h : place_in c.args.id c.args.children.now.items < length c.args.children.now.items = omega (arith, e, c.if-place-len.true, c.len.ensures, c.args.children.now.ok.0) in
    c.remove.ensures.items ∙ (rw e (taken_is c.args.id c.args.children.now.items h))

pub returns-else-place-len-clause-items : goal.returns-else-place-len-clause-items
returns-else-place-len-clause-items c =
    let e : c.place_in-place.result ≡ place_in c.args.id c.args.children.now.items = rw c.deref.ensures.value at c.place_in-place.ensures in
    taken_none c.args.id c.args.children.now.items (omega (arith, e, c.if-place-len.false, c.len.ensures, c.args.children.now.ok.0))

pub returns-else-place-len-clause-room : goal.returns-else-place-len-clause-room
returns-else-place-len-clause-room c = λ h. (
    let e : c.place_in-place.result ≡ place_in c.args.id c.args.children.now.items = rw c.deref.ensures.value at c.place_in-place.ensures in
    let l = place_below c.args.id c.args.children.now.items h in
    absurd (omega (arith, e, l, c.if-place-len.false, c.len.ensures, c.args.children.now.ok.0)))
