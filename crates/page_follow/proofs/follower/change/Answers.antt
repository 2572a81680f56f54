use Rattle.std.proofs.Common.{List, arith, subst}
use Rattle.page_ops.specs.Ops.{op_of}
use Rattle.page_follow.specs.declared.page.MountedPage.{MountedPage}
use Rattle.page_follow.specs.Places.{IsPlace}
use Rattle.page_follow.specs.Views.{pages_of}
use Rattle.page_follow.proofs.Taken.{change_is}
use Rattle.page_follow.proofs.follower.change.Goals as goal

pub index_mut-requires : goal.index_mut-requires
index_mut-requires c =
    let at = subst (λ (ps : List MountedPage). IsPlace c.args.name.now ps c.in-Some.place) c.deref.ensures.value c.in-Some.ensures in
    let few = at.within in omega (arith, few)

pub returns : goal.returns
returns c =
    let at = subst (λ (ps : List MountedPage). IsPlace c.args.name.now ps c.in-Some.place) c.deref.ensures.value c.in-Some.ensures in
    change_is c.change_page.result c.args.name.now (op_of c.args.op.now) (pages_of c.args.pages.now.items) _ c.index_mut.result.now.tree c.change_page.new.page.tree
    (at.found c.index_mut.result.now c.index_mut.ensures.value)
    (at.put c.index_mut.result.now c.change_page.new.page c.index_mut.ensures.value c.change_page.ensures.name)
    c.change_page.ensures.tree
