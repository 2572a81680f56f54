use Rattle.std.proofs.Common.{sym, arith}
use Rattle.std.proofs.lemmas.Bool.{eqb-false, eqb-true}
use Rattle.page_ops.specs.Ops.{op_of}
use Rattle.live_pages.specs.Views.{page_of}
use Rattle.live_pages.proofs.News.{no_news, some_news}
use Rattle.live_pages.proofs.report.tell_news.Goals as goal

pub returns-then-is_empty : goal.returns-then-is_empty
returns-then-is_empty c =
    let none = eqb-true _ 0 (sym c.if-is_empty.ensures) in
    no_news op_of (page_of c.args.page.now) c.args.ops.items c.args.told.now.items (omega (arith, none))

pub returns : goal.returns
returns c =
    let some = eqb-false _ 0 (sym c.if-is_empty.ensures) in
    some_news op_of (page_of c.args.page.now) c.args.ops.items c.args.told.now.items c.tell_ops.new.told.items c.tell_page.new.told.items
    (omega (arith, some)) c.in_ok-tell_ops.ensures c.in_ok-tell_page.ensures
