use Rattle.std.proofs.Common.{None, ap, map, refl, subst, sym, arith, ◌∙◌}
use Rattle.std.specs.Box.{box_value}
use Rattle.page_ops.specs.Ops.{op_of}
use Rattle.tpl_blocks.specs.Blocks.{block, lines_of}
use Rattle.tpl_drawn.specs.Addresses.{number_at}
use Rattle.tpl_drawn.specs.Lines.{line_at}
use Rattle.tpl_model.specs.KeptLines.Memos.{Makes, lines_memo}
use Rattle.tpl_model.specs.KeptLines.Kept.{kept}
use Rattle.tpl_live.specs.Pages.{Standing}
use Rattle.tpl_live.proofs.Mounts.{AreMade, are_made, can_insert, is_updated, made_sound, stands}
use Rattle.tpl_live.proofs.Sourced.{settled_right}
use Rattle.tpl_live.proofs.page.Page.mount.Goals as goal

pub make-requires-clause-can : goal.make-requires-clause-can
make-requires-clause-can g c =
    let worn = c.requires.worn in
    let room = c.requires.room in
    record { idle = c.requires.idle; there = c.requires.there; worn = omega (arith, worn); room = omega (arith, room) }

pub first_nodes-requires : goal.first_nodes-requires
first_nodes-requires g c =
    let lines = lines_of c.args.template.now in
    let own = block (box_value c.in_ok-lines.lines) in
    let is = ap block c.in_ok-lines.ensures.ok ∙ c.in_ok-own.ensures in
    let memo = kept (box_value c.in_ok-memo.memo) in
    let made : AreMade lines c.args.links.items c.make.new.heard memo =
    are_made lines own c.args.links.items c.new-heard.result c.make.new.heard memo c.requires.template is c.new-heard.ensures
    (subst (λ m. Makes (lines_memo own) c.args.links.items None c.new-heard.result c.make.new.heard (kept m)) (sym c.in_ok-memo.ensures.ok)
    (rw (c.deref.ensures, c.deref-2.ensures.value) at c.in_ok-made.ensures.made)) c.good.ensures in
    record {
      inserted = rw (c.deref-3.ensures, c.deref-4.ensures) (can_insert lines own c.args.links.items c.make.new.heard memo is made);
      sound = rw (c.deref-3.ensures, c.deref-4.ensures) (made_sound lines own c.args.links.items c.make.new.heard memo is made);
    }

pub returns : goal.returns
returns g c =
    let lines = lines_of c.args.template.now in
    let own = block (box_value c.in_ok-lines.lines) in
    let is = ap block c.in_ok-lines.ensures.ok ∙ c.in_ok-own.ensures in
    let memo = kept (box_value c.in_ok-memo.memo) in
    let made : AreMade lines c.args.links.items c.make.new.heard memo =
    are_made lines own c.args.links.items c.new-heard.result c.make.new.heard memo c.requires.template is c.new-heard.ensures
    (subst (λ m. Makes (lines_memo own) c.args.links.items None c.new-heard.result c.make.new.heard (kept m)) (sym c.in_ok-memo.ensures.ok)
    (rw (c.deref.ensures, c.deref-2.ensures.value) at c.in_ok-made.ensures.made)) c.good.ensures in
    let first = c.in_ok-first.first in
    let f = rw (c.deref-3.ensures, c.deref-4.ensures) at c.in_ok-first.ensures in
    let s : Standing = record {
      lines = own;
      links = c.args.links.items;
      heard = c.make.new.heard;
      memo = memo;
      next = first.nodes.next;
      tree = first.nodes.tree;
      number = number_at first.nodes.numbers;
      line = line_at first.nodes.numbers;
    } in
    let standing = stands lines c.args.links.items s is refl made f.next f.tree f.numbers f.lines in
    record {
      stands = standing;
      page = λ hosts all stay. (is_updated _ _ _ _ lines c.args.links.items c.new-heard.result s (map op_of first.ops.items) hosts c.new-heard.ensures
          c.in_ok-made.ensures.after all stay is made f.next f.tree f.ops).page;
      ops = λ hosts all stay. (is_updated _ _ _ _ lines c.args.links.items c.new-heard.result s (map op_of first.ops.items) hosts c.new-heard.ensures
          c.in_ok-made.ensures.after all stay is made f.next f.tree f.ops).ops;
      settles = settled_right _ _ _ _ lines c.args.links.items c.new-heard.result c.make.new.heard memo c.new-heard.ensures c.in_ok-made.ensures.after
          made.memo made.order;
      counted = c.in_ok-made.ensures.counted;
    }
