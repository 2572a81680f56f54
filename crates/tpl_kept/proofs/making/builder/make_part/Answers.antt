use Rattle.std.proofs.Common.{◌∷◌, [], map, ap, sym, subst, ◌∙◌}
use Rattle.std.specs.Option.{option_copied}
use Rattle.tpl_blocks.specs.Blocks.{block}
use Rattle.tpl_model.specs.KeptLines.Kept.{kept}
use Rattle.tpl_kept.specs.Heads.{AreRows}
use Rattle.tpl_kept.proofs.Made.Memos.{alone_from, alone_told, own_is}
use Rattle.tpl_kept.proofs.making.builder.make_part.Goals as goal

pub put_each-requires-clause-rows : goal.put_each-requires-clause-rows
put_each-requires-clause-rows g c =
    subst AreRows (sym (c.from_ref.ensures.value ∙ ap (λ z. z ∷ []) c.in_ok-own.ensures)) (own_is c.args.row c.requires.place, tt)

pub returns-clause-made : goal.returns-clause-made
returns-clause-made g c =
    alone_from c.args.ends (block c.args.lines.now) c.args.links.now (option_copied c.args.row) c.from_ref.result.now c.args.heard.now c.put_each.new.heard
    (map kept c.new-done.result.items) (map kept c.put_each.new.done.items) (kept c.last.result)
    (c.from_ref.ensures.value ∙ ap (λ z. z ∷ []) c.in_ok-own.ensures) (ap (map kept) c.new-done.ensures.items) c.in_ok-failed.ensures.made c.last.ensures

pub returns-clause-failed : goal.returns-clause-failed
returns-clause-failed g c =
    alone_told c.args.ends (block c.args.lines.now) c.args.links.now (option_copied c.args.row) c.from_ref.result.now c.args.heard.now c.put_each.new.heard
    (map kept c.new-done.result.items) (map kept c.put_each.new.done.items) (kept c.last.result) c.in_ok-failed.failed
    (c.from_ref.ensures.value ∙ ap (λ z. z ∷ []) c.in_ok-own.ensures) (ap (map kept) c.new-done.ensures.items) c.in_ok-failed.ensures.made c.last.ensures c.in_ok-failed.ensures.told
