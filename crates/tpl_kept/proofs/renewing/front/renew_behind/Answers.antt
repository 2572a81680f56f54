use Rattle.std.specs.Option.{option_copied}
use Rattle.tpl_blocks.specs.Blocks.{block}
use Rattle.tpl_model.specs.KeptLines.Changes.{changed}
use Rattle.tpl_model.specs.KeptLines.Kept.{kept}
use Rattle.tpl_kept.proofs.Renewals.Leading.{made_all, same_texts, texts_left, told_all, was_behind}
use Rattle.tpl_kept.proofs.renewing.front.renew_behind.Goals as goal

pub swap_behind-near-requires : goal.swap_behind-near-requires
swap_behind-near-requires g c = same_texts c.args.count c.args.before.now c.args.hearing.now.heard (kept c.args.memo.now) c.requires.same

pub renew_here-requires-clause-was : goal.renew_here-requires-clause-was
renew_here-requires-clause-was g c =
    was_behind c.args.count (block c.args.lines.now) (block c.lines_behind-rest.result.now) c.args.links.now (option_copied c.args.row) c.args.before.now
    c.args.hearing.now.heard (kept c.args.memo.now) c.lines_behind-rest.ensures c.requires.same c.requires.was (kept c.swap_behind-near.new.other)
    c.swap_behind-near.ensures.other

pub swap_behind-requires : goal.swap_behind-requires
swap_behind-requires g c =
    texts_left c.args.count (kept c.args.memo.now) (kept c.swap_behind-near.new.memo) _ c.swap_behind-near.ensures.memo
    (same_texts c.args.count c.args.before.now c.args.hearing.now.heard (kept c.args.memo.now) c.requires.same)

pub returns-clause-made : goal.returns-clause-made
returns-clause-made g c =
    made_all c.args.count (block c.args.lines.now) (block c.lines_behind-rest.result.now) c.args.links.now (option_copied c.args.row) c.args.before.now
    c.args.hearing.now.heard (kept c.args.memo.now) c.lines_behind-rest.ensures c.requires.same c.requires.was c.renew_here.new.hearing.heard
    (kept c.swap_behind-near.new.memo) _ (kept c.renew_here.new.memo) (kept c.swap_behind.new.memo) c.swap_behind-near.ensures.memo c.swap_behind.ensures.memo
    c.in_ok-behind.ensures.after.grows c.in_ok-behind.ensures.made

pub returns-clause-told : goal.returns-clause-told
returns-clause-told g c =
    told_all c.args.count (block c.args.lines.now) (block c.lines_behind-rest.result.now) c.args.links.now (option_copied c.args.row) c.args.before.now
    c.args.hearing.now.heard (kept c.args.memo.now) c.lines_behind-rest.ensures c.requires.same c.requires.was
    (kept c.swap_behind-near.new.memo) _ (kept c.renew_here.new.memo) (kept c.swap_behind.new.memo) (changed c.in_ok-behind.behind) (changed c.in_ok-told.told)
    c.swap_behind-near.ensures.memo c.swap_behind.ensures.memo c.in_ok-told.ensures c.in_ok-behind.ensures.told
