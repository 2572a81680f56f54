use Rattle.std.proofs.Common.{◌∷◌, [], false, map, ap, sym, subst, ◌∙◌}
use Rattle.std.specs.Option.{option_copied}
use Rattle.tpl_blocks.specs.Blocks.{block}
use Rattle.tpl_model.specs.KeptLines.Kept.{kept}
use Rattle.tpl_kept.specs.Heads.{AreRows, last_of}
use Rattle.tpl_kept.specs.Rounds.{done_of, was_of}
use Rattle.tpl_kept.proofs.Made.Memos.{alone_from, own_is}
use Rattle.tpl_model.specs.KeptLines.Changes.{changed}
use Rattle.tpl_kept.proofs.Renewals.Changes.{one_told}
use Rattle.tpl_kept.proofs.Renewals.Turns.{alone_was}
use Rattle.tpl_kept.proofs.renewing.update.renew_on.Goals as goal

pub renew_each-requires-clause-rows : goal.renew_each-requires-clause-rows
renew_each-requires-clause-rows g c =
    subst AreRows (sym (ap (λ z. z ∷ []) c.in_ok-own.ensures)) (own_is c.args.row c.requires.place, tt)

pub renew_each-requires-clause-was : goal.renew_each-requires-clause-was
renew_each-requires-clause-was g c =
    alone_was (block c.args.lines.now) c.args.links.now (c.in_ok-own.own ∷ []) (option_copied c.args.row) c.args.before.now (kept c.args.memo)
    (was_of c.in_ok-round.round) (ap (λ z. z ∷ []) c.in_ok-own.ensures) c.in_ok-round.ensures.was c.requires.was

pub returns-clause-made : goal.returns-clause-made
returns-clause-made g c =
    alone_from false (block c.args.lines.now) c.args.links.now (option_copied c.args.row) (c.in_ok-own.own ∷ []) c.args.hearing.now.heard c.renew_each.new.hearing.heard
    (done_of c.in_ok-round.round) (done_of c.renew_each.new.round) (kept c.last.result)
    (ap (λ z. z ∷ []) c.in_ok-own.ensures) c.in_ok-round.ensures.done c.in_ok-renew_each.ensures.made (c.last.ensures ∙ ap last_of c.finish.ensures)

pub returns-clause-told : goal.returns-clause-told
returns-clause-told g c =
    one_told (block c.args.lines.now) c.args.links.now (c.in_ok-own.own ∷ []) (option_copied c.args.row) c.args.before.now (was_of c.in_ok-round.round)
    (done_of c.in_ok-round.round) (done_of c.renew_each.new.round) (map changed c.new-changes.result.items)
    (map changed c.renew_each.new.changes.items) (kept c.last.result) (changed c.last_change.result)
    (ap (λ z. z ∷ []) c.in_ok-own.ensures) c.in_ok-round.ensures.done
    (ap (map changed) c.new-changes.ensures.items) c.in_ok-renew_each.ensures.told (c.last.ensures ∙ ap last_of c.finish.ensures) c.last_change.ensures
