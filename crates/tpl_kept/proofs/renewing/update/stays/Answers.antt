use Rattle.std.proofs.Common.{refl}
use Rattle.tpl_model.specs.PageUpdates.PageMemos.{names}
use Rattle.tpl_hearing.proofs.Shared.{nothing_heard}
use Rattle.tpl_model.specs.KeptLines.Kept.{kept}
use Rattle.tpl_kept.specs.Renewals.{unheard}
use Rattle.tpl_kept.proofs.Listened.Splits.{looked}
use Rattle.tpl_kept.proofs.renewing.update.stays.Goals as goal

pub returns-then-not-look-clause-looked : goal.returns-then-not-look-clause-looked
returns-then-not-look-clause-looked g c = unheard refl

pub returns-then-not-look-clause-after : goal.returns-then-not-look-clause-after
returns-then-not-look-clause-after g c = nothing_heard _ _ c.args.hearing.now.heard c.requires.can.idle

pub returns-clause-looked : goal.returns-clause-looked
returns-clause-looked g c = looked c.in_ok-same.same c.args.before.now (names (kept c.args.memo.now)) c.args.hearing.now.heard c.names_stay.new.hearing.heard c.in_ok-same.ensures.again
