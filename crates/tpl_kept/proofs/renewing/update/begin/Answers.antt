use Rattle.std.proofs.Common.{◌≡◌, ap, true, false, map, refl, sym, subst, ◌∙◌}
use Rattle.std.specs.Box.{box_value}
use Rattle.std.specs.Option.{option_copied}
use Rattle.tpl_blocks.specs.Blocks.{block}
use Rattle.tpl_hearing.proofs.Shared.{still_compared, then_heard}
use Rattle.tpl_model.specs.KeptLines.Kept.{kept}
use Rattle.tpl_model.specs.PageUpdates.PageMemos.{names}
use Rattle.tpl_model.specs.KeptLines.Memos.{Makes, lines_memo}
use Rattle.tpl_kept.specs.Renewals.{AreLooked, is_unread}
use Rattle.tpl_kept.proofs.Listened.Reuse.{stayed}
use Rattle.tpl_kept.specs.Heads.{Opens}
use Rattle.tpl_kept.specs.Changes.{IsTold}
use Rattle.tpl_kept.specs.Rounds.{was_of}
use Rattle.tpl_kept.specs.Turns.{IsSame, ServeInside, WasOpened, outcome_of}
use Rattle.tpl_kept.proofs.Renewals.Apart.{was_apart}
use Rattle.tpl_model.specs.KeptLines.Changes.{changed}
use Rattle.tpl_kept.proofs.Renewals.Changes.{heard_told, made_told, stays_told, was_known, was_same, whole_told}
use Rattle.tpl_kept.proofs.Renewals.Turns.{begins_line, begins_whole, opened_again}
use Rattle.tpl_kept.proofs.renewing.update.begin.Goals as goal

pub returns-then-unread-clause-begins : goal.returns-then-unread-clause-begins
returns-then-unread-clause-begins g c =
    begins_whole (block c.args.lines.now) c.args.links.now c.args.row.now (option_copied c.lent_row-here.result) c.args.before.now c.args.hearing.now.heard
    c.make.new.heard (box_value c.in_ok-all.all.first) c.in_ok-memo.memo c.made.result (was_of c.in_ok-all.all.inside) (was_of c.in_ok-all.all.later)
    c.in_ok-all.ensures.first c.lent_row-here.ensures.is c.in_ok-memo.ensures.made

pub returns-then-branch-clause-begins : goal.returns-then-branch-clause-begins
returns-then-branch-clause-begins g c =
    let b = block c.args.lines.now in
    let m = kept (box_value c.args.memo) in
    let u : is_unread m ≡ false = ap (λ z. is_unread (kept z)) (sym c.deref.ensures) ∙ (sym c.unread.ensures ∙ c.if-unread.false) in
    let same = subst (λ z. AreLooked z c.args.before.now (names m) c.args.hearing.now.heard c.stays.new.hearing.heard) c.if-branch.true (rw c.deref-2.ensures at c.in_ok-stays.ensures.looked) in
    begins_whole b c.args.links.now c.args.row.now c.args.row.now c.args.before.now c.args.hearing.now.heard c.stays.new.hearing.heard
    (box_value c.in_ok-all-2.all.first) c.into_inner.result c.stays-then-branch.result (was_of c.in_ok-all-2.all.inside)
    (was_of c.in_ok-all-2.all.later) c.in_ok-all-2.ensures.first refl
    (subst (λ z. Makes (lines_memo b) c.args.links.now c.args.row.now c.args.hearing.now.heard c.stays.new.hearing.heard (kept z)) (sym c.into_inner.ensures)
    (stayed b c.args.links.now c.args.row.now c.args.before.now c.args.hearing.now.heard c.stays.new.hearing.heard m (c.requires.was.made u) same))

pub hear_first_again-requires-clause-was : goal.hear_first_again-requires-clause-was
hear_first_again-requires-clause-was g c =
    let b = block c.args.lines.now in
    let m = kept (box_value c.args.memo) in
    let u : is_unread m ≡ false = ap (λ z. is_unread (kept z)) (sym c.deref.ensures) ∙ (sym c.unread.ensures ∙ c.if-unread.false) in
    let w = was_apart b c.args.links.now c.args.row.now c.args.before.now m (box_value c.in_ok-head.field-0.head) (map kept c.in_ok-head.field-0.inside.items)
    (kept (box_value c.in_ok-head.field-0.later)) (c.requires.was.made u) (c.in_ok-head.ensures u) in
    subst (λ z. WasOpened b c.args.links.now z c.args.before.now (box_value c.in_ok-head.field-0.head)) (sym c.lent_row-here.ensures.is) w.opened

pub returns-clause-begins : goal.returns-clause-begins
returns-clause-begins g c =
    let b = block c.args.lines.now in
    let m = kept (box_value c.args.memo) in
    let u : is_unread m ≡ false = ap (λ z. is_unread (kept z)) (sym c.deref.ensures) ∙ (sym c.unread.ensures ∙ c.if-unread.false) in
    let changed = subst (λ z. AreLooked z c.args.before.now (names m) c.args.hearing.now.heard c.stays.new.hearing.heard) c.if-branch.false (rw c.deref-2.ensures at c.in_ok-stays.ensures.looked) in
    let old = box_value c.in_ok-head.field-0.head in
    let h = box_value c.in_ok-head-2.head in
    let o = subst (Opens false b c.args.links.now c.args.row.now c.stays.new.hearing.heard c.hear_first_again.new.hearing.heard) (sym c.in_ok-head-2.ensures.ok)
    (rw c.lent_row-here.ensures.is at c.in_ok-heard.ensures.opens) in
    let is = map kept c.in_ok-head.field-0.inside.items in
    let r = kept (box_value c.in_ok-head.field-0.later) in
    let turn = c.in_ok-turn.turn in
    let t = c.in_ok-turn.ensures in
    let ins = was_of turn.inside in
    let lat = was_of turn.later in
    let serves = subst (λ z. ServeInside z h is ins) (c.deref-4.ensures ∙ (c.in_ok-was-2.ensures.ok ∙ (c.in_ok-was.ensures ∙ ap outcome_of c.deref-3.ensures))) t.inside_was in
    begins_line b c.args.links.now c.args.row.now c.args.before.now c.args.hearing.now.heard c.hear_first_again.new.hearing.heard (box_value turn.first) h ins lat t.first
    (opened_again b c.args.links.now c.args.row.now c.args.before.now c.args.hearing.now.heard c.stays.new.hearing.heard c.hear_first_again.new.hearing.heard m old h is r
    ins lat (c.requires.was.made u) (c.in_ok-head.ensures u) changed o
    c.in_ok-heard.ensures.after.grows serves t.later_was)

pub returns-clause-after : goal.returns-clause-after
returns-clause-after g c = then_heard _ _ _ _ _ _ _ _ _ c.in_ok-stays.ensures.after c.in_ok-heard.ensures.after

-- ---- what became of them

pub returns-then-unread-clause-told : goal.returns-then-unread-clause-told
returns-then-unread-clause-told g c =
    let b = block c.args.lines.now in
    whole_told b c.args.links.now c.args.row.now c.args.before.now (kept (box_value c.args.memo)) (box_value c.in_ok-all.all.first) c.in_ok-all.all.same c.in_ok-memo.memo
    c.made.result (was_of c.in_ok-all.all.inside) c.in_ok-all.ensures.first
    (made_told b c.args.links.now c.args.row.now c.args.before.now (kept (box_value c.args.memo)) (kept c.in_ok-memo.memo) (changed c.made.result) c.made.ensures)

pub returns-then-branch-clause-told : goal.returns-then-branch-clause-told
returns-then-branch-clause-told g c =
    let b = block c.args.lines.now in
    let m = kept (box_value c.args.memo) in
    let u : is_unread m ≡ false = ap (λ z. is_unread (kept z)) (sym c.deref.ensures) ∙ (sym c.unread.ensures ∙ c.if-unread.false) in
    whole_told b c.args.links.now c.args.row.now c.args.before.now m (box_value c.in_ok-all-2.all.first) c.in_ok-all-2.all.same
    c.into_inner.result c.stays-then-branch.result (was_of c.in_ok-all-2.all.inside) c.in_ok-all-2.ensures.first
    (subst (λ z. IsTold b c.args.links.now c.args.row.now c.args.before.now m (kept z) (changed c.stays-then-branch.result)) (sym c.into_inner.ensures)
    (stays_told b c.args.links.now c.args.row.now c.args.before.now m (changed c.stays-then-branch.result) c.stays-then-branch.ensures u
    (c.requires.was.made u)))

pub returns-clause-told : goal.returns-clause-told
returns-clause-told g c =
    let b = block c.args.lines.now in
    let m = kept (box_value c.args.memo) in
    let u : is_unread m ≡ false = ap (λ z. is_unread (kept z)) (sym c.deref.ensures) ∙ (sym c.unread.ensures ∙ c.if-unread.false) in
    let old = box_value c.in_ok-head.field-0.head in
    let h = box_value c.in_ok-head-2.head in
    let o = subst (Opens false b c.args.links.now c.args.row.now c.stays.new.hearing.heard c.hear_first_again.new.hearing.heard) (sym c.in_ok-head-2.ensures.ok)
    (rw c.lent_row-here.ensures.is at c.in_ok-heard.ensures.opens) in
    let is = map kept c.in_ok-head.field-0.inside.items in
    let turn = c.in_ok-turn.turn in
    let t = c.in_ok-turn.ensures in
    let ins = was_of turn.inside in
    let w = was_apart b c.args.links.now c.args.row.now c.args.before.now m old is (kept (box_value c.in_ok-head.field-0.later)) (c.requires.was.made u)
    (c.in_ok-head.ensures u) in
    let came = c.deref-4.ensures ∙ (c.in_ok-was-2.ensures.ok ∙ (c.in_ok-was.ensures ∙ ap outcome_of c.deref-3.ensures)) in
    let heard = c.in_ok-heard.heard.1 in
    let opened = subst (λ z. heard ≡ true → WasOpened b c.args.links.now c.args.row.now c.args.before.now z) (sym c.in_ok-head-2.ensures.ok)
    (rw c.lent_row-here.ensures.is at c.in_ok-heard.ensures.same) in
    heard_told b c.args.links.now c.args.row.now c.args.before.now m (box_value turn.first) h turn.same ins t.first u
    (was_known b c.args.links.now c.args.row.now c.args.before.now c.stays.new.hearing.heard c.hear_first_again.new.hearing.heard old h is ins w.opened
    o (subst (λ z. ServeInside z h is ins) came t.inside_was))
    (was_same b c.args.links.now c.args.row.now c.args.before.now c.stays.new.hearing.heard c.hear_first_again.new.hearing.heard old h heard turn.same w.opened
    o opened (subst (λ z. IsSame z h heard turn.same) came t.same))

pub returns-then-unread-clause-compared : goal.returns-then-unread-clause-compared
returns-then-unread-clause-compared g c =
    still_compared c.args.before.now c.args.hearing.now.heard c.make.new.heard c.args.hearing.now.compared c.in_ok-memo.ensures.after.grows c.requires.compared
