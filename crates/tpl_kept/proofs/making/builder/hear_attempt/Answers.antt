use Rattle.std.proofs.Common.{◌≡◌, ap, false, refl, subst, sym, true, ◌∙◌}
use Rattle.std.specs.Option.{option_copied}
use Rattle.std.proofs.lemmas.Bool.{not-false, not-true}
use Rattle.tpl_blocks.specs.Blocks.{block}
use Rattle.tpl_hearing.proofs.Shared.{then_heard}
use Rattle.tpl_model.specs.KeptLines.Kept.{kept}
use Rattle.tpl_model.specs.KeptLines.Memos.{Makes, part_memo}
use Rattle.tpl_model.specs.PageUpdates.PageMemos.{blank, either, failed, unread}
use Rattle.tpl_kept.proofs.Listened.Sequences.{parts_made, unread_made, where_read}
use Rattle.tpl_kept.proofs.Made.Memos.{none_grows}
use Rattle.tpl_kept.proofs.making.builder.hear_attempt.Goals as goal

-- the first part is shown
pub returns-then-not-tried-clause-opens : goal.returns-then-not-tried-clause-opens
returns-then-not-tried-clause-opens g c =
    let x = c.in_ok-one.one in
    let y = c.in_ok-two.two in
    let o = c.in_ok-tried.ensures in
    let row = option_copied c.args.row in
    let first = block c.args.first.now in
    let one : Makes (part_memo true first) c.args.links.now row c.args.heard.now c.make_part.new.heard (kept x.value) =
    subst (λ z. Makes (part_memo true first) c.args.links.now row c.args.heard.now c.make_part.new.heard (kept z)) (sym c.in_ok-one.ensures.ok) o.made in
    let shown : failed (kept x.value) ≡ false = ap (λ z. failed (kept z)) c.in_ok-one.ensures.ok ∙ (sym o.failed ∙ not-true c.in_ok-tried.tried.failed c.if-not-tried.true) in
    let none : kept y.value ≡ unread = ap kept c.in_ok-two.ensures.ok ∙ c.unread.ensures in (
      x,
      y,
      (
        refl,
        parts_made false c.args.links.now row first (block c.args.second.now) c.args.heard.now c.make_part.new.heard c.make_part.new.heard (kept x.value) (kept y.value)
            (either (kept x.value) (kept y.value) blank) one (none_grows c.make_part.new.heard)
            (subst (λ z. Makes (where_read z (part_memo false (block c.args.second.now))) c.args.links.now row c.make_part.new.heard c.make_part.new.heard (kept y.value)) (sym shown)
            (unread_made (part_memo false (block c.args.second.now)) c.args.links.now row c.make_part.new.heard (kept y.value) none)) refl,
      ),
    )

-- the second part is shown in its place
pub returns-clause-opens : goal.returns-clause-opens
returns-clause-opens g c =
    let x = c.in_ok-one.one in
    let y = c.in_ok-two-2.two in
    let o = c.in_ok-tried.ensures in
    let p = c.in_ok-other.ensures in
    let row = option_copied c.args.row in
    let first = block c.args.first.now in
    let second = block c.args.second.now in
    let one : Makes (part_memo true first) c.args.links.now row c.args.heard.now c.make_part.new.heard (kept x.value) =
    subst (λ z. Makes (part_memo true first) c.args.links.now row c.args.heard.now c.make_part.new.heard (kept z)) (sym c.in_ok-one.ensures.ok) o.made in
    let two : Makes (part_memo false second) c.args.links.now row c.make_part.new.heard c.make_part-2.new.heard (kept y.value) =
    subst (λ z. Makes (part_memo false second) c.args.links.now row c.make_part.new.heard c.make_part-2.new.heard (kept z)) (sym c.in_ok-two-2.ensures.ok) p.made in
    let ended : failed (kept x.value) ≡ true = ap (λ z. failed (kept z)) c.in_ok-one.ensures.ok ∙ (sym o.failed ∙ not-false c.in_ok-tried.tried.failed c.if-not-tried.false) in (
      x,
      y,
      (
        refl,
        parts_made false c.args.links.now row first second c.args.heard.now c.make_part.new.heard c.make_part-2.new.heard (kept x.value) (kept y.value)
            (either (kept x.value) (kept y.value) blank) one p.after.grows
            (subst (λ z. Makes (where_read z (part_memo false second)) c.args.links.now row c.make_part.new.heard c.make_part-2.new.heard (kept y.value)) (sym ended)
            (record { is = λ source agrees here e. two.is source agrees here e; order = two.order })) refl,
      ),
    )

pub returns-clause-after : goal.returns-clause-after
returns-clause-after g c = then_heard _ _ _ _ _ _ _ _ _ c.in_ok-tried.ensures.after c.in_ok-other.ensures.after
