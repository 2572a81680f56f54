use Rattle.std.proofs.Common.{◌≡◌, ◌<◌, ◌+◌, ◌^◌, ◌∷◌, length, map, ap, sym, subst, ◌∙◌, arith}
use Rattle.std.specs.Prelude.{◌&&◌, ◌||◌}
use Rattle.tpl_blocks.specs.Blocks.{block}
use Rattle.tpl_hearing.proofs.Shared.{nothing_heard, then_heard}
use Rattle.tpl_model.specs.KeptLines.Kept.{kept}
use Rattle.tpl_model.specs.PageUpdates.PageMemos.{failed}
use Rattle.tpl_kept.specs.Heads.{AreRows, Opens, any_failed, behind, closed, lines_size, met_fault, places_in, unless_ended}
use Rattle.page_model.proofs.Shared.{or_none}
use Rattle.tpl_kept.proofs.Made.Memos.{behind_are, behind_few, behind_smaller, grows_on, inside_are, inside_smaller, none_each, told_more, turn_made, turned, unless_are, unless_few}
use Rattle.tpl_kept.proofs.Made.Tried.{begun, both_made, both_told, first_ready, second_ready}
use Rattle.tpl_kept.proofs.making.builder.+put_each.Goals as goal

pub returns-in_default-clause-made : goal.returns-in_default-clause-made
returns-in_default-clause-made g t c =
    none_each c.args.ends (block c.args.lines.now) c.args.links.now c.args.rows.now c.args.heard.now (map kept c.args.done.now.items) c.in_default.ensures.cases

pub returns-in_default-clause-told : goal.returns-in_default-clause-told
returns-in_default-clause-told g t c = sym (or_none (any_failed (map kept c.args.done.now.items)))

pub returns-in_default-clause-after : goal.returns-in_default-clause-after
returns-in_default-clause-after g t c = nothing_heard _ _ c.args.heard.now c.requires.can.idle

-- ---- what is tried

pub put_each-requires : goal.put_each-requires
put_each-requires g t c =
    let r = first_ready (block c.args.lines.now) (block c.first_part-front.result.now) c.in-Some.row.now c.args.rows.now c.in-Some.others.now
    c.place_tried-at.result.now c.in-Some.ensures.cases.0 c.requires.rows c.first_part-front.ensures c.place_tried-at.ensures in
    let s = r.smaller in
    let f = r.few in
    (omega (arith, s), (omega (arith, f), (r.rows, (c.requires.can, c.requires.counted))))

pub put_each-requires-2 : goal.put_each-requires-2
put_each-requires-2 g t c =
    let r = second_ready (block c.args.lines.now) (block c.second_part-back.result.now) c.in-Some.row.now _ c.args.rows.now c.in-Some.others.now
    c.place_tried-at.result.now c.unless_ended-at.result.now c.in-Some.ensures.cases.0 c.requires.rows c.second_part-back.ensures c.place_tried-at.ensures
    c.unless_ended-at.ensures in
    let s = r.smaller in
    let f = r.few in
    let o = c.in_ok-ended.ensures in
    (omega (arith, s), (omega (arith, f), (r.rows, (o.can, o.counted))))

pub begin-requires-clause-row : goal.begin-requires-clause-row
begin-requires-clause-row g t c = (subst AreRows c.in-Some.ensures.cases.0 c.requires.rows).0

pub begin-requires-clause-told : goal.begin-requires-clause-told
begin-requires-clause-told g t c =
    let b = block c.args.lines.now in
    let p = c.in_ok-ended.ensures in
    let q = c.in_ok-failed.ensures in
    let nil = ap (map kept) c.new-tried.ensures.second in
    both_told c.args.ends b c.args.links.now c.in-Some.row.now c.args.heard.now c.put_each.new.heard c.put_each-2.new.heard c.in_ok-ended.ended
    (map kept c.put_each.new.done.items) (map kept c.new-tried.result.second.items) (map kept c.put_each-2.new.done.items) c.in_ok-failed.failed
    (both_made c.args.ends b (block c.first_part-front.result.now) (block c.second_part-back.result.now) c.args.links.now c.in-Some.row.now c.place_tried-at.result.now
    c.unless_ended-at.result.now c.args.heard.now c.put_each.new.heard c.put_each-2.new.heard c.in_ok-ended.ended (map kept c.new-tried.result.first.items)
    (map kept c.put_each.new.done.items) (map kept c.new-tried.result.second.items) (map kept c.put_each-2.new.done.items) c.first_part-front.ensures c.second_part-back.ensures
    c.place_tried-at.ensures c.unless_ended-at.ensures (ap (map kept) c.new-tried.ensures.first) nil p.made p.told q.made q.after.grows)
    nil q.told

-- ---- the first line, what is inside it and behind it, and the other rows

pub put_each-requires-3 : goal.put_each-requires-3
put_each-requires-3 g t c =
    let first = c.in-Some.ensures.cases.0 in
    let b = block c.args.lines.now in
    let row = c.in-Some.row.now in
    let turn = c.in_ok-turn.turn in
    let o = c.in_ok-turn.ensures in
    let p = c.in_ok-ended.ensures in
    let q = c.in_ok-failed.ensures in
    let opens : Opens c.args.ends b c.args.links.now row c.args.heard.now c.begin.new.heard turn.head =
    begun c.args.ends b (block c.first_part-front.result.now) (block c.second_part-back.result.now) c.args.links.now row c.place_tried-at.result.now
    c.unless_ended-at.result.now c.args.heard.now c.put_each.new.heard c.put_each-2.new.heard c.begin.new.heard c.in_ok-ended.ended
    (map kept c.new-tried.result.first.items) (map kept c.put_each.new.done.items) (map kept c.new-tried.result.second.items) (map kept c.put_each-2.new.done.items) turn.head
    c.first_part-front.ensures c.second_part-back.ensures c.place_tried-at.ensures c.unless_ended-at.ensures (ap (map kept) c.new-tried.ensures.first)
    (ap (map kept) c.new-tried.ensures.second) p.made p.told q.made q.after.grows o.opens in
    let same : c.deref.result.now ≡ places_in c.args.ends turn.head row = c.deref.ensures.value ∙ o.places in
    let few : length c.deref.result.now < 2 ^ 64 = omega arith in
    let rows : AreRows c.deref.result.now = subst AreRows (sym same) (inside_are c.args.ends turn.head row (subst AreRows first c.requires.rows).0) in
    let smaller : lines_size (block c.inner_of-inner.result.now) + length c.deref.result.now < lines_size b + length c.args.rows.now =
    inside_smaller c.args.ends b c.args.links.now row c.args.heard.now c.begin.new.heard turn.head c.args.rows.now c.in-Some.others.now
    (block c.inner_of-inner.result.now) c.shows_first.result c.deref.result.now opens first same few c.shows_first.ensures c.inner_of-inner.ensures in (
      omega (arith, smaller),
      (few, (rows, (o.can, o.counted))),
    )

pub put_each-requires-4 : goal.put_each-requires-4
put_each-requires-4 g t c =
    let first = c.in-Some.ensures.cases.0 in
    let b = block c.args.lines.now in
    let row = c.in-Some.row.now in
    let turn = c.in_ok-turn.turn in
    let o = c.in_ok-turn.ensures in
    let p = c.in_ok-ended.ensures in
    let q = c.in_ok-failed.ensures in
    let opens : Opens c.args.ends b c.args.links.now row c.args.heard.now c.begin.new.heard turn.head =
    begun c.args.ends b (block c.first_part-front.result.now) (block c.second_part-back.result.now) c.args.links.now row c.place_tried-at.result.now
    c.unless_ended-at.result.now c.args.heard.now c.put_each.new.heard c.put_each-2.new.heard c.begin.new.heard c.in_ok-ended.ended
    (map kept c.new-tried.result.first.items) (map kept c.put_each.new.done.items) (map kept c.new-tried.result.second.items) (map kept c.put_each-2.new.done.items) turn.head
    c.first_part-front.ensures c.second_part-back.ensures c.place_tried-at.ensures c.unless_ended-at.ensures (ap (map kept) c.new-tried.ensures.first)
    (ap (map kept) c.new-tried.ensures.second) p.made p.told q.made q.after.grows o.opens in
    let h = turn.head in
    let i = c.in_ok-inside.ensures in
    let over = c.is_over.result in
    let same : c.place_behind-behind.result.now ≡ behind over h row = c.place_behind-behind.ensures in
    let count : length c.place_behind-behind.result.now ≡ length (behind over h row) = ap length same in
    let one = behind_few over h row in
    let few : length c.place_behind-behind.result.now < 2 ^ 64 = omega (arith, count, one) in
    let rows : AreRows c.place_behind-behind.result.now = subst AreRows (sym same) (behind_are over h row (subst AreRows first c.requires.rows).0) in
    let smaller : lines_size (block c.rest_of-rest.result.now) + length c.place_behind-behind.result.now < lines_size b + length c.args.rows.now =
    behind_smaller c.args.ends over b c.args.links.now row c.args.heard.now c.begin.new.heard h c.args.rows.now c.in-Some.others.now
    (block c.rest_of-rest.result.now) c.place_behind-behind.result.now opens first same c.rest_of-rest.ensures in (
      omega (arith, smaller),
      (few, (rows, (i.can, i.counted))),
    )

pub put_each-requires-5 : goal.put_each-requires-5
put_each-requires-5 g t c =
    let first = c.in-Some.ensures.cases.0 in
    let over = c.is_over-2.result in
    let same : c.unless_ended-left.result.now ≡ unless_ended over c.in-Some.others.now = c.unless_ended-left.ensures in
    let count : length c.args.rows.now ≡ length (c.in-Some.row.now ∷ c.in-Some.others.now) = ap length first in
    let fewer = unless_few over c.in-Some.others.now in
    let all : length c.unless_ended-left.result.now ≡ length (unless_ended over c.in-Some.others.now) = ap length same in
    let most = c.requires.few in
    let r = c.in_ok-later.ensures in (
      omega (arith, count, fewer, all),
      (
        omega (arith, count, most, fewer, all),
        (subst AreRows (sym same) (unless_are over c.in-Some.others.now (subst AreRows first c.requires.rows).1), (r.can, r.counted)),
      ),
    )

pub returns-clause-made : goal.returns-clause-made
returns-clause-made g t c =
    let b = block c.args.lines.now in
    let row = c.in-Some.row.now in
    let turn = c.in_ok-turn.turn in
    let o = c.in_ok-turn.ensures in
    let p = c.in_ok-ended.ensures in
    let q = c.in_ok-failed.ensures in
    let opens : Opens c.args.ends b c.args.links.now row c.args.heard.now c.begin.new.heard turn.head =
    begun c.args.ends b (block c.first_part-front.result.now) (block c.second_part-back.result.now) c.args.links.now row c.place_tried-at.result.now
    c.unless_ended-at.result.now c.args.heard.now c.put_each.new.heard c.put_each-2.new.heard c.begin.new.heard c.in_ok-ended.ended
    (map kept c.new-tried.result.first.items) (map kept c.put_each.new.done.items) (map kept c.new-tried.result.second.items) (map kept c.put_each-2.new.done.items) turn.head
    c.first_part-front.ensures c.second_part-back.ensures c.place_tried-at.ensures c.unless_ended-at.ensures (ap (map kept) c.new-tried.ensures.first)
    (ap (map kept) c.new-tried.ensures.second) p.made p.told q.made q.after.grows o.opens in
    let i = c.in_ok-inside.ensures in
    let r = c.in_ok-later.ensures in
    let l = c.in_ok-last.ensures in
    let is = map kept c.put_each-3.new.done.items in
    let rs = map kept c.put_each-4.new.done.items in
    let none = ap (map kept) o.inside in
    let inside : c.in_ok-inside.inside ≡ any_failed is = sym (i.told ∙ ap (λ z. any_failed z || c.in_ok-inside.inside) none) in
    let later : c.in_ok-later.later ≡ any_failed rs = sym (r.told ∙ ap (λ z. any_failed z || c.in_ok-later.later) (ap (map kept) o.later)) in
    let met : c.either_failed-met.result ≡ (met_fault turn.head || any_failed is) = c.either_failed-met.ensures ∙ (λ j. o.failed j || inside j) in
    let t' = turned c.args.ends b c.args.links.now row turn.head c.args.heard.now c.begin.new.heard c.put_each-3.new.heard c.put_each-4.new.heard
    (block c.inner_of-inner.result.now) (block c.rest_of-rest.result.now) c.shows_first.result c.is_over.result c.deref.result.now c.place_behind-behind.result.now
    (map kept turn.inside.items) is (map kept turn.later.items) rs
    opens c.shows_first.ensures c.inner_of-inner.ensures (c.deref.ensures.value ∙ o.places) c.rest_of-rest.ensures
    (c.is_over.ensures ∙ ap (λ z. c.args.ends && z) met) c.place_behind-behind.ensures none (ap (map kept) o.later) i.made r.made in
    let own : failed (closed turn.head is rs) ≡ c.either_failed-own.result = t'.met ∙ sym (c.either_failed-own.ensures ∙ (λ j. met j || later j)) in
    turn_made c.args.ends b c.args.links.now c.args.rows.now row c.in-Some.others.now c.unless_ended-left.result.now turn.head
    c.args.heard.now c.begin.new.heard c.put_each-3.new.heard c.put_each-4.new.heard c.put_each-5.new.heard is rs
    (map kept c.args.done.now.items) (map kept c.put.new.done.items) (map kept c.put_each-5.new.done.items) c.either_failed-own.result t'
    c.in-Some.ensures.cases.0
    (grows_on c.args.heard.now c.put_each-2.new.heard c.begin.new.heard
    (grows_on c.args.heard.now c.put_each.new.heard c.put_each-2.new.heard p.after.grows q.after.grows) o.after.grows)
    i.after.grows r.after.grows c.in_ok-put.ensures own
    (c.unless_ended-left.ensures ∙ ap (λ z. unless_ended z c.in-Some.others.now) c.is_over-2.ensures) l.made

pub returns-clause-told : goal.returns-clause-told
returns-clause-told g t c =
    let b = block c.args.lines.now in
    let row = c.in-Some.row.now in
    let turn = c.in_ok-turn.turn in
    let o = c.in_ok-turn.ensures in
    let p = c.in_ok-ended.ensures in
    let q = c.in_ok-failed.ensures in
    let opens : Opens c.args.ends b c.args.links.now row c.args.heard.now c.begin.new.heard turn.head =
    begun c.args.ends b (block c.first_part-front.result.now) (block c.second_part-back.result.now) c.args.links.now row c.place_tried-at.result.now
    c.unless_ended-at.result.now c.args.heard.now c.put_each.new.heard c.put_each-2.new.heard c.begin.new.heard c.in_ok-ended.ended
    (map kept c.new-tried.result.first.items) (map kept c.put_each.new.done.items) (map kept c.new-tried.result.second.items) (map kept c.put_each-2.new.done.items) turn.head
    c.first_part-front.ensures c.second_part-back.ensures c.place_tried-at.ensures c.unless_ended-at.ensures (ap (map kept) c.new-tried.ensures.first)
    (ap (map kept) c.new-tried.ensures.second) p.made p.told q.made q.after.grows o.opens in
    let i = c.in_ok-inside.ensures in
    let r = c.in_ok-later.ensures in
    let l = c.in_ok-last.ensures in
    let is = map kept c.put_each-3.new.done.items in
    let rs = map kept c.put_each-4.new.done.items in
    let none = ap (map kept) o.inside in
    let inside : c.in_ok-inside.inside ≡ any_failed is = sym (i.told ∙ ap (λ z. any_failed z || c.in_ok-inside.inside) none) in
    let later : c.in_ok-later.later ≡ any_failed rs = sym (r.told ∙ ap (λ z. any_failed z || c.in_ok-later.later) (ap (map kept) o.later)) in
    let met : c.either_failed-met.result ≡ (met_fault turn.head || any_failed is) = c.either_failed-met.ensures ∙ (λ j. o.failed j || inside j) in
    let t' = turned c.args.ends b c.args.links.now row turn.head c.args.heard.now c.begin.new.heard c.put_each-3.new.heard c.put_each-4.new.heard
    (block c.inner_of-inner.result.now) (block c.rest_of-rest.result.now) c.shows_first.result c.is_over.result c.deref.result.now c.place_behind-behind.result.now
    (map kept turn.inside.items) is (map kept turn.later.items) rs
    opens c.shows_first.ensures c.inner_of-inner.ensures (c.deref.ensures.value ∙ o.places) c.rest_of-rest.ensures
    (c.is_over.ensures ∙ ap (λ z. c.args.ends && z) met) c.place_behind-behind.ensures none (ap (map kept) o.later) i.made r.made in
    let own : failed (closed turn.head is rs) ≡ c.either_failed-own.result = t'.met ∙ sym (c.either_failed-own.ensures ∙ (λ j. met j || later j)) in
    told_more (map kept c.args.done.now.items) (map kept c.put.new.done.items) (map kept c.put_each-5.new.done.items) (closed turn.head is rs) c.either_failed-own.result
    c.in_ok-last.last c.either_failed.result c.in_ok-put.ensures own l.told c.either_failed.ensures

pub returns-clause-after : goal.returns-clause-after
returns-clause-after g t c =
    then_heard _ _ _ _ _ _ _ _ _ c.in_ok-ended.ensures.after
    (then_heard _ _ _ _ _ _ _ _ _ c.in_ok-failed.ensures.after
    (then_heard _ _ _ _ _ _ _ _ _ c.in_ok-turn.ensures.after
    (then_heard _ _ _ _ _ _ _ _ _ c.in_ok-inside.ensures.after (then_heard _ _ _ _ _ _ _ _ _ c.in_ok-later.ensures.after c.in_ok-last.ensures.after))))
