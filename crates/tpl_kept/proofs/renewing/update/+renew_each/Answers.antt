use Rattle.std.proofs.Common.{◌≡◌, ◌<◌, ◌+◌, ◌^◌, ◌∷◌, ◌++◌, [], drop, false, length, map, ap, sym, subst, ◌∙◌, arith}
use Rattle.std.specs.Box.{box_value}
use Rattle.tpl_blocks.specs.Blocks.{block}
use Rattle.tpl_hearing.proofs.Shared.{nothing_heard, then_heard}
use Rattle.tpl_model.specs.KeptLines.Kept.{kept}
use Rattle.tpl_kept.specs.Heads.{AreRows, lines_size}
use Rattle.tpl_kept.specs.Listed.{listed}
use Rattle.tpl_kept.proofs.Made.Memos.{none_each}
use Rattle.tpl_kept.specs.Rounds.{done_of, was_of}
use Rattle.tpl_kept.specs.Turns.{behind_of, kept_of, places_of, shows_of}
use Rattle.tpl_model.specs.KeptLines.Changes.{changed}
use Rattle.tpl_kept.proofs.Renewals.Changes.{none_told, turn_told}
use Rattle.tpl_kept.proofs.Renewals.Nameless.{front_left, front_made, front_told}
use Rattle.tpl_kept.proofs.Renewals.Silent.{are_silent}
use Rattle.tpl_kept.proofs.Renewals.Tables.{none_behind}
use Rattle.tpl_kept.proofs.Renewals.Turns.{first_at, inside_at, inside_fewer, later_are, later_at, later_few, later_fewer, others_at, places_are, turn_renewed}
use Rattle.tpl_kept.proofs.renewing.update.+renew_each.Goals as goal

pub keep_front-requires : goal.keep_front-requires
keep_front-requires g t c = λ silent.
    are_silent (block c.args.lines.now) c.args.links.now c.args.before.now (drop c.args.at (listed c.args.rows)) (was_of c.args.round.now) (c.reads_nothing-silent.ensures silent)
    c.requires.was

pub returns-then-at-count-clause-made : goal.returns-then-at-count-clause-made
returns-then-at-count-clause-made g t c =
    let b = block c.args.lines.now in
    front_made b c.args.links.now c.args.before.now c.args.hearing.now.heard c.args.hearing.now.heard _ _ _ _ _ _ (done_of c.keep_front.new.round) _ _ c.in_ok-at.ensures
    c.requires.was
    (none_each false b c.args.links.now (drop c.in_ok-at.at (listed c.args.rows)) c.args.hearing.now.heard (done_of c.keep_front.new.round) (none_behind (listed c.args.rows) c.in_ok-at.at (let n = c.count_places-count.ensures in let past = c.if-at-count.true in omega (arith, n, past))))

pub returns-then-at-count-clause-told : goal.returns-then-at-count-clause-told
returns-then-at-count-clause-told g t c =
    let b = block c.args.lines.now in
    let done = done_of c.keep_front.new.round in
    let changes = map changed c.keep_front.new.changes.items in
    front_told b c.args.links.now c.args.before.now _ _ _ _ _ _ done _ _ changes c.in_ok-at.ensures c.requires.was
    (none_told b c.args.links.now (drop c.in_ok-at.at (listed c.args.rows)) c.args.before.now (was_of c.keep_front.new.round) done changes (none_behind (listed c.args.rows) c.in_ok-at.at (let n = c.count_places-count.ensures in let past = c.if-at-count.true in omega (arith, n, past))))

pub returns-then-at-count-clause-after : goal.returns-then-at-count-clause-after
returns-then-at-count-clause-after g t c = nothing_heard _ _ c.args.hearing.now.heard c.requires.can.idle

pub begin-requires-clause-row : goal.begin-requires-clause-row
begin-requires-clause-row g t c =
    let f = front_left (block c.args.lines.now) c.args.links.now c.args.before.now _ _ _ _ _ _ _ _ c.in_ok-at.ensures c.requires.rows c.requires.was in
    (subst AreRows c.in_ok-row.ensures f.are).0

pub begin-requires-clause-was : goal.begin-requires-clause-was
begin-requires-clause-was g t c =
    let b = block c.args.lines.now in
    let f = front_left b c.args.links.now c.args.before.now _ _ _ _ _ _ _ _ c.in_ok-at.ensures c.requires.rows c.requires.was in
    first_at b c.args.links.now (drop c.in_ok-at.at (listed c.args.rows)) c.in_ok-row.row (drop (c.in_ok-at.at + 1) (listed c.args.rows)) c.args.before.now (was_of c.keep_front.new.round)
    (kept (box_value c.in_ok-memo.memo)) c.in_ok-row.ensures f.were (ap kept c.in_ok-memo.ensures.ok ∙ c.take-memo.ensures.first)

pub renew_each-requires : goal.renew_each-requires
renew_each-requires g t c =
    let split = c.in_ok-row.ensures in
    let row = c.in_ok-row.row in
    let turn = c.in_ok-turn.turn in
    let o = c.in_ok-turn.ensures in
    let b = block c.args.lines.now in
    let f = front_left b c.args.links.now c.args.before.now _ _ _ _ _ _ _ _ c.in_ok-at.ensures c.requires.rows c.requires.was in
    let fewer = f.fewer in
    let inner = block c.inner_of-inner.result.now in
    let ins = was_of turn.inside in
    let lat = was_of turn.later in
    let same : (listed c.places_of-places.result) ≡ places_of (box_value turn.first) row = c.places_of-places.ensures ∙ ap (λ z. places_of z c.in_ok-row.row) c.deref-2.ensures in
    let many = c.count_places-many.ensures in
    let few : length (listed c.places_of-places.result) < 2 ^ 64 = omega (arith, many) in
    let rows : AreRows (listed c.places_of-places.result) = subst AreRows (sym same) (places_are (box_value turn.first) row (subst AreRows split f.are).0) in
    let was = inside_at b c.args.links.now row c.args.before.now c.args.hearing.now.heard c.begin.new.hearing.heard (box_value turn.first) ins lat inner c.shows_of.result
    (listed c.places_of-places.result) o.begins (c.shows_of.ensures ∙ ap shows_of c.deref.ensures) c.inner_of-inner.ensures same in
    let smaller : lines_size inner + length (listed c.places_of-places.result) < lines_size b + length (drop c.in_ok-at.at (listed c.args.rows)) =
    inside_fewer b c.args.links.now row c.args.before.now c.args.hearing.now.heard c.begin.new.hearing.heard (box_value turn.first) ins lat (drop c.in_ok-at.at (listed c.args.rows))
    (drop (c.in_ok-at.at + 1) (listed c.args.rows)) inner c.shows_of.result (listed c.places_of-places.result) o.begins split same few (c.shows_of.ensures ∙ ap shows_of c.deref.ensures) c.inner_of-inner.ensures in (
      omega (arith, smaller, fewer),
      (few, (rows, (o.can, (o.counted, (o.compared, was))))),
    )

pub renew_each-requires-2 : goal.renew_each-requires-2
renew_each-requires-2 g t c =
    let split = c.in_ok-row.ensures in
    let row = c.in_ok-row.row in
    let turn = c.in_ok-turn.turn in
    let o = c.in_ok-turn.ensures in
    let i = c.in_ok-renew_each.ensures in
    let b = block c.args.lines.now in
    let f = front_left b c.args.links.now c.args.before.now _ _ _ _ _ _ _ _ c.in_ok-at.ensures c.requires.rows c.requires.was in
    let fewer = f.fewer in
    let rest = block c.rest_of-rest.result.now in
    let behinds = (listed c.behind_of-behinds.result) in
    let ins = was_of turn.inside in
    let lat = was_of turn.later in
    let same : behinds ≡ behind_of (box_value turn.first) row = (c.behind_of-behinds.ensures ∙ ap (λ z. behind_of z c.in_ok-row.row) c.deref-3.ensures) in
    let count : length behinds ≡ length (behind_of (box_value turn.first) row) = ap length same in
    let one = later_few (box_value turn.first) row in
    let few : length behinds < 2 ^ 64 = omega (arith, count, one) in
    let rows : AreRows behinds = subst AreRows (sym same) (later_are (box_value turn.first) row (subst AreRows split f.are).0) in
    let was = later_at b c.args.links.now row c.args.before.now c.args.hearing.now.heard c.begin.new.hearing.heard (box_value turn.first) ins lat rest behinds o.begins
    c.rest_of-rest.ensures same in
    let smaller : lines_size rest + length behinds < lines_size b + length (drop c.in_ok-at.at (listed c.args.rows)) =
    later_fewer b c.args.links.now row c.args.before.now c.args.hearing.now.heard c.begin.new.hearing.heard (box_value turn.first) ins lat (drop c.in_ok-at.at (listed c.args.rows))
    (drop (c.in_ok-at.at + 1) (listed c.args.rows)) rest behinds o.begins split same c.rest_of-rest.ensures in (
      omega (arith, smaller, fewer),
      (few, (rows, (i.can, (i.counted, (i.compared, was))))),
    )

pub renew_each-requires-3 : goal.renew_each-requires-3
renew_each-requires-3 g t c =
    let b = block c.args.lines.now in
    let split = c.in_ok-row.ensures in
    let count : length (drop c.in_ok-at.at (listed c.args.rows)) ≡ length (c.in_ok-row.row ∷ (drop (c.in_ok-at.at + 1) (listed c.args.rows))) = ap length split in
    let most = c.requires.few in
    let f = front_left b c.args.links.now c.args.before.now _ _ _ _ _ _ _ _ c.in_ok-at.ensures c.requires.rows c.requires.was in
    let fewer = f.fewer in
    let r = c.in_ok-renew_each-2.ensures in
    let was = others_at b c.args.links.now (drop c.in_ok-at.at (listed c.args.rows)) c.in_ok-row.row (drop (c.in_ok-at.at + 1) (listed c.args.rows)) c.args.before.now
    (was_of c.keep_front.new.round) (was_of c.put_turn.new.round) split f.were (c.in_ok-put_turn.ensures.later ∙ c.take-memo.ensures.later) in (
      omega (arith, count, fewer),
      (omega (arith, count, fewer, most), ((subst AreRows split f.are).1, (r.can, (r.counted, (r.compared, was))))),
    )

pub returns-clause-made : goal.returns-clause-made
returns-clause-made g t c =
    let b = block c.args.lines.now in
    let o = c.in_ok-turn.ensures in
    let row = c.in_ok-row.row in
    let turn = c.in_ok-turn.turn in
    let i = c.in_ok-renew_each.ensures in
    let r = c.in_ok-renew_each-2.ensures in
    let l = c.in_ok-renew_each-3.ensures in
    front_made b c.args.links.now c.args.before.now c.args.hearing.now.heard c.renew_each-3.new.hearing.heard _ _ _ _ _ _ (done_of c.renew_each-3.new.round) _ _
    c.in_ok-at.ensures c.requires.was
    (turn_renewed b c.args.links.now (drop c.in_ok-at.at (listed c.args.rows)) row (drop (c.in_ok-at.at + 1) (listed c.args.rows)) (box_value turn.first) c.args.before.now c.args.hearing.now.heard
    c.begin.new.hearing.heard c.renew_each.new.hearing.heard c.renew_each-2.new.hearing.heard c.renew_each-3.new.hearing.heard
    (block c.inner_of-inner.result.now) (block c.rest_of-rest.result.now) c.shows_of.result (listed c.places_of-places.result) (listed c.behind_of-behinds.result)
    (was_of turn.inside) (was_of turn.later)
    (done_of turn.inside) (done_of c.renew_each.new.round) (done_of turn.later) (done_of c.renew_each-2.new.round)
    (done_of c.keep_front.new.round) (done_of c.put_turn.new.round) (done_of c.renew_each-3.new.round)
    c.in_ok-row.ensures o.begins (c.shows_of.ensures ∙ ap shows_of c.deref.ensures) c.inner_of-inner.ensures
    (c.places_of-places.ensures ∙ ap (λ z. places_of z c.in_ok-row.row) c.deref-2.ensures) c.rest_of-rest.ensures (c.behind_of-behinds.ensures ∙ ap (λ z. behind_of z c.in_ok-row.row) c.deref-3.ensures)
    o.inside o.later
    o.after.grows i.after.grows r.after.grows i.made r.made (c.in_ok-put_turn.ensures.kept
    ∙ ap (λ z. z ++ kept_of (box_value turn.first) (done_of c.renew_each.new.round) (done_of c.renew_each-2.new.round) ∷ []) c.take-memo.ensures.done) l.made)

pub returns-clause-after : goal.returns-clause-after
returns-clause-after g t c =
    then_heard _ _ _ _ _ _ _ _ _ c.in_ok-turn.ensures.after
    (then_heard _ _ _ _ _ _ _ _ _ c.in_ok-renew_each.ensures.after
    (then_heard _ _ _ _ _ _ _ _ _ c.in_ok-renew_each-2.ensures.after c.in_ok-renew_each-3.ensures.after))

pub returns-clause-told : goal.returns-clause-told
returns-clause-told g t c =
    let b = block c.args.lines.now in
    let o = c.in_ok-turn.ensures in
    let turn = c.in_ok-turn.turn in
    let row = c.in_ok-row.row in
    let was = was_of c.keep_front.new.round in
    let done = done_of c.keep_front.new.round in
    let changes = map changed c.keep_front.new.changes.items in
    let all = done_of c.renew_each-3.new.round in
    let became = map changed c.renew_each-3.new.changes.items in
    front_told b c.args.links.now c.args.before.now _ _ _ _ _ _ all _ _ became c.in_ok-at.ensures c.requires.was
    (turn_told b c.args.links.now (drop c.in_ok-at.at (listed c.args.rows)) row (drop (c.in_ok-at.at + 1) (listed c.args.rows)) (box_value turn.first) turn.same c.args.before.now
    c.args.hearing.now.heard c.begin.new.hearing.heard (block c.inner_of-inner.result.now) (block c.rest_of-rest.result.now) c.shows_of.result (listed c.places_of-places.result)
    (listed c.behind_of-behinds.result) (kept (box_value c.in_ok-memo.memo)) was (was_of c.put_turn.new.round)
    (was_of turn.inside) (was_of turn.later)
    (done_of turn.inside) (done_of c.renew_each.new.round) (done_of turn.later) (done_of c.renew_each-2.new.round)
    done (done_of c.put_turn.new.round) all
    (map changed turn.inside_changes.items) (map changed c.renew_each.new.changes.items) (map changed turn.later_changes.items)
    (map changed c.renew_each-2.new.changes.items) changes (map changed c.put_turn.new.changes.items) became
    c.in_ok-row.ensures o.begins o.told (ap kept c.in_ok-memo.ensures.ok ∙ c.take-memo.ensures.first) (c.in_ok-put_turn.ensures.later ∙ c.take-memo.ensures.later) (c.shows_of.ensures ∙ ap shows_of c.deref.ensures) c.inner_of-inner.ensures
    (c.places_of-places.ensures ∙ ap (λ z. places_of z c.in_ok-row.row) c.deref-2.ensures) c.rest_of-rest.ensures (c.behind_of-behinds.ensures ∙ ap (λ z. behind_of z c.in_ok-row.row) c.deref-3.ensures) o.inside o.later
    (ap (map changed) o.inside_changes) (ap (map changed) o.later_changes) c.in_ok-renew_each.ensures.told c.in_ok-renew_each-2.ensures.told
    (c.in_ok-put_turn.ensures.kept
    ∙ ap (λ z. z ++ kept_of (box_value turn.first) (done_of c.renew_each.new.round) (done_of c.renew_each-2.new.round) ∷ []) c.take-memo.ensures.done) c.in_ok-put_turn.ensures.changed c.in_ok-renew_each-3.ensures.told)
