use Rattle.std.proofs.Common.{◌≡◌, ◌∙◌, subst, refl}
use Rattle.sig_rows.specs.Edits.{moved}
use Rattle.sig_rows.specs.Found.{IsRowPlace}
use Rattle.sig_rows.proofs.Moves.{moved_rows}
use Rattle.sig_rows.proofs.Puts.{moved_there, moves, own, stays_there}
use Rattle.sig_rows.proofs.made.moved_from.Goals as goal

pub returns-then-from-to : goal.returns-then-from-to
returns-then-from-to c = λ key p.
    let rows = c.args.rows.now.rows in
    stays_there key rows c.args.to c.rows-standing.ensures.sound.distinct_keys (subst (λ n. IsRowPlace key rows n) c.if-from-to.true p)

pub with_rows-requires : goal.with_rows-requires
with_rows-requires c =
    let t = c.args.rows.now in
    let sound = c.rows-standing.ensures.sound in
    let row = c.row.result.now in
    let there = moved_there row.key t.rows row c.args.from c.args.to sound.distinct_keys (own t.rows c.args.from row sound.distinct_keys c.requires.from c.row.ensures) c.row.ensures in
    let list : c.insert.new.self.items ≡ moved row.key c.args.to t.rows = c.in_ok-insert.ensures.items ∙ (rw (c.in_ok-row.ensures, c.in_ok-list.ensures, c.rows-standing.ensures.rows) there) in
    rw list (moved_rows t.fields row.key c.args.to t.rows sound)

pub returns : goal.returns
returns c = λ key p.
    let t = c.args.rows.now in
    let distinct = c.rows-standing.ensures.sound.distinct_keys in
    let row = c.row.result.now in
    let there = moved_there key t.rows row c.args.from c.args.to distinct p c.row.ensures in
    let list : c.insert.new.self.items ≡ moved key c.args.to t.rows = c.in_ok-insert.ensures.items ∙ (rw (c.in_ok-row.ensures, c.in_ok-list.ensures, c.rows-standing.ensures.rows) there) in
    record {
      is = c.note_changed.ensures ∙ (rw (c.in_ok-now.ensures, list) refl);
      others = moves key t.rows row c.args.from c.args.to distinct p c.row.ensures c.requires.to c.if-from-to.false;
    }
