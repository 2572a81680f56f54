use Rattle.std.proofs.Common.{◌≡◌, ◌∙◌, length, refl}
use Rattle.sig_base.specs.declared.rows.Row.{Row}
use Rattle.sig_rows.specs.Edits.{with_row}
use Rattle.sig_rows.proofs.Kept.{inserted}
use Rattle.sig_rows.proofs.Unrefused.{free_to_insert}
use Rattle.sig_rows.proofs.made.inserted.Goals as goal

pub with_rows-requires : goal.with_rows-requires
with_rows-requires c =
    let t = c.args.rows.now in
    let free = free_to_insert t c.args.place c.args.key.now (length c.args.values.now) c.requires in
    let row : Row = record { key = c.in_ok-copy.field-0; values = c.in_ok-of.field-0 } in
    let list : c.insert.new.self.items ≡ with_row c.args.place row t.rows = c.in_ok-insert.ensures.items ∙ (rw (c.in_ok-list.ensures, c.rows.ensures.rows) refl) in
    rw list (inserted t.fields t.rows c.args.place row c.rows.ensures.sound
    (rw c.in_ok-copy.ensures free.new_key)
    (rw (c.in_ok-of.ensures, c.in_ok-scalars.ensures) free.one_each)
    free.room)
