use Rattle.std.proofs.Common.{◌∙◌, refl}
use Rattle.sig_rows.proofs.Puts.{cut_rows, taken}
use Rattle.sig_rows.proofs.made.without.Goals as goal

pub with_rows-requires : goal.with_rows-requires
with_rows-requires c =
    let t = c.args.rows.now in
    rw (c.in_ok-list.ensures, c.rows.ensures.rows) (cut_rows t.fields t.rows c.args.place c.rows.ensures.sound c.requires)

pub returns : goal.returns
returns c = λ key p.
    let same = taken key c.args.rows.now.rows c.args.place c.rows.ensures.sound.distinct_keys p in
    c.note_changed.ensures ∙ (rw (c.in_ok-now.ensures, c.in_ok-list.ensures, c.rows.ensures.rows, same) refl)
