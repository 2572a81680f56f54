use Rattle.std.proofs.Common.{◌≡◌, ◌∙◌, true, false, get_or, sym, ap, refl}
use Rattle.sig_base.specs.Scalars.{same_scalar-Decides}
use Rattle.sig_rows.specs.Edits.{with_value}
use Rattle.sig_rows.proofs.Kept.{valued}
use Rattle.sig_rows.proofs.Moves.{held, row_unchanged, same_row, unchanged}
use Rattle.sig_rows.proofs.Puts.{has_place, own, put_there, there}
use Rattle.sig_rows.proofs.made.put_at.Goals as goal

pub returns-then-eq : goal.returns-then-eq
returns-then-eq c = λ key p.
    let t = c.args.rows.now in
    let at = c.args.at in
    let v = c.args.value.now in
    let row = c.row.result.now in
    let d = c.index-as_slice-at.result in
    let f = there key t.rows c.args.place row c.rows-standing.ensures.sound.distinct_keys p c.row.ensures in
    let value : d ≡ v = (same_scalar-Decides d v).0 (sym c.eq.ensures ∙ c.if-eq.true) in
    let there : d ≡ get_or row.values at d = rw c.as_slice.ensures at c.index-as_slice-at.is in
    let stays : with_value at v row ≡ row = ap (λ v. with_value at v row) (sym value ∙ there) ∙ same_row at d row in
    unchanged key at v t.rows row f.only stays

pub with_rows-requires : goal.with_rows-requires
with_rows-requires c =
    let t = c.args.rows.now in
    let sound = c.rows-standing.ensures.sound in
    let row = c.row.result.now in
    let p = own t.rows c.args.place row sound.distinct_keys c.requires.place c.row.ensures in
    let list = c.in_ok-list.ensures row (rw c.rows-standing.ensures.rows c.row.ensures) in
    let now = put_there row.key c.args.at c.args.value.now t.rows c.in_ok-list.list.items c.args.place row sound.distinct_keys p c.row.ensures (rw c.rows-standing.ensures.rows at list) in
    rw now (valued t.fields row.key c.args.at c.args.value.now t.rows sound)

pub returns : goal.returns
returns c = λ key p.
    let t = c.args.rows.now in
    let at = c.args.at in
    let v = c.args.value.now in
    let sound = c.rows-standing.ensures.sound in
    let row = c.row.result.now in
    let d = c.index-as_slice-at.result in
    let f = there key t.rows c.args.place row sound.distinct_keys p c.row.ensures in
    let list = c.in_ok-list.ensures row (rw c.rows-standing.ensures.rows c.row.ensures) in
    let now = put_there key at v t.rows c.in_ok-list.list.items c.args.place row sound.distinct_keys p c.row.ensures (rw c.rows-standing.ensures.rows at list) in
    let within = has_place t.fields t.rows c.args.place row at sound c.requires.place c.row.ensures c.requires.at in
    let there : d ≡ get_or row.values at d = rw c.as_slice.ensures at c.index-as_slice-at.is in
    record {
      is = c.note_changed.ensures ∙ (rw (c.in_ok-now.ensures, now) refl);
      others = λ e. (
          let same : get_or row.values at d ≡ v = held at v d row within (row_unchanged key at v t.rows row f.only e) in
          let equal : true ≡ false = sym ((same_scalar-Decides d v).1 (there ∙ same)) ∙ sym c.eq.ensures ∙ c.if-eq.false in
          cc);
    }
